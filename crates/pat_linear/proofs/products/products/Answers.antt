use Rattle.pat_inclusion_spec.specs.Counts.{most_tags}
use Rattle.pat_linear.proofs.Lengths.{products_short, products_long}
use Rattle.pat_linear.proofs.products.products.Goals as goal

pub returns-then-saturating_mul-gt-MOST_SETS : goal.returns-then-saturating_mul-gt-MOST_SETS
returns-then-saturating_mul-gt-MOST_SETS c =
    products_long most_tags c.saturating_mul.result c.args.sets.now c.args.others.now c.saturating_mul.ensures c.if-saturating_mul-gt-MOST_SETS.true

pub returns : goal.returns
returns c = (
  c.in_ok-done.ensures,
  products_short most_tags c.saturating_mul.result c.args.sets.now c.args.others.now c.saturating_mul.ensures c.if-saturating_mul-gt-MOST_SETS.false,
)
