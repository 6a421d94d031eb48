use Rattle.std.specs.Prelude.{[]}
use Rattle.pat_inclusion_spec.specs.bounds.Symbols.{LowerSymbol, GivenSymbol}
use Rattle.pat_inclusion_spec.specs.bounds.Layouts.{laid_all}
use Rattle.pat_inclusion_laws.proofs.LayoutLaws.{kept, laid_stands, flat_stands, flat_tags, given_tags}
use Rattle.pat_inclusion_laws.proofs.bounds.layout_laws.Goals as goal

pub returns : goal.returns
returns c = record {
  system = λ system left. (flat_stands system left, laid_stands LowerSymbol (laid_all [] system) left, flat_tags system left);
  given = λ e. (laid_stands GivenSymbol [] e, given_tags e);
  kept = kept;
}
