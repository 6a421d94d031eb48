use Rattle.pat_inclusion_spec.specs.Counts.{most_tags}
use Rattle.pat_inclusion_spec.specs.ClosedForms.{set_product}
use Rattle.pat_linear.specs.Views.{set_view}
use Rattle.pat_linear.proofs.Multiplied.{each_multiplied}
use Rattle.pat_linear.proofs.flat.Lists.multiply_each.Goals as goal

pub returns : goal.returns
returns c =
    each_multiplied c.multiply_from.result (set_product most_tags (set_view c.args.a.now)) c.self.inside.sets c.multiply_from.new.sets c.self.inside.starts c.in-Some.start.now c.args.self.now c.self.view_is c.self.invariant c.in-Some.ensures.some c.multiply_from.ensures.products
