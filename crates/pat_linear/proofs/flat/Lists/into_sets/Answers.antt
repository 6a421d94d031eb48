use Rattle.std.proofs.Common.{sym, ap, ◌∷◌, [], ◌∙◌}
use Rattle.pat_linear.proofs.ListsOn.{only_list}
use Rattle.pat_linear.proofs.flat.Lists.into_sets.Goals as goal

pub returns : goal.returns
returns c = only_list c.self.inside.sets c.self.inside.starts c.args.self c.self.view_is c.self.invariant c.requires ∙ ap (λ l. l ∷ []) (sym c.sets.view_is ∙ sym c.shrink_to_fit.ensures.items)
