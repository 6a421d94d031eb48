use Rattle.std.proofs.Common.{ap, slice_set, ◌∙◌}
use Rattle.pat_derivations.specs.Views.{var_view, vars_view}
use Rattle.pat_solve.proofs.Putting.{map_set}
use Rattle.pat_solve.proofs.states.put_value.Goals as goal

pub returns-then-place-len : goal.returns-then-place-len
returns-then-place-len c =
    ap vars_view c.replace.ensures.after
    ∙ map_set var_view c.args.values.now c.saturating_sub-place.result (c.args.interface, c.args.value)
    ∙ ap (λ n. slice_set (vars_view c.args.values.now) n (var_view (c.args.interface, c.args.value))) c.saturating_sub-place.ensures
