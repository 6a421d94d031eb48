use Rattle.std.proofs.Common.{◌++◌, ap, ap₂, ◌∙◌}
use Rattle.std.specs.Map.{keys_of}
use Rattle.std.proofs.lemmas.Result.{on_ok_weaker}
use Rattle.pat_types.specs.Views.{needs_view}
use Rattle.pat_derivations.specs.environments.Lists.{others_in, with_others}
use Rattle.pat_obligations.specs.Views.{demands_view}
use Rattle.pat_obligations.proofs.Joined.{passes_on}
use Rattle.pat_obligations.proofs.passing.pass_asked.Goals as goal

pub returns : goal.returns
returns c =
    let g = needs_view c.args.env.now in
    let h = needs_view c.args.asked.now in
    on_ok_weaker c.pass_names-2.result
    (passes_on (demands_view c.args.out.now) (demands_view c.pass_names.new.out) (demands_view c.pass_names-2.new.out) c.as_slice.result.now c.as_slice-3.result.now (with_others (keys_of h) (keys_of g)) g h
    c.in_ok-pass_names.ensures
    (ap₂ (λ xs ys. xs ++ ys) (c.as_slice.ensures ∙ c.in_ok-first.ensures)
    (c.as_slice-3.ensures ∙ c.in_ok-others.ensures ∙ ap (λ xs. others_in xs (keys_of g)) (c.as_slice-2.ensures ∙ c.in_ok-first.ensures))))
    c.pass_names-2.ensures
