use Rattle.std.proofs.Common.{◌++◌, ap, ◌∙◌}
use Rattle.std.specs.Map.{keys_of}
use Rattle.std.proofs.lemmas.Result.{on_ok_weaker}
use Rattle.pat_types.specs.Views.{needs_view}
use Rattle.pat_derivations.specs.environments.Lists.{with_others}
use Rattle.pat_obligations.specs.Views.{demands_view}
use Rattle.pat_obligations.proofs.Joined.{passes_on}
use Rattle.pat_obligations.proofs.passing.pass_to_env.Goals as goal

pub returns : goal.returns
returns c =
    let xs = c.args.names.now in
    let g = needs_view c.args.given.now in
    let h = needs_view c.args.env.now in
    on_ok_weaker c.pass_names-2.result
    (passes_on (demands_view c.args.out.now) (demands_view c.pass_names.new.out) (demands_view c.pass_names-2.new.out) xs c.as_slice.result.now (with_others xs (keys_of h)) g h
    c.in_ok-pass_names.ensures
    (ap (λ ys. xs ++ ys) (c.as_slice.ensures ∙ c.in_ok-others.ensures)))
    c.pass_names-2.ensures
