use Rattle.std.proofs.Common.{◌≡◌, ◌≤◌, length, map, option_map, drop}
use Rattle.pat_type_system_spec.specs.Typings.{mailbox_args}
use Rattle.pat_infer_spec.specs.Needs.{args_needs}
use Rattle.pat_infer_spec.specs.Walk.{has_twice}
use Rattle.pat_core.specs.Views.{expr_view}
use Rattle.pat_types.specs.Views.{type_view, needs_view}
use Rattle.pat_infer_environments.specs.Types.{types_at}
use Rattle.pat_infer_environments.proofs.arguments.args_needs.Given as goal

abbrev pub decreases-loop-place : goal.decreases-loop-place
decreases-loop-place l = l.place

-- what the arguments behind the place need
abbrev pub invariant-loop-place : goal.invariant-loop-place
invariant-loop-place l = record {
  within : l.place ≤ length l.args;
  needs : needs_view l.all.needs ≡ args_needs (types_at (map (option_map type_view) l.types)) l.place (map expr_view (drop l.place l.args));
  twice : l.all.has_twice ≡ has_twice (mailbox_args (types_at (map (option_map type_view) l.types)) l.place (map expr_view (drop l.place l.args)));
}
