use Rattle.std.proofs.Common.{◌≡◌, drop}
use Rattle.std.specs.List.{list_all}
use Rattle.pat_core.specs.Views.{program_view}
use Rattle.pat_types.specs.Views.{needs_view}
use Rattle.pat_derivation_spec.specs.Scopes.{is_in_scope}
use Rattle.pat_judge_nodes.proofs.scopes.looking.are_in_scope.Given as goal

abbrev pub invariant-loop-name : goal.invariant-loop-name
invariant-loop-name l =
    list_all (λ e. is_in_scope (program_view l.program) l.node e.0) (needs_view (drop l.name-index l.env))
    ≡ list_all (λ e. is_in_scope (program_view l.program) l.node e.0) (needs_view l.env)
