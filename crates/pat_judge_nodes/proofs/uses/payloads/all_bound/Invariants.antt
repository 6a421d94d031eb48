use Rattle.std.proofs.Common.{◌≡◌, drop}
use Rattle.std.specs.List.{list_all}
use Rattle.std.specs.Map.{keys_of}
use Rattle.pat_semantics_spec.specs.Programs.{is_among, clause_binders}
use Rattle.pat_core.specs.Views.{clause_view}
use Rattle.pat_types.specs.Views.{needs_view}
use Rattle.pat_judge_nodes.proofs.uses.payloads.all_bound.Given as goal

abbrev pub invariant-loop-name : goal.invariant-loop-name
invariant-loop-name l =
    list_all (λ x. is_among x (clause_binders (clause_view l.clause))) (keys_of (needs_view (drop l.name-index l.env)))
    ≡ list_all (λ x. is_among x (clause_binders (clause_view l.clause))) (keys_of (needs_view l.env))
