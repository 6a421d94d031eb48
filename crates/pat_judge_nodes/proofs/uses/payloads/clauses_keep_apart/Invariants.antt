use Rattle.std.proofs.Common.{◌≡◌, drop, map, option_map}
use Rattle.std.specs.Prelude.{option_copied}
use Rattle.std.specs.List.{list_all}
use Rattle.pat_core.specs.Views.{kind_view, clause_view, program_view}
use Rattle.pat_derivations.specs.Views.{derivation_view}
use Rattle.pat_derivation_spec.specs.Rules.{clause_keeps_apart}
use Rattle.pat_judge_nodes.proofs.uses.payloads.clauses_keep_apart.Given as goal

abbrev pub invariant-loop-clause : goal.invariant-loop-clause
invariant-loop-clause l =
    list_all (clause_keeps_apart (program_view l.program) (derivation_view l.derivation) (option_map kind_view (option_copied l.kind))) (map clause_view (drop l.clause-index l.clauses))
    ≡ list_all (clause_keeps_apart (program_view l.program) (derivation_view l.derivation) (option_map kind_view (option_copied l.kind))) (map clause_view l.clauses)
