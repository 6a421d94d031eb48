use Rattle.std.proofs.Common.{◌≡◌, map, drop}
use Rattle.std.specs.List.{list_all}
use Rattle.pat_derivation_spec.specs.Derivations.{line_at}
use Rattle.pat_derivation_spec.specs.Rules.{gives}
use Rattle.pat_core.specs.Views.{clause_view}
use Rattle.pat_types.specs.Views.{result_view}
use Rattle.pat_derivations.specs.Views.{derivation_view}
use Rattle.pat_judge.proofs.shape.shape.clauses_give.Given as goal

abbrev pub invariant-loop-clause : goal.invariant-loop-clause
invariant-loop-clause l =
    list_all (λ r. gives (result_view l.of) (line_at (derivation_view l.derivation) r.body)) (map clause_view (drop l.clause-index l.clauses))
    ≡ list_all (λ r. gives (result_view l.of) (line_at (derivation_view l.derivation) r.body)) (map clause_view l.clauses)
