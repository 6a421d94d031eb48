use Rattle.std.proofs.Common.{◌≡◌, ◌++◌, drop, map}
use Rattle.pat_patterns.specs.Views.{pattern_view}
use Rattle.pat_core.specs.Views.{clause_view, program_view}
use Rattle.pat_types.specs.Views.{needs_view}
use Rattle.pat_derivations.specs.Views.{derivation_view}
use Rattle.pat_obligations.specs.Views.{demands_view}
use Rattle.pat_obligations.specs.Listed.{listed_clauses}
use Rattle.pat_obligations.proofs.of_terms.terms.clauses.Given as goal

-- what is demanded, and what the clauses that are left demand, is the whole
abbrev pub invariant-loop-receive : goal.invariant-loop-receive
invariant-loop-receive l =
    demands_view l.out ++ listed_clauses (program_view l.program) (derivation_view l.derivation) (needs_view l.env) l.guarded l.interface (pattern_view l.pattern) l.waiting (map clause_view (drop l.receive-index l.receives))
    ≡ demands_view l.initial.out ++ listed_clauses (program_view l.program) (derivation_view l.derivation) (needs_view l.env) l.guarded l.interface (pattern_view l.pattern) l.fn.free_body (map clause_view l.receives)
