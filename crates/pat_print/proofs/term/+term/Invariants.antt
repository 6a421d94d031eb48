use Rattle.std.proofs.Common.{◌≡◌, ◌++◌, ◌≤◌, map, drop}
use Rattle.pat_parser_spec.specs.Trees.{listed}
use Rattle.pat_print_spec.specs.Canonical.{term_onto, clauses_onto}
use Rattle.pat_tree.specs.declared.term.Term.{size-Term}
use Rattle.pat_tree.specs.Views.{term_view, clause_view}
use Rattle.pat_print.specs.Parts.{bytes_of}
use Rattle.pat_print.proofs.term.+term.Given as goal

abbrev pub invariant-put_clauses-loop-clause : goal.invariant-put_clauses-loop-clause
invariant-put_clauses-loop-clause l = l.out.items ++ bytes_of (clauses_onto (listed (map clause_view (drop l.clause-index l.clauses)))) ≡ l.initial.out.items ++ bytes_of (clauses_onto (listed (map clause_view l.clauses)))

abbrev pub invariant-put_term-loop-rest : goal.invariant-put_term-loop-rest
invariant-put_term-loop-rest l = (size-Term l.rest ≤ size-Term l.initial.rest) × (l.out.items ++ bytes_of (term_onto (term_view l.rest)) ≡ l.initial.out.items ++ bytes_of (term_onto (term_view l.initial.rest)))
