use Rattle.std.proofs.Common.{◌≡◌, ◌≤◌, length, map, drop}
use Rattle.pat_core.specs.Views.{kind_view}
use Rattle.pat_parser_spec.specs.Trees.{listed}
use Rattle.pat_tree.specs.Views.{clause_view, term_view}
use Rattle.pat_tree.proofs.term.Term.TheLaws.{the_size}
use Rattle.pat_resolver.proofs.Guarding.{Passed}
use Rattle.pat_resolver.proofs.Letting.{Walked}
use Rattle.pat_resolver.proofs.numbering.state.Numbering.+numbering.Given as goal

abbrev pub invariant-number_clauses-loop-clause : goal.invariant-number_clauses-loop-clause
invariant-number_clauses-loop-clause l =
    Passed l.context l.interface (kind_view l.kind) (listed (map clause_view l.clauses)) (listed (map clause_view (drop l.clause-index l.clauses))) l.fn.self l.self l.bodies

abbrev pub invariant-number_term-loop-rest : goal.invariant-number_term-loop-rest
invariant-number_term-loop-rest l = record {
  outer : l.outer ≡ length l.fn.self.scope;
  walked : Walked l.context (kind_view l.kind) (term_view l.term) (term_view l.rest) l.fn.self l.self;
  deep : the_size l.rest ≤ the_size l.term;
}
