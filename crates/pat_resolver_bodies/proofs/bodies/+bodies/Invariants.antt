use Rattle.std.proofs.Common.{◌≡◌, ◌+◌, ◌≤◌, ◌++◌, ◌||◌, length, map, drop, option_map, is_some}
use Rattle.pat_semantics_spec.specs.Values.{Kind}
use Rattle.pat_parser_spec.specs.Trees.{listed}
use Rattle.pat_resolver_spec.specs.Findings.{term_findings, binders_in, kind_of_term, clauses_findings, clauses_binders_in, no_earlier, has_body}
use Rattle.pat_resolver_spec.specs.Numbering.{vars_of, clauses_vars_of}
use Rattle.pat_resolver_spec.specs.Places.{var_places, clauses_var_places}
use Rattle.pat_core.specs.Views.{kind_view}
use Rattle.pat_resolver_heads.specs.results.Results.{first_of}
use Rattle.pat_resolver_heads.specs.tables.Views.{scope_view}
use Rattle.pat_tree.specs.Views.{span_view, term_view, clause_view}
use Rattle.pat_tree.specs.declared.term.Term.{size-Term}
use Rattle.pat_resolver_bodies.specs.Above.{IsAbove}
use Rattle.pat_resolver_heads.specs.Views.{heads_view}
use Rattle.pat_resolver_bodies.specs.Needs.{clauses_need, first_known}
use Rattle.pat_resolver_bodies.specs.Seen.{seen_view}
use Rattle.pat_resolver_bodies.proofs.bodies.+bodies.Given as goal

-- what is left of a chain of lets stands for the whole
abbrev pub invariant-check_term-loop-current : goal.invariant-check_term-loop-current
invariant-check_term-loop-current l = record {
  deep : size-Term l.current ≤ size-Term l.term;
  outside : l.outside ≡ length l.initial.scope;
  above : IsAbove l.initial.scope l.scope;
  count : length l.variables.kinds + binders_in (term_view l.current) ≡ length l.initial.variables.kinds + binders_in (term_view l.term);
  own : kind_of_term (heads_view l.heads) (scope_view l.scope) (length l.variables.kinds) (term_view l.current) ≡ kind_of_term (heads_view l.heads) (scope_view l.initial.scope) (length l.initial.variables.kinds) (term_view l.term);
  found : (k : Kind) → first_of (term_findings (heads_view l.heads) (scope_view l.scope) (length l.variables.kinds) k (term_view l.current)) ≡ first_of (term_findings (heads_view l.heads) (scope_view l.initial.scope) (length l.initial.variables.kinds) k (term_view l.term));
  kinds : map kind_view l.variables.kinds ++ vars_of (heads_view l.heads) (scope_view l.scope) (length l.variables.kinds) (term_view l.current) ≡ map kind_view l.initial.variables.kinds ++ vars_of (heads_view l.heads) (scope_view l.initial.scope) (length l.initial.variables.kinds) (term_view l.term);
  spans : map span_view l.variables.spans ++ var_places (term_view l.current) ≡ map span_view l.initial.variables.spans ++ var_places (term_view l.term);
}

-- what is left of the clauses stands for all
abbrev pub invariant-check_clauses-loop-clause : goal.invariant-check_clauses-loop-clause
invariant-check_clauses-loop-clause l = record {
  scope : l.scope ≡ l.initial.scope;
  count : length l.variables.kinds + clauses_binders_in (listed (map clause_view (drop l.clause-index l.clauses))) ≡ length l.initial.variables.kinds + clauses_binders_in (listed (map clause_view l.clauses));
  needs : clauses_need (heads_view l.heads) l.interface (scope_view l.scope) (length l.variables.kinds) (first_known (option_map kind_view l.found) (option_map kind_view l.need)) (listed (map clause_view (drop l.clause-index l.clauses))) ≡ clauses_need (heads_view l.heads) l.interface (scope_view l.initial.scope) (length l.initial.variables.kinds) (option_map kind_view l.need) (listed (map clause_view l.clauses));
  bodies : (is_some (option_map kind_view l.found) || has_body (listed (map clause_view (drop l.clause-index l.clauses)))) ≡ has_body (listed (map clause_view l.clauses));
  found : first_of (clauses_findings (heads_view l.heads) l.interface (scope_view l.scope) (length l.variables.kinds) (clauses_need (heads_view l.heads) l.interface (scope_view l.initial.scope) (length l.initial.variables.kinds) (option_map kind_view l.need) (listed (map clause_view l.clauses))) (seen_view l.seen) (listed (map clause_view (drop l.clause-index l.clauses)))) ≡ first_of (clauses_findings (heads_view l.heads) l.interface (scope_view l.initial.scope) (length l.initial.variables.kinds) (clauses_need (heads_view l.heads) l.interface (scope_view l.initial.scope) (length l.initial.variables.kinds) (option_map kind_view l.need) (listed (map clause_view l.clauses))) no_earlier (listed (map clause_view l.clauses)));
  kinds : map kind_view l.variables.kinds ++ clauses_vars_of (heads_view l.heads) l.interface (scope_view l.scope) (length l.variables.kinds) (listed (map clause_view (drop l.clause-index l.clauses))) ≡ map kind_view l.initial.variables.kinds ++ clauses_vars_of (heads_view l.heads) l.interface (scope_view l.initial.scope) (length l.initial.variables.kinds) (listed (map clause_view l.clauses));
  spans : map span_view l.variables.spans ++ clauses_var_places (listed (map clause_view (drop l.clause-index l.clauses))) ≡ map span_view l.initial.variables.spans ++ clauses_var_places (listed (map clause_view l.clauses));
}
