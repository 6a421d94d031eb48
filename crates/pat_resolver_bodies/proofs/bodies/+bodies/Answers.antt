use Rattle.std.proofs.Common.{◌≡◌, ◌+◌, suc, ◌∷◌, ◌++◌, [], refl, ap, sym, ◌∙◌, length, length-append, map, drop, option_map, rules, arith}
use Rattle.pat_parser_spec.specs.Trees.{LetTerm, IfTerm, GuardTerm, ReceiveClause, with_clause, listed}
use Rattle.pat_resolver_spec.specs.Findings.{binders_in, kind_of_term}
use Rattle.pat_resolver_spec.specs.Numbering.{vars_of, clauses_vars_of}
use Rattle.pat_resolver_spec.specs.Places.{var_places}
use Rattle.pat_core.specs.declared.program.Kind.TheVariants as code
use Rattle.pat_core.specs.Views.{kind_view}
use Rattle.pat_resolver_heads.specs.tables.Views.{scope_view}
use Rattle.pat_tree.specs.declared.term.Form.TheViews.{the_lemmas}
use Rattle.pat_tree.specs.Views.{span_view, name_view, pattern_view, expr_view, term_at, term_view, clause_view}
use Rattle.pat_resolver_heads.specs.Views.{heads_view}
use Rattle.pat_resolver_heads.proofs.Firsts.{refuses_front, refuses_behind, meets_behind}
use Rattle.pat_resolver_bodies.specs.Needs.{needed, first_known, term_need, clauses_need}
use Rattle.pat_resolver_bodies.specs.Seen.{seen_view}
use Rattle.pat_resolver_bodies.specs.Steps.{clause_kind}
use Rattle.pat_resolver_bodies.proofs.Chains.{chain_binders, chain_kind, chain_whole, chain_found, chain_vars, chain_places}
use Rattle.pat_resolver_bodies.proofs.Forms.{Closes, always, guard_view, not_let, if_meets, receive_refuses, receive_clear, guard_opens, guard_stops, guard_meets, guard_kind, named_kinds}
use Rattle.pat_resolver_bodies.proofs.Order.{passed, stops}
use Rattle.pat_resolver_bodies.proofs.Rest.{rest_binders, rest_whole, rest_clause, rest_found, rest_needs, rest_bodies, rest_vars, rest_places}
use Rattle.pat_resolver_bodies.proofs.Rows.{row_from}
use Rattle.pat_resolver_bodies.proofs.Within.{above_one, above_more}
use Rattle.pat_resolver_bodies.proofs.bodies.+bodies.Goals as goal

pub check_term-check_bound-requires : goal.check_term-check_bound-requires
check_term-check_bound-requires t c =
    let x = option_map name_view c.in-Let.name in
    let m = term_view c.deref.result.now in
    let at = span_view c.loop-current.current.now.span in
    let n = term_view c.in-Let.body.value in
    let whole : term_view c.loop-current.current.now ≡ LetTerm x m n at = rw (c.in-Let.is, c.deref.ensures) refl in
    let b = chain_binders (length c.loop-current.variables.kinds) x m n _ at _ whole c.loop-current.invariant.count in
    (search (rules, the_lemmas), omega (arith, b, c.requires))

pub check_term-loop-current-preserved : goal.check_term-loop-current-preserved
check_term-loop-current-preserved t c =
    let x = option_map name_view c.in-Let.name in
    let m = term_view c.deref.result.now in
    let at = span_view c.loop-current.current.now.span in
    let n = term_view c.deref-current.result.now in
    let whole : term_view c.loop-current.current.now ≡ LetTerm x m n at = rw (c.in-Let.is, c.deref.ensures, c.deref-current.ensures) refl in
    let inv = c.loop-current.invariant in
    let e = c.in_ok-check_bound.ensures in
    record {
      deep = search (rules, the_lemmas);
      outside = inv.outside;
      above = above_more _ _ _ inv.above e.above;
      count = rw e.count (chain_binders _ x m n _ at _ whole inv.count);
      own = chain_kind _ _ _ _ _ x m n _ at _ whole e.scope e.count inv.own;
      found = λ k. chain_found _ _ _ _ _ k x m n _ at _ whole e.scope e.count e.found (inv.found k);
      kinds = chain_vars _ _ _ _ _ x m n _ at _ _ _ whole e.scope e.count e.kinds inv.kinds;
      spans = chain_places x m n _ at _ _ _ whole e.spans inv.spans;
    }

pub check_term-returns-in_err-check_bound-clause-found : goal.check_term-returns-in_err-check_bound-clause-found
check_term-returns-in_err-check_bound-clause-found t c =
    let x = option_map name_view c.in-Let.name in
    let m = term_view c.deref.result.now in
    let at = span_view c.loop-current.current.now.span in
    let n = term_view c.in-Let.body.value in
    let whole : term_view c.loop-current.current.now ≡ LetTerm x m n at = rw (c.in-Let.is, c.deref.ensures) refl in
    let k = term_need (heads_view c.args.heads.now) (scope_view c.args.scope.now) (length c.args.variables.now.kinds) (option_map kind_view c.args.need) (term_view c.args.term.now) in
    stops _ _ _ _ _ c.from_residual.ensures.1 (chain_whole (heads_view c.args.heads.now) (scope_view c.loop-current.scope) (length c.loop-current.variables.kinds) k x m n _ at _ whole (c.loop-current.invariant.found k)) c.in_err-check_bound.ensures.found

pub check_term-check_form-requires : goal.check_term-check_form-requires
check_term-check_form-requires t c = (search (rules, the_lemmas), (not_let _ _ c.in_default.not-Let, omega (arith, c.loop-current.invariant.count, c.requires)))

pub check_clauses-returns-in_err-add-clause-found : goal.check_clauses-returns-in_err-add-clause-found
check_clauses-returns-in_err-add-clause-found t c =
    let i = c.loop-clause.clause-index in
    let item = c.clause-item.result in
    let one = clause_view item in
    let cs = listed (map clause_view (drop (i + 1) c.args.clauses.now)) in
    let rows : listed (map clause_view (drop i c.args.clauses.now)) ≡ with_clause one cs = ap (λ xs. listed (map clause_view xs)) (row_from c.args.clauses.now i item c.loop-clause-test.true c.clause-item.is) in
    let inv = c.loop-clause.invariant in
    stops _ _ _ _ _ c.from_residual.ensures.1 (rest_whole _ _ _ _ _ _ one cs _ _ rows inv.found) c.in_err-add.ensures.found

pub check_clauses-returns-in_err-kind-clause-found : goal.check_clauses-returns-in_err-kind-clause-found
check_clauses-returns-in_err-kind-clause-found t c =
    let i = c.loop-clause.clause-index in
    let item = c.clause-item.result in
    let one = clause_view item in
    let cs = listed (map clause_view (drop (i + 1) c.args.clauses.now)) in
    let rows : listed (map clause_view (drop i c.args.clauses.now)) ≡ with_clause one cs = ap (λ xs. listed (map clause_view xs)) (row_from c.args.clauses.now i item c.loop-clause-test.true c.clause-item.is) in
    let inv = c.loop-clause.invariant in
    let wanted = option_map kind_view c.first_known-wanted.result in
    let known = option_map kind_view c.loop-clause.found in
    let r = listed (map clause_view (drop i c.args.clauses.now)) in
    let needs : clauses_need (heads_view c.args.heads.now) c.args.interface (scope_view c.loop-clause.scope) (length c.loop-clause.variables.kinds) wanted r ≡ (clauses_need (heads_view c.args.heads.now) c.args.interface (scope_view c.args.scope.now) (length c.args.variables.now.kinds) (option_map kind_view c.args.need) (listed (map clause_view c.args.clauses.now))) = ap (λ w. clauses_need (heads_view c.args.heads.now) c.args.interface (scope_view c.loop-clause.scope) (length c.loop-clause.variables.kinds) w r) c.first_known-wanted.ensures ∙ inv.needs in
    stops _ _ _ _ _ c.from_residual-in_err-kind.ensures.1 (rest_clause (heads_view c.args.heads.now) c.args.interface (scope_view c.loop-clause.scope) (length c.loop-clause.variables.kinds) (clauses_need (heads_view c.args.heads.now) c.args.interface (scope_view c.args.scope.now) (length c.args.variables.now.kinds) (option_map kind_view c.args.need) (listed (map clause_view c.args.clauses.now))) wanted (seen_view c.loop-clause.seen) one cs r _ rows needs c.in_ok-add.ensures.found inv.found) c.in_err-kind.ensures.found

pub check_clauses-loop-clause-preserved : goal.check_clauses-loop-clause-preserved
check_clauses-loop-clause-preserved t c =
    let i = c.loop-clause.clause-index in
    let item = c.clause-item.result in
    let one = clause_view item in
    let cs = listed (map clause_view (drop (i + 1) c.args.clauses.now)) in
    let rows : listed (map clause_view (drop i c.args.clauses.now)) ≡ with_clause one cs = ap (λ xs. listed (map clause_view xs)) (row_from c.args.clauses.now i item c.loop-clause-test.true c.clause-item.is) in
    let inv = c.loop-clause.invariant in
    let wanted = option_map kind_view c.first_known-wanted.result in
    let known = option_map kind_view c.loop-clause.found in
    let r = listed (map clause_view (drop i c.args.clauses.now)) in
    let needs : clauses_need (heads_view c.args.heads.now) c.args.interface (scope_view c.loop-clause.scope) (length c.loop-clause.variables.kinds) wanted r ≡ (clauses_need (heads_view c.args.heads.now) c.args.interface (scope_view c.args.scope.now) (length c.args.variables.now.kinds) (option_map kind_view c.args.need) (listed (map clause_view c.args.clauses.now))) = ap (λ w. clauses_need (heads_view c.args.heads.now) c.args.interface (scope_view c.loop-clause.scope) (length c.loop-clause.variables.kinds) w r) c.first_known-wanted.ensures ∙ inv.needs in
    let e = c.in_ok-kind.ensures in
    let got = option_map kind_view c.in_ok-kind.kind in
    let gives : got ≡ option_map (needed (first_known known (option_map kind_view c.args.need))) (clause_kind (heads_view c.args.heads.now) c.args.interface (scope_view c.loop-clause.scope) (length c.loop-clause.variables.kinds) one) = e.kind ∙ ap (λ w. option_map (needed w) (clause_kind (heads_view c.args.heads.now) c.args.interface (scope_view c.loop-clause.scope) (length c.loop-clause.variables.kinds) one)) c.first_known-wanted.ensures in
    record {
      scope = e.scope ∙ inv.scope;
      count = rw e.count (rest_binders _ one cs r _ rows inv.count);
      needs = rw (e.scope, c.first_known-found.ensures) (rest_needs (heads_view c.args.heads.now) c.args.interface (scope_view c.loop-clause.scope) (length c.loop-clause.variables.kinds) _ (clauses_need (heads_view c.args.heads.now) c.args.interface (scope_view c.args.scope.now) (length c.args.variables.now.kinds) (option_map kind_view c.args.need) (listed (map clause_view c.args.clauses.now))) known (option_map kind_view c.args.need) got one cs r rows e.count gives inv.needs);
      bodies = rw c.first_known-found.ensures (rest_bodies (heads_view c.args.heads.now) c.args.interface (scope_view c.loop-clause.scope) (length c.loop-clause.variables.kinds) known got _ one cs r _ rows gives inv.bodies);
      found = rw e.scope (rest_found (heads_view c.args.heads.now) c.args.interface (scope_view c.loop-clause.scope) (length c.loop-clause.variables.kinds) _ (clauses_need (heads_view c.args.heads.now) c.args.interface (scope_view c.args.scope.now) (length c.args.variables.now.kinds) (option_map kind_view c.args.need) (listed (map clause_view c.args.clauses.now))) wanted (seen_view c.loop-clause.seen) _ one cs r _ rows needs c.in_ok-add.ensures.found e.found e.count c.in_ok-add.ensures.after inv.found);
      kinds = rw e.scope (rest_vars (heads_view c.args.heads.now) c.args.interface (scope_view c.loop-clause.scope) (length c.loop-clause.variables.kinds) _ one cs r _ _ _ rows e.count e.kinds inv.kinds);
      spans = rest_places one cs r _ _ _ rows e.spans inv.spans;
    }

pub check_form-check_clauses-requires : goal.check_form-check_clauses-requires
check_form-check_clauses-requires t c =
    let x = name_view c.in-Guard.name in
    let p = pattern_view c.in-Guard.pattern in
    let cs = listed (map clause_view c.deref-in-Guard.result.now) in
    let at = span_view c.args.term.now.span in
    let whole : term_view c.args.term.now ≡ GuardTerm x p cs at = ap (λ f. term_at f at) c.in-Guard.is ∙ guard_view c.in-Guard.name c.in-Guard.pattern c.in-Guard.clauses at ∙ ap (λ r. GuardTerm x p (listed (map clause_view r)) at) (sym c.deref-in-Guard.ensures.value) in
    let b = ap (λ n. length c.args.variables.now.kinds + n) (ap binders_in whole) in
    (search (rules, the_lemmas), omega (arith, b, c.requires.fits))

pub check_form-returns-in_err-interface-in-Guard-clause-found : goal.check_form-returns-in_err-interface-in-Guard-clause-found
check_form-returns-in_err-interface-in-Guard-clause-found t c =
    let x = name_view c.in-Guard.name in
    let p = pattern_view c.in-Guard.pattern in
    let cs = listed (map clause_view c.in-Guard.clauses.items) in
    let at = span_view c.args.term.now.span in
    let whole : term_view c.args.term.now ≡ GuardTerm x p cs at = ap (λ f. term_at f at) c.in-Guard.is ∙ guard_view c.in-Guard.name c.in-Guard.pattern c.in-Guard.clauses at in
    passed _ _ _ c.from_residual-in_err-interface-in-Guard.ensures.1 (guard_opens _ (heads_view c.args.heads.now) (scope_view c.args.scope.now) (length c.args.variables.now.kinds) x p cs at _ (option_map kind_view c.args.need) whole c.in_err-interface-in-Guard.ensures.refused)

pub check_form-returns-in_err-kind-in-Guard-clause-found : goal.check_form-returns-in_err-kind-in-Guard-clause-found
check_form-returns-in_err-kind-in-Guard-clause-found t c =
    let x = name_view c.in-Guard.name in
    let p = pattern_view c.in-Guard.pattern in
    let cs = listed (map clause_view c.deref-in-Guard.result.now) in
    let at = span_view c.args.term.now.span in
    let whole : term_view c.args.term.now ≡ GuardTerm x p cs at = ap (λ f. term_at f at) c.in-Guard.is ∙ guard_view c.in-Guard.name c.in-Guard.pattern c.in-Guard.clauses at ∙ ap (λ r. GuardTerm x p (listed (map clause_view r)) at) (sym c.deref-in-Guard.ensures.value) in
    passed _ _ _ c.from_residual-in_err-kind-in-Guard.ensures.1 (guard_stops _ (heads_view c.args.heads.now) (scope_view c.args.scope.now) (length c.args.variables.now.kinds) x p cs at _ (option_map kind_view c.args.need) _ whole c.in_ok-interface-in-Guard.ensures.interface c.in_ok-interface-in-Guard.ensures.goes_on c.in_err-kind-in-Guard.ensures.found)

pub check_form-returns-in_ok-kind-in-Guard-clause-found : goal.check_form-returns-in_ok-kind-in-Guard-clause-found
check_form-returns-in_ok-kind-in-Guard-clause-found t c =
    let x = name_view c.in-Guard.name in
    let p = pattern_view c.in-Guard.pattern in
    let cs = listed (map clause_view c.deref-in-Guard.result.now) in
    let at = span_view c.args.term.now.span in
    let whole : term_view c.args.term.now ≡ GuardTerm x p cs at = ap (λ f. term_at f at) c.in-Guard.is ∙ guard_view c.in-Guard.name c.in-Guard.pattern c.in-Guard.clauses at ∙ ap (λ r. GuardTerm x p (listed (map clause_view r)) at) (sym c.deref-in-Guard.ensures.value) in
    let closes : Closes (option_map kind_view c.args.need) at c.in_ok-kind-in-Guard.kind c.close_guard.result = record { found = c.close_guard.ensures.found; none = c.close_guard.ensures.none; some = c.close_guard.ensures.some } in
    guard_meets _ c.in_ok-kind-in-Guard.kind (heads_view c.args.heads.now) (scope_view c.args.scope.now) (length c.args.variables.now.kinds) x p cs at _ (option_map kind_view c.args.need) _ whole c.in_ok-interface-in-Guard.ensures.interface c.in_ok-interface-in-Guard.ensures.goes_on c.in_ok-kind-in-Guard.ensures.found c.in_ok-kind-in-Guard.ensures.kind closes

pub check_form-returns-in_ok-kind-in-Guard-clause-kind : goal.check_form-returns-in_ok-kind-in-Guard-clause-kind
check_form-returns-in_ok-kind-in-Guard-clause-kind t c =
    let x = name_view c.in-Guard.name in
    let p = pattern_view c.in-Guard.pattern in
    let cs = listed (map clause_view c.deref-in-Guard.result.now) in
    let at = span_view c.args.term.now.span in
    let whole : term_view c.args.term.now ≡ GuardTerm x p cs at = ap (λ f. term_at f at) c.in-Guard.is ∙ guard_view c.in-Guard.name c.in-Guard.pattern c.in-Guard.clauses at ∙ ap (λ r. GuardTerm x p (listed (map clause_view r)) at) (sym c.deref-in-Guard.ensures.value) in
    let closes : Closes (option_map kind_view c.args.need) at c.in_ok-kind-in-Guard.kind c.close_guard.result = record { found = c.close_guard.ensures.found; none = c.close_guard.ensures.none; some = c.close_guard.ensures.some } in
    guard_kind _ c.in_ok-kind-in-Guard.kind (heads_view c.args.heads.now) (scope_view c.args.scope.now) (length c.args.variables.now.kinds) x p cs at _ (option_map kind_view c.args.need) _ whole c.in_ok-interface-in-Guard.ensures.interface c.in_ok-kind-in-Guard.ensures.kind closes

pub check_form-returns-in_ok-kind-in-Guard-clause-kinds : goal.check_form-returns-in_ok-kind-in-Guard-clause-kinds
check_form-returns-in_ok-kind-in-Guard-clause-kinds t c =
    let x = name_view c.in-Guard.name in
    let p = pattern_view c.in-Guard.pattern in
    let cs = listed (map clause_view c.deref-in-Guard.result.now) in
    let at = span_view c.args.term.now.span in
    let whole : term_view c.args.term.now ≡ GuardTerm x p cs at = ap (λ f. term_at f at) c.in-Guard.is ∙ guard_view c.in-Guard.name c.in-Guard.pattern c.in-Guard.clauses at ∙ ap (λ r. GuardTerm x p (listed (map clause_view r)) at) (sym c.deref-in-Guard.ensures.value) in
    let e = c.in_ok-kind-in-Guard.ensures in
    always _ (e.kinds ∙ ap (λ ws. map kind_view c.args.variables.now.kinds ++ ws) (ap (λ j. clauses_vars_of (heads_view c.args.heads.now) j (scope_view c.args.scope.now) (length c.args.variables.now.kinds) cs) (sym c.in_ok-interface-in-Guard.ensures.interface) ∙ sym (ap (vars_of (heads_view c.args.heads.now) (scope_view c.args.scope.now) (length c.args.variables.now.kinds)) whole)))

pub check_form-returns-in_ok-kind-in-Guard-clause-spans : goal.check_form-returns-in_ok-kind-in-Guard-clause-spans
check_form-returns-in_ok-kind-in-Guard-clause-spans t c =
    let x = name_view c.in-Guard.name in
    let p = pattern_view c.in-Guard.pattern in
    let cs = listed (map clause_view c.deref-in-Guard.result.now) in
    let at = span_view c.args.term.now.span in
    let whole : term_view c.args.term.now ≡ GuardTerm x p cs at = ap (λ f. term_at f at) c.in-Guard.is ∙ guard_view c.in-Guard.name c.in-Guard.pattern c.in-Guard.clauses at ∙ ap (λ r. GuardTerm x p (listed (map clause_view r)) at) (sym c.deref-in-Guard.ensures.value) in
    let e = c.in_ok-kind-in-Guard.ensures in
    always _ (e.spans ∙ ap (λ ps. map span_view c.args.variables.now.spans ++ ps) (sym (ap var_places whole)))

pub check_form-returns-in_ok-kind-in-Guard-clause-count : goal.check_form-returns-in_ok-kind-in-Guard-clause-count
check_form-returns-in_ok-kind-in-Guard-clause-count t c =
    let x = name_view c.in-Guard.name in
    let p = pattern_view c.in-Guard.pattern in
    let cs = listed (map clause_view c.deref-in-Guard.result.now) in
    let at = span_view c.args.term.now.span in
    let whole : term_view c.args.term.now ≡ GuardTerm x p cs at = ap (λ f. term_at f at) c.in-Guard.is ∙ guard_view c.in-Guard.name c.in-Guard.pattern c.in-Guard.clauses at ∙ ap (λ r. GuardTerm x p (listed (map clause_view r)) at) (sym c.deref-in-Guard.ensures.value) in
    let e = c.in_ok-kind-in-Guard.ensures in
    always _ (e.count ∙ ap (λ n. (length c.args.variables.now.kinds) + n) (sym (ap binders_in whole)))

pub check_form-returns-in_ok-kind-in-If-clause-found : goal.check_form-returns-in_ok-kind-in-If-clause-found
check_form-returns-in_ok-kind-in-If-clause-found t c =
    let e = c.in_ok-kind-in-If.ensures in
    let m = term_view c.deref.result.now in
    let n = term_view c.deref-in-If.result.now in
    let whole : term_view c.args.term.now ≡ IfTerm (expr_view c.in-If.test) m n (span_view c.args.term.now.span) = rw (c.in-If.is, c.deref.ensures, c.deref-in-If.ensures) refl in
    if_meets _ (heads_view c.args.heads.now) (scope_view c.args.scope.now) (scope_view c.check_term.new.scope) (length c.args.variables.now.kinds) (length c.check_term.new.variables.kinds) (expr_view c.in-If.test) m n _ (span_view c.args.term.now.span) (option_map kind_view c.args.need) (kind_view c.in_ok-kind-in-If.kind) whole c.in_ok-check_expr-in-If.ensures e.found (ap scope_view e.scope) e.count e.kind c.check_term-in-If.ensures.found

pub check_form-returns-in_err-kind-in-If-clause-found : goal.check_form-returns-in_err-kind-in-If-clause-found
check_form-returns-in_err-kind-in-If-clause-found t c = passed _ _ _ c.from_residual-in_err-kind-in-If.ensures.1 (rw c.in-If.is (search (rules, refuses_front, refuses_behind)))

pub check_form-returns-in_err-check_send-in-Send-clause-found : goal.check_form-returns-in_err-check_send-in-Send-clause-found
check_form-returns-in_err-check_send-in-Send-clause-found t c = let m = rw c.as_slice.ensures at c.in_err-check_send-in-Send.ensures in passed _ _ _ c.from_residual-in_err-check_send-in-Send.ensures.1 (rw c.in-Send.is (refuses_front _ _ _ m))

pub check_form-returns-in_ok-check_term-in-Spawn-clause-found : goal.check_form-returns-in_ok-check_term-in-Spawn-clause-found
check_form-returns-in_ok-check_term-in-Spawn-clause-found t c = let m = rw c.deref-in-Spawn.ensures at c.in_ok-check_term-in-Spawn.ensures.found in rw c.in-Spawn.is (meets_behind _ _ _ m c.need_kind.ensures.found)

pub check_form-returns-in_ok-check_shown-in-Print-clause-found : goal.check_form-returns-in_ok-check_shown-in-Print-clause-found
check_form-returns-in_ok-check_shown-in-Print-clause-found t c = rw c.in-Print.is (meets_behind _ _ _ c.in_ok-check_shown-in-Print.ensures c.need_kind-in-Print.ensures.found)

pub check_form-returns-in_err-check_expr-in-If-clause-found : goal.check_form-returns-in_err-check_expr-in-If-clause-found
check_form-returns-in_err-check_expr-in-If-clause-found t c = search (rules, refuses_front)

pub check_form-returns-in_err-check_term-in-Spawn-clause-found : goal.check_form-returns-in_err-check_term-in-Spawn-clause-found
check_form-returns-in_err-check_term-in-Spawn-clause-found t c = search (rules, refuses_front)

pub check_form-returns-in_err-check_shown-in-Print-clause-found : goal.check_form-returns-in_err-check_shown-in-Print-clause-found
check_form-returns-in_err-check_shown-in-Print-clause-found t c = search (rules, refuses_front)

pub check_named-returns-clause-kinds : goal.check_named-returns-clause-kinds
check_named-returns-clause-kinds t c =
    let m = term_view c.args.bound.now in
    let one : length (c.args.variables.now.kinds ++ code.Unit ∷ []) ≡ suc (length c.args.variables.now.kinds) = omega (arith, length-append c.args.variables.now.kinds (code.Unit ∷ [])) in
    let own : kind_view c.in_ok-kind.kind ≡ kind_of_term (heads_view c.args.heads.now) (scope_view c.args.scope.now) (suc (length c.args.variables.now.kinds)) m = rw (c.in_ok-push.ensures.ok, one) at c.in_ok-kind.ensures.kind in
    let more : map kind_view c.check_term.new.variables.kinds ≡ map kind_view (c.args.variables.now.kinds ++ code.Unit ∷ []) ++ vars_of (heads_view c.args.heads.now) (scope_view c.args.scope.now) (suc (length c.args.variables.now.kinds)) m = rw (c.in_ok-push.ensures.ok, one) at c.in_ok-kind.ensures.kinds in
    rw (c.replace.ensures.after, c.len-number.ensures) (named_kinds c.args.variables.now.kinds _ _ _ _ _ more own)

pub check_named-returns-clause-scope : goal.check_named-returns-clause-scope
check_named-returns-clause-scope t c =
    let m = term_view c.args.bound.now in
    let one : length (c.args.variables.now.kinds ++ code.Unit ∷ []) ≡ suc (length c.args.variables.now.kinds) = omega (arith, length-append c.args.variables.now.kinds (code.Unit ∷ [])) in
    let own : kind_view c.in_ok-kind.kind ≡ kind_of_term (heads_view c.args.heads.now) (scope_view c.args.scope.now) (suc (length c.args.variables.now.kinds)) m = rw (c.in_ok-push.ensures.ok, one) at c.in_ok-kind.ensures.kind in
    rw (c.in_ok-push-3.ensures.pushed, c.in_ok-kind.ensures.scope, own, c.len-number.ensures) refl

pub check_named-returns-clause-above : goal.check_named-returns-clause-above
check_named-returns-clause-above t c = rw (c.in_ok-push-3.ensures.pushed, c.in_ok-kind.ensures.scope) (above_one _ _)

pub check_clause-returns-in_err-open_receive-in-Receive-clause-found : goal.check_clause-returns-in_err-open_receive-in-Receive-clause-found
check_clause-returns-in_err-open_receive-in-Receive-clause-found t c = search (rules, refuses_front)

pub check_clause-returns-in_err-kind-in-Receive-clause-found : goal.check_clause-returns-in_err-kind-in-Receive-clause-found
check_clause-returns-in_err-kind-in-Receive-clause-found t c =
    let t = name_view c.in-Receive.tag in
    let xs = map name_view c.in-Receive.names in
    let y = name_view c.in-Receive.from in
    let m = term_view c.in-Receive.body in
    let w = span_view c.in-Receive.span in
    let whole : clause_view c.args.clause.now ≡ ReceiveClause w t xs y m = rw c.in-Receive.is refl in
    let o = c.in_ok-open_receive-in-Receive.ensures in
    passed _ _ _ c.from_residual-in_err-kind-in-Receive.ensures.1 (receive_refuses _ (heads_view c.args.heads.now) c.args.interface (scope_view c.args.scope.now) _ (length c.args.variables.now.kinds) _ w t xs y m _ (option_map kind_view c.args.need) whole (rw c.as_slice.ensures at o.found) (rw c.as_slice.ensures at o.scope) (rw c.as_slice.ensures at o.count) c.in_err-kind-in-Receive.ensures.found)

pub check_clause-returns-in_ok-kind-in-Receive-clause-found : goal.check_clause-returns-in_ok-kind-in-Receive-clause-found
check_clause-returns-in_ok-kind-in-Receive-clause-found t c =
    let t = name_view c.in-Receive.tag in
    let xs = map name_view c.in-Receive.names in
    let y = name_view c.in-Receive.from in
    let m = term_view c.in-Receive.body in
    let w = span_view c.in-Receive.span in
    let whole : clause_view c.args.clause.now ≡ ReceiveClause w t xs y m = rw c.in-Receive.is refl in
    let o = c.in_ok-open_receive-in-Receive.ensures in
    receive_clear (heads_view c.args.heads.now) c.args.interface (scope_view c.args.scope.now) _ (length c.args.variables.now.kinds) _ w t xs y m _ (option_map kind_view c.args.need) whole (rw c.as_slice.ensures at o.found) (rw c.as_slice.ensures at o.scope) (rw c.as_slice.ensures at o.count) c.in_ok-kind-in-Receive.ensures.found
