use Rattle.std.specs.Prelude.{option_map}
use Rattle.std.proofs.Common.{rules, ◌+◌, ap, ◌∙◌, map, drop, arith}
use Rattle.std.proofs.lemmas.Grind.{common_steps}
use Rattle.pat_tree.specs.declared.term.Form.TheViews.{the_lemmas}
use Rattle.pat_tree.specs.Views.{span_view, name_view, pattern_view, term_at, term_view, clause_view}
use Rattle.pat_parser_spec.specs.Trees.{listed}
use Rattle.pat_print.proofs.Guards.{guard_view, guard_put}
use Rattle.pat_print.proofs.Lines.{binding_is, let_step, clauses_more, receive_is}
use Rattle.pat_print.proofs.term.+term.Goals as goal

pub put_clauses-loop-clause-preserved : goal.put_clauses-loop-clause-preserved
put_clauses-loop-clause-preserved t c =
    let e = clauses_more c.loop-clause.out.items (clause_view c.clause-item.result) (listed (map clause_view (drop (c.loop-clause.clause-index + 1) c.args.clauses.now))) in
    grind (arith, common_steps, e)

pub put_binding-returns-in_ok-extend_from_slice-in-Some-3 :
    goal.put_binding-returns-in_ok-extend_from_slice-in-Some-3
put_binding-returns-in_ok-extend_from_slice-in-Some-3 t c =
    let e = binding_is c.args.out.now.items (name_view c.in-Some.name) (term_view c.args.bound.now) in
    rw c.in-Some.is (cc (e, c.in_ok-extend_from_slice-in-Some.ensures.items, c.in_ok-put_name-in-Some.ensures, c.in_ok-extend_from_slice-in-Some-2.ensures.items, c.in_ok-put_bound-in-Some.ensures, c.in_ok-extend_from_slice-in-Some-3.ensures.items))

pub put_clause-returns-in_ok-put_term-in-Receive :
    goal.put_clause-returns-in_ok-put_term-in-Receive
put_clause-returns-in_ok-put_term-in-Receive t c =
    let e = receive_is c.args.out.now.items (name_view c.in-Receive.tag) (map name_view c.in-Receive.names) (name_view c.in-Receive.from) (term_view c.in-Receive.body) in
    rw c.in-Receive.is (cc (e, c.in_ok-put_received-in-Receive.ensures, c.in_ok-put_term-in-Receive.ensures))

pub put_term-loop-rest-preserved : goal.put_term-loop-rest-preserved
put_term-loop-rest-preserved t c =
    let h = rw c.in-Let.is at c.loop-rest.invariant.1 in
    let b = rw c.deref.ensures at c.in_ok-put_binding-in-Let.ensures in
    let e = let_step c.loop-rest.out.items c.put_binding.new.out.items _ (option_map name_view c.in-Let.name) (term_view c.in-Let.bound.value) (term_view c.in-Let.body.value) (span_view c.loop-rest.rest.now.span) b h in
    (search (rules, the_lemmas), rw c.deref-rest.ensures e)

pub put_term-returns-in-Guard : goal.put_term-returns-in-Guard
put_term-returns-in-Guard t c =
    let v = ap (λ f. term_at f (span_view c.loop-rest.rest.now.span)) c.in-Guard.is ∙ guard_view c.in-Guard.name c.in-Guard.pattern c.in-Guard.clauses (span_view c.loop-rest.rest.now.span) in
    let b = rw c.deref-in-Guard.ensures.value at c.in_ok-put_clauses-in-Guard.ensures in
    guard_put c.loop-rest.out.items _ _ _ _ (name_view c.in-Guard.name) (pattern_view c.in-Guard.pattern) (listed (map clause_view c.in-Guard.clauses.items)) (term_view c.loop-rest.rest.now) _ v c.in_ok-put_guarded-in-Guard.ensures b c.in_ok-push-in-Guard.ensures.items c.loop-rest.invariant.1
