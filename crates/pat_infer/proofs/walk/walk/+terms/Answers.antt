use Rattle.std.proofs.Common.{◌≡◌, ℕ, ◌+◌, [], List, drop, map, length, refl, ap, sym, ◌∙◌, subst, rules}
use Rattle.std.proofs.lemmas.Result.{err_from_is_err_and}
use Rattle.pat_infer_spec.specs.Constraints.{Found}
use Rattle.std.specs.Prelude.{Option, Some, None, slice_get}
use Rattle.pat_infer_spec.specs.Branches as branches
use Rattle.pat_infer_spec.specs.Walk.{Part, walk, core_found, node_found, call_found, guard_found, walk_arms}
use Rattle.pat_core.specs.Views.{program_view, node_view, clause_view, expr_view}
use Rattle.pat_core.specs.declared.expression.Expr.{Expr as CodeExpr}
use Rattle.pat_patterns.specs.Views.{pattern_view}
use Rattle.pat_infer_problems.specs.signatures.Opened.{Signature, signatures_from}
use Rattle.pat_infer_problems.specs.signatures.Views.{signature_view}
use Rattle.pat_infer_terms.specs.Calls.{signed_call}
use Rattle.pat_infer_terms.specs.declared.branches.arms.WalkedArm.{WalkedArm}
use Rattle.pat_infer.specs.declared.walk.walk.Branch.{Branch}
use Rattle.pat_infer.proofs.SignedNumbers.{none_there, call_same, call_walked}
use Rattle.pat_types.specs.Views.{result_view}
use Rattle.pat_infer_problems.specs.Results.{Refuses}
use Rattle.pat_semantics_spec.specs.Programs.{Node, node_at}
use Rattle.pat_infer.specs.walk.Chains.{climbed, let_around}
use Rattle.pat_infer.specs.walk.Walking.{AreWalked, branch_view}
use Rattle.pat_infer_problems.specs.Walked.{IsWalked, Infers}
use Rattle.pat_infer_problems.proofs.Joining.{refuses_by}
use Rattle.pat_infer.proofs.Climbing.{first_up}
use Rattle.pat_infer.proofs.Parts.{Closing, StillToWalk, closing_refused, exits, row_from, bound_stops, let_stops, let_closes, guard_walked, one_more, nothing_walked, kept_walked}
use Rattle.pat_infer.proofs.walk.walk.+terms.Goals as goal

pub close_let-returns-in_err-bound-in-Some : goal.close_let-returns-in_err-bound-in-Some
close_let-returns-in_err-bound-in-Some t c = λ first r w.
    let p = c.args.signed.now.program.now in
    let e = c.in_err-bound-in-Some.field-0.0 in
    let q = err_from_is_err_and c.from_residual-in_err-bound-in-Some.result c.from_residual-in_err-bound-in-Some.ensures.1 in
    exits p c.from_residual-in_err-bound-in-Some.result q.0 e first c.walk.new.problem (let_around (program_view p) c.args.levels c.args.node (result_view c.args.asked.now) (1 + length first.vars) (node_at (program_view p) c.args.node) r) q.1 q.2
    (bound_stops p first c.args.problem.now c.args.levels c.args.node (result_view c.args.asked.now) c.in-Some.name c.in-Some.part c.args.body (result_view c.in_ok-wanted-in-Some.wanted) r e (search rules) (search rules) w c.in_err-bound-in-Some.ensures)

pub close_let-returns-in_err-needs-in-Some : goal.close_let-returns-in_err-needs-in-Some
close_let-returns-in_err-needs-in-Some t c = λ first r w.
    let p = c.args.signed.now.program.now in
    let e = c.in_err-needs-in-Some.field-0.0 in
    let q = err_from_is_err_and c.from_residual-in_err-needs-in-Some.result c.from_residual-in_err-needs-in-Some.ensures.1 in
    exits p c.from_residual-in_err-needs-in-Some.result q.0 e first c.join_let.new.problem (let_around (program_view p) c.args.levels c.args.node (result_view c.args.asked.now) (1 + length first.vars) (node_at (program_view p) c.args.node) r) q.1 q.2
    (let_stops p first c.args.problem.now c.args.levels c.args.node (result_view c.args.asked.now) c.in-Some.name c.in-Some.part c.args.body (result_view c.in_ok-wanted-in-Some.wanted) r e c.walk.new.problem c.as_slice-in-Some.result.now c.beside-inner.result (search rules) (search rules) w (search rules) (search rules) c.in_err-needs-in-Some.ensures)

pub close_let-returns-in_ok-keep_node-in-Some : goal.close_let-returns-in_ok-keep_node-in-Some
close_let-returns-in_ok-keep_node-in-Some t c = λ first r w.
    let p = c.args.signed.now.program.now in
    let_closes p first c.args.problem.now c.args.levels c.args.node (result_view c.args.asked.now) c.in-Some.name c.in-Some.part c.args.body (result_view c.in_ok-wanted-in-Some.wanted) r c.walk.new.problem c.join_let.new.problem c.keep_node.new.problem c.as_slice-in-Some.result.now c.beside-inner.result c.in_ok-needs-in-Some.needs (search rules) (search rules) w (search rules) (search rules) c.in_ok-needs-in-Some.ensures (search rules)

pub close_lets-returns-in_err-needs : goal.close_lets-returns-in_err-needs
close_lets-returns-in_err-needs t c = λ first r w.
    let p = c.args.signed.now.program.now in
    let e = c.in_err-needs.field-0.0 in
    let q = err_from_is_err_and c.from_residual.result c.from_residual.ensures.1 in
    exits p c.from_residual.result q.0 e first c.close_let.new.problem (climbed (program_view p) (result_view c.args.asked.now) (1 + length first.vars) c.args.level c.args.lets r) q.1 q.2
    (closing_refused p (result_view c.args.asked.now) e first c.loop-outer.problem c.args.level c.args.lets c.loop-outer.at c.in-Some.outer c.pop.new.self c.loop-outer.needs r (c.in_err-needs.ensures first)
    (subst (λ (ls : List ℕ). Closing p (result_view c.args.asked.now) first c.args.level c.args.lets c.loop-outer.at ls c.loop-outer.problem c.loop-outer.needs r) c.in-Some.ensures.some (c.loop-outer.invariant.climbs first r w)))

pub walk-returns-in_err-needs : goal.walk-returns-in_err-needs
walk-returns-in_err-needs t c =
    let p = c.args.signed.now.program.now in
    let v = program_view p in
    let k : ℕ = 1 + length c.args.problem.now.vars in
    let a = result_view c.args.asked.now in
    let chain = c.in_ok-chain.chain in
    let e = c.in_err-needs.field-0.0 in
    let q = err_from_is_err_and c.from_residual-in_err-needs.result c.from_residual-in_err-needs.ensures.1 in
    let inner : Found = walk chain.level v chain.last a k in
    exits p c.from_residual-in_err-needs.result q.0 e c.args.problem.now c.walk_inner.new.problem (walk c.args.levels v c.args.node a k) q.1 q.2
    (subst (λ (z : Found). Refuses p e z.findings) (c.in_ok-chain.ensures.climbs a k)
    (refuses_by p e inner.findings (climbed v a k chain.level chain.lets inner).findings (λ x. first_up v a k x chain.level chain.lets inner) c.in_err-needs.ensures))

pub walk_branches-loop-branch-preserved : goal.walk_branches-loop-branch-preserved
walk_branches-loop-branch-preserved t c =
    let p = c.args.signed.now.program.now in
    let part : Part = walk c.args.levels (program_view p) in
    let a = result_view c.args.asked.now in
    let row = row_from c.args.branches.now c.loop-branch.branch-index c.branch-item.result c.loop-branch-test.true c.branch-item.is in
    one_more p part a c.args.problem.now c.loop-branch.problem c.walk.new.problem c.loop-branch.arms c.push.new.self c.in_ok-needs.needs c.args.branches.now (drop (c.loop-branch.branch-index + 1) c.args.branches.now) c.branch-item.result
    (subst (λ (bs : List Branch). StillToWalk p part a c.args.problem.now c.loop-branch.problem c.loop-branch.arms c.args.branches.now bs) row c.loop-branch.invariant)
    c.in_ok-needs.ensures c.in_ok-push.ensures.ok

pub walk_core-returns-in-None : goal.walk_core-returns-in-None
walk_core-returns-in-None t c =
    let p = c.args.signed.now.program.now in
    let v = program_view p in
    let k : ℕ = 1 + length c.args.problem.now.vars in
    let f = c.in-Call.function in
    let none : slice_get v.functions f ≡ None = none_there 1 v.functions f (ap (λ (ss : List Signature). slice_get ss f) (sym c.requires.signed) ∙ sym c.in-None.ensures) in
    rw (c.in-Call.is, c.new-in-None.ensures)
    (subst (IsWalked p c.args.problem.now c.args.problem.now []) (sym (ap (call_found v c.args.node (result_view c.args.asked.now) f (map expr_view c.in-Call.args)) none)) (nothing_walked p c.args.problem.now))

pub walk_core-returns-in-Some : goal.walk_core-returns-in-Some
walk_core-returns-in-Some t c =
    let p = c.args.signed.now.program.now in
    let v = program_view p in
    let f = c.in-Call.function in
    let a = result_view c.args.asked.now in
    let s = signature_view c.in-Some.signature.now in
    let there : slice_get (signatures_from 1 v.functions) f ≡ Some s = ap (λ (ss : List Signature). slice_get ss f) (sym c.requires.signed) ∙ sym c.in-Some.ensures in
    let es = map expr_view c.as_slice.result.now in
    let same = call_same v c.args.node f a es s there ∙ ap (λ (zs : List CodeExpr). call_found v c.args.node a f (map expr_view zs) (slice_get v.functions f)) c.as_slice.ensures in
    rw c.in-Call.is
    (subst (Infers p c.args.problem.now c.call_needs.new.problem c.call_needs.result) same
    (call_walked p c.args.problem.now c.call_needs.new.problem c.call_needs.result (signed_call c.args.node a s es) refl refl c.call_needs.ensures.found c.call_needs.ensures.needs))

pub walk_guard-returns : goal.walk_guard-returns
walk_guard-returns t c =
    let p = c.args.signed.now.program.now in
    let part : Part = walk c.args.levels (program_view p) in
    let a = result_view c.args.asked.now in
    let k : ℕ = 1 + length c.args.problem.now.vars in
    let g = c.args.guarded.now in
    let same = ap (map branch_view) c.as_slice.ensures.value ∙ c.in_ok-branches.ensures in
    let e : c.as_slice-2.result.now ≡ c.in_ok-arms.arms = search rules in
    subst (λ (zs : List branches.Branch). Infers p c.args.problem.now c.guard_needs.new.problem c.guard_needs.result (guard_found (program_view p) g.function g.node (k + length (walk_arms part a k zs).vars) g.variable (pattern_view g.pattern.now) g.interface g.has_free (map clause_view g.clauses.now) (walk_arms part a k zs))) same
    (guard_walked p c.args.problem.now c.walk_branches.new.problem c.guard_needs.new.problem g c.as_slice-2.result.now (walk_arms part a k (map branch_view c.as_slice.result.now)) c.guard_needs.result
    (subst (λ (as' : List WalkedArm). AreWalked p c.args.problem.now c.walk_branches.new.problem as' (walk_arms part a k (map branch_view c.as_slice.result.now))) (sym e) c.in_ok-arms.ensures) c.guard_needs.ensures)

pub walk_last-returns-in-None : goal.walk_last-returns-in-None
walk_last-returns-in-None t c =
    let p = c.args.signed.now.program.now in
    rw c.new.ensures
    (subst (λ (o : Option Node). IsWalked p c.args.problem.now c.args.problem.now [] (node_found (program_view p) (walk c.args.levels (program_view p)) c.args.node (result_view c.args.asked.now) (1 + length c.args.problem.now.vars) o)) c.in-None.ensures (nothing_walked p c.args.problem.now))

pub walk_last-returns-in_ok-keep_node-in-Some : goal.walk_last-returns-in_ok-keep_node-in-Some
walk_last-returns-in_ok-keep_node-in-Some t c =
    let p = c.args.signed.now.program.now in
    let v = program_view p in
    let k : ℕ = 1 + length c.args.problem.now.vars in
    let a = result_view c.args.asked.now in
    let d = node_view c.in-Some.there.now in
    subst (λ (o : Option Node). IsWalked p c.args.problem.now c.keep_node.new.problem c.in_ok-needs-in-Some.needs (node_found v (walk c.args.levels v) c.args.node a k o)) c.in-Some.ensures
    (kept_walked p c.args.problem.now c.walk_core.new.problem c.keep_node.new.problem c.in_ok-needs-in-Some.needs (core_found v (walk c.args.levels v) d.function c.args.node k a d.core) c.args.node a c.in_ok-needs-in-Some.ensures (search rules))
