use Rattle.std.proofs.Common.{◌≡◌, ◌∷◌, ◌+◌, ℕ, suc, option_map, Some, true, nat_lt, refl, ap, sym, ◌∙◌, arith}
use Rattle.std.proofs.lemmas.Int.{to_z-of_z}
use Rattle.pat_parser_spec.specs.Machine as m
use Rattle.pat_syntax.specs.Views.{kind_view}
use Rattle.pat_primitives.specs.Views.{op_view}
use Rattle.pat_tree.specs.Views.{span_view}
use Rattle.pat_parser_phrases.specs.tokens.Answers.{after}
use Rattle.pat_parser_phrases.proofs.Steps.{from_front, fails_from_front, failed}
use Rattle.pat_parser_phrases.specs.expressions.Views.{pending_view}
use Rattle.pat_parser_phrases.specs.expressions.Operators.{operator_of}
use Rattle.pat_parser_phrases.specs.expressions.Reads.{behind_expression}
use Rattle.pat_parser_phrases.proofs.Joining.{in_bracket, operator_taken}
use Rattle.pat_parser_phrases.proofs.expressions.expressions.+expression.Goals as goal
use Rattle.pat_limits.specs.Limits.{most_open}

pub bracket-returns-in_err-inner-clause-reads : goal.bracket-returns-in_err-inner-clause-reads
bracket-returns-in_err-inner-clause-reads t c = λ fs s p.
    let room : nat_lt (c.args.opened + c.args.operators) most_open ≡ true = cc in
    let next = c.in_ok-kind.field-0 in
    let inside = m.AtExpr (m.InBracket p c.args.from c.args.opened) ∷ fs in
    let e = in_bracket fs c.args.opened c.args.operators s (c.args.opened + 1) p c.args.from (kind_view next.kind) (span_view next.span) next.span.from c.args.tokens.now c.next.new.self room (omega arith) (λ e. let h = c.is_mark.ensures.1 e in cc) (c.in_ok-kind.ensures.taken (m.state m.Opened inside (suc c.args.opened) c.args.operators s) refl) in
    failed _ c.in_err-inner.field-0.0 _ _ c.from_residual-in_err-inner.ensures.1 (fails_from_front _ _ _ e (c.in_err-inner.ensures.reads inside s))

pub bracket-returns-clause-reads : goal.bracket-returns-clause-reads
bracket-returns-clause-reads t c = λ fs s p.
    let room : nat_lt (c.args.opened + c.args.operators) most_open ≡ true = cc in
    let next = c.in_ok-kind.field-0 in
    let inside = m.AtExpr (m.InBracket p c.args.from c.args.opened) ∷ fs in
    let e = in_bracket fs c.args.opened c.args.operators s (c.args.opened + 1) p c.args.from (kind_view next.kind) (span_view next.span) next.span.from c.args.tokens.now c.next.new.self room (omega arith) (λ e. let h = c.is_mark.ensures.1 e in cc) (c.in_ok-kind.ensures.taken (m.state m.Opened inside (suc c.args.opened) c.args.operators s) refl) in
    let more : c.args.opened + 1 ≡ suc c.args.opened = omega arith in
    from_front c.bracket_end.result _ _ _ (e ∙ c.in_ok-inner.ensures.reads inside s ∙ ap (λ (o : ℕ). behind_expression inside o s c.in_ok-inner.inner c.expression.new.tokens) more) (c.bracket_end.ensures.reads fs c.args.opened s p)

pub operand-returns-in-Integer-clause-reads : goal.operand-returns-in-Integer-clause-reads
operand-returns-in-Integer-clause-reads t c = λ fs s p.
    let h1 = c.in-Integer.value-is in let h2 = c.in-Integer.is in let h3 = c.leaf-in-Integer.ensures.reads fs c.args.opened s p in grind (arith, to_z-of_z)

pub operations-returns-in_err-pending-clause-reads :
    goal.operations-returns-in_err-pending-clause-reads
operations-returns-in_err-pending-clause-reads t c = λ fs s.
    let l = c.loop-op.last in
    let is : operator_of (kind_view l.token.kind) ≡ Some (op_view c.in-Some.op) = sym c.operator.ensures ∙ ap (option_map op_view) c.in-Some.is in
    let e = operator_taken fs c.args.opened s (pending_view c.loop-op.pending) l (op_view c.in-Some.op) _ c.loop-op.tokens is (c.loop-op.invariant.same fs s) in
    failed _ c.in_err-pending.field-0.0 _ _ c.from_residual.ensures.1 (fails_from_front _ _ _ e (c.in_err-pending.ensures.opens fs s c.loop-op.tokens))

pub operations-returns-in_err-kind-clause-reads : goal.operations-returns-in_err-kind-clause-reads
operations-returns-in_err-kind-clause-reads t c = λ fs s.
    let l = c.loop-op.last in
    let is : operator_of (kind_view l.token.kind) ≡ Some (op_view c.in-Some.op) = sym c.operator.ensures ∙ ap (option_map op_view) c.in-Some.is in
    let e = operator_taken fs c.args.opened s (pending_view c.loop-op.pending) l (op_view c.in-Some.op) _ c.loop-op.tokens is (c.loop-op.invariant.same fs s) in
    let want = m.state (m.Want (pending_view c.in_ok-pending.pending)) fs c.args.opened (suc l.operators) s in
    failed _ c.in_err-kind.field-0.0 _ _ c.from_residual-in_err-kind.ensures.1 (fails_from_front _ _ _ (e ∙ c.in_ok-pending.ensures.opens fs s c.loop-op.tokens) (c.in_err-kind.ensures.taken want refl))

pub operations-returns-in_err-last-clause-reads : goal.operations-returns-in_err-last-clause-reads
operations-returns-in_err-last-clause-reads t c = λ fs s.
    let l = c.loop-op.last in
    let p = pending_view c.in_ok-pending.pending in
    let next = c.in_ok-kind.field-0 in
    let is : operator_of (kind_view l.token.kind) ≡ Some (op_view c.in-Some.op) = sym c.operator.ensures ∙ ap (option_map op_view) c.in-Some.is in
    let e = operator_taken fs c.args.opened s (pending_view c.loop-op.pending) l (op_view c.in-Some.op) _ c.loop-op.tokens is (c.loop-op.invariant.same fs s) in
    let want = m.state (m.Want p) fs c.args.opened (suc l.operators) s in
    let more : suc l.operators ≡ l.operators + 1 = omega arith in
    let wanted = ap (λ (k : ℕ). after (m.want_step fs c.args.opened k s p (kind_view next.kind) (span_view next.span)) next.span.from c.next.new.self) more in
    failed _ c.in_err-last.field-0.0 _ _ c.from_residual-in_err-last.ensures.1 (fails_from_front _ _ _ (e ∙ c.in_ok-pending.ensures.opens fs s c.loop-op.tokens ∙ c.in_ok-kind.ensures.taken want refl ∙ wanted) (c.in_err-last.ensures.reads fs s p))

pub operations-loop-op-preserved : goal.operations-loop-op-preserved
operations-loop-op-preserved t c = record {
  same = λ fs s.
      let l = c.loop-op.last in
      let p = pending_view c.in_ok-pending.pending in
      let next = c.in_ok-kind.field-0 in
      let is : operator_of (kind_view l.token.kind) ≡ Some (op_view c.in-Some.op) = sym c.operator.ensures ∙ ap (option_map op_view) c.in-Some.is in
      let e = operator_taken fs c.args.opened s (pending_view c.loop-op.pending) l (op_view c.in-Some.op) _ c.loop-op.tokens is (c.loop-op.invariant.same fs s) in
      let want = m.state (m.Want p) fs c.args.opened (suc l.operators) s in
      let more : suc l.operators ≡ l.operators + 1 = omega arith in
      let wanted = ap (λ (k : ℕ). after (m.want_step fs c.args.opened k s p (kind_view next.kind) (span_view next.span)) next.span.from c.next.new.self) more in
      e ∙ c.in_ok-pending.ensures.opens fs s c.loop-op.tokens ∙ c.in_ok-kind.ensures.taken want refl ∙ wanted ∙ c.in_ok-last.ensures.reads fs s p;
  no_more = omega (arith, c.in_ok-kind.ensures.fewer, c.in_ok-last.ensures.no_more);
}
