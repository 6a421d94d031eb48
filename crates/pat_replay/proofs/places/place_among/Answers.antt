use Rattle.std.proofs.Common.{◌≡◌, ℕ, ◌<◌, Some, length, get_or, refl, sym, ap, ◌∙◌, subst, arith}
use Rattle.std.specs.Prelude.{slice_get}
use Rattle.std.proofs.lemmas.Option.{slice_get-get_or}
use Rattle.pat_reduce.specs.declared.threads.state.ThreadState.{ThreadState}
use Rattle.pat_reduce.proofs.Ascending.{stands_there}
use Rattle.pat_replay.proofs.Halves.{in_upper_half, in_lower_half, everywhere, nowhere}
use Rattle.pat_replay.proofs.places.place_among.Goals as goal

pub loop-low-init : goal.loop-low-init
loop-low-init c = everywhere c.args.threads.now c.args.thread (length c.args.threads.now) refl

pub returns-then-own-thread-clause-found : goal.returns-then-own-thread-clause-found
returns-then-own-thread-clause-found c =
    let w = c.loop-low.invariant.within in
    let t = c.loop-low-test.true in
    let m = c.middle_of-middle.ensures.high in
    let own = c.index-threads-middle.result in
    let at : slice_get c.args.threads.now c.middle_of-middle.result ≡ Some own = slice_get-get_or c.args.threads.now c.middle_of-middle.result own (omega arith) ∙ ap Some (sym c.index-threads-middle.is) in
    stands_there c.args.threads.now c.args.thread c.middle_of-middle.result own c.requires (omega arith) at (ap (λ (q : ℕ × ThreadState). q.0) c.index-threads-middle.is ∙ c.if-own-thread.true)

pub loop-low-preserved-then-thread-own : goal.loop-low-preserved-then-thread-own
loop-low-preserved-then-thread-own c =
    let w = c.loop-low.invariant.within in
    let t = c.loop-low-test.true in
    let m = c.middle_of-middle.ensures.high in
    let own = c.index-threads-middle.result in
    let at : slice_get c.args.threads.now c.middle_of-middle.result ≡ Some own = slice_get-get_or c.args.threads.now c.middle_of-middle.result own (omega arith) ∙ ap Some (sym c.index-threads-middle.is) in
    in_upper_half c.args.threads.now c.args.thread c.loop-low.low c.loop-low.high c.middle_of-middle.result own c.requires c.loop-low.invariant at (subst (λ (q : ℕ × ThreadState). q.0 < c.args.thread) (sym c.index-threads-middle.is) c.if-thread-own.true)

pub loop-low-preserved : goal.loop-low-preserved
loop-low-preserved c =
    let w = c.loop-low.invariant.within in
    let t = c.loop-low-test.true in
    let m = c.middle_of-middle.ensures.high in
    let own = c.index-threads-middle.result in
    let at : slice_get c.args.threads.now c.middle_of-middle.result ≡ Some own = slice_get-get_or c.args.threads.now c.middle_of-middle.result own (omega arith) ∙ ap Some (sym c.index-threads-middle.is) in
    let same : own.0 ≡ (get_or c.args.threads.now c.middle_of-middle.result own).0 = ap (λ (q : ℕ × ThreadState). q.0) c.index-threads-middle.is in
    in_lower_half c.args.threads.now c.args.thread c.loop-low.low c.loop-low.high c.middle_of-middle.result own c.requires c.loop-low.invariant at (omega arith) (omega (arith, same, c.if-own-thread.false, c.if-thread-own.false))

pub returns-clause-none : goal.returns-clause-none
returns-clause-none c = nowhere c.args.threads.now c.args.thread c.loop-low.low c.loop-low.high c.loop-low.invariant (omega (arith, c.loop-low-test.false))
