use Rattle.std.proofs.Common.{arith, subst, sym, ℕ, ◌∙◌}
use Rattle.std.proofs.lemmas.List.{length-take, length-drop}
use Rattle.std.proofs.KnownBytes.{Appends-trans}
use Rattle.std.specs.Io.KnownBytes.{Appends}
use Rattle.std.proofs.lemmas.Result.{err_from_is_err_and}
use Rattle.pat_session.specs.Ports.{HandsAll}
use Rattle.pat_session.proofs.Fronts.{front_more}
use Rattle.pat_session.proofs.Writing.{front_behind}
use Rattle.pat_session.proofs.output.write_text.Goals as goal

pub loop-done-preserved : goal.loop-done-preserved
loop-done-preserved g c = record {
  within = omega (arith, c.in_ok-done.ensures.count.0, length-take {A = ℕ}, length-drop {A = ℕ});
  taken = subst (λ l. Appends (g.K.Sink.taken c.args.sink.now) (g.K.Sink.taken c.write.new.self) l) (front_more c.args.text.now c.loop-done.done c.in_ok-done.field-0) (Appends-trans _ _ _ _ _ c.loop-done.invariant.taken c.in_ok-done.ensures.bytes);
  handed = subst (λ l. Appends (g.K.Sink.handed c.args.sink.now) (g.K.Sink.handed c.write.new.self) l) (front_more c.args.text.now c.loop-done.done c.in_ok-done.field-0) (Appends-trans _ _ _ _ _ c.loop-done.invariant.handed c.in_ok-done.ensures.handed);
  unfailed = c.in_ok-done.ensures.counted ∙ c.loop-done.invariant.unfailed;
}

pub returns-in_err-done-clause-handed : goal.returns-in_err-done-clause-handed
returns-in_err-done-clause-handed g c =
    let q = err_from_is_err_and c.from_residual.result c.from_residual.ensures.1 in
    subst (λ r. HandsAll (g.K.Sink.handed c.args.sink.now) (g.K.Sink.handed c.write.new.self) r c.args.text.now) (sym q.1)
    (front_behind (g.K.Sink.handed c.args.sink.now) (g.K.Sink.handed c.loop-done.sink) (g.K.Sink.handed c.write.new.self) c.args.text.now c.loop-done.done c.loop-done.invariant.within c.loop-done.invariant.handed c.in_err-done.ensures.handed)
