use Rattle.std.proofs.Common.{◌≡◌, ◌+◌, ◌++◌, length, map, refl, ap, subst, arith}
use Rattle.pat_semantics_laws.specs.Laws.{history_steps}
use Rattle.pat_checkpoint_spec.specs.Resumed.{made_along}
use Rattle.pat_semantics_spec.specs.Runs.{replay_from}
use Rattle.pat_core.specs.Views.{program_view}
use Rattle.pat_reduce.specs.Views.{entry_view}
use Rattle.pat_replay.specs.Kept.{kept_view}
use Rattle.pat_machine_spec.specs.Refusals.{IsRefusedAt}
use Rattle.pat_replay.specs.Replays.{HasRoom}
use Rattle.pat_replay.proofs.Refusing.{refused_so, replay_on, refuses_on, room_next, room_here, order_next}
use Rattle.pat_replay.proofs.Makes.{made_on}
use Rattle.pat_replay.proofs.replaying.replay_kept.Goals as goal

pub take_entry-requires-clause-taken : goal.take_entry-requires-clause-taken
take_entry-requires-clause-taken c = room_here (kept_view c.loop-i.kept) _ c.loop-i.i c.loop-i-test.true c.loop-i.invariant.room

pub returns-in-Err-Disabled-clause-replays : goal.returns-in-Err-Disabled-clause-replays
returns-in-Err-Disabled-clause-replays c =
    let p = program_view c.args.code.now.program in
    refused_so p (kept_view c.args.kept) (kept_view c.loop-i.kept) c.args.entries.now c.loop-i.i _ c.loop-i-test.true (kept_view c.take_entry.new.kept) c.in-Err-Disabled.field-0 c.in-Err-Disabled.ensures.gives c.in-Err-Disabled.field-0-is c.loop-i.invariant.refused

pub loop-i-preserved : goal.loop-i-preserved
loop-i-preserved c =
    let p = program_view c.args.code.now.program in
    let a = kept_view c.args.kept in
    let b = kept_view c.loop-i.kept in
    let d = kept_view c.take_entry.new.kept in
    record {
      whole = replay_on p a b c.args.entries.now c.loop-i.i _ c.loop-i-test.true d c.in-Ok.ensures.gives (replay_from p a (map entry_view c.args.entries.now)) c.loop-i.invariant.whole;
      refused = refuses_on p a b c.args.entries.now c.loop-i.i _ c.loop-i-test.true d c.in-Ok.ensures.gives c.loop-i.invariant.refused;
      room = room_next p a b c.args.entries.now c.loop-i.i _ c.loop-i-test.true d c.in-Ok.ensures.gives c.loop-i.invariant.room;
      order = order_next p a b c.args.entries.now c.loop-i.i _ c.loop-i-test.true d c.in-Ok.ensures.gives c.loop-i.invariant.order;
      kept = c.in-Ok.ensures.kept;
      made = made_on p b d c.args.entries.now c.loop-i.i _ c.loop-i-test.true c.loop-i.made c.take_entry.new.made _ c.in-Ok.ensures.gives c.in-Ok.ensures.made c.loop-i.invariant.made;
    }

pub loop-i-init : goal.loop-i-init
loop-i-init c = record {
  whole = refl;
  refused = λ k h.
      let same : k ≡ 0 + k = omega arith in
      subst (IsRefusedAt (program_view c.args.code.now.program) (kept_view c.args.kept) (map entry_view c.args.entries.now)) same h;
  room = λ n is.
      let same : length c.args.entries.now ≡ n = omega (arith, is) in
      subst (HasRoom (kept_view c.args.kept)) same c.requires.room;
  order = c.requires.ordered;
  kept = c.requires.kept;
  made = ap (λ l. l ++ made_along (program_view c.args.code.now.program) (kept_view c.args.kept) (history_steps (map entry_view c.args.entries.now))) c.new-made.ensures;
}
