use Rattle.std.proofs.Common.{length, sym, subst}
use Rattle.pat_semantics_spec.specs.Configs.{start}
use Rattle.pat_core.specs.Views.{program_view}
use Rattle.pat_replay.specs.Replays.{HasRoom}
use Rattle.pat_replay_input.proofs.Giving.{entries_few, room_for, room_at_start}
use Rattle.pat_replay_input.proofs.histories.replay_part_from_start.Goals as goal

pub replay_from_start-requires : goal.replay_from_start-requires
replay_from_start-requires c =
    let p = program_view c.args.code.program in
    record {
      room =
          subst (λ l. HasRoom (start p) (length l)) (sym c.deref.ensures.value)
          (room_for c.args.part.now c.args.from c.in-Ok.entries.items (start p) c.in-Ok.ensures c.requires.room (room_at_start p));
    }

pub returns-in-Ok-replay_from_start-clause-few : goal.returns-in-Ok-replay_from_start-clause-few
returns-in-Ok-replay_from_start-clause-few c = entries_few c.args.part.now c.args.from c.in-Ok.entries.items c.in-Ok.ensures c.requires.room
