use Rattle.std.proofs.Common.{length, sym, subst}
use Rattle.pat_reduce.specs.Views.{config_view}
use Rattle.pat_replay.specs.Replays.{HasRoom}
use Rattle.pat_replay_input.proofs.Giving.{entries_few, room_for}
use Rattle.pat_replay_input.proofs.histories.replay_part.Goals as goal

pub replay_from-requires-clause-room : goal.replay_from-requires-clause-room
replay_from-requires-clause-room c =
    subst (λ l. HasRoom (config_view c.args.config) (length l)) (sym c.deref.ensures.value)
    (room_for c.args.part.now c.args.from c.in-Ok.entries.items (config_view c.args.config) c.in-Ok.ensures c.requires.room c.requires.numbers)

pub returns-in-Ok-replay_from-clause-few : goal.returns-in-Ok-replay_from-clause-few
returns-in-Ok-replay_from-clause-few c = entries_few c.args.part.now c.args.from c.in-Ok.entries.items c.in-Ok.ensures c.requires.room
