use Rattle.std.proofs.Common.{map, sym, subst}
use Rattle.pat_core.specs.Views.{program_view}
use Rattle.pat_reduce.specs.Views.{config_view, entry_view}
use Rattle.pat_command_replay.specs.Pieces.{ReplaysInput}
use Rattle.pat_command_replay.proofs.Answering.{replayed_is}
use Rattle.pat_command_replay.proofs.command.shown.Goals as goal

pub returns : goal.returns
returns c = λ bytes replays.
    let r = c.args.replayed.now in
    let own = subst (λ l. ReplaysInput bytes (program_view r.code.program) (map entry_view l) (config_view r.config)) (sym c.deref.ensures.value) replays in
    let text = c.in_ok-text.ensures (config_view r.config) (sym c.as_slice-printed.ensures) (sym c.in_ok-remains.ensures) in
    replayed_is bytes (program_view r.code.program) (map entry_view c.deref.result.now) (config_view r.config) _ c.in_ok-text.text.items own c.standing_of-standing.ensures text
