use Rattle.std.proofs.Common.{◌<◌, length, map, arith}
use Rattle.std.proofs.lemmas.List.{length-map}
use Rattle.pat_core.specs.Views.{program_view}
use Rattle.pat_reduce.specs.Views.{config_view, entry_view}
use Rattle.pat_command_order.proofs.Answering.{too_many}
use Rattle.pat_command_order.proofs.command.in_order.Goals as goal
use Rattle.pat_limits.specs.Limits.{most_entries}

pub returns-then-len-gt-MOST_ENTRIES : goal.returns-then-len-gt-MOST_ENTRIES
returns-then-len-gt-MOST_ENTRIES c = λ bytes replays.
    let r = c.args.replayed.now in
    let counted = length-map r.entries.items entry_view in
    let length_is = c.len.ensures in
    let above = c.if-len-gt-MOST_ENTRIES.true in
    let many : most_entries < length (map entry_view r.entries.items) = omega (arith, counted, length_is, above) in
    too_many bytes (program_view r.code.program) (map entry_view r.entries.items) (config_view r.config) replays c.verdict_answer.result many c.verdict_answer.ensures
