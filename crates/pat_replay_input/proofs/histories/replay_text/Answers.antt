use Rattle.std.proofs.Common.{ap}
use Rattle.pat_semantics_spec.specs.Configs.{start}
use Rattle.pat_core.specs.Views.{program_view}
use Rattle.pat_replay_input.proofs.Giving.{text_gives}
use Rattle.pat_replay_input.proofs.histories.replay_text.Goals as goal

pub returns-in-Ok-clause-gives : goal.returns-in-Ok-clause-gives
returns-in-Ok-clause-gives c =
    let p = program_view c.args.program in
    let same = ap program_view c.in-Ok.ensures in
    text_gives p (start p) c.args.from c.args.text.now c.before_output.result.now c.before_output.ensures.part (program_view c.in-Ok.code.program) (start (program_view c.in-Ok.code.program))
    c.replay_part_from_start.result same (ap start same) c.replay_part_from_start.ensures.gives
