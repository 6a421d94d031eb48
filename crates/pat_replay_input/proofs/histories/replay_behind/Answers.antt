use Rattle.std.proofs.Common.{refl}
use Rattle.pat_core.specs.Views.{program_view}
use Rattle.pat_reduce.specs.Views.{config_view}
use Rattle.pat_replay_input.proofs.Giving.{text_gives}
use Rattle.pat_replay_input.proofs.histories.replay_behind.Goals as goal

pub returns-clause-gives : goal.returns-clause-gives
returns-clause-gives c =
    let p = program_view c.args.code.program in
    let b = config_view c.args.config in
    text_gives p b c.args.from c.args.text.now c.before_output.result.now c.before_output.ensures.part p b c.replay_part.result refl refl c.replay_part.ensures.gives
