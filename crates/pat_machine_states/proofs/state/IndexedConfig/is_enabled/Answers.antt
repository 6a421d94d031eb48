use Rattle.std.proofs.Common.{sym, ◌∙◌}
use Rattle.std.specs.Prelude.{option_map}
use Rattle.pat_core.specs.Views.{program_view}
use Rattle.pat_reduce.specs.Views.{act_view}
use Rattle.pat_machine_states.proofs.Opened.{enabled_tells}
use Rattle.pat_machine_states.proofs.Reaching.{some_map}
use Rattle.pat_machine_states.proofs.state.IndexedConfig.is_enabled.Goals as goal

pub returns : goal.returns
returns c =
    c.is_some.ensures
    ∙ sym (some_map act_view c.enabled_act.result)
    ∙ enabled_tells (program_view c.args.code.now.program) c.args.self.now.config c.args.thread (option_map act_view c.enabled_act.result) c.enabled_act.ensures.enabled
