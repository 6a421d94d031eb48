use Rattle.std.proofs.Common.{sym, ◌∙◌}
use Rattle.std.specs.Prelude.{option_map}
use Rattle.pat_core.specs.Views.{program_view}
use Rattle.pat_reduce.specs.Views.{act_view}
use Rattle.pat_machine_states.proofs.Opened.{open_as_it_is, held_back}
use Rattle.pat_machine_states.proofs.state.IndexedConfig.open_act.Goals as goal

pub returns-then-is_held_back : goal.returns-then-is_held_back
returns-then-is_held_back c =
    let o = option_map act_view c.enabled_act-act.result in
    held_back (program_view c.args.code.now.program) c.args.self.now.config c.args.limit c.args.thread o c.enabled_act-act.ensures.enabled (sym c.is_held_back.ensures ∙ c.if-is_held_back.true)

pub returns-else-is_held_back : goal.returns-else-is_held_back
returns-else-is_held_back c =
    let o = option_map act_view c.enabled_act-act.result in
    open_as_it_is (program_view c.args.code.now.program) c.args.self.now.config c.args.limit c.args.thread o c.enabled_act-act.ensures.enabled c.enabled_act-act.ensures.least (sym c.is_held_back.ensures ∙ c.if-is_held_back.false)
