use Rattle.std.proofs.Common.{◌++◌, map, ap, sym, ◌∙◌}
use Rattle.pat_semantics_spec.specs.Programs.{option_list}
use Rattle.pat_core.specs.Views.{program_view}
use Rattle.pat_type_system_spec.specs.Interfaces.{made_by}
use Rattle.pat_reduce.specs.Views.{act_view, config_view}
use Rattle.pat_reduce.specs.threads.ThreadViews.{frame_view}
use Rattle.pat_checkpoint_run.proofs.ActsShared.{act_shared, thread_there}
use Rattle.pat_checkpoint_run.proofs.sharing.share.Goals as goal

pub returns-in-Ok : goal.returns-in-Ok
returns-in-Ok c =
    let p = program_view c.args.code.now.program in
    let a = act_view c.in-Some.act in
    let e = c.index.result.now in
    let there = thread_there _ c.args.config.now c.args.turn.thread c.args.turn.place e c.config.view_is c.requires.place c.index.ensures in
    act_shared p (config_view c.args.config.now) (config_view c.step_at_place.new.self) c.args.turn.thread c.args.made.now c.note_made.new.made a c.turn_laws.ensures.acts c.in-Some.ensures.first c.in-Ok.ensures
    (c.in_ok-note_made.ensures ∙ ap (λ o. c.args.made.now ++ option_list o) (c.made_by.ensures (map frame_view e.1.frames) ∙ ap (made_by p a) (sym there)))
