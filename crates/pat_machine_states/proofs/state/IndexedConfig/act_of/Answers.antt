use Rattle.std.proofs.Common.{◌≡◌, Some, map, sym, ap, ◌∙◌}
use Rattle.std.specs.Prelude.{option_map}
use Rattle.pat_semantics_spec.specs.Steps.{redex}
use Rattle.pat_core.specs.Views.{program_view}
use Rattle.pat_reduce.specs.threads.ThreadViews.{control_view, frame_view, thread_view}
use Rattle.pat_reduce.specs.threads.GuardViews.{guard_view}
use Rattle.pat_reduce.specs.threads.ThreadActs.{guard_at}
use Rattle.pat_reduce.specs.Acts.{act_at, plain_act}
use Rattle.pat_machine_states.proofs.Reaching.{tells_guard}
use Rattle.pat_machine_states.proofs.state.IndexedConfig.act_of.Goals as goal

pub returns-in-Some : goal.returns-in-Some
returns-in-Some c t tells =
    let p = program_view c.args.code.now.program in
    let r = redex p (control_view c.args.state.now.control) in
    let g = guard_view c.in-Some.guard in
    let at : guard_at r ≡ Some g = sym c.guard_of.ensures ∙ ap (option_map guard_view) c.in-Some.is in
    c.guard_act.ensures t (tells_guard p c.args.self.now.config t (thread_view c.args.state.now) c.args.counted g at tells)
    ∙ sym (ap (λ o. act_at c.args.self.now.config t o (plain_act p r (map frame_view c.args.state.now.frames))) at)
