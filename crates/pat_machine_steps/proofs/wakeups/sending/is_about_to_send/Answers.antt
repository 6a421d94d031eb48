use Rattle.std.proofs.Common.{map, sym, ap, ◌∙◌}
use Rattle.pat_semantics_spec.specs.Steps.{redex}
use Rattle.pat_core.specs.Views.{program_view}
use Rattle.pat_reduce.specs.threads.ThreadViews.{control_view, frame_view}
use Rattle.pat_machine_steps.specs.shared_steps.Opening.{is_sending}
use Rattle.pat_machine_steps.proofs.Senders.{sends_at}
use Rattle.pat_machine_steps.proofs.wakeups.sending.is_about_to_send.Goals as goal

pub returns-then-matches : goal.returns-then-matches
returns-then-matches c sends =
    let p = program_view c.args.code.now.program in
    let s = c.args.state.now in
    sends_at p (redex p (control_view s.control)) (map frame_view s.frames) (ap is_sending (sym c.plain_act.ensures) ∙ sym c.is_sending.ensures ∙ sends)
