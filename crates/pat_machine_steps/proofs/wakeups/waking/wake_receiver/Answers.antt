use Rattle.std.proofs.Common.{◌≡◌, Some, sym, ◌∙◌}
use Rattle.pat_core.specs.Views.{program_view}
use Rattle.pat_machine_indexes.specs.ready_sets.Noted.{IsReady}
use Rattle.pat_machine_indexes.proofs.Waking.{fewer_woken}
use Rattle.pat_machine_steps.specs.wakeups.Sleepers.{ReceivesAt}
use Rattle.pat_machine_steps.proofs.wakeups.waking.wake_receiver.Goals as goal

pub returns-in-Some : goal.returns-in-Some
returns-in-Some c =
    let p = program_view c.args.code.now.program in
    let d = c.args.state.now.config in
    let b = c.in-Some.mailbox in
    fewer_woken (ReceivesAt p d b) (IsReady p d) c.args.waits.now c.wake_to_receive.new.waits
    (λ a u (r : IsReady p d a u).
    let both : Some b ≡ Some r.message.mailbox = c.in-Some.ensures r.front r.message r.last r.next in
    let same : r.message.mailbox ≡ b = cc in
    (sym r.mailbox ∙ same, r))
    c.wake_to_receive.ensures
