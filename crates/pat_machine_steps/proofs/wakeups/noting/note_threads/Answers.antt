use Rattle.std.proofs.Common.{sym, subst}
use Rattle.std.specs.Prelude.{option_copied, option_map}
use Rattle.pat_core.specs.Views.{program_view}
use Rattle.pat_reduce.specs.threads.ThreadViews.{message_view}
use Rattle.pat_machine_indexes.specs.ready_sets.Noted.{WereNoted}
use Rattle.pat_machine_steps.specs.shared_steps.Taking.{taken_act}
use Rattle.pat_machine_steps.proofs.wakeups.noting.note_threads.Goals as goal

pub follow-requires-clause-were : goal.follow-requires-clause-were
follow-requires-clause-were c =
    let p = program_view c.args.code.now.program in
    subst (λ a. WereNoted p c.args.waits.now c.args.thread a c.args.newcomer c.args.state.now.config c.args.named.now (option_map message_view (option_copied c.message_of.result))) (sym c.act_of.ensures)
    (subst (λ m. WereNoted p c.args.waits.now c.args.thread (taken_act c.args.taken.now) c.args.newcomer c.args.state.now.config c.args.named.now m) (sym c.message_of.ensures) c.requires.were)
