use Rattle.std.proofs.Common.{sym, subst}
use Rattle.pat_core.specs.Views.{program_view}
use Rattle.pat_machine_steps.specs.shared_steps.Leaving.{IsLeft}
use Rattle.pat_machine_states.specs.Taking.{taken_act, taken_message}
use Rattle.pat_machine_steps.proofs.Left.{left_in_place, told_in_place}
use Rattle.pat_machine_steps.proofs.shared_steps.sharing.share_in_place.Goals as goal

pub leave_thread-requires-clause-there : goal.leave_thread-requires-clause-there
leave_thread-requires-clause-there c = (c.requires.still.kept, c.requires.still.there)

pub take_open-requires-clause-live : goal.take_open-requires-clause-live
take_open-requires-clause-live c = c.requires.typed.typed.numbers.threads_live

pub take_open-requires-clause-alone : goal.take_open-requires-clause-alone
take_open-requires-clause-alone c = λ s at.
    told_in_place (program_view c.args.code.now.program) c.args.state.now.config c.leave_thread.new.names.times.items c.args.thread s c.requires.well c.requires.ordered at c.requires.typed (c.leave_thread.ensures.counted s at)

pub count_end-requires-clause-left : goal.count_end-requires-clause-left
count_end-requires-clause-left c =
    let q = c.requires.still in
    let act = taken_act c.take_open.new.taken in
    let message = taken_message c.take_open.new.taken in
    subst (λ k. IsLeft c.args.thread 0 k act message c.leave_thread.new.names.times.items c.take_open.new.self.config) (sym c.threads_made-newcomer.ensures)
    (left_in_place (program_view c.args.code.now.program) c.args.limit c.args.state.now.config c.take_open.new.self.config c.leave_thread.new.names.times.items c.args.thread q act message c.requires.ordered (c.leave_thread.ensures.counted q.kept q.there) c.in-Ok.ensures.ok c.in-Ok.ensures.message)

pub count_end-requires-clause-can : goal.count_end-requires-clause-can
count_end-requires-clause-can c = c.requires.after (taken_act c.take_open.new.taken) c.take_open.new.self.config c.in-Ok.ensures.ok
