use Rattle.pat_machine_laws.proofs.Changed.{appended_message, taken_message, appended_thread, taken_thread}
use Rattle.pat_machine_laws.proofs.refcounts.change_laws.Goals as goal

pub returns : goal.returns
returns c = record { appended_message = appended_message; taken_message = taken_message; appended_thread = appended_thread; taken_thread = taken_thread }
