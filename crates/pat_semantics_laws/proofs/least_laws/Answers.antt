use Rattle.pat_semantics_laws.proofs.Leasts.{thread_is_found, message_is_found, first_thread, first_message, first_receive}
use Rattle.pat_semantics_laws.proofs.least_laws.Goals as goal

pub returns : goal.returns
returns c = record {
  thread = thread_is_found;
  message = message_is_found;
  first_thread = first_thread;
  first_message = first_message;
  first_receive = first_receive;
}
