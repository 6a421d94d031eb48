use Rattle.std.proofs.Common.{◌≡◌, ◌++◌, List, length, drop, map}
use Rattle.std.specs.Prelude.{Option}
use Rattle.std.specs.List.{list_all}
use Rattle.pat_core.specs.Views.{program_view}
use Rattle.pat_inclusion_spec.specs.Certificates.{Cert}
use Rattle.pat_reduce.specs.threads.ThreadViews.{message_view}
use Rattle.pat_checkpoint_spec.specs.text.Lines.{mailbox_lines}
use Rattle.pat_checkpoint_spec.specs.text.CheckpointText.{messages_text}
use Rattle.pat_checkpoint_print.specs.Ranges.{message_in_range}
use Rattle.pat_checkpoint_print.proofs.printing.put_messages.Given as goal

abbrev pub invariant-loop-message : goal.invariant-loop-message
invariant-loop-message l = record {
  text : (certs : List (Option Cert)) → length certs ≡ length l.live → l.out.items ++ messages_text (program_view l.program) (mailbox_lines l.live l.interfaces certs) (map message_view (drop l.message-index l.messages)) ≡ l.initial.out.items ++ messages_text (program_view l.program) (mailbox_lines l.live l.interfaces certs) (map message_view l.messages);
  range : list_all message_in_range (map message_view (drop l.message-index l.messages)) ≡ list_all message_in_range (map message_view l.messages);
}
