use Rattle.std.proofs.Common.{◌≡◌, ◌++◌, drop, map}
use Rattle.std.specs.List.{list_all}
use Rattle.pat_core.specs.Views.{program_view}
use Rattle.pat_texts_spec.specs.Numbers.{is_number}
use Rattle.pat_checkpoint_data.specs.Views.{end_view}
use Rattle.pat_checkpoint_spec.specs.text.Lines.{mailbox_lines}
use Rattle.pat_checkpoint_spec.specs.text.CheckpointText.{mailboxes_text}
use Rattle.pat_checkpoint_laws.specs.text.Readable.{is_cert}
use Rattle.pat_checkpoint_print.proofs.printing.put_mailboxes.Given as goal

abbrev pub invariant-loop-place : goal.invariant-loop-place
invariant-loop-place l = record {
  text : l.out.items ++ mailboxes_text (program_view l.program) (mailbox_lines (drop l.place l.live) (drop l.place l.interfaces) (map end_view (drop l.place l.certs))) ≡ l.initial.out.items ++ mailboxes_text (program_view l.program) (mailbox_lines l.live l.interfaces (map end_view l.certs));
  live : list_all is_number (drop l.place l.live) ≡ list_all is_number l.live;
  certs : list_all is_cert (map end_view (drop l.place l.certs)) ≡ list_all is_cert (map end_view l.certs);
}
