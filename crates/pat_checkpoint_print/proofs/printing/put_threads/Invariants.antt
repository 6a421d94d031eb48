use Rattle.std.proofs.Common.{◌≡◌, ◌++◌, drop, map}
use Rattle.std.specs.List.{list_all}
use Rattle.pat_reduce.specs.Views.{threads_view}
use Rattle.pat_checkpoint_data.specs.Views.{part_certs_view}
use Rattle.pat_checkpoint_spec.specs.Checkpoints.{PartsAlign}
use Rattle.pat_checkpoint_spec.specs.text.Lines.{thread_lines}
use Rattle.pat_checkpoint_spec.specs.text.CheckpointText.{threads_text}
use Rattle.pat_checkpoint_laws.specs.text.Readable.{are_certs}
use Rattle.pat_checkpoint_print.specs.Ranges.{thread_in_range}
use Rattle.pat_checkpoint_print.proofs.printing.put_threads.Given as goal

abbrev pub invariant-loop-place : goal.invariant-loop-place
invariant-loop-place l = record {
  text : l.out.items ++ threads_text (thread_lines (threads_view (drop l.place l.threads)) (map part_certs_view (drop l.place l.certs))) ≡ l.initial.out.items ++ threads_text (thread_lines (threads_view l.threads) (map part_certs_view l.certs));
  aligned : PartsAlign (threads_view (drop l.place l.threads)) (map part_certs_view (drop l.place l.certs));
  threads : list_all thread_in_range (threads_view (drop l.place l.threads)) ≡ list_all thread_in_range (threads_view l.threads);
  certs : list_all are_certs (map part_certs_view (drop l.place l.certs)) ≡ list_all are_certs (map part_certs_view l.certs);
}
