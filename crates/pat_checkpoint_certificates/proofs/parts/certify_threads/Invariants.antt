use Rattle.std.proofs.Common.{◌≡◌, ◌+◌, length, take}
use Rattle.pat_reduce.specs.Views.{threads_view}
use Rattle.pat_checkpoint_spec.specs.Written.{threads_need}
use Rattle.pat_checkpoint_certificates.specs.Searches.{program_in, typing_in}
use Rattle.pat_checkpoint_certificates.specs.Parts.{ThreadsFound}
use Rattle.pat_checkpoint_certificates.proofs.parts.certify_threads.Given as goal

abbrev pub invariant-loop-thread : goal.invariant-loop-thread
invariant-loop-thread l = record {
  found : ThreadsFound l.search (threads_view (take l.thread-index l.threads)) l.certs;
  line : l.line ≡ l.first + length (threads_need (program_in l.search) (typing_in l.search) (threads_view (take l.thread-index l.threads)));
}
