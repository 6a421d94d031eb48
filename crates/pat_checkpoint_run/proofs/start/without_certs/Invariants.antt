use Rattle.std.proofs.Common.{◌≡◌, map, take}
use Rattle.pat_reduce.specs.Views.{threads_view}
use Rattle.pat_checkpoint_spec.specs.Resumed.{no_certs}
use Rattle.pat_checkpoint_data.specs.Views.{part_certs_view}
use Rattle.pat_checkpoint_run.proofs.start.without_certs.Given as goal

-- there is one for each thread before this place
abbrev pub invariant-loop-thread : goal.invariant-loop-thread
invariant-loop-thread l = map part_certs_view l.certs ≡ map (λ e. no_certs) (threads_view (take l._thread-index l.threads))
