use Rattle.std.proofs.Common.{◌≡◌, drop, map}
use Rattle.pat_reduce.specs.Views.{threads_view}
use Rattle.pat_checkpoint_spec.specs.Kinds.{threads_shown}
use Rattle.pat_checkpoint_data.specs.Views.{part_certs_view}
use Rattle.pat_checkpoint_parts.specs.Typed.{program_in, typing_in, scope_in}
use Rattle.pat_checkpoint_parts.proofs.showing.threads_shown.Given as goal

-- what is left of both decides it
abbrev pub invariant-loop-place : goal.invariant-loop-place
invariant-loop-place l = threads_shown (program_in l.typing) (typing_in l.typing) (scope_in l.typing) (threads_view (drop l.place l.threads)) (map part_certs_view (drop l.place l.certs)) ≡ threads_shown (program_in l.typing) (typing_in l.typing) (scope_in l.typing) (threads_view l.threads) (map part_certs_view l.certs)
