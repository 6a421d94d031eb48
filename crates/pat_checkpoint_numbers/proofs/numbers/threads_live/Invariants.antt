use Rattle.std.proofs.Common.{◌≡◌, drop}
use Rattle.std.specs.List.{list_all}
use Rattle.pat_reduce.specs.Views.{threads_view}
use Rattle.pat_checkpoint_spec.specs.Numbers.{thread_lives}
use Rattle.pat_checkpoint_numbers.proofs.numbers.threads_live.Given as goal

-- what is left decides it
abbrev pub invariant-loop-state : goal.invariant-loop-state
invariant-loop-state l = list_all (λ e. thread_lives l.live e.1) (threads_view (drop l.state-index l.threads)) ≡ list_all (λ e. thread_lives l.live e.1) (threads_view l.threads)
