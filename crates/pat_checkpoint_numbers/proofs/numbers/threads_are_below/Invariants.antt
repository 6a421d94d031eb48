use Rattle.std.proofs.Common.{◌≡◌, drop}
use Rattle.std.specs.Prelude.{nat_lt}
use Rattle.std.specs.List.{list_all}
use Rattle.pat_reduce.specs.Views.{threads_view}
use Rattle.pat_checkpoint_numbers.proofs.numbers.threads_are_below.Given as goal

-- what is left decides it
abbrev pub invariant-loop-number : goal.invariant-loop-number
invariant-loop-number l = list_all (λ e. nat_lt e.0 l.next) (threads_view (drop l.number-index l.threads)) ≡ list_all (λ e. nat_lt e.0 l.next) (threads_view l.threads)
