use Rattle.std.proofs.Common.{◌≡◌, drop}
use Rattle.std.specs.Prelude.{nat_lt}
use Rattle.std.specs.List.{list_all}
use Rattle.pat_checkpoint_numbers.proofs.numbers.are_below.Given as goal

-- what is left decides it
abbrev pub invariant-loop-number : goal.invariant-loop-number
invariant-loop-number l = list_all (λ a. nat_lt a l.next) (drop l.number-index l.numbers) ≡ list_all (λ a. nat_lt a l.next) l.numbers
