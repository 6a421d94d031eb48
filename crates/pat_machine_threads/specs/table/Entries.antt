-- What stands in slots, with the numbers of its places.
use Rattle.std.specs.Prelude.{ℕ, suc, List, [], ◌∷◌, Option, Some, None}
use Rattle.pat_reduce.specs.declared.threads.state.ThreadState.{ThreadState}

-- the threads that are there, in ascending order of number, how many were made, and for how many further ones there is room
pub record Threads : Type 0 where
  pub entries : List (ℕ × ThreadState)
  pub made : ℕ
  pub spare : ℕ

-- what is there, with its number, where the first slot has the number n
abbrev pub entries_from : {A : Type 0} → ℕ → List (Option A) → List (ℕ × A)
entries_from n [] = []
entries_from n (Some x ∷ slots) = (n, x) ∷ entries_from (suc n) slots
entries_from n (None ∷ slots) = entries_from (suc n) slots
