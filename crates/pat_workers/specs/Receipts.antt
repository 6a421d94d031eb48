-- Receipts, and the entries of a history that they stand for.
use Rattle.std.specs.Prelude.{◌≡◌, ℕ, ◌+◌, ◌==◌, if◌then◌else◌, List, [], ◌∷◌, ◌++◌, Option, Some, None, slice_get}
use Rattle.std.specs.List.{All}
use Rattle.pat_reduce.specs.declared.history.Entry.{Entry}
use Rattle.pat_machine.specs.declared.job.Receipt.{Receipt}

-- the entries that name the worker, each with its place, where the first of the list has the place k
abbrev pub placed_from : (k worker : ℕ) → List Entry → List (ℕ × Entry)
placed_from k worker [] = []
placed_from k worker (e ∷ es) = if e.worker == worker then (k, e) ∷ placed_from (k + 1) worker es else placed_from (k + 1) worker es

-- the worker's entries in the history, each with its place
abbrev pub placed : (worker : ℕ) → List Entry → List (ℕ × Entry)
placed worker es = placed_from 0 worker es

abbrev pub told_by : Option ℕ → Entry → List (ℕ × Entry)
told_by None e = []
told_by (Some k) e = (k, e) ∷ []

-- the place and the entry of each receipt that has a place
abbrev pub told : List Receipt → List (ℕ × Entry)
told [] = []
told (r ∷ rs) = told_by r.index r.entry ++ told rs

-- the receipts are the worker's: those with a place tell of just its entries in the history, in order, and the others name it too
pub record AreReceiptsOf (worker : ℕ) (history : List Entry) (rs : List Receipt) : Type 0 where
  pub entries : told rs ≡ placed worker history
  pub worker_is : All (λ (r : Receipt). r.entry.worker ≡ worker) rs

-- each receipt with a place has its entry there
abbrev pub StandIn : List Entry → List Receipt → Type 0
StandIn history rs = All (λ (r : Receipt). (k : ℕ) → r.index ≡ Some k → slice_get history k ≡ Some r.entry) rs

abbrev pub one_at : ℕ → Option ℕ → ℕ
one_at k None = 0
one_at k (Some i) = if i == k then 1 else 0

-- how many of the receipts have the place k
abbrev pub receipts_at : ℕ → List Receipt → ℕ
receipts_at k [] = 0
receipts_at k (r ∷ rs) = one_at k r.index + receipts_at k rs
