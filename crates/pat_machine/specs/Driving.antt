-- What a drive leaves: rounds of one job each, and receipts that are just the further entries, in order, each with its place.
use Rattle.std.specs.Prelude.{◌≡◌, ℕ, ◌+◌, List, [], ◌∷◌, ◌++◌, length, map, Some}
use Rattle.pat_machine_spec.specs.Lendings.{NoneOut}
use Rattle.pat_machine.specs.declared.job.Job.{Job}
use Rattle.pat_machine.specs.declared.job.Receipt.{Receipt}
use Rattle.pat_machine.specs.Shown.{Shown}
use Rattle.pat_machine.specs.Gives.{Rests, TakeGives, Committed, GivesBack, all_back}

-- the job whose turn it is leaves, and is committed
pub record IsRound (old : Shown) (worker : ℕ) (r : Receipt) (new : Shown) : Type 0 where
  pub job : Job
  pub lent : Shown
  pub taken : TakeGives old (Some job) lent
  pub committed : Committed lent worker job r new

-- a round for each receipt, one after another
abbrev pub Rounds : Shown → (worker : ℕ) → List Receipt → Shown → Type 0
Rounds old worker [] new = new ≡ old
Rounds old worker (r ∷ rs) new = (m : Shown) × IsRound old worker r m × Rounds m worker rs new

-- the receipts have the places from n on, and their entries name the worker
abbrev pub AreInOrder : (n worker : ℕ) → List Receipt → Type 0
AreInOrder n worker [] = Unit {0}
AreInOrder n worker (r ∷ rs) = (r.index ≡ Some n) × (r.entry.worker ≡ worker) × AreInOrder (n + 1) worker rs

-- the history goes on by just the entries of these receipts
pub record GoesOnBy (old : Shown) (worker : ℕ) (rs : List Receipt) (new : Shown) : Type 0 where
  pub named : new.named ≡ old.named
  pub history : new.history ≡ old.history ++ map (λ r. r.entry) rs
  pub places : AreInOrder (length old.history) worker rs

-- rounds followed since all jobs were taken back, and none is out
pub record GoesOn (old : Shown) (worker : ℕ) (rs : List Receipt) (new : Shown) : Type 0 where
  pub rounds : Rounds (all_back old) worker rs new
  pub goes_on : GoesOnBy old worker rs new
  pub none_out : NoneOut new.out

-- all jobs are back, rounds follow, and nothing can be taken any more
pub record IsDriven (old : Shown) (worker : ℕ) (rs : List Receipt) (new : Shown) : Type 0 where
  pub rounds : Rounds (all_back old) worker rs new
  pub goes_on : GoesOnBy old worker rs new
  pub none_out : NoneOut new.out
  pub rests : Rests new

-- memory ran out: all jobs are back, rounds follow, and a further job was taken and is back
pub record IsStopped (old : Shown) (worker : ℕ) (new : Shown) : Type 0 where
  pub receipts : List Receipt
  pub middle : Shown
  pub rounds : Rounds (all_back old) worker receipts middle
  pub goes_on : GoesOnBy old worker receipts new
  pub job : Job
  pub lent : Shown
  pub taken : TakeGives middle (Some job) lent
  pub back : GivesBack lent job new
