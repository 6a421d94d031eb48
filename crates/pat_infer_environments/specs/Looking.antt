-- Where look-ups of names in ascending order go on.
use Rattle.std.specs.Prelude.{ℕ, ◌≤◌, ◌<◌, Bool, false, List, [], ◌∷◌, length, take, nat_lt}
use Rattle.std.specs.List.{AllByRecursion}
use Rattle.pat_types.specs.declared.types.MailboxType.{MailboxType}
use Rattle.pat_infer_environments.specs.declared.looking.Cursor.{Cursor}

-- the needs before the place are of lesser variables than the last
pub record IsAt (needs : List (ℕ × MailboxType)) (c : Cursor) : Type 0 where
  pub within : c.place ≤ length needs
  pub front : AllByRecursion (λ e. e.0 < c.last) (take c.place needs)

-- the same of each branch
abbrev pub AreAt : List (List (ℕ × MailboxType)) → List Cursor → Type 0
AreAt [] [] = Unit {0}
AreAt (needs ∷ branches) (c ∷ cursors) = IsAt needs c × AreAt branches cursors
AreAt _ _ = ⊥

-- whether the first of the needs is of a lesser variable
abbrev pub first_is_lesser : ℕ → List (ℕ × MailboxType) → Bool
first_is_lesser x [] = false
first_is_lesser x (e ∷ es) = nat_lt e.0 x
