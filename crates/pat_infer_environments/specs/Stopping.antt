-- Where a need is put among others.
use Rattle.std.specs.Prelude.{ℕ, ◌≤◌, Bool, false, List, [], ◌∷◌, nat_eq}
use Rattle.pat_types.specs.declared.types.MailboxType.{MailboxType}

-- the first of the needs, if there is one, is not of a lesser variable
abbrev pub StopsAt : ℕ → List (ℕ × MailboxType) → Type 0
StopsAt x [] = Unit {0}
StopsAt x (e ∷ es) = x ≤ e.0

-- whether the first of the needs is of the variable
abbrev pub first_is : ℕ → List (ℕ × MailboxType) → Bool
first_is x [] = false
first_is x (e ∷ es) = nat_eq x e.0
