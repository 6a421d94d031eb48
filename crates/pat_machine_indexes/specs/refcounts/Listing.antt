-- What a list of mailboxes is made longer by.
use Rattle.std.specs.Prelude.{ℕ, ◌<◌, List, IsTrue}
use Rattle.pat_semantics_spec.specs.Programs.{is_among}

-- what stood in the list still does, and so does each mailbox that is named
pub record Lists (old : List ℕ) (names : ℕ → ℕ) (new : List ℕ) : Type 0 where
  pub kept : (a : ℕ) → IsTrue (is_among a old) → IsTrue (is_among a new)
  pub named : (a : ℕ) → 0 < names a → IsTrue (is_among a new)
