-- Kinds by number.
use Rattle.std.specs.Prelude.{◌≡◌, ℕ, ◌+◌, List, Some, slice_get}
use Rattle.pat_semantics_spec.specs.Values.{Kind}

-- the kinds of the variables from number v on begin with these
abbrev pub HasAt : List Kind → ℕ → List Kind → Type 0
HasAt vars v ks = (i : ℕ) (k : Kind) → slice_get ks i ≡ Some k → slice_get vars (v + i) ≡ Some k
