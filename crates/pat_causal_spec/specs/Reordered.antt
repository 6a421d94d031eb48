-- Histories that come of exchanging independent neighbours.
use Rattle.std.specs.Prelude.{◌≡◌, ℕ, zero, suc, List, [], ◌∷◌, IsTrue, IsFalse}
use Rattle.pat_semantics_spec.specs.Runs.{Entry}
use Rattle.pat_causal_spec.specs.Independent.{independent_at, is_out_of_order}
use Rattle.pat_limits.specs.Limits.{most_entries}

-- the list where the element at place i and the one behind it are exchanged
abbrev pub exchanged : {A : Type 0} → ℕ → List A → List A
exchanged zero (e ∷ f ∷ es) = f ∷ e ∷ es
exchanged (suc i) (e ∷ es) = e ∷ exchanged i es
exchanged i es = es

-- exchanges at these places, one after the other, each of entries that are independent at that moment, lead from es to fs
abbrev pub LeadsTo : List ℕ → List Entry → List Entry → Type 0
LeadsTo [] es fs = es ≡ fs
LeadsTo (i ∷ places) es fs = IsTrue (independent_at es i) × LeadsTo places (exchanged i es) fs

-- no neighbours are independent with the greater thread first
abbrev pub IsSettled : List Entry → Type 0
IsSettled fs = (i : ℕ) → IsFalse (is_out_of_order fs i)

-- the places lead from es to fs, and fs is settled
pub record IsReordered (es fs : List Entry) (places : List ℕ) : Type 0 where
  pub led : LeadsTo places es fs
  pub settled : IsSettled fs
