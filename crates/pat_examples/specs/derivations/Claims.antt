-- What is said of the examples.
use Rattle.std.specs.Prelude.{◌≡◌, ℕ, zero, suc, List, [], ◌∷◌, ◌++◌, map, Some, None}
use Rattle.pat_words_spec.specs.Words.{Word}
use Rattle.pat_words_spec.specs.Patterns.{Pat}
use Rattle.pat_inclusion_spec.specs.LinearSets.{LinearSet}
use Rattle.pat_inclusion_spec.specs.ClosedForms.{sets_of}
use Rattle.pat_inclusion_spec.specs.CutWords.{cuts_of}
use Rattle.pat_semantics_spec.specs.Programs.{Program}
use Rattle.pat_derivation_spec.specs.Derivations.{Derivation}
use Rattle.pat_derivation_spec.specs.Validity.{Rule, first_bad}

-- no rule is broken
abbrev pub Accepted : Program → Derivation → Type 0
Accepted p d = first_bad p d ≡ None

-- node n is the first bad one, and this is the first rule that it breaks
abbrev pub RejectedAt : Program → Derivation → ℕ → Rule → Type 0
RejectedAt p d n rule = first_bad p d ≡ Some (n, rule)

-- the counts of the first n tags
abbrev pub counts : ℕ → Word → List ℕ
counts zero w = []
counts (suc n) w = counts n w ++ w n ∷ []

-- the counts of a set's base and of its periods
abbrev pub set_counts : ℕ → LinearSet → List ℕ × List (List ℕ)
set_counts n s = (counts n s.base, map (counts n) s.periods)

-- the closed form of a pattern of n tags is this
abbrev pub HasForm : ℕ → Pat → List (List ℕ × List (List ℕ)) → Type 0
HasForm n e sets = map (set_counts n) (sets_of n e) ≡ sets

-- the words of a pattern of n tags, cut at k, are these
abbrev pub HasCuts : ℕ → ℕ → Pat → List (List ℕ) → Type 0
HasCuts k n e points = map (counts n) (cuts_of k n e) ≡ points
