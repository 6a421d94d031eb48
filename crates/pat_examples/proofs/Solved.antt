-- Programs are typable by tests that compute: they are well formed, no rule is broken, and patterns solve their constraints.
use Rattle.std.proofs.Common.{nat_eq, if◌then◌else◌, ◌≡◌, ℕ, suc, Bool, true, ◌&&◌, List, [], ◌∷◌, refl}
use Rattle.std.proofs.lemmas.Bool.{and_parts}
use Rattle.pat_words_spec.specs.Patterns.{Pat, One, Tag, Star, is_inhabited}
use Rattle.pat_words_laws.proofs.PatternLaws.{inhabited_to}
use Rattle.pat_semantics_spec.specs.Programs.{Polarity, Sending, Receiving, Program, is_free}
use Rattle.pat_type_system_spec.specs.Typings.{IsTypable, HasWord}
use Rattle.pat_inclusion_spec.specs.Values.{replaced}
use Rattle.pat_type_schemes_spec.specs.Signatures.{Variable, signature_vars}
use Rattle.pat_infer_spec.specs.Constraints.{Constraint}
use Rattle.pat_infer_spec.specs.Walk.{inferred}
use Rattle.pat_infer_spec.specs.Solutions.{MeetsUnder, SendersHaveWords, typing_found}
use Rattle.pat_infer_spec.specs.Laws.{SolutionTypes}
use Rattle.pat_inclusion_laws.proofs.Replaced.{values_of}
use Rattle.pat_infer_laws.proofs.Gathering.{all_map}
use Rattle.pat_infer_laws.proofs.BothLaws.{Holds}
use Rattle.pat_infer_laws.proofs.Lossless.{holds_meets}
use Rattle.pat_examples.specs.safety.Safe.{one_message}
use Rattle.pat_examples.specs.inference.Programs.{spawned_on, asked_by_nobody}
use Rattle.pat_examples.proofs.Tests.{all_of, all_true}
use Rattle.pat_examples.proofs.Inclusion.{includes, includes_to}
use Rattle.pat_examples.proofs.FitTests.{program_fits, well_formed}

-- the constraint holds by the test, which looks so deep, where tags are below a number
abbrev pub meets : (depth tags : ℕ) → (ℕ → Pat) → Constraint → Bool
meets depth tags s c = includes depth tags (replaced s c.left) (replaced s c.right)

-- the pattern of a sending variable has a word
abbrev pub has_word : Polarity → Pat → Bool
has_word Sending e = is_inhabited e
has_word Receiving e = true

-- the sending variables have words
abbrev pub senders : (ℕ → Pat) → ℕ → List Variable → Bool
senders s k [] = true
senders s k (v ∷ vs) = has_word v.polarity (s k) && senders s (suc k) vs

word_of : (q : Polarity) (e : Pat) → has_word q e ≡ true → HasWord q e
word_of Sending e h = inhabited_to e h
word_of Receiving e h = tt

senders_have : (s : ℕ → Pat) (k : ℕ) (vs : List Variable) → senders s k vs ≡ true → SendersHaveWords s k vs
senders_have s k [] h = tt
senders_have s k (v ∷ vs) h =
    let q = and_parts (has_word v.polarity (s k)) (senders s (suc k) vs) h in
    (word_of v.polarity (s k) q.0, senders_have s (suc k) vs q.1)

solved_typable : SolutionTypes → (depth tags m : ℕ) (p : Program) (s : ℕ → Pat) → program_fits m p ≡ true → (inferred p).findings ≡ [] → all_of (meets depth tags s) (inferred p).constraints ≡ true → senders s 1 (signature_vars p) ≡ true → IsTypable p
solved_typable types depth tags m p s fits clean met words = (
  typing_found p s,
  types p s (well_formed m p fits) clean
      (all_map (Holds s) (MeetsUnder (values_of s)) (holds_meets s) (inferred p).constraints
      (all_true (meets depth tags s) (Holds s) (λ c. includes_to depth tags (replaced s c.left) (replaced s c.right)) (inferred p).constraints met))
      (senders_have s 1 (signature_vars p) words),
)

-- each variable is this pattern
abbrev all_by : Pat → ℕ → Pat
all_by e k = e

one_fits : program_fits 2 one_message ≡ true
unfolding is_free
one_fits = refl

pub one_typable : SolutionTypes → IsTypable one_message
one_typable types = solved_typable types 3 1 2 one_message (all_by One) one_fits refl refl refl

spawned_fits : program_fits 3 spawned_on ≡ true
unfolding is_free
spawned_fits = refl

pub spawned_typable : SolutionTypes → IsTypable spawned_on
spawned_typable types = solved_typable types 3 1 3 spawned_on (all_by (Tag 0)) spawned_fits refl refl refl

-- the receiving parameter is `*k`, and the result and what the let needs are 1
nobody_values : ℕ → Pat
nobody_values k = if nat_eq k 2 then Star (Tag 0) else One

nobody_fits : program_fits 2 asked_by_nobody ≡ true
unfolding is_free
nobody_fits = refl

pub nobody_typable : SolutionTypes → IsTypable asked_by_nobody
unfolding nobody_values
nobody_typable types = solved_typable types 3 1 2 asked_by_nobody nobody_values nobody_fits refl refl refl
