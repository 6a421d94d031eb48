-- Programs in which a rule is broken.
use Rattle.std.proofs.Common.{◌≡◌, ℕ, Bool, true, false, List, [], ◌∷◌, refl}
use Rattle.pat_semantics_spec.specs.Programs.{Program, is_free}
use Rattle.pat_semantics_spec.specs.WellFormed.{WellFormed}
use Rattle.pat_type_system_spec.specs.Typings.{IsTypable}
use Rattle.pat_infer_spec.specs.Constraints.{Finding}
use Rattle.pat_infer_spec.specs.Walk.{inferred}
use Rattle.pat_infer_spec.specs.Laws.{BrokenIsUntypable}
use Rattle.pat_examples.specs.inference.Programs.{uncovered, handed_back, freed_once, sent_to_itself, left_aside}
use Rattle.pat_examples.proofs.FitTests.{program_fits, well_formed}

-- whether something is found
abbrev is_cons : List Finding → Bool
is_cons [] = false
is_cons (x ∷ xs) = true

-- a well-formed program in which something is found is untypable
broken_by : BrokenIsUntypable → (p : Program) (xs : List Finding) → WellFormed p → (inferred p).findings ≡ xs → is_cons xs ≡ true → IsTypable p → ⊥
broken_by broken p [] wf e h = cc
broken_by broken p (x ∷ xs) wf e h = broken p x xs wf e

found_untypable : BrokenIsUntypable → (m : ℕ) (p : Program) → program_fits m p ≡ true → is_cons (inferred p).findings ≡ true → IsTypable p → ⊥
found_untypable broken m p fits found = broken_by broken p (inferred p).findings (well_formed m p fits) refl found

uncovered_fits : program_fits 2 uncovered ≡ true
unfolding is_free
uncovered_fits = refl

handed_fits : program_fits 3 handed_back ≡ true
unfolding is_free
handed_fits = refl

freed_fits : program_fits 1 freed_once ≡ true
unfolding is_free
freed_fits = refl

sent_fits : program_fits 1 sent_to_itself ≡ true
unfolding is_free
sent_fits = refl

aside_fits : program_fits 3 left_aside ≡ true
unfolding is_free
aside_fits = refl

pub uncovered_untypable : BrokenIsUntypable → IsTypable uncovered → ⊥
uncovered_untypable broken = found_untypable broken 2 uncovered uncovered_fits refl

pub handed_untypable : BrokenIsUntypable → IsTypable handed_back → ⊥
handed_untypable broken = found_untypable broken 3 handed_back handed_fits refl

pub freed_untypable : BrokenIsUntypable → IsTypable freed_once → ⊥
freed_untypable broken = found_untypable broken 1 freed_once freed_fits refl

pub sent_untypable : BrokenIsUntypable → IsTypable sent_to_itself → ⊥
sent_untypable broken = found_untypable broken 1 sent_to_itself sent_fits refl

pub aside_untypable : BrokenIsUntypable → IsTypable left_aside → ⊥
aside_untypable broken = found_untypable broken 3 left_aside aside_fits refl
