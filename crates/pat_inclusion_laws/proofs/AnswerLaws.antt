-- Answers of a search exclude one another; which variables have a derivable word.
use Rattle.std.proofs.Common.{◌≡◌, ℕ, Bool, true, ◌↔◌, ⊎_elim, refl, arith}
use Rattle.std.proofs.lemmas.Bool.{and_parts, and_from, or_cases, or_left, or_right}
use Rattle.pat_words_spec.specs.Words.{Word, no_word, one, plus}
use Rattle.pat_words_spec.specs.Patterns.{Pat, Zero, One, Tag, Sum, Prod, Star, Var, InUnder}
use Rattle.pat_inclusion_spec.specs.Under.{inhabited_under}
use Rattle.pat_inclusion_spec.specs.bounds.Trees.{Bound, EmptyTree, TagTree, LeftTree, RightTree, BothTree, StarEndTree, Derivable, derivable}
use Rattle.pat_inclusion_spec.specs.bounds.Searches.{IsInside, IsFound, IsLarge, Search, InsideAnswer, FoundAnswer, LargeAnswer, IsAnswer, says_inside, says_large}
use Rattle.pat_inclusion_laws.proofs.TreeLaws.{shown_under}

-- ---- answers

inside_not_large : (limit : ℕ) (lower : ℕ → Pat) (left right : Pat) → IsInside lower left right → IsLarge limit lower left right → ⊥
inside_not_large limit lower left right all large =
    let r = large.0 in
    let h = r.2 in
    h.1 (all r.0 (r.1, h.0))

found_not_inside : (limit : ℕ) (lower : ℕ → Pat) (left right : Pat) (w : Word) (b : Bound) → IsFound limit lower left right w b → IsInside lower left right → ⊥
found_not_inside limit lower left right w b found all = let h = found.0 in h.1 (all w (b, h.0))

found_not_large : (limit : ℕ) (lower : ℕ → Pat) (left right : Pat) (w : Word) (b : Bound) → IsFound limit lower left right w b → IsLarge limit lower left right → ⊥
found_not_large limit lower left right w b found large =
    let more = large.1 w b found.0 in
    let size = found.1 in
    omega arith

pub answers_exact : (limit : ℕ) (lower : ℕ → Pat) (left right : Pat) (a : Search) → IsAnswer limit lower left right a → (IsInside lower left right ↔ (says_inside a ≡ true)) × (IsLarge limit lower left right ↔ (says_large a ≡ true))
answers_exact limit lower left right InsideAnswer h =
    ((λ _. refl, λ _. h), (λ l. absurd (inside_not_large limit lower left right h l), λ e. cc))
answers_exact limit lower left right (FoundAnswer w b) h = (
  (λ i. absurd (found_not_inside limit lower left right w b h i), λ e. cc),
  (λ l. absurd (found_not_large limit lower left right w b h l), λ e. cc),
)
answers_exact limit lower left right LargeAnswer h =
    ((λ i. absurd (inside_not_large limit lower left right i h), λ e. cc), (λ _. refl, λ _. h))

-- ---- usable variables

pub usable_patterns : (lower : ℕ → Pat) (tests : ℕ → Bool) → ((k : ℕ) → tests k ≡ true → (w : Word) × derivable lower k w) → (e : Pat) → inhabited_under tests e ≡ true → (w : Word) × Derivable lower e w
usable_patterns lower tests sound Zero h = cc
usable_patterns lower tests sound One h = (no_word, (EmptyTree, refl))
usable_patterns lower tests sound (Tag m) h = (one m, (TagTree, refl))
usable_patterns lower tests sound (Sum e f) h =
    ⊎_elim
    (λ a. let r = usable_patterns lower tests sound e a in let d = r.1 in (r.0, (LeftTree d.0, d.1)))
    (λ b. let r = usable_patterns lower tests sound f b in let d = r.1 in (r.0, (RightTree d.0, d.1)))
    (or_cases (inhabited_under tests e) (inhabited_under tests f) h)
usable_patterns lower tests sound (Prod e f) h =
    let both = and_parts (inhabited_under tests e) (inhabited_under tests f) h in
    let p = usable_patterns lower tests sound e both.0 in
    let q = usable_patterns lower tests sound f both.1 in
    let a = p.1 in
    let b = q.1 in
    (plus p.0 q.0, (BothTree a.0 b.0, (p.0, q.0, a.1, b.1, refl)))
usable_patterns lower tests sound (Star e) h = (no_word, (StarEndTree, refl))
usable_patterns lower tests sound (Var k) h = sound k h

inhabited_by : (tests : ℕ → Bool) (e : Pat) (w : Word) → InUnder (λ k _. tests k ≡ true) e w → inhabited_under tests e ≡ true
inhabited_by tests Zero w h = absurd h
inhabited_by tests One w h = refl
inhabited_by tests (Tag m) w h = refl
inhabited_by tests (Sum e f) w h =
    ⊎_elim
    (λ a. or_left (inhabited_under tests e) (inhabited_under tests f) (inhabited_by tests e w a))
    (λ b. or_right (inhabited_under tests e) (inhabited_under tests f) (inhabited_by tests f w b))
    h
inhabited_by tests (Prod e f) w h =
    and_from (inhabited_under tests e) (inhabited_under tests f) (inhabited_by tests e h.0 h.2) (inhabited_by tests f h.1 h.3)
inhabited_by tests (Star e) w h = refl
inhabited_by tests (Var k) w h = h

pub usable_exact : (lower : ℕ → Pat) (tests : ℕ → Bool) → ((k : ℕ) → inhabited_under tests (lower k) ≡ true → tests k ≡ true) → (k : ℕ) → ((w : Word) × derivable lower k w) → tests k ≡ true
usable_exact lower tests closed k h =
    let d = h.1 in
    shown_under lower (λ j _. tests j ≡ true) (λ j w i. closed j (inhabited_by tests (lower j) w i)) d.0 (Var k) h.0 d.1
