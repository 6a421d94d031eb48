-- Marks at variables, part after part.
use Rattle.std.proofs.Common.{◌≡◌, ℕ, zero, suc, ◌<◌, ◌≤◌, Bool, true, false, ◌||◌, ⊎_elim, List, [], ◌∷◌, length, refl, sym, ap, ◌∙◌, subst, arith}
use Rattle.std.specs.Prelude.{nat_eq, get_or}
use Rattle.std.proofs.lemmas.Bool.{cases_Bool, eqb-true, eqb-false}
use Rattle.pat_words_spec.specs.Patterns.{Pat, Zero}
use Rattle.pat_solve_bounded.specs.Variables.{has_var, any_has}
use Rattle.pat_solve_elimination.specs.Needing.{is_marked, MarksMore, Marks, AreClosed}

-- each variable of the pattern from the place on is marked, or waits
abbrev pub Waits : List ℕ → ℕ → Pat → List Bool → List Pat → Type 0
Waits ks from p marks es =
    (i : ℕ) → from ≤ i → i < length ks → has_var (get_or ks i 0) p ≡ true → is_marked marks i ≡ false → any_has (get_or ks i 0) es ≡ true

abbrev pub SoMarked : List ℕ → ℕ → Pat → List Bool → List Bool → List Pat → Type 0
SoMarked ks from p old marks es = MarksMore from old marks × Waits ks from p marks es

pub same_marks : (from : ℕ) (marks : List Bool) → MarksMore from marks marks
same_marks from marks = record { many = refl; front = λ i h. refl; stay = λ i h. h }

pub begun : (ks : List ℕ) (from : ℕ) (p : Pat) (marks : List Bool) → SoMarked ks from p marks marks (p ∷ [])
begun ks from p marks = (same_marks from marks, λ i f h o n. own (has_var (get_or ks i 0) p) o)
  where
    own : (b : Bool) → b ≡ true → (b || false) ≡ true
    own true h = refl
    own false h = h

pub more_marks : (from : ℕ) (a b c : List Bool) → MarksMore from a b → MarksMore from b c → MarksMore from a c
more_marks from a b c first second =
    record {
      many = second.many ∙ first.many;
      front = λ i h. second.front i h ∙ first.front i h;
      stay = λ i h. second.stay i (first.stay i h);
    }

pub marked_on : (ks : List ℕ) (from : ℕ) (p : Pat) (old before after : List Bool) (es fs : List Pat) → SoMarked ks from p old before es → MarksMore from before after → ((i : ℕ) → from ≤ i → i < length ks → any_has (get_or ks i 0) es ≡ true → is_marked after i ≡ false → any_has (get_or ks i 0) fs ≡ true) → SoMarked ks from p old after fs
marked_on ks from p old before after es fs so more part = (
  more_marks from old before after so.0 more,
  λ i f h o n.
      ⊎_elim
      (λ (t : is_marked before i ≡ true). let stays = more.stay i t in absurd cc)
      (λ (m : is_marked before i ≡ false). part i f h (so.1 i f h o m) n)
      (cases_Bool (is_marked before i)),
)

pub none_waits : (ks : List ℕ) (from : ℕ) (p : Pat) (marks : List Bool) → Waits ks from p marks [] → Marks ks from p marks
none_waits ks from p marks so i f h o =
    ⊎_elim
    (λ (t : is_marked marks i ≡ true). t)
    (λ (m : is_marked marks i ≡ false). let clash = so i f h o m in absurd cc)
    (cases_Bool (is_marked marks i))

-- ---- place after place

-- those of the pattern are marked, and those of the marked values so far
abbrev pub SoNeeded : List ℕ → List Pat → Pat → ℕ → List Bool → Type 0
SoNeeded ks es f place marks = (length marks ≡ length ks) × Marks ks 0 f marks × AreClosed ks es place marks

pub needs_none : (ks : List ℕ) (es : List Pat) (f : Pat) (old marks : List Bool) → length old ≡ length ks → MarksMore 0 old marks → Marks ks 0 f marks → SoNeeded ks es f 0 marks
needs_none ks es f old marks many more own = (more.many ∙ many, own, λ i h. absurd (omega (arith, h)))

pub strictly : (a b : ℕ) → a ≤ b → (a ≡ b → ⊥) → a < b
strictly zero zero h other = absurd (other refl)
strictly zero (suc b) h other = omega arith
strictly (suc a) zero h other = absurd (omega (arith, h))
strictly (suc a) (suc b) h other = let r = strictly a b (omega (arith, h)) (λ e. other (ap suc e)) in omega (arith, r)

before_or : (i place : ℕ) → i < suc place → nat_eq i place ≡ false → i < place
before_or i place h o = strictly i place (omega (arith, h)) (eqb-false i place o)

pub not_needed : (ks : List ℕ) (es : List Pat) (f : Pat) (place : ℕ) (marks : List Bool) → SoNeeded ks es f place marks → is_marked marks place ≡ false → SoNeeded ks es f (suc place) marks
not_needed ks es f place marks so none = (
  so.0,
  so.1,
  λ i h m.
      ⊎_elim
      (λ (t : nat_eq i place ≡ true). let same : is_marked marks i ≡ false = subst (λ j. is_marked marks j ≡ false) (sym (eqb-true i place t)) none in absurd cc)
      (λ (o : nat_eq i place ≡ false). so.2 i (before_or i place h o) m)
      (cases_Bool (nat_eq i place)),
)

pub needed : (ks : List ℕ) (es : List Pat) (f : Pat) (place : ℕ) (old marks : List Bool) → SoNeeded ks es f place old → MarksMore (suc place) old marks → Marks ks (suc place) (get_or es place Zero) marks → SoNeeded ks es f (suc place) marks
needed ks es f place old marks so more own = (
  more.many ∙ so.0,
  λ i a h o. more.stay i (so.1 i a h o),
  λ i h m.
      ⊎_elim
      (λ (t : nat_eq i place ≡ true). subst (λ j. Marks ks (suc j) (get_or es j Zero) marks) (sym (eqb-true i place t)) own)
      (λ (o : nat_eq i place ≡ false).
      let before = before_or i place h o in
      let was : is_marked old i ≡ true = sym (more.front i (omega (arith, before))) ∙ m in
      λ j a b p. more.stay j (so.2 i before was j a b p))
      (cases_Bool (nat_eq i place)),
)
