-- Places of numbers in a list.
use Rattle.std.proofs.Common.{◌≡◌, ℕ, zero, suc, ◌<◌, ◌⊎◌, inl, inr, ⊎_elim, Bool, true, false, ◌||◌, List, [], ◌∷◌, length, refl, sym, ap, ◌∙◌, subst, arith}
use Rattle.std.specs.Prelude.{nat_eq, get_or, if◌then◌else◌}
use Rattle.std.proofs.lemmas.Bool.{cases_Bool, cond-true, cond-false, eqb-true, eq-eqb}
use Rattle.pat_semantics_spec.specs.Programs.{is_among}
use Rattle.pat_solve_bounded.specs.replacing.Ascending.{IsAscending}
use Rattle.pat_solve_bounds.specs.renumbered.Renaming.{place_in}

pub rest_ascends : (k : ℕ) (ks : List ℕ) → IsAscending (k ∷ ks) → IsAscending ks
rest_ascends k ks up i j h n = up (suc i) (suc j) (omega arith) (omega arith)

pub other_key : (j k : ℕ) → (j ≡ k → ⊥) → nat_eq j k ≡ false
other_key j k h = ⊎_elim (λ t. absurd (h (eqb-true j k t))) (λ f. f) (cases_Bool (nat_eq j k))

both : (b : Bool) → b ≡ true → b ≡ false → ⊥
both b t f = let e : true ≡ false = sym t ∙ f in cc

second : (a b : Bool) → a ≡ false → (a || b) ≡ true → b ≡ true
second true b f h = cc
second false b f h = h

here : (j k : ℕ) (ks : List ℕ) → j ≡ k → place_in (j ∷ ks) k ≡ 0
here j k ks e = cond-true (nat_eq j k) 0 (suc (place_in ks k)) (eq-eqb j k e)

later : (j k : ℕ) (ks : List ℕ) → (j ≡ k → ⊥) → place_in (j ∷ ks) k ≡ suc (place_in ks k)
later j k ks d = cond-false (nat_eq j k) 0 (suc (place_in ks k)) (other_key j k d)

-- of ascending numbers each is found at its place
pub place_found : (ks : List ℕ) (i k : ℕ) → IsAscending ks → i < length ks → get_or ks i 0 ≡ k → i ≡ place_in ks k
place_found [] i k up l e = absurd (omega arith)
place_found (j ∷ ks) zero k up l e = sym (here j k ks e)
place_found (j ∷ ks) (suc i) k up l e =
    let above : j < get_or ks i 0 = up 0 (suc i) (omega arith) l in
    ap suc (place_found ks i k (rest_ascends j ks up) (omega arith) e)
    ∙ sym (later j k ks (λ same. omega (arith, above, e, same)))

pub place_missing : (ks : List ℕ) (k : ℕ) → ((i : ℕ) → i < length ks → get_or ks i 0 ≡ k → ⊥) → length ks ≡ place_in ks k
place_missing [] k none = refl
place_missing (j ∷ ks) k none =
    ap suc (place_missing ks k (λ i l e. none (suc i) (omega arith) e))
    ∙ sym (later j k ks (λ same. none 0 (omega arith) same))

-- at its place is the number
pub at_place : (ks : List ℕ) (k : ℕ) → is_among k ks ≡ true → (get_or ks (place_in ks k) 0 ≡ k) × (place_in ks k < length ks)
at_place [] k h = cc
at_place (j ∷ ks) k h =
    ⊎_elim
    (λ t.
    let same : j ≡ k = sym (eqb-true k j t) in
    let p = here j k ks same in
    (ap (λ i. get_or (j ∷ ks) i 0) p ∙ same, omega arith))
    (λ d.
    let p = later j k ks d.0 in
    let q = at_place ks k d.1 in
    let inside = q.1 in
    (ap (λ i. get_or (j ∷ ks) i 0) p ∙ q.0, omega arith))
    (split j k ks h)
  where
    split : (a b : ℕ) (xs : List ℕ) → is_among b (a ∷ xs) ≡ true → (nat_eq b a ≡ true) ⊎ ((a ≡ b → ⊥) × (is_among b xs ≡ true))
    split a b xs m =
        ⊎_elim (λ t. inl t)
        (λ f. inr ((λ e. both (nat_eq b a) (eq-eqb b a (sym e)) f), second (nat_eq b a) (is_among b xs) f m))
        (cases_Bool (nat_eq b a))

-- so variables of the list with the same place are the same
pub same_place : (ks : List ℕ) (j k : ℕ) → is_among j ks ≡ true → is_among k ks ≡ true → place_in ks j ≡ place_in ks k → j ≡ k
same_place ks j k a b e = sym (at_place ks j a).0 ∙ ap (λ i. get_or ks i 0) e ∙ (at_place ks k b).0

-- what isn't in the list stands at no place of it
pub out_of : (k : ℕ) (js : List ℕ) → is_among k js ≡ false → (i : ℕ) → i < length js → get_or js i 0 ≡ k → ⊥
out_of k [] h i l e = absurd (omega arith)
out_of k (j ∷ js) h zero l e = first (nat_eq k j) (is_among k js) (eq-eqb k j (sym e)) h
  where
    first : (a b : Bool) → a ≡ true → (a || b) ≡ false → ⊥
    first true b t f = cc
    first false b t f = cc
out_of k (j ∷ js) h (suc i) l e = out_of k js (rest (nat_eq k j) (is_among k js) h) i (omega arith) e
  where
    rest : (a b : Bool) → (a || b) ≡ false → b ≡ false
    rest true b f = cc
    rest false b f = f
