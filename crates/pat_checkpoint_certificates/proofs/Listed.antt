-- The bounds of grids, listed by interface.
use Rattle.std.proofs.Common.{◌≡◌, ℕ, zero, suc, ◌+◌, ◌<◌, ◌≤◌, Bool, true, false, ◌&&◌, List, [], ◌∷◌, ◌++◌, length, Option, Some, None, refl, sym, ap, ◌∙◌, subst, arith, ⊎_elim}
use Rattle.std.specs.Prelude.{nat_lt, if◌then◌else◌, slice_get, unwrap_or, IfSome, IfNone}
use Rattle.std.proofs.lemmas.Bool.{lt-ltb, ltb-true, cases_Bool, cases_lt}
use Rattle.pat_semantics_spec.specs.Programs.{Program}
use Rattle.pat_solve_spec.specs.Assignments.{is_in_bounds}
use Rattle.pat_solve_spec.specs.Answers.{IsInBounds, tags_of, constraints_of, grid_bound}
use Rattle.pat_checkpoint_certificates.specs.Bounds.{bound_in, listed_at, IsListed}

cond_on : (a b : Bool) (k : ℕ) → a ≡ true → b ≡ true → Some k ≡ (if a && b then Some k else None)
cond_on true true k p q = refl
cond_on true false k p q = cc
cond_on false b k p q = cc

cond_off : (a b : Bool) (k : ℕ) → b ≡ false → None ≡ (if a && b then Some k else None)
cond_off true true k q = cc
cond_off true false k q = refl
cond_off false b k q = refl

cond_out : (a b : Bool) (k : ℕ) → a ≡ false → None ≡ (if a && b then Some k else None)
cond_out true b k q = cc
cond_out false b k q = refl

-- what a search for the bound of one interface answers
pub bound_is : (p : Program) (i : ℕ) (o : Option ℕ) → i < length p.interfaces → IfSome o (λ k. IsInBounds p i × (k ≡ grid_bound p i)) → IfNone o (IsInBounds p i → ⊥) → o ≡ bound_in p i
bound_is p i (Some k) l some none =
    let same : Some k ≡ Some (grid_bound p i) = ap (λ (n : ℕ). Some n) some.1 in
    same ∙ cond_on (nat_lt i (length p.interfaces)) (is_in_bounds (tags_of p i) (constraints_of p i)) (grid_bound p i) (lt-ltb i (length p.interfaces) l) some.0
bound_is p i None l some none =
    ⊎_elim
    (λ on. absurd (none on))
    (λ off. cond_off (nat_lt i (length p.interfaces)) (is_in_bounds (tags_of p i) (constraints_of p i)) (grid_bound p i) off)
    (cases_Bool (is_in_bounds (tags_of p i) (constraints_of p i)))

get_before : {A : Type 0} (xs : List A) (x : A) (i : ℕ) → i < length xs → slice_get (xs ++ x ∷ []) i ≡ slice_get xs i
get_before [] x i l = absurd (omega arith)
get_before (z ∷ zs) x zero l = refl
get_before (z ∷ zs) x (suc i) l = get_before zs x i (omega arith)

get_last : {A : Type 0} (xs : List A) (x : A) → slice_get (xs ++ x ∷ []) (length xs) ≡ Some x
get_last [] x = refl
get_last (z ∷ zs) x = get_last zs x

get_past : {A : Type 0} (xs : List A) (i : ℕ) → length xs ≤ i → slice_get xs i ≡ None
get_past [] i l = refl
get_past (x ∷ xs) zero l = absurd (omega arith)
get_past (x ∷ xs) (suc i) l = get_past xs i (omega arith)

long_more : {A : Type 0} (xs : List A) (x : A) → length (xs ++ x ∷ []) ≡ length xs + 1
long_more [] x = refl
long_more (z ∷ zs) x = let r = long_more zs x in omega (arith, r)

same_at : (p : Program) (o : Option ℕ) (i n : ℕ) → o ≡ bound_in p n → i ≡ n → Some o ≡ Some (bound_in p i)
same_at p o i n is here = subst (λ j. Some o ≡ Some (bound_in p j)) (sym here) (ap (λ (x : Option ℕ). Some x) is)

pub none_listed : (p : Program) → IsListed p 0 []
none_listed p = record { long = refl; at = λ i l. absurd (omega (arith, l)) }

pub one_more : (p : Program) (n : ℕ) (bounds : List (Option ℕ)) (o : Option ℕ) → o ≡ bound_in p n → IsListed p n bounds → IsListed p (n + 1) (bounds ++ o ∷ [])
one_more p n bounds o is h =
    let long = h.long in
    let more = long_more bounds o in record {
      long = omega (arith, long, more);
      at = λ i l.
          ⊎_elim
          (λ before.
          let within : i < length bounds = omega (arith, before, long) in
          get_before bounds o i within ∙ h.at i before)
          (λ same.
          let here : i ≡ n = omega (arith, same, l) in
          let there : length bounds ≡ i = omega (arith, here, long) in
          subst (λ j. slice_get (bounds ++ o ∷ []) j ≡ Some o) there (get_last bounds o) ∙ same_at p o i n is here)
          (cases_lt i n);
    }

pub all_listed : (p : Program) (bounds : List (Option ℕ)) → IsListed p (length p.interfaces) bounds → (i : ℕ) → listed_at bounds i ≡ bound_in p i
all_listed p bounds h i =
    ⊎_elim
    (λ there. ap (λ o. unwrap_or o None) (h.at i there))
    (λ past.
    let long = h.long in
    let out : length bounds ≤ i = omega (arith, past, long) in
    let none : listed_at bounds i ≡ None = ap (λ o. unwrap_or o None) (get_past bounds i out) in
    let off : nat_lt i (length p.interfaces) ≡ false = not_below i (length p.interfaces) past in
    none ∙ cond_out (nat_lt i (length p.interfaces)) (is_in_bounds (tags_of p i) (constraints_of p i)) (grid_bound p i) off)
    (cases_lt i (length p.interfaces))
  where
    not_below : (i n : ℕ) → n ≤ i → nat_lt i n ≡ false
    not_below i n l = ⊎_elim (λ on. let m = ltb-true i n on in absurd (omega (arith, m, l))) (λ off. off) (cases_Bool (nat_lt i n))
