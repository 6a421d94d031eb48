-- The values of an interface's variables, put in their places among those of all variables.
use Rattle.std.proofs.Common.{◌≡◌, ℕ, zero, suc, ◌+◌, ◌-◌, ◌<◌, ◌≤◌, Bool, true, false, nat_eq, if◌then◌else◌, List, [], ◌∷◌, length, map, Option, Some, slice_get, slice_set, refl, sym, ap, ◌∙◌, subst, arith}
use Rattle.std.proofs.lemmas.Option.{none-some, same_Some}
use Rattle.std.proofs.lemmas.Bool.{eq-eqb, ne_eqb}
use Rattle.pat_semantics_spec.specs.Programs.{Program}
use Rattle.pat_inclusion_spec.specs.Values.{VarValue, VarLine}
use Rattle.pat_type_schemes_spec.specs.Signatures.{Variable}
use Rattle.pat_solve_spec.specs.Assignments.{vars_in}
use Rattle.pat_solve_spec.specs.Derived.{Form}
use Rattle.pat_solve_spec.specs.Answers.{value_by, values_from}
use Rattle.pat_solve.specs.Steps.{put_lines}

-- ---- a place that is set

set_there : {A : Type 0} (xs : List A) (i : ℕ) (y : A) → i < length xs → slice_get (slice_set xs i y) i ≡ Some y
set_there [] i y h = absurd (omega (arith, h))
set_there (x ∷ xs) zero y h = refl
set_there (x ∷ xs) (suc i) y h = set_there xs i y (omega (arith, h))

set_away : {A : Type 0} (xs : List A) (i j : ℕ) (y : A) → (i ≡ j → ⊥) → slice_get (slice_set xs i y) j ≡ slice_get xs j
set_away [] i j y h = refl
set_away (x ∷ xs) zero zero y h = absurd (h refl)
set_away (x ∷ xs) zero (suc j) y h = refl
set_away (x ∷ xs) (suc i) zero y h = refl
set_away (x ∷ xs) (suc i) (suc j) y h = set_away xs i j y (λ e. h (ap suc e))

set_long : {A : Type 0} (xs : List A) (i : ℕ) (y : A) → length (slice_set xs i y) ≡ length xs
set_long [] i y = refl
set_long (x ∷ xs) zero y = refl
set_long (x ∷ xs) (suc i) y = let more = set_long xs i y in omega (arith, more)

-- ---- the places of an interface's variables

module _ (i : ℕ) (f : ℕ → VarValue) where
  abbrev put : List ℕ → List VarLine → List VarLine
  put ks lines = put_lines i ks (map f ks) lines

  pub put_long : (ks : List ℕ) (lines : List VarLine) → length (put ks lines) ≡ length lines
  put_long [] lines = refl
  put_long (k ∷ ks) lines = set_long (put ks lines) (k - 1) (record { interface = i; value = f k }) ∙ put_long ks lines

  -- a variable more, if it is one of the interface, is at another place
  past_one : (b : Bool) (n : ℕ) (ks : List ℕ) (lines : List VarLine) (j : ℕ) (o : Option VarLine) → (n ≡ j → ⊥) → slice_get (put ks lines) j ≡ o → slice_get (put (if b then suc n ∷ ks else ks) lines) j ≡ o
  past_one false n ks lines j o other h = h
  past_one true n ks lines j o other h =
      set_away (put ks lines) (suc n - 1) j (record { interface = i; value = f (suc n) }) (λ e. other (omega (arith, e))) ∙ h

  -- or it is at this place
  here_one : (b : Bool) (n : ℕ) (ks : List ℕ) (lines : List VarLine) → b ≡ true → n < length lines → slice_get (put (if b then suc n ∷ ks else ks) lines) n ≡ Some (record { interface = i; value = f (suc n) })
  here_one false n ks lines e within = let clash : false ≡ true = e in absurd cc
  here_one true n ks lines e within =
      let long = put_long ks lines in
      let place : suc n - 1 ≡ n = omega arith in
      subst (λ m. slice_get (slice_set (put ks lines) m (record { interface = i; value = f (suc n) })) n ≡ Some (record { interface = i; value = f (suc n) })) (sym place)
      (set_there (put ks lines) n (record { interface = i; value = f (suc n) }) (omega (arith, long, within)))

  -- variables from another place on
  put_before : (n : ℕ) (vs : List Variable) (lines : List VarLine) (j : ℕ) → j < n → slice_get (put (vars_in i (suc n) vs) lines) j ≡ slice_get lines j
  put_before n [] lines j before = refl
  put_before n (v ∷ vs) lines j before =
      past_one (nat_eq v.interface i) n (vars_in i (suc (suc n)) vs) lines j (slice_get lines j) (λ e. omega (arith, e, before)) (put_before (suc n) vs lines j (omega (arith, before)))

  -- a variable of the interface has its value
  pub put_own : (n : ℕ) (vs : List Variable) (lines : List VarLine) (k j : ℕ) (v : Variable) → n + length vs ≤ length lines → j ≡ n + k → slice_get vs k ≡ Some v → v.interface ≡ i → slice_get (put (vars_in i (suc n) vs) lines) j ≡ Some (record { interface = i; value = f (suc j) })
  put_own n [] lines k j v room at h own = absurd (none-some v h)
  put_own n (u ∷ vs) lines zero j v room at h own =
      let same : u ≡ v = same_Some u v h in
      let place : n ≡ j = omega (arith, at) in
      let test : nat_eq u.interface i ≡ true = eq-eqb u.interface i (ap (λ (w : Variable). w.interface) same ∙ own) in
      subst (λ m. slice_get (put (vars_in i (suc n) (u ∷ vs)) lines) m ≡ Some (record { interface = i; value = f (suc m) })) place
      (here_one (nat_eq u.interface i) n (vars_in i (suc (suc n)) vs) lines test (omega (arith, room)))
  put_own n (u ∷ vs) lines (suc k) j v room at h own =
      past_one (nat_eq u.interface i) n (vars_in i (suc (suc n)) vs) lines j (Some (record { interface = i; value = f (suc j) })) (λ e. omega (arith, e, at))
      (put_own (suc n) vs lines k j v (omega (arith, room)) (omega (arith, at)) h own)

  -- another one has the value that it had
  pub put_other : (n : ℕ) (vs : List Variable) (lines : List VarLine) (k j : ℕ) (v : Variable) → j ≡ n + k → slice_get vs k ≡ Some v → (v.interface ≡ i → ⊥) → slice_get (put (vars_in i (suc n) vs) lines) j ≡ slice_get lines j
  put_other n [] lines k j v at h other = absurd (none-some v h)
  put_other n (u ∷ vs) lines zero j v at h other =
      let same : u ≡ v = same_Some u v h in
      let place : n ≡ j = omega (arith, at) in
      let test : nat_eq u.interface i ≡ false = ne_eqb u.interface i (λ e. other (ap (λ (w : Variable). w.interface) (sym same) ∙ e)) in
      subst (λ b. slice_get (put (if b then suc n ∷ vars_in i (suc (suc n)) vs else vars_in i (suc (suc n)) vs) lines) j ≡ slice_get lines j) (sym test)
      (put_before (suc n) vs lines j (omega (arith, place)))
  put_other n (u ∷ vs) lines (suc k) j v at h other =
      past_one (nat_eq u.interface i) n (vars_in i (suc (suc n)) vs) lines j (slice_get lines j) (λ e. omega (arith, e, at))
      (put_other (suc n) vs lines k j v (omega (arith, at)) h other)

-- ---- all of them

module _ (p : Program) (forms : ℕ → Form) (points : ℕ → ℕ → List (List ℕ)) where
  abbrev pub line_of : Variable → ℕ → VarLine
  line_of v k = record { interface = v.interface; value = value_by p points (forms v.interface) v.interface k }

  -- lines that are right place by place are those of the solution
  pub lines_are : (n : ℕ) (vs : List Variable) (lines : List VarLine) → length lines ≡ length vs → ((k j : ℕ) (v : Variable) → j ≡ n + k → slice_get vs k ≡ Some v → slice_get lines k ≡ Some (line_of v j)) → lines ≡ values_from p forms points n vs
  lines_are n [] [] long each = refl
  lines_are n [] (l ∷ ls) long each = absurd (omega (arith, long))
  lines_are n (v ∷ vs) [] long each = absurd (omega (arith, long))
  lines_are n (v ∷ vs) (l ∷ ls) long each =
      let first : l ≡ line_of v n = same_Some l (line_of v n) (each zero n v (omega arith) refl) in
      ap (λ x. x ∷ ls) first ∙ ap (λ xs. line_of v n ∷ xs) (lines_are (suc n) vs ls (omega (arith, long)) (λ k j u e g. each (suc k) j u (omega (arith, e)) g))
