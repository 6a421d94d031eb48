-- What holds of threads, where one is looked up, replaced or taken out.
use Rattle.std.proofs.Common.{◌≡◌, ℕ, Bool, true, false, cond, ◌||◌, ◌&&◌, not, nat_eq, List, [], ◌∷◌, ◌+◌, ◌<◌, arith, Some, refl, sym, ap, ◌∙◌, subst, ◌⊎◌, inl, inr, ⊎_elim}
use Rattle.std.proofs.lemmas.Bool.{or_cases, or_left, or_right, eqb-true, eqb-false, ne_eqb, and_from, and_parts}
use Rattle.std.specs.List.{AllByRecursion, list_any, IsDistinct}
use Rattle.std.specs.Map.{lookup, set_value, keys_of, remove_entry}
use Rattle.pat_semantics_spec.specs.Configs.{Thread}
use Rattle.pat_semantics_laws.proofs.Lists.{distinct_parts}

-- what holds of each thread holds of the one with this number
pub lookup_all : (P : Thread → Type 0) (ts : List (ℕ × Thread)) (t : ℕ) (s : Thread) → AllByRecursion (λ e. P e.1) ts → lookup (nat_eq t) ts ≡ Some s → P s
lookup_all P [] t s a h = cc
lookup_all P (e ∷ es) t s a h =
    (elim (nat_eq t e.0) as (λ v. cond v (Some e.1) (lookup (nat_eq t) es) ≡ Some s → P s) [
      | true ↦ λ k. let same : e.1 ≡ s = cc in subst P same a.0
      | false ↦ λ k. lookup_all P es t s a.1 k
    ]) h

-- and it holds of each once that one is replaced
pub set_all : (P : ℕ × Thread → Type 0) (ts : List (ℕ × Thread)) (t : ℕ) (s : Thread) → ((e : ℕ × Thread) → P e → P (e.0, s)) → AllByRecursion P ts → AllByRecursion P (set_value (nat_eq t) ts s)
set_all P [] t s put a = a
set_all P (e ∷ es) t s put a =
    elim (nat_eq t e.0) as (λ v. AllByRecursion P (cond v ((e.0, s) ∷ es) (e ∷ set_value (nat_eq t) es s))) [
      | true ↦ (put e a.0, a.1)
      | false ↦ (a.0, set_all P es t s put a.1)
    ]

-- a test that passes at a thread passes at some thread
pub lookup_any : (f : Thread → Bool) (ts : List (ℕ × Thread)) (t : ℕ) (s : Thread) → lookup (nat_eq t) ts ≡ Some s → f s ≡ true → list_any (λ e. f e.1) ts ≡ true
lookup_any f [] t s h k = cc
lookup_any f (e ∷ es) t s h k =
    (elim (nat_eq t e.0) as (λ v. cond v (Some e.1) (lookup (nat_eq t) es) ≡ Some s → (f e.1 || list_any (λ d. f d.1) es) ≡ true) [
      | true ↦ λ h'. let same : e.1 ≡ s = cc in or_left (f e.1) (list_any (λ d. f d.1) es) (ap f same ∙ k)
      | false ↦ λ h'. or_right (f e.1) (list_any (λ d. f d.1) es) (lookup_any f es t s h' k)
    ]) h

-- a test that passes at some thread once one is replaced passes there or at some thread before
pub set_any : (f : Thread → Bool) (ts : List (ℕ × Thread)) (t : ℕ) (s : Thread) → list_any (λ e. f e.1) (set_value (nat_eq t) ts s) ≡ true → (f s ≡ true) ⊎ (list_any (λ e. f e.1) ts ≡ true)
set_any f [] t s h = inr h
set_any f (e ∷ es) t s h =
    (elim (nat_eq t e.0) as (λ v. list_any (λ d. f d.1) (cond v ((e.0, s) ∷ es) (e ∷ set_value (nat_eq t) es s)) ≡ true → (f s ≡ true) ⊎ ((f e.1 || list_any (λ d. f d.1) es) ≡ true)) [
      | true ↦ λ k. ⊎_elim (λ here. inl here) (λ rest. inr (or_right (f e.1) (list_any (λ d. f d.1) es) rest)) (or_cases (f s) (list_any (λ d. f d.1) es) k)
      | false ↦ λ k. ⊎_elim
          (λ here. inr (or_left (f e.1) (list_any (λ d. f d.1) es) here))
          (λ rest. ⊎_elim (λ x. inl x) (λ x. inr (or_right (f e.1) (list_any (λ d. f d.1) es) x)) (set_any f es t s rest))
          (or_cases (f e.1) (list_any (λ d. f d.1) (set_value (nat_eq t) es s)) k)
    ]) h

-- ---- a thread is taken out

pub remove_all : (P : ℕ × Thread → Type 0) (ts : List (ℕ × Thread)) (t : ℕ) → AllByRecursion P ts → AllByRecursion P (remove_entry (nat_eq t) ts)
remove_all P [] t a = a
remove_all P (e ∷ es) t a =
    elim (nat_eq t e.0) as (λ v. AllByRecursion P (cond v es (e ∷ remove_entry (nat_eq t) es))) [
      | true ↦ a.1
      | false ↦ (a.0, remove_all P es t a.1)
    ]

pub remove_any : (f : Thread → Bool) (ts : List (ℕ × Thread)) (t : ℕ) → list_any (λ e. f e.1) (remove_entry (nat_eq t) ts) ≡ true → list_any (λ e. f e.1) ts ≡ true
remove_any f [] t h = h
remove_any f (e ∷ es) t h =
    (elim (nat_eq t e.0) as (λ v. list_any (λ d. f d.1) (cond v es (e ∷ remove_entry (nat_eq t) es)) ≡ true → (f e.1 || list_any (λ d. f d.1) es) ≡ true) [
      | true ↦ λ k. or_right (f e.1) (list_any (λ d. f d.1) es) k
      | false ↦ λ k. ⊎_elim
          (λ here. or_left (f e.1) (list_any (λ d. f d.1) es) here)
          (λ rest. or_right (f e.1) (list_any (λ d. f d.1) es) (remove_any f es t rest))
          (or_cases (f e.1) (list_any (λ d. f d.1) (remove_entry (nat_eq t) es)) k)
    ]) h

pub threads_weaken : (n : ℕ) (ts : List (ℕ × Thread)) → AllByRecursion (λ e. e.0 < n) ts → AllByRecursion (λ e. e.0 < n + 1) ts
threads_weaken n [] a = tt
threads_weaken n (e ∷ es) a = (let h = a.0 in omega arith, threads_weaken n es a.1)

-- ---- the other threads

-- a test that passes at some thread once one is replaced passes there or at another one
pub apart_any : (f : Thread → Bool) (ts : List (ℕ × Thread)) (t : ℕ) → AllByRecursion (λ k. nat_eq t k ≡ false) (keys_of ts) → list_any (λ e. f e.1) ts ≡ true → list_any (λ e. not (nat_eq e.0 t) && f e.1) ts ≡ true
apart_any f [] t a h = h
apart_any f (e ∷ es) t a h =
    let off : nat_eq e.0 t ≡ false = ne_eqb e.0 t (λ q. eqb-false t e.0 a.0 (sym q)) in
    ⊎_elim
    (λ l. or_left (not (nat_eq e.0 t) && f e.1) (list_any (λ e. not (nat_eq e.0 t) && f e.1) es) (and_from (not (nat_eq e.0 t)) (f e.1) (ap not off) l))
    (λ r. or_right (not (nat_eq e.0 t) && f e.1) (list_any (λ e. not (nat_eq e.0 t) && f e.1) es) (apart_any f es t a.1 r))
    (or_cases (f e.1) (list_any (λ e. f e.1) es) h)

pub set_other : (f : Thread → Bool) (ts : List (ℕ × Thread)) (t : ℕ) (s : Thread) → IsDistinct nat_eq (keys_of ts) → list_any (λ e. f e.1) (set_value (nat_eq t) ts s) ≡ true → (f s ≡ true) ⊎ (list_any (λ e. not (nat_eq e.0 t) && f e.1) ts ≡ true)
set_other f [] t s d h = inr h
set_other f (e ∷ es) t s d h =
    let q = distinct_parts e.0 (keys_of es) d in
    let first = not (nat_eq e.0 t) && f e.1 in
    let others = list_any (λ e. not (nat_eq e.0 t) && f e.1) es in
    (elim (nat_eq t e.0) as (λ v. nat_eq t e.0 ≡ v → list_any (λ d. f d.1) (cond v ((e.0, s) ∷ es) (e ∷ set_value (nat_eq t) es s)) ≡ true → (f s ≡ true) ⊎ ((first || others) ≡ true)) [
      | true ↦ λ w k.
          let same : t ≡ e.0 = eqb-true t e.0 w in
          ⊎_elim (λ here. inl here)
          (λ rest. inr (or_right first others (apart_any f es t (subst (λ x. AllByRecursion (λ k. nat_eq x k ≡ false) (keys_of es)) (sym same) q.0) rest)))
          (or_cases (f s) (list_any (λ d. f d.1) es) k)
      | false ↦ λ w k.
          let off : nat_eq e.0 t ≡ false = ne_eqb e.0 t (λ x. eqb-false t e.0 w (sym x)) in
          ⊎_elim
          (λ here. inr (or_left first others (and_from (not (nat_eq e.0 t)) (f e.1) (ap not off) here)))
          (λ rest. ⊎_elim (λ x. inl x) (λ x. inr (or_right first others x)) (set_other f es t s q.1 rest))
          (or_cases (f e.1) (list_any (λ d. f d.1) (set_value (nat_eq t) es s)) k)
    ]) refl h

pub other_any : (f : Thread → Bool) (ts : List (ℕ × Thread)) (t : ℕ) → list_any (λ e. not (nat_eq e.0 t) && f e.1) ts ≡ true → list_any (λ e. f e.1) ts ≡ true
other_any f [] t h = h
other_any f (e ∷ es) t h =
    ⊎_elim
    (λ l. or_left (f e.1) (list_any (λ e. f e.1) es) (and_parts (not (nat_eq e.0 t)) (f e.1) l).1)
    (λ r. or_right (f e.1) (list_any (λ e. f e.1) es) (other_any f es t r))
    (or_cases (not (nat_eq e.0 t) && f e.1) (list_any (λ e. not (nat_eq e.0 t) && f e.1) es) h)
