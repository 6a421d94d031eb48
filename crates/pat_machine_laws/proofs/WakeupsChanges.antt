-- Lists of threads and messages, after one of them changes, goes or comes.
use Rattle.std.proofs.Common.{◌≡◌, ℕ, Bool, true, false, cond, ◌&&◌, ◌||◌, not, nat_eq, List, [], ◌∷◌, ◌++◌, filter, Some, None, refl, sym, ap, ◌∙◌, ◌⊎◌, inl, inr, ⊎_elim}
use Rattle.std.specs.Prelude.{find}
use Rattle.std.specs.List.{list_any}
use Rattle.std.specs.Map.{lookup, set_value, remove_entry}
use Rattle.std.proofs.lemmas.Bool.{and_parts, and_from, or_cases, or_left, or_right, cond-true, cond-false, eqb-true, eqb-false, ne_eqb}
use Rattle.pat_semantics_spec.specs.Configs.{Thread, Message}

-- ---- threads

-- a test of the others, at an entry
abbrev pub at_other : (ℕ → Bool) → (Thread → Bool) → ℕ × Thread → Bool
at_other g f e = g e.0 && f e.1

-- what passes at some thread passes after one of them changed, or passes at that one
pub set_stays : (g : ℕ → Bool) (f : Thread → Bool) (ts : List (ℕ × Thread)) (t : ℕ) (r x : Thread) → lookup (nat_eq t) ts ≡ Some r → list_any (at_other g f) ts ≡ true → (list_any (at_other g f) (set_value (nat_eq t) ts x) ≡ true) ⊎ (f r ≡ true)
set_stays g f [] t r x h any = cc
set_stays g f (e ∷ es) t r x h any =
    (elim (nat_eq t e.0) as (λ v. cond v (Some e.1) (lookup (nat_eq t) es) ≡ Some r → (list_any (at_other g f) (cond v ((e.0, x) ∷ es) (e ∷ set_value (nat_eq t) es x)) ≡ true) ⊎ (f r ≡ true)) [
      | true ↦ λ k.
          let same : e.1 ≡ r = cc in
          ⊎_elim
          (λ here. inr (ap f (sym same) ∙ (and_parts (g e.0) (f e.1) here).1))
          (λ rest. inl (or_right (g e.0 && f x) (list_any (at_other g f) es) rest))
          (or_cases (g e.0 && f e.1) (list_any (at_other g f) es) any)
      | false ↦ λ k.
          ⊎_elim
          (λ here. inl (or_left (g e.0 && f e.1) (list_any (at_other g f) (set_value (nat_eq t) es x)) here))
          (λ rest. ⊎_elim (λ l. inl (or_right (g e.0 && f e.1) (list_any (at_other g f) (set_value (nat_eq t) es x)) l)) (λ w. inr w) (set_stays g f es t r x k rest))
          (or_cases (g e.0 && f e.1) (list_any (at_other g f) es) any)
    ]) h

-- or after it went
pub remove_stays : (g : ℕ → Bool) (f : Thread → Bool) (ts : List (ℕ × Thread)) (t : ℕ) (r : Thread) → lookup (nat_eq t) ts ≡ Some r → list_any (at_other g f) ts ≡ true → (list_any (at_other g f) (remove_entry (nat_eq t) ts) ≡ true) ⊎ (f r ≡ true)
remove_stays g f [] t r h any = cc
remove_stays g f (e ∷ es) t r h any =
    (elim (nat_eq t e.0) as (λ v. cond v (Some e.1) (lookup (nat_eq t) es) ≡ Some r → (list_any (at_other g f) (cond v es (e ∷ remove_entry (nat_eq t) es)) ≡ true) ⊎ (f r ≡ true)) [
      | true ↦ λ k.
          let same : e.1 ≡ r = cc in
          ⊎_elim
          (λ here. inr (ap f (sym same) ∙ (and_parts (g e.0) (f e.1) here).1))
          (λ rest. inl rest)
          (or_cases (g e.0 && f e.1) (list_any (at_other g f) es) any)
      | false ↦ λ k.
          ⊎_elim
          (λ here. inl (or_left (g e.0 && f e.1) (list_any (at_other g f) (remove_entry (nat_eq t) es)) here))
          (λ rest. ⊎_elim (λ l. inl (or_right (g e.0 && f e.1) (list_any (at_other g f) (remove_entry (nat_eq t) es)) l)) (λ w. inr w) (remove_stays g f es t r k rest))
          (or_cases (g e.0 && f e.1) (list_any (at_other g f) es) any)
    ]) h

-- a thread that changed before it went
pub remove_set : (ts : List (ℕ × Thread)) (t : ℕ) (x : Thread) → remove_entry (nat_eq t) (set_value (nat_eq t) ts x) ≡ remove_entry (nat_eq t) ts
remove_set [] t x = refl
remove_set (e ∷ es) t x =
    (elim (nat_eq t e.0) as (λ v. nat_eq t e.0 ≡ v → remove_entry (nat_eq t) (cond v ((e.0, x) ∷ es) (e ∷ set_value (nat_eq t) es x)) ≡ cond v es (e ∷ remove_entry (nat_eq t) es)) [
      | true ↦ λ q. cond-true (nat_eq t e.0) es ((e.0, x) ∷ remove_entry (nat_eq t) es) q
      | false ↦ λ q. cond-false (nat_eq t e.0) (set_value (nat_eq t) es x) (e ∷ remove_entry (nat_eq t) (set_value (nat_eq t) es x)) q ∙ ap (λ l. e ∷ l) (remove_set es t x)
    ]) refl

-- a thread that is found behind others is one of them, or the last
pub lookup_last : (ts : List (ℕ × Thread)) (n u : ℕ) (x q : Thread) → lookup (nat_eq u) (ts ++ (n, x) ∷ []) ≡ Some q → (lookup (nat_eq u) ts ≡ Some q) ⊎ (u ≡ n)
lookup_last [] n u x q h =
    (elim (nat_eq u n) as (λ v. nat_eq u n ≡ v → cond v (Some x) None ≡ Some q → (None ≡ Some q) ⊎ (u ≡ n)) [ true ↦ λ w k. inr (eqb-true u n w) | false ↦ λ w k. cc ]) refl h
lookup_last (e ∷ es) n u x q h =
    (elim (nat_eq u e.0) as (λ v. cond v (Some e.1) (lookup (nat_eq u) (es ++ (n, x) ∷ [])) ≡ Some q → (cond v (Some e.1) (lookup (nat_eq u) es) ≡ Some q) ⊎ (u ≡ n)) [
      | true ↦ λ k. inl k
      | false ↦ λ k. lookup_last es n u x q k
    ]) h

-- a test that passes at another thread that is there
pub passes_there : (f : Thread → Bool) (ts : List (ℕ × Thread)) (t u : ℕ) (s : Thread) → (t ≡ u → ⊥) → lookup (nat_eq t) ts ≡ Some s → f s ≡ true → list_any (at_other (λ k. not (nat_eq k u)) f) ts ≡ true
passes_there f [] t u s other h k = cc
passes_there f (e ∷ es) t u s other h k =
    let rest = list_any (at_other (λ n. not (nat_eq n u)) f) es in
    (elim (nat_eq t e.0) as (λ v. nat_eq t e.0 ≡ v → cond v (Some e.1) (lookup (nat_eq t) es) ≡ Some s → ((not (nat_eq e.0 u) && f e.1) || rest) ≡ true) [
      | true ↦ λ q w.
          let number : t ≡ e.0 = eqb-true t e.0 q in
          let same : e.1 ≡ s = cc in
          let off : nat_eq e.0 u ≡ false = ne_eqb e.0 u (λ y. other (number ∙ y)) in
          or_left (not (nat_eq e.0 u) && f e.1) rest (and_from (not (nat_eq e.0 u)) (f e.1) (ap not off) (ap f same ∙ k))
      | false ↦ λ q w. or_right (not (nat_eq e.0 u) && f e.1) rest (passes_there f es t u s other w k)
    ]) refl h

-- ---- messages

-- a message that is found behind others is one of them, or the last
pub find_last : (ms : List Message) (n m : Message) (k : ℕ) → find (λ x. nat_eq k x.number) (ms ++ n ∷ []) ≡ Some m → (find (λ x. nat_eq k x.number) ms ≡ Some m) ⊎ (n ≡ m)
find_last [] n m k h =
    (elim (nat_eq k n.number) as (λ v. cond v (Some n) None ≡ Some m → (None ≡ Some m) ⊎ (n ≡ m)) [ true ↦ λ w. inr cc | false ↦ λ w. cc ]) h
find_last (x ∷ xs) n m k h =
    (elim (nat_eq k x.number) as (λ v. cond v (Some x) (find (λ y. nat_eq k y.number) (xs ++ n ∷ [])) ≡ Some m → (cond v (Some x) (find (λ y. nat_eq k y.number) xs) ≡ Some m) ⊎ (n ≡ m)) [
      | true ↦ λ w. inl w
      | false ↦ λ w. find_last xs n m k w
    ]) h

-- a message that is found among those that were kept was found before
pub find_kept : (ms : List Message) (n k : ℕ) (m : Message) → find (λ x. nat_eq k x.number) (filter (λ x. not (nat_eq x.number n)) ms) ≡ Some m → find (λ x. nat_eq k x.number) ms ≡ Some m
find_kept [] n k m h = h
find_kept (x ∷ xs) n k m h =
    (elim (nat_eq x.number n) as (λ v. nat_eq x.number n ≡ v → find (λ y. nat_eq k y.number) (cond (not v) (x ∷ filter (λ y. not (nat_eq y.number n)) xs) (filter (λ y. not (nat_eq y.number n)) xs)) ≡ Some m → find (λ y. nat_eq k y.number) (x ∷ xs) ≡ Some m) [
      | true ↦ λ q w.
          let there = find_kept xs n k m w in
          let gone : nat_eq k x.number ≡ false = ne_eqb k x.number (λ y. kept_apart xs n k m (y ∙ eqb-true x.number n q) w) in
          cond-false (nat_eq k x.number) (Some x) (find (λ y. nat_eq k y.number) xs) gone ∙ there
      | false ↦ λ q w.
          (elim (nat_eq k x.number) as (λ v. cond v (Some x) (find (λ y. nat_eq k y.number) (filter (λ y. not (nat_eq y.number n)) xs)) ≡ Some m → cond v (Some x) (find (λ y. nat_eq k y.number) xs) ≡ Some m) [
            | true ↦ λ z. z
            | false ↦ λ z. find_kept xs n k m z
          ]) w
    ]) refl h
  where
    kept_apart : (ys : List Message) (n k : ℕ) (m : Message) → k ≡ n → find (λ y. nat_eq k y.number) (filter (λ y. not (nat_eq y.number n)) ys) ≡ Some m → ⊥
    kept_apart [] n k m same h = cc
    kept_apart (y ∷ ys) n k m same h =
        (elim (nat_eq y.number n) as (λ v. nat_eq y.number n ≡ v → find (λ z. nat_eq k z.number) (cond (not v) (y ∷ filter (λ z. not (nat_eq z.number n)) ys) (filter (λ z. not (nat_eq z.number n)) ys)) ≡ Some m → ⊥) [
          | true ↦ λ q w. kept_apart ys n k m same w
          | false ↦ λ q w.
              let off : nat_eq k y.number ≡ false = ne_eqb k y.number (λ z. eqb-false y.number n q (sym z ∙ same)) in
              kept_apart ys n k m same (sym (cond-false (nat_eq k y.number) (Some y) (find (λ z. nat_eq k z.number) (filter (λ z. not (nat_eq z.number n)) ys)) off) ∙ w)
        ]) refl h

-- what passes at some message passes at one that was kept, or at one of the number that wasn't
pub any_kept : (f : Message → Bool) (n : ℕ) (ms : List Message) → list_any f ms ≡ true → (list_any f (filter (λ x. not (nat_eq x.number n)) ms) ≡ true) ⊎ (list_any (λ x. nat_eq x.number n && f x) ms ≡ true)
any_kept f n [] h = cc
any_kept f n (x ∷ xs) h =
    let kept = filter (λ y. not (nat_eq y.number n)) xs in
    let gone = list_any (λ y. nat_eq y.number n && f y) xs in
    (elim (nat_eq x.number n) as (λ v. (list_any f (cond (not v) (x ∷ kept) kept) ≡ true) ⊎ (((v && f x) || gone) ≡ true)) [
      | true ↦
          ⊎_elim
          (λ here. inr (or_left (f x) gone here))
          (λ rest. ⊎_elim (λ l. inl l) (λ r. inr (or_right (f x) gone r)) (any_kept f n xs rest))
          (or_cases (f x) (list_any f xs) h)
      | false ↦
          ⊎_elim
          (λ here. inl (or_left (f x) (list_any f kept) here))
          (λ rest. ⊎_elim (λ l. inl (or_right (f x) (list_any f kept) l)) (λ r. inr r) (any_kept f n xs rest))
          (or_cases (f x) (list_any f xs) h)
    ])
