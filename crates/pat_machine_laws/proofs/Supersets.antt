-- The first that passes a test, and whether one passes, among some of the numbers.
use Rattle.std.proofs.Common.{◌≡◌, ℕ, suc, ◌≤◌, arith, Bool, true, false, cond, ◌&&◌, ◌||◌, nat_eq, List, [], ◌∷◌, Option, Some, None, refl, sym, ap, ◌∙◌, ⊎_elim}
use Rattle.std.specs.Prelude.{option_map, find}
use Rattle.std.specs.List.{list_any}
use Rattle.std.specs.Map.{lookup, keys_of}
use Rattle.std.proofs.lemmas.Bool.{and_parts, or_cases, or_left, or_right, eqb-true, eq-eqb, false_from_ne_true}
use Rattle.pat_semantics_spec.specs.Programs.{Program, is_among}
use Rattle.pat_semantics_spec.specs.Configs.{Thread, Config, thread_at}
use Rattle.pat_semantics_spec.specs.Orders.{AscendsFrom, IsOrdered}
use Rattle.pat_semantics_laws.proofs.Lists.{clash}
use Rattle.pat_semantics_laws.proofs.Inversion.{step_of}
use Rattle.pat_semantics_spec.specs.Runs.{can_step_thread}
use Rattle.pat_semantics_laws.proofs.Enabled.{thread_exact}
use Rattle.pat_machine_spec.specs.Opens.{can_go_on}
use Rattle.pat_machine_spec.specs.Lendings.{Out}
use Rattle.pat_machine_spec.specs.Turns.{is_above, is_ready, ready_above}
use Rattle.pat_machine_laws.proofs.Opens.{open_exact}
use Rattle.pat_machine_laws.proofs.Ready.{ready_there, ready_passes}

-- ---- lists of numbers

-- what is found is in the list, and passes
pub found_among : (f : ℕ → Bool) (xs : List ℕ) (x : ℕ) → find f xs ≡ Some x → (is_among x xs ≡ true) × (f x ≡ true)
found_among f [] x h = cc
found_among f (y ∷ ys) x h =
    (elim (f y) as (λ b. f y ≡ b → cond b (Some y) (find f ys) ≡ Some x → ((nat_eq x y || is_among x ys) ≡ true) × (f x ≡ true)) [
      | true ↦ λ q k. let same : y ≡ x = cc in (or_left (nat_eq x y) (is_among x ys) (eq-eqb x y (sym same)), ap f (sym same) ∙ q)
      | false ↦ λ q k. let rest = found_among f ys x k in (or_right (nat_eq x y) (is_among x ys) rest.0, rest.1)
    ]) refl h

-- where nothing is found, nothing in the list passes
pub none_among : (f : ℕ → Bool) (xs : List ℕ) (x : ℕ) → find f xs ≡ None → is_among x xs ≡ true → f x ≡ true → ⊥
none_among f [] x h at pass = cc
none_among f (y ∷ ys) x h at pass =
    (elim (f y) as (λ b. f y ≡ b → cond b (Some y) (find f ys) ≡ None → ⊥) [
      | true ↦ λ q k. cc
      | false ↦ λ q k. ⊎_elim
          (λ here. clash pass (ap f (eqb-true x y here) ∙ q))
          (λ rest. none_among f ys x k rest pass)
          (or_cases (nat_eq x y) (is_among x ys) at)
    ]) refl h

-- a number of an ascending list is at or above the first
among_above : (n x : ℕ) (xs : List ℕ) → AscendsFrom n xs → is_among x xs ≡ true → n ≤ x
among_above n x [] a h = cc
among_above n x (y ∷ ys) a h =
    let l = a.0 in
    ⊎_elim
    (λ here. let same = eqb-true x y here in omega arith)
    (λ rest. let above = among_above (suc y) x ys a.1 rest in omega arith)
    (or_cases (nat_eq x y) (is_among x ys) h)

-- what is found in an ascending list is the least of it that passes
pub least_among : (f : ℕ → Bool) (n : ℕ) (xs : List ℕ) (e x : ℕ) → AscendsFrom n xs → find f xs ≡ Some e → is_among x xs ≡ true → f x ≡ true → e ≤ x
least_among f n [] e x a h at pass = cc
least_among f n (y ∷ ys) e x a h at pass =
    (elim (f y) as (λ b. f y ≡ b → cond b (Some y) (find f ys) ≡ Some e → e ≤ x) [
      | true ↦ λ q k.
          let same : y ≡ e = cc in
          ⊎_elim
          (λ here. let also = eqb-true x y here in omega arith)
          (λ rest. let above = among_above (suc y) x ys a.1 rest in omega arith)
          (or_cases (nat_eq x y) (is_among x ys) at)
      | false ↦ λ q k.
          ⊎_elim
          (λ here. absurd (clash pass (ap f (eqb-true x y here) ∙ q)))
          (λ rest. least_among f (suc y) ys e x a.1 k rest pass)
          (or_cases (nat_eq x y) (is_among x ys) at)
    ]) refl h

-- of the first list, what passes is in the second
abbrev pub Within : (ℕ → Bool) → List ℕ → List ℕ → Type 0
Within f xs ys = (x : ℕ) → is_among x xs ≡ true → f x ≡ true → is_among x ys ≡ true

-- ascending lists with the same numbers that pass
pub first_same : (f : ℕ → Bool) (xs ys : List ℕ) → AscendsFrom 0 xs → AscendsFrom 0 ys → Within f xs ys → Within f ys xs → find f xs ≡ find f ys
first_same f xs ys a b there back = go (find f xs) (find f ys) refl refl
  where
    go : (o r : Option ℕ) → find f xs ≡ o → find f ys ≡ r → o ≡ r
    go None None h k = refl
    go None (Some y) h k = let at = found_among f ys y k in absurd (none_among f xs y h (back y at.0 at.1) at.1)
    go (Some x) None h k = let at = found_among f xs x h in absurd (none_among f ys x k (there x at.0 at.1) at.1)
    go (Some x) (Some y) h k =
        let l = found_among f xs x h in
        let r = found_among f ys y k in
        let low = least_among f 0 xs x y a h (back y r.0 r.1) r.1 in
        let high = least_among f 0 ys y x b k (there x l.0 l.1) l.1 in
        let same : x ≡ y = omega arith in
        ap (λ (n : ℕ). Some n) same

any_among : (f : ℕ → Bool) (xs : List ℕ) → list_any f xs ≡ true → (x : ℕ) × (is_among x xs ≡ true) × (f x ≡ true)
any_among f [] h = cc
any_among f (y ∷ ys) h =
    ⊎_elim
    (λ here. (y, or_left (nat_eq y y) (is_among y ys) (eq-eqb y y refl), here))
    (λ rest. let e = any_among f ys rest in (e.0, or_right (nat_eq e.0 y) (is_among e.0 ys) e.1, e.2))
    (or_cases (f y) (list_any f ys) h)

among_any : (f : ℕ → Bool) (xs : List ℕ) (x : ℕ) → is_among x xs ≡ true → f x ≡ true → list_any f xs ≡ true
among_any f [] x h pass = cc
among_any f (y ∷ ys) x h pass =
    ⊎_elim
    (λ here. or_left (f y) (list_any f ys) (ap f (sym (eqb-true x y here)) ∙ pass))
    (λ rest. or_right (f y) (list_any f ys) (among_any f ys x rest pass))
    (or_cases (nat_eq x y) (is_among x ys) h)

pub any_same : (f : ℕ → Bool) (xs ys : List ℕ) → Within f xs ys → Within f ys xs → list_any f xs ≡ list_any f ys
any_same f xs ys there back = go (list_any f xs) refl
  where
    go : (b : Bool) → list_any f xs ≡ b → b ≡ list_any f ys
    go true h = let e = any_among f xs h in sym (among_any f ys e.0 (there e.0 e.1 e.2) e.2)
    go false h = sym (false_from_ne_true (list_any f ys) (λ on. let e = any_among f ys on in clash (among_any f xs e.0 (back e.0 e.1 e.2) e.2) h))

-- ---- numbers of threads

pub key_among : (ts : List (ℕ × Thread)) (t : ℕ) (s : Thread) → lookup (nat_eq t) ts ≡ Some s → is_among t (keys_of ts) ≡ true
key_among [] t s h = cc
key_among (e ∷ es) t s h =
    (elim (nat_eq t e.0) as (λ b. cond b (Some e.1) (lookup (nat_eq t) es) ≡ Some s → (b || is_among t (keys_of es)) ≡ true) [ true ↦ λ k. refl | false ↦ λ k. key_among es t s k ]) h

pub find_key : (f : ℕ → Bool) (ts : List (ℕ × Thread)) → option_map (λ e. e.0) (find (λ e. f e.0) ts) ≡ find f (keys_of ts)
find_key f [] = refl
find_key f (e ∷ es) =
    elim (f e.0) as (λ b. option_map (λ d. d.0) (cond b (Some e) (find (λ d. f d.0) es)) ≡ cond b (Some e.0) (find f (keys_of es))) [ true ↦ refl | false ↦ find_key f es ]

any_key : (f : ℕ → Bool) (ts : List (ℕ × Thread)) → list_any (λ e. f e.0) ts ≡ list_any f (keys_of ts)
any_key f [] = refl
any_key f (e ∷ es) = ap (λ b. f e.0 || b) (any_key f es)

-- tests that agree at each number
find_alike : (f g : ℕ → Bool) (ts : List (ℕ × Thread)) → ((t : ℕ) → f t ≡ g t) → find (λ e. f e.0) ts ≡ find (λ e. g e.0) ts
find_alike f g [] same = refl
find_alike f g (e ∷ es) same = ap (λ b. cond b (Some e) (find (λ d. f d.0) es)) (same e.0) ∙ ap (λ o. cond (g e.0) (Some e) o) (find_alike f g es same)

-- a further condition that holds wherever the test passes
with_more : (more above ready : Bool) → (ready ≡ true → more ≡ true) → (above && ready) ≡ (more && (above && ready))
with_more true above ready h = refl
with_more false true true h = let no = h refl in cc
with_more false true false h = refl
with_more false false ready h = refl

pub found_among_those : (p : Program) (c : Config) (limit : ℕ) (out : Out) (last : Option ℕ) (may : ℕ → Bool) → ((t : ℕ) → is_ready p c limit out t ≡ true → may t ≡ true) → ready_above p c limit out last ≡ option_map (λ e. e.0) (find (λ e. may e.0 && (is_above last e.0 && is_ready p c limit out e.0)) c.threads)
found_among_those p c limit out last may covers =
    ap (option_map (λ (e : ℕ × Thread). e.0))
    (find_alike (λ t. is_above last t && is_ready p c limit out t) (λ t. may t && (is_above last t && is_ready p c limit out t)) c.threads
    (λ t. with_more (may t) (is_above last t) (is_ready p c limit out t) (covers t)))

pub found_in_list : (p : Program) (c : Config) (limit : ℕ) (out : Out) (last : Option ℕ) (ts : List ℕ) → IsOrdered c → AscendsFrom 0 ts → ((t : ℕ) → is_ready p c limit out t ≡ true → is_among t ts ≡ true) → ready_above p c limit out last ≡ find (λ t. is_above last t && is_ready p c limit out t) ts
found_in_list p c limit out last ts order ascends covers =
    find_key (λ t. is_above last t && is_ready p c limit out t) c.threads
    ∙ first_same (λ t. is_above last t && is_ready p c limit out t) (keys_of c.threads) ts order.threads ascends
    (λ t at pass. covers t (and_parts (is_above last t) (is_ready p c limit out t) pass).1)
    (λ t at pass.
    let s = ready_there p c limit out t (ready_passes p c limit out t (and_parts (is_above last t) (is_ready p c limit out t) pass).1) in
    key_among c.threads t s.0 s.1)

-- a thread with an open step is there
pub open_there : (p : Program) (c : Config) (limit t : ℕ) → can_go_on p c limit t ≡ true → (s : Thread) × (thread_at c t ≡ Some s)
open_there p c limit t h =
    let e = (open_exact p c limit t).0 h in
    let o = step_of p c (record { thread = t; act = e.0 }) e.1.0.0 e.1.0.1 in
    (o.thread, o.there)

pub open_in_list : (p : Program) (c : Config) (limit : ℕ) (ts : List ℕ) → ((t : ℕ) → can_go_on p c limit t ≡ true → is_among t ts ≡ true) → list_any (λ e. can_go_on p c limit e.0) c.threads ≡ list_any (can_go_on p c limit) ts
open_in_list p c limit ts covers =
    any_key (can_go_on p c limit) c.threads
    ∙ any_same (can_go_on p c limit) (keys_of c.threads) ts
    (λ t at pass. covers t pass)
    (λ t at pass. let s = open_there p c limit t pass in key_among c.threads t s.0 s.1)

-- a thread with an enabled step is there
pub enabled_there : (p : Program) (c : Config) (t : ℕ) → can_step_thread p c t ≡ true → (s : Thread) × (thread_at c t ≡ Some s)
enabled_there p c t h =
    let e = (thread_exact p c t).0 h in
    let o = step_of p c (record { thread = t; act = e.0 }) e.1.0 e.1.1 in
    (o.thread, o.there)

pub enabled_in_list : (p : Program) (c : Config) (ts : List ℕ) → ((t : ℕ) → can_step_thread p c t ≡ true → is_among t ts ≡ true) → list_any (λ e. can_step_thread p c e.0) c.threads ≡ list_any (can_step_thread p c) ts
enabled_in_list p c ts covers =
    any_key (can_step_thread p c) c.threads
    ∙ any_same (can_step_thread p c) (keys_of c.threads) ts
    (λ t at pass. covers t pass)
    (λ t at pass. let s = enabled_there p c t pass in key_among c.threads t s.0 s.1)
