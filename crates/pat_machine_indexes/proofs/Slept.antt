-- The table of those that sleep, changed at one mailbox.
use Rattle.std.proofs.Common.{◌≡◌, ℕ, zero, suc, ◌+◌, ◌<◌, ◌≤◌, nat_eq, List, [], ◌∷◌, ◌++◌, length, Option, Some, None, refl, sym, ap, ◌∙◌, slice_get, slice_set, ◌⊎◌, inl, inr, ⊎_elim, arith}
use Rattle.std.proofs.lemmas.Bool.{cases_Bool, eqb-true, eqb-false}
use Rattle.pat_machine_spec.specs.Lendings.{flat}
use Rattle.pat_machine_laws.proofs.Tables.{set_here, set_elsewhere}
use Rattle.pat_machine_indexes.specs.ready_sets.ReadySets.{sleeper_at, count_asleep}

-- where a thread sleeps, none sleeps but that
pub cleared : (ss : List (Option ℕ)) (a t b u : ℕ) → sleeper_at ss a ≡ Some t → sleeper_at ss b ≡ Some u → (sleeper_at (slice_set ss a None) b ≡ Some u) ⊎ (u ≡ t)
cleared ss a t b u own h = ⊎_elim
    (λ on. let same = eqb-true b a on in let both : Some t ≡ Some u = sym own ∙ ap (sleeper_at ss) (sym same) ∙ h in inr cc)
    (λ off. inl (set_elsewhere ss a b None (λ same. eqb-false b a off (sym same)) ∙ h))
    (cases_Bool (nat_eq b a))

-- where none slept, another mailbox is left as it was
pub filled : (ss : List (Option ℕ)) (a t b u : ℕ) → slice_get ss a ≡ Some None → sleeper_at ss b ≡ Some u → sleeper_at (slice_set ss a (Some t)) b ≡ Some u
filled ss a t b u free h = ⊎_elim
    (λ on. let same = eqb-true b a on in let none : sleeper_at ss b ≡ None = ap (sleeper_at ss) same ∙ ap flat free in cc)
    (λ off. set_elsewhere ss a b (Some t) (λ same. eqb-false b a off (sym same)) ∙ h)
    (cases_Bool (nat_eq b a))

-- whoever sleeps somewhere once a thread does slept there before, or is that one
pub unfilled : (ss : List (Option ℕ)) (a t b u : ℕ) → a < length ss → sleeper_at (slice_set ss a (Some t)) b ≡ Some u → (sleeper_at ss b ≡ Some u) ⊎ ((b ≡ a) × (u ≡ t))
unfilled ss a t b u there h = ⊎_elim
    (λ on.
    let same = eqb-true b a on in
    let own : sleeper_at (slice_set ss a (Some t)) b ≡ Some t = ap (sleeper_at (slice_set ss a (Some t))) same ∙ set_here ss a (Some t) there in
    let both : Some t ≡ Some u = sym own ∙ h in
    inr (same, cc))
    (λ off. inl (sym (set_elsewhere ss a b (Some t) (λ same. eqb-false b a off (sym same))) ∙ h))
    (cases_Bool (nat_eq b a))

pub within : (ss : List (Option ℕ)) (a : ℕ) (o : Option ℕ) → slice_get ss a ≡ Some o → a < length ss
within [] a o h = cc
within (s ∷ ss) zero o h = omega arith
within (s ∷ ss) (suc a) o h = let w = within ss a o h in omega arith

pub appended : (ss : List (Option ℕ)) (a u : ℕ) → sleeper_at ss a ≡ Some u → sleeper_at (ss ++ None ∷ []) a ≡ Some u
appended [] a u h = cc
appended (s ∷ ss) zero u h = h
appended (s ∷ ss) (suc a) u h = appended ss a u h

-- where a thread sleeps, there is a mailbox
pub slept_there : (ss : List (Option ℕ)) (a t : ℕ) → sleeper_at ss a ≡ Some t → slice_get ss a ≡ Some (Some t)
slept_there [] a t h = cc
slept_there (s ∷ ss) zero t h = ap (λ (o : Option ℕ). Some o) h
slept_there (s ∷ ss) (suc a) t h = slept_there ss a t h

-- whoever sleeps once a mailbox is cleared slept before
pub uncleared : (ss : List (Option ℕ)) (a b u : ℕ) → a < length ss → sleeper_at (slice_set ss a None) b ≡ Some u → sleeper_at ss b ≡ Some u
uncleared ss a b u there h = ⊎_elim
    (λ on. let same = eqb-true b a on in let none : sleeper_at (slice_set ss a None) b ≡ None = ap (sleeper_at (slice_set ss a None)) same ∙ set_here ss a None there in cc)
    (λ off. sym (set_elsewhere ss a b None (λ same. eqb-false b a off (sym same))) ∙ h)
    (cases_Bool (nat_eq b a))

-- ---- how many sleep

pub cleared_count : (ss : List (Option ℕ)) (a t : ℕ) → slice_get ss a ≡ Some (Some t) → count_asleep (slice_set ss a None) + 1 ≡ count_asleep ss
cleared_count [] a t h = cc
cleared_count (None ∷ ss) zero t h = cc
cleared_count (Some u ∷ ss) zero t h = omega arith
cleared_count (None ∷ ss) (suc a) t h = cleared_count ss a t h
cleared_count (Some u ∷ ss) (suc a) t h = let rest = cleared_count ss a t h in omega arith

pub filled_count : (ss : List (Option ℕ)) (a t : ℕ) → slice_get ss a ≡ Some None → count_asleep (slice_set ss a (Some t)) ≡ count_asleep ss + 1
filled_count [] a t h = cc
filled_count (None ∷ ss) zero t h = omega arith
filled_count (Some u ∷ ss) zero t h = cc
filled_count (None ∷ ss) (suc a) t h = filled_count ss a t h
filled_count (Some u ∷ ss) (suc a) t h = let rest = filled_count ss a t h in omega arith

pub appended_count : (ss : List (Option ℕ)) → count_asleep (ss ++ None ∷ []) ≡ count_asleep ss
appended_count [] = refl
appended_count (None ∷ ss) = appended_count ss
appended_count (Some u ∷ ss) = ap suc (appended_count ss)

-- no more than there are mailboxes
pub count_within : (ss : List (Option ℕ)) → count_asleep ss ≤ length ss
count_within [] = omega arith
count_within (None ∷ ss) = let rest = count_within ss in omega arith
count_within (Some u ∷ ss) = let rest = count_within ss in omega arith
