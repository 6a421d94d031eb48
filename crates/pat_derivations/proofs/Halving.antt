-- What is needed of a variable, where the variables ascend, is found by halving.
use Rattle.std.proofs.Common.{◌≡◌, ℕ, zero, suc, ◌<◌, ◌≤◌, ◌-◌, Bool, true, false, List, [], ◌∷◌, ◌++◌, length, get_or, take, drop, Option, Some, None, Ok, Err, refl, sym, ap, ◌∙◌, subst, arith}
use Rattle.std.specs.Prelude.{nat_eq, nat_le, nat_lt, if◌then◌else◌}
use Rattle.std.specs.List.Sorted.{IsBinarySearchResult, IsNonDecreasingBy}
use Rattle.std.specs.Ordering.{nat_cmp, ordering_index}
use Rattle.std.proofs.lemmas.Cmp.{ranked}
use Rattle.std.proofs.lemmas.Bool.{cond-true, cond-false, ne_eqb, eq-eqb, ltb-true, ltb-false, leb-true, le-leb, and_parts, and_from}
use Rattle.std.proofs.lemmas.Bool.Decides.{nat_tests}
use Rattle.std.proofs.lemmas.List.{get_or_default, take-append-drop, take_rest}
use Rattle.std.proofs.Math.Seq.{drop-cons, drop-length}
use Rattle.pat_type_system_spec.specs.Types as types
use Rattle.pat_type_schemes_spec.specs.NodeTypes.{Needs, need_of}
use Rattle.pat_types.specs.declared.types.MailboxType.{MailboxType}
use Rattle.pat_types.specs.Views.{type_view, need_view, needs_view}
use Rattle.pat_derivation_spec.specs.Derivations.{ascends_from}

abbrev pub Entries : Type 0
Entries = List (ℕ × MailboxType)

key_above : (n : ℕ) (es : Entries) (i : ℕ) (d : ℕ × MailboxType) → ascends_from n (needs_view es) ≡ true → i < length es → n ≤ (get_or es i d).0
key_above n [] i d a h = omega arith
key_above n (e ∷ es) zero d a h = leb-true n e.0 (and_parts (nat_le n e.0) (ascends_from (suc e.0) (needs_view es)) a).0
key_above n (e ∷ es) (suc i) d a h =
    let both = and_parts (nat_le n e.0) (ascends_from (suc e.0) (needs_view es)) a in
    let first : n ≤ e.0 = leb-true n e.0 both.0 in
    let above = key_above (suc e.0) es i d both.1 (omega arith) in
    omega arith

keys_rise : (n : ℕ) (es : Entries) (i j : ℕ) (d : ℕ × MailboxType) → ascends_from n (needs_view es) ≡ true → i ≤ j → j < length es → (get_or es i d).0 ≤ (get_or es j d).0
keys_rise n [] i j d a le h = omega arith
keys_rise n (e ∷ es) zero zero d a le h = omega arith
keys_rise n (e ∷ es) zero (suc j) d a le h =
    let both = and_parts (nat_le n e.0) (ascends_from (suc e.0) (needs_view es)) a in
    let above = key_above (suc e.0) es j d both.1 (omega arith) in
    omega arith
keys_rise n (e ∷ es) (suc i) zero d a le h = omega arith
keys_rise n (e ∷ es) (suc i) (suc j) d a le h =
    keys_rise (suc e.0) es i j d (and_parts (nat_le n e.0) (ascends_from (suc e.0) (needs_view es)) a).1 (omega arith) (omega arith)

-- where the variable stands, that is its first entry
need_at : (n : ℕ) (es : Entries) (x i : ℕ) (d : ℕ × MailboxType) → ascends_from n (needs_view es) ≡ true → i < length es → (get_or es i d).0 ≡ x → Some (type_view (get_or es i d).1) ≡ need_of (needs_view es) x
need_at n [] x i d a h is = absurd (omega arith)
need_at n (e ∷ es) x zero d a h is = sym (cond-true (nat_eq x e.0) (Some (type_view e.1)) (need_of (needs_view es) x) (eq-eqb x e.0 (sym is)))
need_at n (e ∷ es) x (suc i) d a h is =
    let both = and_parts (nat_le n e.0) (ascends_from (suc e.0) (needs_view es)) a in
    let above = key_above (suc e.0) es i d both.1 (omega arith) in
    let number : (get_or es i d).0 ≡ x = is in
    need_at (suc e.0) es x i d both.1 (omega arith) is
    ∙ sym (cond-false (nat_eq x e.0) (Some (type_view e.1)) (need_of (needs_view es) x) (ne_eqb x e.0 (λ q. omega arith)))

-- an entry of the variable is its first
pub stands_at : (es : Entries) (x i : ℕ) (d e : ℕ × MailboxType) → ascends_from 0 (needs_view es) ≡ true → i < length es → (get_or es i d).0 ≡ x → Some (type_view (get_or es i e).1) ≡ need_of (needs_view es) x
stands_at es x i d e a h is = need_at 0 es x i e a h (subst (λ o. o.0 ≡ x) (get_or_default es i d e h) is)

-- where it stands nowhere, nothing is needed of it
none_there : (es : Entries) (x : ℕ) → ((i : ℕ) (d : ℕ × MailboxType) → i < length es → (get_or es i d).0 ≡ x → ⊥) → None ≡ need_of (needs_view es) x
none_there [] x h = refl
none_there (e ∷ es) x h =
    none_there es x (λ i d less is. h (suc i) d (omega arith) is)
    ∙ sym (cond-false (nat_eq x e.0) (Some (type_view e.1)) (need_of (needs_view es) x) (ne_eqb x e.0 (λ q. h zero e (omega arith) (sym q))))

module _ (es : Entries) (x : ℕ) (ascend : ascends_from 0 (needs_view es) ≡ true) where
  rise : IsNonDecreasingBy (λ e. ordering_index (nat_cmp e.0 x)) es
  rise i j d le h = let keys = keys_rise 0 es i j d ascend le h in grind (arith, nat_tests)

  -- a search for the variable ends at its entry, or there is none
  pub found : (i : ℕ) (d : ℕ × MailboxType) → i < length es → IsBinarySearchResult (λ e. nat_cmp e.0 x) es (Ok i) → Some (type_view (get_or es i d).1) ≡ need_of (needs_view es) x
  found i d within equal = need_at 0 es x i d ascend within (ranked _ x _ (sym (equal d)))

  pub not_found : (i : ℕ) → IsBinarySearchResult (λ e. nat_cmp e.0 x) es (Err i) → None ≡ need_of (needs_view es) x
  not_found i parted = none_there es x (λ k d less is. go k d less is)
    where
      go : (k : ℕ) (d : ℕ × MailboxType) → k < length es → (get_or es k d).0 ≡ x → ⊥
      go k d less is =
          (elim (nat_lt k i) as (λ b. nat_lt k i ≡ b → ⊥) [
            | true ↦ λ q. let front : k < i = ltb-true k i q in let lower : (get_or es k d).0 < x = ranked _ x _ (sym ((parted rise).0 k d (omega arith) front)) in omega arith
            | false ↦ λ q. let behind : i ≤ k = ltb-false k i q in let higher : x < (get_or es k d).0 = ranked _ x _ (sym ((parted rise).1 k d behind less)) in omega arith
          ]) refl

-- ---- in front, and then behind

abbrev or_else : Option types.MailboxType → Option types.MailboxType → Option types.MailboxType
or_else None o = o
or_else (Some a) o = Some a

need_append : (xs ys : Needs) (x : ℕ) → need_of (xs ++ ys) x ≡ or_else (need_of xs x) (need_of ys x)
need_append [] ys x = refl
need_append (e ∷ es) ys x = ap (λ o. if nat_eq x e.0 then Some e.1 else o) (need_append es ys x) ∙ go (nat_eq x e.0)
  where
    go : (b : Bool) → (if b then Some e.1 else or_else (need_of es x) (need_of ys x)) ≡ or_else (if b then Some e.1 else need_of es x) (need_of ys x)
    go true = refl
    go false = refl

views_append : (xs ys : Entries) → needs_view (xs ++ ys) ≡ needs_view xs ++ needs_view ys
views_append [] ys = refl
views_append (x ∷ xs) ys = ap (λ r. need_view x ∷ r) (views_append xs ys)

parted : (es : Entries) (k x : ℕ) → need_of (needs_view es) x ≡ or_else (need_of (needs_view (take k es)) x) (need_of (needs_view (drop k es)) x)
parted es k x =
    ap (λ l. need_of (needs_view l) x) (sym (take-append-drop k es))
    ∙ ap (λ l. need_of l x) (views_append (take k es) (drop k es))
    ∙ need_append (needs_view (take k es)) (needs_view (drop k es)) x

pub in_front : (es : Entries) (k x : ℕ) (a : types.MailboxType) → Some a ≡ need_of (needs_view (take k es)) x → Some a ≡ need_of (needs_view es) x
in_front es k x a h = sym (parted es k x ∙ ap (λ o. or_else o (need_of (needs_view (drop k es)) x)) (sym h))

pub behind : (es : Entries) (k x : ℕ) (o : Option types.MailboxType) → None ≡ need_of (needs_view (take k es)) x → o ≡ need_of (needs_view (take (length es - k) (drop k es))) x → o ≡ need_of (needs_view es) x
behind es k x o h g = g ∙ ap (λ l. need_of (needs_view l) x) (take_rest es k) ∙ sym (parted es k x ∙ ap (λ p. or_else p (need_of (needs_view (drop k es)) x)) (sym h))

-- ---- where those behind ascend

pub rest_ascends : (es : Entries) (k : ℕ) → ascends_from 0 (needs_view (drop k es)) ≡ true → ascends_from 0 (needs_view (take (length es - k) (drop k es))) ≡ true
rest_ascends es k h = subst (λ l. ascends_from 0 (needs_view l) ≡ true) (sym (take_rest es k)) h

-- from the place on the variables ascend, from each number up to the limit
pub record RisesBehind (es : Entries) (place limit : ℕ) : Type 0 where
  pub ascends : (m : ℕ) → m ≤ limit → ascends_from m (needs_view (drop place es)) ≡ true

pub none_behind : (es : Entries) (limit : ℕ) → RisesBehind es (length es) limit
none_behind es limit = record { ascends = λ m h. ap (λ l. ascends_from m (needs_view l)) (drop-length es) }

pub rises_now : (es : Entries) (place limit : ℕ) → RisesBehind es place limit → ascends_from 0 (needs_view (drop place es)) ≡ true
rises_now es place limit r = r.ascends 0 (omega arith)

pub rises_before : (es : Entries) (place k limit : ℕ) (d : ℕ × MailboxType) → place ≡ suc k → place ≤ length es → RisesBehind es place limit → (get_or es k d).0 < limit → RisesBehind es k (get_or es k d).0
rises_before es place k limit d next within r lower = record {
  ascends = λ m h.
      let e = get_or es k d in
      let later : ascends_from (suc e.0) (needs_view (drop (suc k) es)) ≡ true = subst (λ p. ascends_from (suc e.0) (needs_view (drop p es)) ≡ true) next (r.ascends (suc e.0) (omega arith)) in
      subst (λ l. ascends_from m (needs_view l) ≡ true) (sym (drop-cons es k d (omega arith)))
      (and_from (nat_le m e.0) (ascends_from (suc e.0) (needs_view (drop (suc k) es))) (le-leb m e.0 h) later);
}
