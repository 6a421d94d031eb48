-- Places of sets by their bases: a set more, and what a search by them finds.
use Rattle.std.proofs.Common.{◌≡◌, ℕ, zero, suc, ◌+◌, ◌<◌, ◌≤◌, true, false, cond, List, [], ◌∷◌, ◌++◌, length, get_or, slice_index_or, take, Option, Some, None, inl, inr, ◌⊎◌, ⊎_elim, refl, sym, ap, ◌∙◌, subst, arith}
use Rattle.std.specs.Prelude.{slice_get, is_some, Result, Ok, Err, IfOk}
use Rattle.std.specs.List.{AllByRecursion}
use Rattle.std.specs.Map.{update}
use Rattle.std.specs.Str.{bytes_eq}
use Rattle.std.specs.Cmp.Lexicographic.{bytes_decides}
use Rattle.std.proofs.lemmas.Bool.{cases_lt, cases_Bool}
use Rattle.std.proofs.lemmas.List.{length-map}
use Rattle.pat_bags.specs.declared.Bag.{Bag}
use Rattle.pat_bags.specs.Views.{counted, word_of}
use Rattle.pat_inclusion_spec.specs.Counts.{most_tags, same_below}
use Rattle.pat_inclusion_spec.specs.LinearSets.{LinearSet as SetData, linear_set}
use Rattle.pat_linear.proofs.Exact.{tags_are}
use Rattle.pat_linear.proofs.Spans.{same_counts}
use Rattle.pat_linear.specs.declared.set.LinearSet.{LinearSet}
use Rattle.pat_linear.specs.Views.{words_of, set_view, sets_view}
use Rattle.pat_cover_certificates.specs.declared.cover.CoverEntry.{CoverEntry}
use Rattle.pat_cover_certificates.specs.Views.{entry_view, entry_if}
use Rattle.pat_cover_certificates.specs.Firsts.{CoversFirst, IsOutside, FindsEntry}
use Rattle.pat_cover_certificates.specs.Indexes.{Entries, place_of, AddsBase, AddsSet, HoldsAlone, IsPlaced, AreRising, Indexes, AreOutside, FindsAmong}
use Rattle.pat_cover_certificates.proofs.FirstCovers.{base_alone, base_outside}

-- ---- items

pub got_item : {A : Type 0} → (xs : List A) (i : ℕ) (d x : A) → i < length xs → x ≡ get_or xs i d → slice_get xs i ≡ Some x
got_item [] i d x l e = absurd (omega arith)
got_item (y ∷ ys) zero d x l e = ap Some (sym e)
got_item (y ∷ ys) (suc i) d x l e = got_item ys i d x (omega arith) e

pub got_number : (xs : List ℕ) (i : ℕ) → i < length xs → slice_get xs i ≡ Some (slice_index_or xs i 0)
got_number [] i l = absurd (omega arith)
got_number (x ∷ xs) zero l = refl
got_number (x ∷ xs) (suc i) l = got_number xs i (omega arith)

pub if_ok : {A E : Type 0} → (P Q : A → Type 0) (r : Result A E) → ((x : A) → P x → Q x) → IfOk r P → IfOk r Q
if_ok P Q (Ok x) f h = f x h
if_ok P Q (Err e) f h = tt

-- ---- a base more

pub stays : (base : Bag) (place p : ℕ) (es : Entries) → place_of es base.counts ≡ Some p → length base.counts ≡ 32 → AddsBase base place es es
stays base place p es e all = (λ q k h. inl h, λ q k h. h, (p, e, inr e), all)

pub is_new : (base : Bag) (place : ℕ) (old new : Entries) → place_of old base.counts ≡ None → ((q : List ℕ) → place_of new q ≡ update bytes_eq (place_of old) base.counts (Some place) q) → length base.counts ≡ 32 → AddsBase base place old new
is_new base place old new none put all = (sound, kept, (place, here, inl refl), all)
  where
    own : (q : List ℕ) → bytes_eq base.counts q ≡ true → place_of new q ≡ Some place
    own q same = put q ∙ ap (λ b. cond b (Some place) (place_of old q)) same

    others : (q : List ℕ) → bytes_eq base.counts q ≡ false → place_of new q ≡ place_of old q
    others q apart = put q ∙ ap (λ b. cond b (Some place) (place_of old q)) apart

    here : place_of new base.counts ≡ Some place
    here = own base.counts ((bytes_decides base.counts base.counts).1 refl)

    sound : (q : List ℕ) (p : ℕ) → place_of new q ≡ Some p → (place_of old q ≡ Some p) ⊎ ((q ≡ base.counts) × (p ≡ place))
    sound q p h =
        ⊎_elim
        (λ same. let given = own q same in inr (sym ((bytes_decides base.counts q).0 same), cc))
        (λ apart. inl (sym (others q apart) ∙ h))
        (cases_Bool (bytes_eq base.counts q))

    kept : (q : List ℕ) (p : ℕ) → place_of old q ≡ Some p → place_of new q ≡ Some p
    kept q p h =
        ⊎_elim
        (λ same. let at = subst (λ x. place_of old x ≡ Some p) (sym ((bytes_decides base.counts q).0 same)) h in cc)
        (λ apart. others q apart ∙ h)
        (cases_Bool (bytes_eq base.counts q))

-- ---- a set more

get_front : (xs ys : List ℕ) (i a : ℕ) → slice_get xs i ≡ Some a → slice_get (xs ++ ys) i ≡ Some a
get_front [] ys i a h = cc
get_front (x ∷ xs) ys zero a h = h
get_front (x ∷ xs) ys (suc i) a h = get_front xs ys i a h

get_last : (xs : List ℕ) (y : ℕ) → slice_get (xs ++ y ∷ []) (length xs) ≡ Some y
get_last [] y = refl
get_last (x ∷ xs) y = get_last xs y

last_cases : (xs : List ℕ) (y i a : ℕ) → slice_get (xs ++ y ∷ []) i ≡ Some a → (slice_get xs i ≡ Some a) ⊎ ((i ≡ length xs) × (a ≡ y))
last_cases [] y zero a h = inr (refl, cc)
last_cases [] y (suc i) a h = absurd (cc)
last_cases (x ∷ xs) y zero a h = inl h
last_cases (x ∷ xs) y (suc i) a h = ⊎_elim (λ l. inl l) (λ r. inr (ap suc r.0, r.1)) (last_cases xs y i a h)

got_below : {A : Type 0} → (xs : List A) (i : ℕ) (a : A) → slice_get xs i ≡ Some a → i < length xs
got_below [] i a h = absurd (cc)
got_below (x ∷ xs) zero a h = omega arith
got_below (x ∷ xs) (suc i) a h = let l = got_below xs i a h in omega arith

-- one place more is the greatest
rise : (others : List ℕ) (place : ℕ) → AreRising others place → AreRising (others ++ place ∷ []) (place + 1)
rise others place h = (
  λ j a at. ⊎_elim (λ l. let x = h.0 j a l in omega arith) (λ r. let e = r.1 in omega arith) (last_cases others place j a at),
  λ j k a b less atj atk. ⊎_elim
      (λ (l : slice_get others j ≡ Some a). ⊎_elim
      (λ (m : slice_get others k ≡ Some b). h.1 j k a b less l m)
      (λ m. let x = h.0 j a l in let e = m.1 in omega arith)
      (last_cases others place k b atk))
      (λ r. ⊎_elim
      (λ (m : slice_get others k ≡ Some b). let x = got_below others k b m in let e = r.0 in absurd (omega arith))
      (λ m. let e = r.0 in let f = m.0 in absurd (omega arith))
      (last_cases others place k b atk))
      (last_cases others place j a atj),
)

rise_end : (others : List ℕ) (place : ℕ) → AreRising others place → AreRising others (place + 1)
rise_end others place h = (λ j a at. let x = h.0 j a at in omega arith, h.1)

-- the place of the last
at_end : (i place : ℕ) → i < place + 1 → (i < place) ⊎ (i ≡ place)
at_end i place l = ⊎_elim (λ b. inl b) (λ a. inr (omega arith)) (cases_lt i place)

same_item : {A : Type 0} → (xs : List A) (i j : ℕ) (x y : A) → i ≡ j → slice_get xs i ≡ Some x → slice_get xs j ≡ Some y → x ≡ y
same_item xs i j x y e h k = cc

listed : (sets : List LinearSet) (place : ℕ) (r : LinearSet) (es : Entries) (os : List ℕ) → slice_get sets place ≡ Some r → Indexes sets place es os → Indexes sets (place + 1) es (os ++ place ∷ [])
listed sets place r es os at h = (
  λ q p e. let x = h.0 q p e in let less = x.0 in (omega arith, x.1),
  λ i s l ati. ⊎_elim
      (λ b. ⊎_elim
      (λ (k : (j : ℕ) × (slice_get os j ≡ Some i)). inl (k.0, get_front os (place ∷ []) k.0 i k.1))
      (λ p. inr p)
      (h.1 i s b ati))
      (λ e. inl (length os, get_last os place ∙ ap Some (sym e)))
      (at_end i place l),
  rise os place h.2,
)

based : (sets : List LinearSet) (place : ℕ) (r : LinearSet) (es es' : Entries) (os : List ℕ) → slice_get sets place ≡ Some r → length r.periods ≡ 0 → AddsBase r.base place es es' → Indexes sets place es os → Indexes sets (place + 1) es' os
based sets place r es es' os at none adds h = (found, placed, rise_end os place h.2)
  where
    found : (q : List ℕ) (p : ℕ) → place_of es' q ≡ Some p → (p < place + 1) × HoldsAlone sets p q
    found q p e =
        ⊎_elim
        (λ old. let x = h.0 q p old in let less = x.0 in (omega arith, x.1))
        (λ new. let same = new.1 in (omega arith, (r, ap (slice_get sets) same ∙ at, none, sym new.0)))
        (adds.0 q p e)

    placed : (i : ℕ) (s : LinearSet) → i < place + 1 → slice_get sets i ≡ Some s → IsPlaced es' os i s
    placed i s l ati =
        ⊎_elim
        (λ b. ⊎_elim
        (λ (k : (j : ℕ) × (slice_get os j ≡ Some i)). inl k)
        (λ p. inr (p.0, adds.1 s.base.counts p.0 p.1, p.2, p.3, p.4))
        (h.1 i s b ati))
        (λ e. subst (IsPlaced es' os i) (same_item sets place i r s (sym e) at ati)
        (inr (adds.2.0, adds.2.1, ⊎_elim (λ o. omega arith) (λ old. let x = (h.0 r.base.counts adds.2.0 old).0 in omega arith) adds.2.2, none, adds.3)))
        (at_end i place l)

pub set_more : (sets : List LinearSet) (place : ℕ) (r : LinearSet) (es es' : Entries) (os os' : List ℕ) → slice_get sets place ≡ Some r → AddsSet r place es os es' os' → Indexes sets place es os → Indexes sets (place + 1) es' os'
set_more sets place r es es' os os' at adds h =
    ⊎_elim
    (λ l. subst (λ x. Indexes sets (place + 1) x os') (sym l.0) (subst (Indexes sets (place + 1) es) (sym l.1) (listed sets place r es os at h)))
    (λ b. subst (Indexes sets (place + 1) es') (sym b.0) (based sets place r es es' os at b.1 b.2 h))
    adds

pub no_sets : (sets : List LinearSet) → Indexes sets 0 [] []
no_sets sets = (λ q p e. absurd (cc), λ i r l at. absurd (omega arith), (λ j a at. absurd (cc), λ j k a b l at. absurd (cc)))

-- ---- what a base says

pub some_there : (o : Option ℕ) → is_some o ≡ true → (p : ℕ) × (o ≡ Some p)
some_there None e = absurd (cc)
some_there (Some p) e = (p, refl)

pub none_there : (o : Option ℕ) → is_some o ≡ false → o ≡ None
none_there None e = refl
none_there (Some p) e = absurd (cc)

same_lists : (xs ys : List ℕ) → length xs ≡ length ys → ((i : ℕ) → i < length xs → counted xs i ≡ counted ys i) → xs ≡ ys
same_lists [] [] e h = refl
same_lists [] (y ∷ ys) e h = absurd (omega arith)
same_lists (x ∷ xs) [] e h = absurd (omega arith)
same_lists (x ∷ xs) (y ∷ ys) e h =
    let first : x ≡ y = h 0 (omega arith) in
    let rest = same_lists xs ys (omega arith) (λ i l. h (suc i) (omega arith)) in
    cc

empty_list : {A : Type 0} → (xs : List A) → length xs ≡ 0 → xs ≡ []
empty_list [] e = refl
empty_list (x ∷ xs) e = absurd (omega arith)

-- a set without periods holds no other base
other_alone : (s r : LinearSet) → length s.base.counts ≡ 32 → length r.base.counts ≡ 32 → length r.periods ≡ 0 → (s.base.counts ≡ r.base.counts → ⊥) → IsOutside most_tags (set_view s) (set_view r)
other_alone s r all all_of_it none apart =
    base_outside most_tags (set_view s) (set_view r)
    (base_alone most_tags (word_of r.base) (words_of r.periods) (word_of s.base) (length-map r.periods word_of ∙ none)
    (⊎_elim
    (λ y. absurd (apart (same_lists s.base.counts r.base.counts (all ∙ sym all_of_it)
    (λ t l. same_counts most_tags (word_of s.base) (word_of r.base) y t (subst (λ n. t < n) (all ∙ sym tags_are) l)))))
    (λ z. z)
    (cases_Bool (same_below most_tags (word_of s.base) (word_of r.base)))))

-- sets without periods, and with the same base
same_view : (q r : LinearSet) → length q.periods ≡ 0 → length r.periods ≡ 0 → q.base.counts ≡ r.base.counts → set_view q ≡ set_view r
same_view q r a b e =
    ap (λ c. linear_set (counted c) (words_of q.periods)) e
    ∙ ap (λ l. linear_set (word_of r.base) (words_of l)) (empty_list q.periods a ∙ sym (empty_list r.periods b))

-- ---- what is found

got_map : (sets : List LinearSet) (i : ℕ) (r : LinearSet) → slice_get sets i ≡ Some r → slice_get (sets_view sets) i ≡ Some (set_view r)
got_map [] i r h = absurd (cc)
got_map (x ∷ xs) zero r h = let e : x ≡ r = cc in ap (λ y. Some (set_view y)) e
got_map (x ∷ xs) (suc i) r h = got_map xs i r h

all_before : (P : SetData → Type 0) (sets : List LinearSet) (k : ℕ) → ((i : ℕ) (r : LinearSet) → i < k → slice_get sets i ≡ Some r → P (set_view r)) → AllByRecursion P (take k (sets_view sets))
all_before P [] zero h = tt
all_before P [] (suc k) h = tt
all_before P (r ∷ sets) zero h = tt
all_before P (r ∷ sets) (suc k) h = (h 0 r (omega arith) refl, all_before P sets k (λ i s l at. h (suc i) s (omega arith) at))

all_of : (P : SetData → Type 0) (sets : List LinearSet) → ((i : ℕ) (r : LinearSet) → slice_get sets i ≡ Some r → P (set_view r)) → AllByRecursion P (sets_view sets)
all_of P [] h = tt
all_of P (r ∷ sets) h = (h 0 r refl, all_of P sets (λ i s at. h (suc i) s at))

first_entry : (s : LinearSet) (sets : List LinearSet) (entry : CoverEntry) (r : LinearSet) → slice_get sets entry.set ≡ Some r → CoversFirst most_tags (entry_view entry) (set_view s) (set_view r) → ((i : ℕ) (q : LinearSet) → i < entry.set → slice_get sets i ≡ Some q → IsOutside most_tags (set_view s) (set_view q)) → FindsEntry most_tags (set_view s) (sets_view sets) (Some (entry_view entry))
first_entry s sets entry r at covers out =
    (set_view r, got_map sets entry.set r at, covers, all_before (IsOutside most_tags (set_view s)) sets entry.set out)

module _ (s : LinearSet) (sets : List LinearSet) (es : Entries) (os : List ℕ) (h : Indexes sets (length sets) es os) (all : length s.base.counts ≡ 32) where
  -- the set lies outside one that is listed, or has another base, or has this one
  placed_outside : (i end : ℕ) (r : LinearSet) → slice_get sets i ≡ Some r → i < end → AreOutside most_tags s sets os end → ((p : ℕ) → p ≤ i → place_of es s.base.counts ≡ Some p → length r.periods ≡ 0 → s.base.counts ≡ r.base.counts → IsOutside most_tags (set_view s) (set_view r)) → IsOutside most_tags (set_view s) (set_view r)
  placed_outside i end r at l out same =
      ⊎_elim
      (λ (k : (j : ℕ) × (slice_get os j ≡ Some i)). out k.0 i r k.1 l at)
      (λ p. ⊎_elim
      (λ y. let e = (bytes_decides s.base.counts r.base.counts).0 y in
      same p.0 p.2 (ap (place_of es) e ∙ p.1) p.3 e)
      (λ z. other_alone s r all p.4 p.3 (λ e. let y = (bytes_decides s.base.counts r.base.counts).1 e in cc))
      (cases_Bool (bytes_eq s.base.counts r.base.counts)))
      (h.1 i r (got_below sets i r at) at)

  -- no set holds its base alone
  pub without_base : (found : Option CoverEntry) → place_of es s.base.counts ≡ None → FindsAmong most_tags s sets os (length sets) found → FindsEntry most_tags (set_view s) (sets_view sets) (entry_if found)
  without_base None none f =
      all_of (IsOutside most_tags (set_view s)) sets
      (λ i r at. placed_outside i (length sets) r at (got_below sets i r at) f (λ p l e b same. absurd (cc)))
  without_base (Some entry) none f =
      first_entry s sets entry f.0 f.1 f.2
      (λ i q l at. placed_outside i entry.set q at l f.4 (λ p l e b same. absurd (cc)))

  module _ (place : ℕ) (known : place_of es s.base.counts ≡ Some place) where
    early : (i end : ℕ) (r : LinearSet) → slice_get sets i ≡ Some r → i < end → end ≤ place → AreOutside most_tags s sets os end → IsOutside most_tags (set_view s) (set_view r)
    early i end r at l b out = placed_outside i end r at l out (λ p below e n same. let here : p ≡ place = cc in absurd (omega arith))

    -- the first set that holds its base alone has it, and none before that
    pub at_base : (entry : CoverEntry) (r : LinearSet) → entry.set ≡ place → slice_get sets place ≡ Some r → CoversFirst most_tags (entry_view entry) (set_view s) (set_view r) → AreOutside most_tags s sets os place → FindsEntry most_tags (set_view s) (sets_view sets) (Some (entry_view entry))
    at_base entry r e at covers out =
        first_entry s sets entry r (ap (slice_get sets) e ∙ at) covers (λ i q l ati. early i place q ati (omega arith) (omega arith) out)

    pub before_base : (entry : CoverEntry) → FindsAmong most_tags s sets os place (Some entry) → FindsEntry most_tags (set_view s) (sets_view sets) (Some (entry_view entry))
    before_base entry f =
        let l = f.3 in
        first_entry s sets entry f.0 f.1 f.2 (λ i q b ati. early i entry.set q ati b (omega arith) f.4)

    -- it hasn't, and so has no other that holds its base alone
    pub past_base : (found : Option CoverEntry) (r : LinearSet) → slice_get sets place ≡ Some r → IsOutside most_tags (set_view s) (set_view r) → FindsAmong most_tags s sets os (length sets) found → FindsEntry most_tags (set_view s) (sets_view sets) (entry_if found)
    past_base found r at out f = found_past found f
      where
        alone : HoldsAlone sets place s.base.counts
        alone = (h.0 s.base.counts place known).1

        outside : (i end : ℕ) (q : LinearSet) → slice_get sets i ≡ Some q → i < end → AreOutside most_tags s sets os end → IsOutside most_tags (set_view s) (set_view q)
        outside i end q ati l o =
            placed_outside i end q ati l o
            (λ p l e n same. let one = same_item sets place place alone.0 r refl alone.1 at in
            subst (IsOutside most_tags (set_view s))
            (ap set_view (sym one) ∙ same_view alone.0 q alone.2 n (alone.3 ∙ same)) out)

        found_past : (found : Option CoverEntry) → FindsAmong most_tags s sets os (length sets) found → FindsEntry most_tags (set_view s) (sets_view sets) (entry_if found)
        found_past None g = all_of (IsOutside most_tags (set_view s)) sets (λ i q ati. outside i (length sets) q ati (got_below sets i q ati) g)
        found_past (Some entry) g = first_entry s sets entry g.0 g.1 g.2 (λ i q l ati. outside i entry.set q ati l g.4)

-- ---- one of the others after another

-- the set lies in none of those at the first of the others' places
abbrev pub OutsideSoFar : LinearSet → List LinearSet → List ℕ → ℕ → Type 0
OutsideSoFar s sets os j =
    (k i : ℕ) (r : LinearSet) → k < j → slice_get os k ≡ Some i → slice_get sets i ≡ Some r → IsOutside most_tags (set_view s) (set_view r)

module _ (s : LinearSet) (sets : List LinearSet) (os : List ℕ) (rising : AreRising os (length sets)) where
  -- those that follow are not before the end
  pub so_far_to : (j a end : ℕ) → slice_get os j ≡ Some a → end ≤ a → OutsideSoFar s sets os j → AreOutside most_tags s sets os end
  so_far_to j a end atj e out k i r atk l ati =
      ⊎_elim
      (λ (b : k < j). out k i r b atk ati)
      (λ b. ⊎_elim
      (λ (m : j < k). let x = rising.1 j k a i m atj atk in absurd (omega arith))
      (λ m. let here : j ≡ k = omega arith in let same = same_item os j k a i here atj atk in absurd (omega arith))
      (cases_lt j k))
      (cases_lt k j)

  pub so_far_all : (j : ℕ) → length os ≤ j → OutsideSoFar s sets os j → (end : ℕ) → AreOutside most_tags s sets os end
  so_far_all j e out end k i r atk l ati = let b = got_below os k i atk in out k i r (omega arith) atk ati

  pub so_far_more : (j a : ℕ) (q : LinearSet) → slice_get os j ≡ Some a → slice_get sets a ≡ Some q → IsOutside most_tags (set_view s) (set_view q) → OutsideSoFar s sets os j → OutsideSoFar s sets os (j + 1)
  so_far_more j a q atj ata here out k i r l atk ati =
      ⊎_elim
      (λ (b : k < j). out k i r b atk ati)
      (λ b. let e : j ≡ k = omega arith in
      let same = same_item os j k a i e atj atk in
      subst (λ x. IsOutside most_tags (set_view s) (set_view x)) (same_item sets a i q r same ata ati) here)
      (cases_lt k j)
