-- What a direct cover shows.
use Rattle.std.proofs.Common.{◌≡◌, ℕ, zero, suc, true, ◌&&◌, ◌*◌, nat_eq, List, [], ◌∷◌, length, Option, Some, None, inl, inr, ⊎_elim, refl, sym, ap, ◌∙◌, subst, mul-zero}
use Rattle.std.specs.Prelude.{slice_get}
use Rattle.std.specs.List.{AllByRecursion}
use Rattle.std.proofs.lemmas.Bool.{and_parts, cases_Bool, cond-true, cond-false}
use Rattle.pat_words_spec.specs.Words.{Word, plus}
use Rattle.pat_words_spec.specs.Patterns.{Pat, Included}
use Rattle.pat_words_laws.proofs.WordLaws.{plus_assoc}
use Rattle.pat_words_spec.specs.Tags.{tags_below, HasTagsBelow}
use Rattle.pat_words_spec.specs.Languages.{MemberOf}
use Rattle.pat_inclusion_spec.specs.Counts.{same_below, scaled}
use Rattle.pat_inclusion_spec.specs.LinearSets.{LinearSet, combined, InSet, InSets, SetBelow, SetsBelow}
use Rattle.pat_inclusion_spec.specs.ClosedForms.{sets_of, closed_form, is_small, lists_are_short}
use Rattle.pat_inclusion_spec.specs.Covers.{CoverEntry, makes, makes_from, make_each, entry_covers, is_cover, IsMadeOf, LiesDirectly, IsDirectlyCovered}
use Rattle.pat_inclusion_spec.specs.Certificates.{covers_forms, cover_shows}
use Rattle.pat_inclusion_laws.proofs.Languages.{Into, star_flat, star_sum}
use Rattle.pat_inclusion_laws.proofs.Spans.{AllBelow, Spanned, none_below, plus_below, same_words, made_to}
use Rattle.pat_inclusion_laws.proofs.Forms.{form_below, set_to, set_from, form_to, form_from}

-- ---- from numbers to sets that lie directly in others

scaled_below : (n c : ℕ) (u : Word) → HasTagsBelow n u → HasTagsBelow n (scaled c u)
scaled_below n c u h t l = ap (λ x. c * x) (h t l) ∙ mul-zero c

combined_below : (n : ℕ) (cs : List ℕ) (ps : List Word) → AllBelow n ps → HasTagsBelow n (combined cs ps)
combined_below n [] ps a = none_below n
combined_below n (c ∷ cs) [] a = none_below n
combined_below n (c ∷ cs) (p ∷ ps) a =
    plus_below n (scaled c p) (combined cs ps) (scaled_below n c p a.0) (combined_below n cs ps a.1)

make_each_to : (n : ℕ) (ps : List Word) (numbers : List (List ℕ)) (ws : List Word) → AllBelow n ps → AllBelow n ws → make_each n ps numbers ws ≡ true → AllByRecursion (IsMadeOf ps) ws
make_each_to n ps [] [] a b h = tt
make_each_to n ps (cs ∷ more) (w ∷ ws) a b h =
    let both = and_parts (makes n ps cs w) (make_each n ps more ws) h in
    let same = and_parts (nat_eq (length cs) (length ps)) (same_below n w (combined cs ps)) both.0 in
    ((cs, same_words n w (combined cs ps) b.0 (combined_below n cs ps a) same.1), make_each_to n ps more ws a b.1 both.1)
make_each_to n ps [] (w ∷ ws) a b h = cc
make_each_to n ps (cs ∷ more) [] a b h = cc

entry_to : (n : ℕ) (entry : CoverEntry) (s : LinearSet) (right : List LinearSet) → SetBelow n s → SetsBelow n right → (o : Option LinearSet) → slice_get right entry.set ≡ o → entry_covers n entry s o ≡ true → (place : ℕ) × (r : LinearSet) × (slice_get right place ≡ Some r) × LiesDirectly s r
entry_to n entry s right a b None at h = cc
entry_to n entry s right a b (Some r) at h =
    let below = sets_at n right entry.set r b at in
    let both = and_parts (makes_from n r.base r.periods entry.base s.base) (make_each n r.periods entry.periods s.periods) h in
    let same = and_parts (nat_eq (length entry.base) (length r.periods)) (same_below n s.base (plus r.base (combined entry.base r.periods))) both.0 in (
      entry.set,
      r,
      at,
      record {
        base = (
          entry.base,
          same_words n s.base (plus r.base (combined entry.base r.periods)) a.0
              (plus_below n r.base (combined entry.base r.periods) below.0 (combined_below n entry.base r.periods below.1))
              same.1,
        );
        periods = make_each_to n r.periods entry.periods s.periods below.1 a.1 both.1;
      },
    )
  where
    sets_at : (n : ℕ) (sets : List LinearSet) (place : ℕ) (r : LinearSet) → SetsBelow n sets → slice_get sets place ≡ Some r → SetBelow n r
    sets_at n [] place r b at = cc
    sets_at n (x ∷ xs) zero r b at = let same : x ≡ r = cc in subst (SetBelow n) same b.0
    sets_at n (x ∷ xs) (suc place) r b at = sets_at n xs place r b.1 at

pub cover_direct : (n : ℕ) (left right : List LinearSet) (entries : List CoverEntry) → SetsBelow n left → SetsBelow n right → is_cover n left right entries ≡ true → IsDirectlyCovered left right
cover_direct n [] right entries a b h = tt
cover_direct n (s ∷ ss) right [] a b h = cc
cover_direct n (s ∷ ss) right (entry ∷ entries) a b h =
    let both = and_parts (entry_covers n entry s (slice_get right entry.set)) (is_cover n ss right entries) h in
    (entry_to n entry s right a.0 b (slice_get right entry.set) refl both.0, cover_direct n ss right entries a.1 b both.1)

-- ---- sets that lie directly in others

set_in : (sets : List LinearSet) (place : ℕ) (r : LinearSet) → slice_get sets place ≡ Some r → Into (InSet r) (InSets sets)
set_in [] place r at w h = cc
set_in (x ∷ xs) zero r at w h = let same : r ≡ x = cc in inl (subst (λ y. InSet y w) same h)
set_in (x ∷ xs) (suc place) r at w h = inr (set_in xs place r at w h)

members_made : (ps qs : List Word) → AllByRecursion (IsMadeOf ps) qs → Into (MemberOf qs) (Spanned ps)
members_made ps [] a w h = absurd h
members_made ps (q ∷ qs) a w h =
    ⊎_elim (λ e. subst (Spanned ps) e (made_to ps q a.0)) (λ k. members_made ps qs a.1 w k) h

lies_in : (s r : LinearSet) → LiesDirectly s r → Into (InSet s) (InSet r)
lies_in s r d w h =
    let k = set_to s w h in
    let base = combined d.base.0 r.periods in
    set_from r w (plus base k.0)
    (star_sum (MemberOf r.periods) base k.0
    (made_to r.periods base (d.base.0, refl))
    (star_flat (MemberOf s.periods) (MemberOf r.periods) (members_made r.periods s.periods d.periods) k.0 k.1))
    (k.2 ∙ ap (λ (x : Word). plus x k.0) d.base.1 ∙ plus_assoc r.base base k.0)

-- a direct cover gives inclusion
pub direct_into : (left right : List LinearSet) → IsDirectlyCovered left right → Into (InSets left) (InSets right)
direct_into [] right d w h = absurd h
direct_into (s ∷ ss) right d w h =
    ⊎_elim
    (λ k. set_in right d.0.0 d.0.1 d.0.2 w (lies_in s d.0.1 d.0.3 w k))
    (λ k. direct_into ss right d.1 w k)
    h

-- ---- certificates

-- the closed form, if it isn't too large
pub form_is : (n : ℕ) (e : Pat) (sets : List LinearSet) → closed_form n e ≡ Some sets → sets ≡ sets_of n e
form_is n e sets h =
    let b = is_small e && lists_are_short n e in
    ⊎_elim
    (λ y. let q : Some (sets_of n e) ≡ Some sets = sym (cond-true b (Some (sets_of n e)) None y) ∙ h in cc)
    (λ z. let q : None ≡ Some sets = sym (cond-false b (Some (sets_of n e)) None z) ∙ h in cc)
    (cases_Bool b)

pub cover_includes : (n : ℕ) (entries : List CoverEntry) (e f : Pat) → tags_below n e ≡ true → tags_below n f ≡ true → cover_shows n entries e f ≡ true → Included e f
cover_includes n entries e f te tf h = go (closed_form n e) (closed_form n f) refl refl h
  where
    go : (x y : Option (List LinearSet)) → closed_form n e ≡ x → closed_form n f ≡ y → covers_forms n entries x y ≡ true → Included e f
    go None y p q c = cc
    go (Some left) None p q c = cc
    go (Some left) (Some right) p q c = λ w i.
        let l = form_is n e left p in
        let r = form_is n f right q in
        let covered = subst (λ x. is_cover n x (sets_of n f) entries ≡ true) l (subst (λ x. is_cover n left x entries ≡ true) r c) in
        form_to n f w
        (direct_into (sets_of n e) (sets_of n f)
        (cover_direct n (sets_of n e) (sets_of n f) entries (form_below n e te) (form_below n f tf) covered)
        w
        (form_from n e te w i))
