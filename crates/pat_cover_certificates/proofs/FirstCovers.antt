-- What searches for numbers, entries and covers find.
use Rattle.std.proofs.Common.{◌≡◌, ℕ, zero, suc, ◌+◌, ◌<◌, ◌≤◌, true, false, nat_eq, List, [], ◌∷◌, ◌++◌, length, get_or, drop, Option, Some, None, ⊎_elim, refl, sym, ap, ◌∙◌, subst, arith, append-nil}
use Rattle.std.specs.Prelude.{slice_get, Result, Ok, Err, IfOk, IsSome, IfSome, ◌↔◌}
use Rattle.std.specs.List.{AllByRecursion}
use Rattle.std.proofs.lemmas.Bool.{and_parts, and_from, eqb-true, eq-eqb, cases_lt}
use Rattle.pat_words_spec.specs.Words.{Word, plus, LiesIn}
use Rattle.pat_words_spec.specs.Tags.{HasTagsBelow}
use Rattle.pat_words_laws.proofs.WordLaws.{count_eq}
use Rattle.pat_bags.specs.declared.Bag.{Bag}
use Rattle.pat_bags.specs.Views.{word_of}
use Rattle.pat_inclusion_spec.specs.Counts.{most_tags, same_below}
use Rattle.pat_inclusion_spec.specs.LinearSets.{LinearSet, combined, SetsBelow}
use Rattle.pat_inclusion_spec.specs.Covers.{CoverEntry, makes, makes_from, make_each, entry_covers, is_cover, IsDirectlyCovered}
use Rattle.pat_linear.proofs.Spans.{same_counts}
use Rattle.pat_linear.proofs.CoverLaws.{cover_direct}
use Rattle.pat_linear.proofs.Exact.{direct_cover}
use Rattle.pat_linear.specs.declared.set.LinearSet.{LinearSet as CodeSet}
use Rattle.pat_linear.specs.Views.{words_of, set_view, sets_view}
use Rattle.pat_cover_certificates.specs.coefficients.Numbers.{MakesFirst, NoNumbers, FindsNumbers}
use Rattle.pat_cover_certificates.proofs.Making.{made, makes_by, same_each, differ}
use Rattle.pat_cover_certificates.specs.declared.cover.CoverEntry.{CoverEntry as CodeEntry}
use Rattle.pat_cover_certificates.specs.Views.{entry_view, entries_view, cover_if}
use Rattle.pat_cover_certificates.specs.Firsts.{MakeEachFirst, IsOutside, IsFirstEntry, IsFirstCover, FindsFrom, FindsEach, FindsCover}
use Rattle.pat_cover_certificates.proofs.Lists.{drop_more, drop_end, seam, map_last}

-- ---- from a base

from_to : (n : ℕ) (base : Word) (ps : List Word) (cs : List ℕ) (rest w : Word) → plus rest base ≡ w → makes_from n base ps cs w ≡ true → makes n ps cs rest ≡ true
from_to n base ps cs rest w e h =
    let both = and_parts (nat_eq (length cs) (length ps)) (same_below n w (plus base (combined cs ps))) h in
    makes_by n ps cs rest (eqb-true (length cs) (length ps) both.0)
    (λ t l. let x = same_counts n w (plus base (combined cs ps)) both.1 t l in let y = count_eq (plus rest base) w e t in omega arith)

to_from : (n : ℕ) (base : Word) (ps : List Word) (cs : List ℕ) (rest w : Word) → plus rest base ≡ w → makes n ps cs rest ≡ true → makes_from n base ps cs w ≡ true
to_from n base ps cs rest w e h =
    let m = made n ps cs rest h in
    and_from (nat_eq (length cs) (length ps)) (same_below n w (plus base (combined cs ps))) (eq-eqb (length cs) (length ps) m.0)
    (same_each n w (plus base (combined cs ps)) (λ t l. let x = m.1 t l in let y = count_eq (plus rest base) w e t in omega arith))

-- numbers that make what is left above the base
pub from_rest : (n : ℕ) (base : Word) (ps : List Word) (rest w : Word) (found : Option (List ℕ)) → plus rest base ≡ w → FindsNumbers n ps rest found → FindsFrom n base ps w found
from_rest n base ps rest w (Some cs) e h = (to_from n base ps cs rest w e h.0, λ ds m. h.1 ds (from_to n base ps ds rest w e m))
from_rest n base ps rest w None e h = λ cs m. h cs (from_to n base ps cs rest w e m)

pub from_result : {E : Type 0} → (n : ℕ) (base : Word) (ps : List Word) (rest w : Word) (r : Result (Option (List ℕ)) E) → plus rest base ≡ w → IfOk r (λ found. FindsNumbers n ps rest found) → IfOk r (λ found. FindsFrom n base ps w found)
from_result n base ps rest w (Ok found) e h = from_rest n base ps rest w found e h
from_result n base ps rest w (Err x) e h = tt

pub not_some : false ≡ true → ⊥
not_some e = cc

-- a base that doesn't lie in the word
pub from_none : (base : Word) (ps : List Word) (w : Word) → HasTagsBelow most_tags base → (LiesIn base w → ⊥) → FindsFrom most_tags base ps w None
from_none base ps w few out cs m =
    let both = and_parts (nat_eq (length cs) (length ps)) (same_below most_tags w (plus base (combined cs ps))) m in
    out (λ t. ⊎_elim
    (λ l. let x = same_counts most_tags w (plus base (combined cs ps)) both.1 t l in omega arith)
    (λ g. let none = few t g in omega arith)
    (cases_lt t most_tags))

-- without periods only the base is made
pub base_alone : (n : ℕ) (base : Word) (ps : List Word) (w : Word) → length ps ≡ 0 → same_below n w base ≡ false → FindsFrom n base ps w None
base_alone n base (p ∷ ps) w none other cs m = absurd (omega arith)
base_alone n base [] w none other cs m =
    let both = and_parts (nat_eq (length cs) 0) (same_below n w (plus base (combined cs []))) m in
    differ (same_below n w base) (same_each n w base (λ t l. at cs t (same_counts n w (plus base (combined cs [])) both.1 t l))) other
  where
    at : (cs : List ℕ) (t : ℕ) → w t ≡ plus base (combined cs []) t → w t ≡ base t
    at [] t h = omega arith
    at (c ∷ cs) t h = omega arith

-- ---- for each word

-- the numbers so far, and those to come
abbrev pub EachSoFar : ℕ → List Word → List (List ℕ) → List Bag → List Bag → Type 0
EachSoFar n ps all rest ws =
    (later : List (List ℕ)) → MakeEachFirst n ps later (words_of rest) → MakeEachFirst n ps (all ++ later) (words_of ws)

pub each_turn : (n : ℕ) (ps : List Word) (all : List (List ℕ)) (ws : List Bag) (i : ℕ) (d : Bag) (cs : List ℕ) → i < length ws → EachSoFar n ps all (drop i ws) ws → MakesFirst n ps cs (word_of (get_or ws i d)) → EachSoFar n ps (all ++ cs ∷ []) (drop (i + 1) ws) ws
each_turn n ps all ws i d cs l h m later k =
    subst (λ x. MakeEachFirst n ps x (words_of ws)) (sym (seam all cs later))
    (h (cs ∷ later) (subst (λ x. MakeEachFirst n ps (cs ∷ later) (words_of x)) (sym (drop_more ws i d l)) (m, k)))

pub each_end : (n : ℕ) (ps : List Word) (all : List (List ℕ)) (ws : List Bag) (i : ℕ) → length ws ≤ i → EachSoFar n ps all (drop i ws) ws → MakeEachFirst n ps all (words_of ws)
each_end n ps all ws i l h =
    subst (λ x. MakeEachFirst n ps x (words_of ws)) (append-nil all)
    (h [] (subst (λ x. MakeEachFirst n ps [] (words_of x)) (sym (drop_end ws i l)) tt))

pub each_none : (n : ℕ) (ps : List Word) (ws : List Bag) (i : ℕ) (d : Bag) → i < length ws → NoNumbers n ps (word_of (get_or ws i d)) → FindsEach n ps (words_of ws) None
each_none n ps [] i d l never numbers h = absurd (omega arith)
each_none n ps (w ∷ ws) i d l never [] h = cc
each_none n ps (w ∷ ws) zero d l never (cs ∷ more) h = never cs (and_parts (makes n ps cs (word_of w)) (make_each n ps more (words_of ws)) h).0
each_none n ps (w ∷ ws) (suc i) d l never (cs ∷ more) h = each_none n ps ws i d (omega arith) never more (and_parts (makes n ps cs (word_of w)) (make_each n ps more (words_of ws)) h).1

-- ---- entries

pub base_outside : (n : ℕ) (s r : LinearSet) → FindsFrom n r.base r.periods s.base None → IsOutside n s r
base_outside n s r never entry h =
    never entry.base (and_parts (makes_from n r.base r.periods entry.base s.base) (make_each n r.periods entry.periods s.periods) h).0

pub each_outside : (n : ℕ) (s r : LinearSet) → FindsEach n r.periods s.periods None → IsOutside n s r
each_outside n s r never entry h =
    never entry.periods (and_parts (makes_from n r.base r.periods entry.base s.base) (make_each n r.periods entry.periods s.periods) h).1

-- no entry covers a set that lies outside all
pub none_covers : (n : ℕ) (s : LinearSet) (right : List LinearSet) → AllByRecursion (IsOutside n s) right → (entry : CoverEntry) (place : ℕ) → entry_covers n entry s (slice_get right place) ≡ true → ⊥
none_covers n s [] a entry place h = cc
none_covers n s (r ∷ right) a entry zero h = a.0 entry h
none_covers n s (r ∷ right) a entry (suc place) h = none_covers n s right a.1 entry place h

-- ---- covers

abbrev pub CoverSoFar : ℕ → List LinearSet → List CodeEntry → List CodeSet → List CodeSet → Type 0
CoverSoFar n right made rest left =
    (later : List CoverEntry) → IsFirstCover n (sets_view rest) right later → IsFirstCover n (sets_view left) right (entries_view made ++ later)

pub cover_turn : (n : ℕ) (right : List LinearSet) (done : List CodeEntry) (left : List CodeSet) (i : ℕ) (d : CodeSet) (entry : CodeEntry) → i < length left → CoverSoFar n right done (drop i left) left → IsFirstEntry n (entry_view entry) (set_view (get_or left i d)) right → CoverSoFar n right (done ++ entry ∷ []) (drop (i + 1) left) left
cover_turn n right done left i d entry l h m later k =
    subst (λ x. IsFirstCover n (sets_view left) right x)
    (sym (ap (λ x. x ++ later) (map_last entry_view done entry) ∙ seam (entries_view done) (entry_view entry) later))
    (h (entry_view entry ∷ later) (subst (λ x. IsFirstCover n (sets_view x) right (entry_view entry ∷ later)) (sym (drop_more left i d l)) (m, k)))

pub cover_end : (n : ℕ) (right : List LinearSet) (done : List CodeEntry) (left : List CodeSet) (i : ℕ) → length left ≤ i → CoverSoFar n right done (drop i left) left → IsFirstCover n (sets_view left) right (entries_view done)
cover_end n right done left i l h =
    subst (λ x. IsFirstCover n (sets_view left) right x) (append-nil (entries_view done))
    (h [] (subst (λ x. IsFirstCover n (sets_view x) right []) (sym (drop_end left i l)) tt))

pub cover_none : (n : ℕ) (right : List LinearSet) (left : List CodeSet) (i : ℕ) (d : CodeSet) → i < length left → AllByRecursion (IsOutside n (set_view (get_or left i d))) right → FindsCover n (sets_view left) right None
cover_none n right [] i d l never cover h = absurd (omega arith)
cover_none n right (s ∷ left) i d l never [] h = cc
cover_none n right (s ∷ left) zero d l never (entry ∷ more) h =
    none_covers n (set_view s) right never entry entry.set
    (and_parts (entry_covers n entry (set_view s) (slice_get right entry.set)) (is_cover n (sets_view left) right more) h).0
cover_none n right (s ∷ left) (suc i) d l never (entry ∷ more) h =
    cover_none n right left i d (omega arith) never more
    (and_parts (entry_covers n entry (set_view s) (slice_get right entry.set)) (is_cover n (sets_view left) right more) h).1

-- a first cover is one
each_first : (n : ℕ) (ps : List Word) (numbers : List (List ℕ)) (ws : List Word) → MakeEachFirst n ps numbers ws → make_each n ps numbers ws ≡ true
each_first n ps [] [] h = refl
each_first n ps (cs ∷ more) (w ∷ ws) h = and_from (makes n ps cs w) (make_each n ps more ws) h.0.0 (each_first n ps more ws h.1)
each_first n ps [] (w ∷ ws) h = absurd h
each_first n ps (cs ∷ more) [] h = absurd h

first_covers : (n : ℕ) (left right : List LinearSet) (cover : List CoverEntry) → IsFirstCover n left right cover → is_cover n left right cover ≡ true
first_covers n [] right [] h = refl
first_covers n [] right (entry ∷ cover) h = absurd h
first_covers n (s ∷ left) right [] h = absurd h
first_covers n (s ∷ left) right (entry ∷ cover) h =
    let r = h.0.0 in
    and_from (entry_covers n entry s (slice_get right entry.set)) (is_cover n left right cover)
    (subst (λ o. entry_covers n entry s o ≡ true) (sym h.0.1)
    (and_from (makes_from n r.base r.periods entry.base s.base) (make_each n r.periods entry.periods s.periods)
    h.0.2.0.0
    (each_first n r.periods entry.periods s.periods h.0.2.1)))
    (first_covers n left right cover h.1)

-- what is found is a cover
found_checks : (n : ℕ) (left right : List LinearSet) (found : Option (List CodeEntry)) → FindsCover n left right (cover_if found) → IfSome found (λ cover. is_cover n left right (entries_view cover) ≡ true)
found_checks n left right None h = tt
found_checks n left right (Some cover) h = first_covers n left right (entries_view cover) h

-- and one is found just where the left is directly covered
found_exact : (n : ℕ) (left right : List LinearSet) (found : Option (List CodeEntry)) → SetsBelow n left → SetsBelow n right → FindsCover n left right (cover_if found) → IsSome found ↔ IsDirectlyCovered left right
found_exact n left right None a b h = (λ s. cc, λ d. let c = direct_cover n left right d in absurd (h c.0 c.1))
found_exact n left right (Some cover) a b h =
    (λ s. cover_direct n left right (entries_view cover) a b (first_covers n left right (entries_view cover) h), λ d. refl)

pub result_checks : {E : Type 0} → (n : ℕ) (left right : List LinearSet) (r : Result (Option (List CodeEntry)) E) → IfOk r (λ found. FindsCover n left right (cover_if found)) → IfOk r (λ found. IfSome found (λ cover. is_cover n left right (entries_view cover) ≡ true))
result_checks n left right (Ok found) h = found_checks n left right found h
result_checks n left right (Err x) h = tt

pub result_exact : {E : Type 0} → (n : ℕ) (left right : List LinearSet) (r : Result (Option (List CodeEntry)) E) → SetsBelow n left → SetsBelow n right → IfOk r (λ found. FindsCover n left right (cover_if found)) → IfOk r (λ found. IsSome found ↔ IsDirectlyCovered left right)
result_exact n left right (Ok found) a b h = found_exact n left right found a b h
result_exact n left right (Err x) a b h = tt
