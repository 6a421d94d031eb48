-- How often one period alone makes a word.
use Rattle.std.proofs.Common.{◌≡◌, ℕ, ◌+◌, ◌*◌, ◌/◌, ◌<◌, ◌≤◌, true, false, ◌&&◌, nat_eq, List, [], ◌∷◌, length, None, refl, sym, ap, ◌∙◌, subst, arith, mul-zero}
use Rattle.std.specs.Prelude.{nat_lt}
use Rattle.std.proofs.lemmas.Nat.{div-mul-add}
use Rattle.std.proofs.lemmas.Bool.{ltb-true, eqb-true, and_parts}
use Rattle.pat_words_spec.specs.Words.{Word, plus}
use Rattle.pat_inclusion_spec.specs.Counts.{most_tags, same_below}
use Rattle.pat_inclusion_spec.specs.LinearSets.{combined}
use Rattle.pat_inclusion_spec.specs.Covers.{makes, makes_from}
use Rattle.pat_inclusion_spec.specs.Points.{comes_before}
use Rattle.pat_linear.proofs.Exact.{tags_are}
use Rattle.pat_linear.proofs.Spans.{same_counts}
use Rattle.pat_cover_certificates.specs.Firsts.{FindsFrom}
use Rattle.pat_cover_certificates.specs.coefficients.Numbers.{NoNumbers, MakesFirst, IsLeastTimes}
use Rattle.pat_cover_certificates.proofs.Making.{made, makes_by, differ}
use Rattle.pat_cover_certificates.proofs.Ending.{not_before, both_true}

-- no tag is the period's
pub none_taken : (p w : Word) → ((t : ℕ) → t < 32 → p t ≡ 0) → IsLeastTimes p w 0
none_taken p w none c h = (omega arith, makes_by most_tags (p ∷ []) (0 ∷ []) w refl each)
  where
    each : (t : ℕ) → t < most_tags → w t ≡ 0 * p t + 0
    each t l =
        let x = (made most_tags (p ∷ []) (c ∷ []) w h).1 t l in
        let z : c * p t ≡ 0 = ap (λ k. c * k) (none t (subst (λ n. t < n) tags_are l)) ∙ mul-zero c in
        omega arith

-- the numbers that make the word are one
one_number : (p w : Word) (cs : List ℕ) → makes most_tags (p ∷ []) cs w ≡ true → (c : ℕ) × (cs ≡ c ∷ [])
one_number p w [] h = let l = (made most_tags (p ∷ []) [] w h).0 in absurd (omega arith)
one_number p w (c ∷ []) h = (c, refl)
one_number p w (c ∷ d ∷ cs) h = let l = (made most_tags (p ∷ []) (c ∷ d ∷ cs) w h).0 in absurd (omega arith)

-- a tag of the period tells how often
pub taken_at : (p w : Word) (t own k m : ℕ) → t < 32 → own ≡ p t → k ≡ w t → 0 < own → m ≡ k / own → IsLeastTimes p w m
taken_at p w t own k m l eo ek some is c h =
    subst (λ x. (x ≤ c) × (makes most_tags (p ∷ []) (x ∷ []) w ≡ true)) (sym same) (omega arith, h)
  where
    whole : k ≡ c * own + 0
    whole =
        let x = (made most_tags (p ∷ []) (c ∷ []) w h).1 t (subst (λ n. t < n) (sym tags_are) l) in
        let y : c * own ≡ c * p t = ap (λ o. c * o) eo in
        omega arith

    same : m ≡ c
    same = is ∙ ap (λ x. x / own) whole ∙ div-mul-add c own 0 some

-- that number makes the word
pub times_found : (p w : Word) (m : ℕ) → IsLeastTimes p w m → makes most_tags (p ∷ []) (m ∷ []) w ≡ true → MakesFirst most_tags (p ∷ []) (m ∷ []) w
times_found p w m least h = (
  h,
  λ ds k. let one = one_number p w ds k in
      subst (λ cs. comes_before cs (m ∷ []) ≡ false) (sym one.1)
      (later one.0 (least one.0 (subst (λ cs. makes most_tags (p ∷ []) cs w ≡ true) one.1 k)).0),
)
  where
    later : (c : ℕ) → m ≤ c → comes_before (c ∷ []) (m ∷ []) ≡ false
    later c l =
        not_before (nat_lt c m) (nat_eq c m && comes_before [] [])
        (λ y. let less = ltb-true c m y in absurd (omega arith))
        (λ y. let both = both_true (nat_eq c m) (comes_before [] []) y in cc)

-- it doesn't, and then no number does
pub times_not : (p w : Word) (m : ℕ) → IsLeastTimes p w m → makes most_tags (p ∷ []) (m ∷ []) w ≡ false → NoNumbers most_tags (p ∷ []) w
times_not p w m least h cs k =
    let one = one_number p w cs k in
    differ (makes most_tags (p ∷ []) (m ∷ []) w) (least one.0 (subst (λ x. makes most_tags (p ∷ []) x w ≡ true) one.1 k)).1 h

-- ---- from a base

one_alone : (base p w : Word) (cs : List ℕ) → makes_from most_tags base (p ∷ []) cs w ≡ true → length cs ≡ 1
one_alone base p w cs h =
    eqb-true (length cs) 1 (and_parts (nat_eq (length cs) 1) (same_below most_tags w (plus base (combined cs (p ∷ [])))) h).0

-- no number leads to the word's count of a tag
pub missed : (base p w : Word) (t from step to : ℕ) → t < 32 → from ≡ base t → step ≡ p t → to ≡ w t → ((c : ℕ) → to ≡ from + c * step → ⊥) → FindsFrom most_tags base (p ∷ []) w None
missed base p w t from step to l eb ep ew never [] h = let n = one_alone base p w [] h in absurd (omega arith)
missed base p w t from step to l eb ep ew never (c ∷ d ∷ cs) h = let n = one_alone base p w (c ∷ d ∷ cs) h in absurd (omega arith)
missed base p w t from step to l eb ep ew never (c ∷ []) h =
    let both = and_parts (nat_eq (length (c ∷ [])) 1) (same_below most_tags w (plus base (combined (c ∷ []) (p ∷ [])))) h in
    let at = same_counts most_tags w (plus base (combined (c ∷ []) (p ∷ []))) both.1 t (subst (λ n. t < n) (sym tags_are) l) in
    let same : c * step ≡ c * p t = ap (λ x. c * x) ep in
    never c (omega arith)
