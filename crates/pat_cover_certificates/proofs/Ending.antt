-- How a search ends: the numbers are the first, and each turn leaves less to be searched.
use Rattle.std.proofs.Common.{◌≡◌, ℕ, zero, suc, ◌+◌, ◌*◌, ◌-◌, ◌<◌, ◌≤◌, Bool, true, false, ◌&&◌, ◌||◌, nat_eq, List, [], ◌∷◌, ◌++◌, length, refl, ap, ◌∙◌, subst, arith, suc-mul}
use Rattle.std.specs.Prelude.{nat_lt}
use Rattle.std.proofs.lemmas.Bool.{ltb-true, eqb-true}
use Rattle.pat_words_spec.specs.Words.{Word}
use Rattle.pat_bags.specs.Views.{word_of}
use Rattle.pat_inclusion_spec.specs.Covers.{makes}
use Rattle.pat_inclusion_spec.specs.Points.{comes_before}
use Rattle.pat_cover_certificates.specs.declared.coefficients.frames.Frame.{Frame}
use Rattle.pat_cover_certificates.specs.coefficients.Numbers.{MakesFirst}
use Rattle.pat_cover_certificates.specs.coefficients.Frames.{numbers_of, left_of, Stands, lists_of, lists_left}
use Rattle.pat_cover_certificates.proofs.Making.{made, makes_by, take_first, put_first, differ}
use Rattle.pat_limits.specs.Limits.{most_number, number_count}

-- ---- the first numbers

pub not_before : (a b : Bool) → (a ≡ true → ⊥) → (b ≡ true → ⊥) → (a || b) ≡ false
not_before true b p q = absurd (p refl)
not_before false true p q = absurd (q refl)
not_before false false p q = refl

none_before_none : (ds : List ℕ) → length ds ≡ 0 → comes_before ds [] ≡ false
none_before_none [] e = refl
none_before_none (d ∷ ds) e = absurd (omega arith)

pub both_true : (a b : Bool) → (a && b) ≡ true → (a ≡ true) × (b ≡ true)
both_true true b h = (refl, h)
both_true false b h = cc

-- where nothing is left, the numbers are the first that make the word
pub first_numbers : (n : ℕ) (ps : List Word) (w : Word) (fs : List Frame) → Stands n ps w fs → length fs ≡ length ps → ((t : ℕ) → t < n → left_of w fs t ≡ 0) → MakesFirst n ps (numbers_of fs) w
first_numbers n [] w [] s e z = (makes_by n [] [] w refl (λ t b. z t b), λ ds h. none_before_none ds (made n [] ds w h).0)
first_numbers n [] w (f ∷ fs) s e z = absurd s
first_numbers n (p ∷ ps) w [] s e z = absurd (omega arith)
first_numbers n (p ∷ ps) w (f ∷ fs) s e z =
    let rest = first_numbers n ps (word_of f.left) fs s.2 (omega arith) z in
    (put_first n f.number p ps (numbers_of fs) (word_of f.left) w s.0 rest.0, least rest.1)
  where
    least : ((es : List ℕ) → makes n ps es (word_of f.left) ≡ true → comes_before es (numbers_of fs) ≡ false) → (ds : List ℕ) → makes n (p ∷ ps) ds w ≡ true → comes_before ds (f.number ∷ numbers_of fs) ≡ false
    least later [] h = let l = (made n (p ∷ ps) [] w h).0 in absurd (omega arith)
    least later (d ∷ ds) h =
        not_before (nat_lt d f.number) (nat_eq d f.number && comes_before ds (numbers_of fs))
        (λ y. s.1 d (ltb-true d f.number y) ds h)
        (λ y. let both = both_true (nat_eq d f.number) (comes_before ds (numbers_of fs)) y in
        let same = eqb-true d f.number both.0 in
        differ (comes_before ds (numbers_of fs)) both.1
        (later ds (take_first n f.number p ps ds (word_of f.left) w s.0 (subst (λ c. makes n (p ∷ ps) (c ∷ ds) w ≡ true) same h))))

-- ---- what is left to be searched

lists_some : (k : ℕ) → 1 ≤ lists_of k
lists_some zero = omega arith
lists_some (suc k) = omega arith

left_some : (ps : List Word) (fs : List Frame) → 1 ≤ lists_left ps fs
left_some ps [] = lists_some (length ps)
left_some [] (f ∷ fs) = omega arith
left_some (p ∷ ps) (f ∷ fs) = let h = left_some ps fs in omega arith

pub push_less : (ps : List Word) (fs : List Frame) (f : Frame) → length fs < length ps → f.number ≡ 0 → lists_left ps (fs ++ f ∷ []) < lists_left ps fs
push_less [] fs f l z = absurd (omega arith)
push_less (p ∷ ps) [] f l z =
    let many : (most_number - f.number) * lists_of (length ps) ≡ most_number * lists_of (length ps) = ap (λ c. (most_number - c) * lists_of (length ps)) z in
    omega arith
push_less (p ∷ ps) (g ∷ fs) f l z = let h = push_less ps fs f (omega arith) z in omega arith

pub next_less : (ps : List Word) (fs : List Frame) (f g : Frame) (gs : List Frame) → length fs < length ps → g.number ≡ f.number + 1 → g.number < number_count → lists_left ps (fs ++ g ∷ []) < lists_left ps (fs ++ f ∷ gs)
next_less [] fs f g gs l e b = absurd (omega arith)
next_less (p ∷ ps) [] f g gs l e b =
    let some = left_some ps gs in
    let less : most_number - f.number ≡ suc (most_number - g.number) = omega arith in
    let many : (most_number - f.number) * lists_of (length ps) ≡ (most_number - g.number) * lists_of (length ps) + lists_of (length ps) = ap (λ c. c * lists_of (length ps)) less ∙ suc-mul (most_number - g.number) (lists_of (length ps)) in
    omega arith
next_less (p ∷ ps) (k ∷ fs) f g gs l e b = let h = next_less ps fs f g gs (omega arith) e b in omega arith
