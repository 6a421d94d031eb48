-- Numbers that make a word: the first of them taken, and tags that no period has.
use Rattle.std.proofs.Common.{◌≡◌, ℕ, zero, suc, ◌*◌, ◌<◌, Bool, true, false, ◌||◌, nat_eq, List, [], ◌∷◌, length, ⊎_elim, refl, sym, ap, ◌∙◌, subst, arith, mul-zero}
use Rattle.std.specs.Prelude.{nat_lt}
use Rattle.std.proofs.lemmas.Bool.{and_parts, and_from, or_left, or_right, or_cases, eqb-true, eq-eqb, lt-ltb, cases_lt, cases_Bool}
use Rattle.pat_words_spec.specs.Words.{Word, plus}
use Rattle.pat_words_laws.proofs.WordLaws.{count_eq}
use Rattle.pat_inclusion_spec.specs.Counts.{same_below, scaled}
use Rattle.pat_inclusion_spec.specs.LinearSets.{combined}
use Rattle.pat_inclusion_spec.specs.Covers.{makes}
use Rattle.pat_linear.proofs.Spans.{same_counts}
use Rattle.pat_cover_certificates.specs.coefficients.Numbers.{NoNumbers, occurs, tags_occur}

pub same_each : (n : ℕ) (u v : Word) → ((t : ℕ) → t < n → u t ≡ v t) → same_below n u v ≡ true
same_each zero u v h = refl
same_each (suc n) u v h =
    and_from (same_below n u v) (nat_eq (u n) (v n)) (same_each n u v (λ t l. h t (omega arith))) (eq-eqb (u n) (v n) (h n (omega arith)))

-- numbers make a word just where there are as many as periods, and the counts are the same
pub made : (n : ℕ) (ps : List Word) (cs : List ℕ) (w : Word) → makes n ps cs w ≡ true → (length cs ≡ length ps) × ((t : ℕ) → t < n → w t ≡ combined cs ps t)
made n ps cs w h =
    let both = and_parts (nat_eq (length cs) (length ps)) (same_below n w (combined cs ps)) h in
    (eqb-true (length cs) (length ps) both.0, same_counts n w (combined cs ps) both.1)

pub makes_by : (n : ℕ) (ps : List Word) (cs : List ℕ) (w : Word) → length cs ≡ length ps → ((t : ℕ) → t < n → w t ≡ combined cs ps t) → makes n ps cs w ≡ true
makes_by n ps cs w e h =
    and_from (nat_eq (length cs) (length ps)) (same_below n w (combined cs ps)) (eq-eqb (length cs) (length ps) e) (same_each n w (combined cs ps) h)

-- the first number taken, the others make what is left
pub take_first : (n c : ℕ) (p : Word) (ps : List Word) (cs : List ℕ) (v w : Word) → plus v (scaled c p) ≡ w → makes n (p ∷ ps) (c ∷ cs) w ≡ true → makes n ps cs v ≡ true
take_first n c p ps cs v w e h =
    let m = made n (p ∷ ps) (c ∷ cs) w h in
    let l = m.0 in
    makes_by n ps cs v (omega arith) (λ t b. let x = m.1 t b in let y = count_eq (plus v (scaled c p)) w e t in omega arith)

pub put_first : (n c : ℕ) (p : Word) (ps : List Word) (cs : List ℕ) (v w : Word) → plus v (scaled c p) ≡ w → makes n ps cs v ≡ true → makes n (p ∷ ps) (c ∷ cs) w ≡ true
put_first n c p ps cs v w e h =
    let m = made n ps cs v h in
    makes_by n (p ∷ ps) (c ∷ cs) w (ap suc m.0) (λ t b. let x = m.1 t b in let y = count_eq (plus v (scaled c p)) w e t in omega arith)

-- ---- tags

occurs_in : (t : ℕ) (cs : List ℕ) (ps : List Word) → 0 < combined cs ps t → occurs t ps ≡ true
occurs_in t [] ps h = absurd (omega arith)
occurs_in t (c ∷ cs) [] h = absurd (omega arith)
occurs_in t (c ∷ cs) (p ∷ ps) h = first (p t) refl (occurs_in t cs ps)
  where
    first : (k : ℕ) → p t ≡ k → (0 < combined cs ps t → occurs t ps ≡ true) → occurs t (p ∷ ps) ≡ true
    first zero e later =
        let none : c * p t ≡ 0 = ap (λ x. c * x) e ∙ mul-zero c in
        or_right (nat_lt 0 (p t)) (occurs t ps) (later (omega arith))
    first (suc k) e later = or_left (nat_lt 0 (p t)) (occurs t ps) (lt-ltb 0 (p t) (omega arith))

all_occur : (n : ℕ) (ps : List Word) (cs : List ℕ) (w : Word) → ((t : ℕ) → t < n → w t ≡ combined cs ps t) → tags_occur n ps w ≡ true
all_occur zero ps cs w h = refl
all_occur (suc n) ps cs w h =
    and_from (tags_occur n ps w) (nat_eq (w n) 0 || occurs n ps) (all_occur n ps cs w (λ t l. h t (omega arith))) (here (w n) refl)
  where
    here : (k : ℕ) → w n ≡ k → (nat_eq (w n) 0 || occurs n ps) ≡ true
    here zero e = or_left (nat_eq (w n) 0) (occurs n ps) (eq-eqb (w n) 0 e)
    here (suc k) e =
        let same = h n (omega arith) in
        or_right (nat_eq (w n) 0) (occurs n ps) (occurs_in n cs ps (omega arith))

pub differ : (b : Bool) → b ≡ true → b ≡ false → ⊥
differ b p q = cc

-- a word with a tag that no period has isn't made
pub none_made : (n : ℕ) (ps : List Word) (w : Word) → tags_occur n ps w ≡ false → NoNumbers n ps w
none_made n ps w h cs m =
    let yes = all_occur n ps cs w (made n ps cs w m).1 in differ (tags_occur n ps w) yes h

-- where no period is to come, nothing is left
pub nothing_left : (n : ℕ) (w : Word) → tags_occur n [] w ≡ true → (t : ℕ) → t < n → w t ≡ 0
nothing_left zero w h t l = absurd (omega arith)
nothing_left (suc n) w h t l =
    let both = and_parts (tags_occur n [] w) (nat_eq (w n) 0 || occurs n []) h in
    let here = ⊎_elim (λ e. eqb-true (w n) 0 e) (λ o. absurd (differ false o refl)) (or_cases (nat_eq (w n) 0) (occurs n []) both.1) in
    ⊎_elim
    (λ b. nothing_left n w both.0 t b)
    (λ a. let same : t ≡ n = omega arith in subst (λ x. w x ≡ 0) (sym same) here)
    (cases_lt t n)

-- a tag of the word that no period has
pub tag_lacks : (n t : ℕ) (ps : List Word) (w : Word) → t < n → 0 < w t → occurs t ps ≡ false → false ≡ tags_occur n ps w
tag_lacks n t ps w l h o =
    ⊎_elim
    (λ y. absurd (differ (nat_eq (w t) 0 || occurs t ps) (at n l y) (not_here (w t) h)))
    (λ z. sym z)
    (cases_Bool (tags_occur n ps w))
  where
    at : (n : ℕ) → t < n → tags_occur n ps w ≡ true → (nat_eq (w t) 0 || occurs t ps) ≡ true
    at zero l y = absurd (omega arith)
    at (suc n) l y =
        let both = and_parts (tags_occur n ps w) (nat_eq (w n) 0 || occurs n ps) y in
        ⊎_elim
        (λ b. at n b both.0)
        (λ a. let same : t ≡ n = omega arith in subst (λ x. (nat_eq (w x) 0 || occurs x ps) ≡ true) (sym same) both.1)
        (cases_lt t n)

    not_here : (k : ℕ) → 0 < k → (nat_eq k 0 || occurs t ps) ≡ false
    not_here k h =
        ⊎_elim
        (λ y. ⊎_elim
        (λ e. let z = eqb-true k 0 e in absurd (omega arith))
        (λ q. absurd (differ (occurs t ps) q o))
        (or_cases (nat_eq k 0) (occurs t ps) y))
        (λ z. z)
        (cases_Bool (nat_eq k 0 || occurs t ps))
