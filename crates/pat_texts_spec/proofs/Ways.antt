-- A reader goes along a text line by line. `read` takes a line to what was read before, and `begun` is what is read and what is left
-- at the start. Its way is one: what is left gets less, and where it ends it stays ended.
use Rattle.std.proofs.Common.{◌≡◌, ℕ, zero, suc, ◌+◌, ◌-◌, ◌<◌, ◌≤◌, Bool, true, false, List, length, refl, sym, ap, ◌∙◌, subst, arith}
use Rattle.std.specs.Prelude.{Option, Some, None, option_map, option_and_then, nat_lt}
use Rattle.std.proofs.lemmas.Bool.{ltb-true, ltb-false}
use Rattle.pat_texts_spec.specs.Joined.{cut}
use Rattle.pat_texts_spec.proofs.Choices.{made, made_next}
use Rattle.pat_texts_spec.proofs.Cutting.{CutInPieces, cut_pieces}

-- what stands behind a cut is shorter
pub cut_shorter : (c : ℕ) (bs : List ℕ) (r : List ℕ × List ℕ) → cut c bs ≡ Some r → length r.1 < length bs
cut_shorter c bs r e = (subst (CutInPieces c bs) e (cut_pieces c bs)).1

-- what is read, and what is left
abbrev pub with_rest : {S : Type 0} → List ℕ → S → S × List ℕ
with_rest rest x = (x, rest)

-- a line more
abbrev pub on_line : {S : Type 0} → (S → List ℕ → Option S) → S → List ℕ × List ℕ → Option (S × List ℕ)
on_line read x r = option_map (with_rest r.1) (read x r.0)

abbrev pub step : {S : Type 0} → (S → List ℕ → Option S) → S × List ℕ → Option (S × List ℕ)
step read s = option_and_then (on_line read s.0) (cut 10 s.1)

-- what is read and what is left after so many lines
abbrev pub after : {S : Type 0} → (S → List ℕ → Option S) → Option (S × List ℕ) → ℕ → Option (S × List ℕ)
after read begun zero = begun
after read begun (suc m) = option_and_then (step read) (after read begun m)

-- where it ends, it stays ended
ended : {S : Type 0} (read : S → List ℕ → Option S) (begun : Option (S × List ℕ)) (m : ℕ) → after read begun m ≡ None → (k : ℕ) → after read begun (k + m) ≡ None
ended read begun m e zero = let same : 0 + m ≡ m = omega arith in ap (after read begun) same ∙ e
ended read begun m e (suc k) =
    let same : suc k + m ≡ suc (k + m) = omega arith in
    ap (after read begun) same ∙ ap (option_and_then (step read)) (ended read begun m e k)

-- what is left gets less
shorter : {S : Type 0} (read : S → List ℕ → Option S) (x y : S × List ℕ) → step read x ≡ Some y → length y.1 ≤ length x.1
shorter read x y h =
    let m = made_next (on_line read x.0) (cut 10 x.1) y h in
    let n = made (with_rest m.from.1) (read x.0 m.from.0) y m.is in
    let less : length m.from.1 < length x.1 = cut_shorter 10 x.1 m.from m.there in
    let same : m.from.1 ≡ y.1 = ap (λ z. z.1) n.is in
    omega (arith, less, ap length same)

shrinks : {S : Type 0} (read : S → List ℕ → Option S) (begun : Option (S × List ℕ)) (m : ℕ) (x : S × List ℕ) → after read begun m ≡ Some x → (k : ℕ) (y : S × List ℕ) → after read begun (k + m) ≡ Some y → length y.1 ≤ length x.1
shrinks read begun m x a zero y b =
    let same : 0 + m ≡ m = omega arith in
    let both : Some x ≡ Some y = sym a ∙ ap (after read begun) (sym same) ∙ b in
    let one : x ≡ y = cc in
    omega (arith, ap (λ z. length z.1) one)
shrinks read begun m x a (suc k) y b =
    let same : suc k + m ≡ suc (k + m) = omega arith in
    let n = made_next (step read) (after read begun (k + m)) y (ap (after read begun) (sym same) ∙ b) in
    let deeper = shrinks read begun m x a k n.from n.there in
    omega (arith, deeper, shorter read n.from y n.is)

-- nothing is read behind the end
past : {S : Type 0} (read : S → List ℕ → Option S) (begun : Option (S × List ℕ)) (j k : ℕ) → j < k → (s x : S × List ℕ) → after read begun j ≡ Some s → step read s ≡ None → after read begun k ≡ Some x → ⊥
past read begun j k l s x a none b =
    let same : (k - suc j) + suc j ≡ k = omega (arith, l) in
    let e : after read begun (suc j) ≡ None = ap (option_and_then (step read)) a ∙ none in
    let gone : after read begun k ≡ None = ap (after read begun) (sym same) ∙ ended read begun (suc j) e (k - suc j) in
    let both : None ≡ Some x = sym gone ∙ b in
    absurd cc

-- where nothing more is read, no more is left than anywhere on the way
pub least_left : {S : Type 0} (read : S → List ℕ → Option S) (begun : Option (S × List ℕ)) (j k : ℕ) (s x : S × List ℕ) → after read begun j ≡ Some s → step read s ≡ None → after read begun k ≡ Some x → length s.1 ≤ length x.1
least_left read begun j k s x a none b = test (nat_lt j k) refl
  where
    test : (t : Bool) → nat_lt j k ≡ t → length s.1 ≤ length x.1
    test true t = absurd (past read begun j k (ltb-true j k t) s x a none b)
    test false t =
        let l = ltb-false j k t in
        let same : (j - k) + k ≡ j = omega (arith, l) in
        shrinks read begun k x b (j - k) s (ap (after read begun) same ∙ a)

-- two places where nothing more is read are one
pub same_end : {S : Type 0} (read : S → List ℕ → Option S) (begun : Option (S × List ℕ)) (j k : ℕ) (s x : S × List ℕ) → after read begun j ≡ Some s → step read s ≡ None → after read begun k ≡ Some x → step read x ≡ None → s ≡ x
same_end read begun j k s x a none b no_other = first_test (nat_lt j k) refl
  where
    second_test : (t : Bool) → k ≤ j → nat_lt k j ≡ t → s ≡ x
    second_test true l t = absurd (past read begun k j (ltb-true k j t) x s b no_other a)
    second_test false l t =
        let m = ltb-false k j t in
        let same : j ≡ k = omega (arith, l, m) in
        let both : Some s ≡ Some x = sym a ∙ ap (after read begun) same ∙ b in
        cc

    first_test : (t : Bool) → nat_lt j k ≡ t → s ≡ x
    first_test true t = absurd (past read begun j k (ltb-true j k t) s x a none b)
    first_test false t = second_test (nat_lt k j) (ltb-false j k t) refl
