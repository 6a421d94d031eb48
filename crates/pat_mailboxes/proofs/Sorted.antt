-- Messages that were sorted by number are in the order of their numbers.
use Rattle.std.proofs.Common.{◌≡◌, ℕ, zero, suc, ◌+◌, ◌<◌, ◌≤◌, cond, nat_eq, List, [], ◌∷◌, ⊎_elim, inl, inr, map, Result, Ok, Err, Vec, Global, refl, sym, ap, ◌∙◌, subst, arith, eq-eqb, ne_eqb}
use Rattle.std.specs.Prelude.{◌⊎◌, sum_by, IfOk}
use Rattle.std.specs.List.{AllByRecursion}
use Rattle.std.specs.List.Sorted.{IsPermutation, IsNonDecreasingBy}
use Rattle.std.specs.Borrow.{Bor}
use Rattle.std.proofs.lemmas.List.Sums.{sum_by-cons}
use Rattle.std.proofs.lemmas.List.Sorted.{IsPermutation-sym, sum_by-IsPermutation}
use Rattle.std.proofs.Permutation.{every_shuffled}
use Rattle.pat_reduce.specs.declared.threads.state.Message.{Message}
use Rattle.pat_mailboxes.specs.Mailboxes.{Ascend}
use Rattle.pat_mailboxes.specs.queues.Lanes.{Rise}
use Rattle.pat_mailboxes.proofs.Lanes.{weaken}

abbrev Among : Message → List Message → Type 0
Among m [] = ⊥
Among m (n ∷ ns) = (n ≡ m) ⊎ Among m ns

abbrev is_one : ℕ → Message → ℕ
is_one k m = cond (nat_eq m.number k) 1 0

abbrev count : ℕ → List Message → ℕ
count k [] = 0
count k (m ∷ ms) = is_one k m + count k ms

count_is : (k : ℕ) (ms : List Message) → count k ms ≡ sum_by (is_one k) ms
count_is k [] = refl
count_is k (m ∷ ms) = ap (λ n. is_one k m + n) (count_is k ms) ∙ sym (sum_by-cons (is_one k) m ms)

own_one : (m : Message) → is_one m.number m ≡ 1
own_one m = ap (λ b. let n : ℕ = cond b 1 0 in n) (eq-eqb m.number m.number refl)

none_above : (k : ℕ) (ms : List Message) → AllByRecursion (λ m. k < m.number) ms → count k ms ≡ 0
none_above k [] a = refl
none_above k (m ∷ ms) a =
    let less = a.0 in
    let own : is_one k m ≡ 0 = ap (λ b. let n : ℕ = cond b 1 0 in n) (ne_eqb m.number k (λ (e : m.number ≡ k). absurd (omega arith))) in
    let rest = none_above k ms a.1 in
    omega arith

none_counted : (k : ℕ) (ms : List Message) → count k ms ≡ 0 → AllByRecursion (λ m. m.number ≡ k → ⊥) ms
none_counted k [] e = tt
none_counted k (m ∷ ms) e = (
  λ same.
      let own : is_one k m ≡ 1 = ap (λ b. let n : ℕ = cond b 1 0 in n) (eq-eqb m.number k same) in
      absurd (omega arith),
  none_counted k ms (omega arith),
)

all_among : (P : Message → Type 0) (ms : List Message) (m : Message) → AllByRecursion P ms → Among m ms → P m
all_among P [] m a at = absurd at
all_among P (x ∷ xs) m a at = ⊎_elim (λ (e : x ≡ m). subst P e a.0) (λ (rest : Among m xs). all_among P xs m a.1 rest) at

both_all : (P Q : Message → Type 0) (ms : List Message) → AllByRecursion P ms → AllByRecursion Q ms → AllByRecursion (λ m. P m × Q m) ms
both_all P Q [] a b = tt
both_all P Q (m ∷ ms) a b = ((a.0, b.0), both_all P Q ms a.1 b.1)

same_sorted : (ms ys : List Message) → Ascend ms → Rise ys → AllByRecursion (λ m. Among m ys) ms → AllByRecursion (λ y. Among y ms) ys → ((k : ℕ) → count k ys ≡ count k ms) → ys ≡ ms
same_sorted [] [] up rise there back once = refl
same_sorted [] (y ∷ ys) up rise there back once = absurd back.0
same_sorted (m ∷ ms) [] up rise there back once = absurd there.0
same_sorted (m ∷ ms) (y ∷ ys) up rise there back once =
    let same : y ≡ m =
    ⊎_elim (λ (e : m ≡ y). sym e)
    (λ (later : Among y ms).
    ⊎_elim (λ (e : y ≡ m). e)
    (λ (behind : Among m ys).
    let one = all_among (λ x. m.number < x.number) ms y up.0 later in
    let two = all_among (λ x. y.number ≤ x.number) ys m rise.0 behind in
    absurd (omega arith))
    there.0)
    back.0 in
    let number : y.number ≡ m.number = ap (λ (x : Message). x.number) same in
    let here = once m.number in
    let own = own_one m in
    let first : is_one m.number y ≡ is_one m.number m = ap (is_one m.number) same in
    let above = none_above m.number ms up.0 in
    let left = none_counted m.number ys (omega arith) in
    ap (λ x. x ∷ ys) same
    ∙ ap (λ l. m ∷ l)
    (same_sorted ms ys up.1 rise.1
    (weaken (λ x. (m.number < x.number) × Among x (y ∷ ys)) (λ x. Among x ys)
    (λ x both. ⊎_elim (λ (e : y ≡ x). let eq = ap (λ (z : Message). z.number) e in let less = both.0 in absurd (omega arith)) (λ (rest : Among x ys). rest) both.1) ms
    (both_all (λ x. m.number < x.number) (λ x. Among x (y ∷ ys)) ms up.0 there.1))
    (weaken (λ x. (x.number ≡ m.number → ⊥) × Among x (m ∷ ms)) (λ x. Among x ms)
    (λ x both. ⊎_elim (λ (e : m ≡ x). absurd (both.0 (ap (λ (z : Message). z.number) (sym e)))) (λ (rest : Among x ms). rest) both.1) ys
    (both_all (λ x. x.number ≡ m.number → ⊥) (λ x. Among x (m ∷ ms)) ys left back.1))
    (λ k. let all = once k in let same_one : is_one k y ≡ is_one k m = ap (is_one k) same in omega arith))

each_among : (ms : List Message) → AllByRecursion (λ m. Among m ms) ms
each_among [] = tt
each_among (m ∷ ms) = (inl refl, weaken (λ x. Among x ms) (λ x. Among x (m ∷ ms)) (λ x at. inr at) ms (each_among ms))

-- what is the same but for its order, and in order, is the same
pub sorted_is : (ms ys : List Message) → Ascend ms → IsPermutation ms ys → Rise ys → ys ≡ ms
sorted_is ms ys up moved rise =
    same_sorted ms ys up rise
    (every_shuffled (λ x. Among x ys) ys ms (IsPermutation-sym ms ys moved) (each_among ys))
    (every_shuffled (λ x. Among x ms) ms ys moved (each_among ms))
    (λ k. count_is k ys ∙ sum_by-IsPermutation (is_one k) ms ys moved ∙ sym (count_is k ms))

rise_behind : (x : Bor Message) (xs : List (Bor Message)) → IsNonDecreasingBy (λ (m : Bor Message). m.now.number) (x ∷ xs) → AllByRecursion (λ m. x.now.number ≤ m.number) (map (λ (m : Bor Message). m.now) xs)
rise_behind x [] up = tt
rise_behind x (y ∷ ys) up = (up 0 1 x (omega arith) (omega arith), rise_behind x ys (skip up))
  where
    skip : IsNonDecreasingBy (λ (m : Bor Message). m.now.number) (x ∷ y ∷ ys) → IsNonDecreasingBy (λ (m : Bor Message). m.now.number) (x ∷ ys)
    skip up zero zero d le h = up 0 0 d (omega arith) (omega arith)
    skip up zero (suc j) d le h = up 0 (suc (suc j)) d (omega arith) (omega arith)
    skip up (suc i) zero d le h = absurd (omega arith)
    skip up (suc i) (suc j) d le h = up (suc (suc i)) (suc (suc j)) d (omega arith) (omega arith)

pub rise_sorted : (xs : List (Bor Message)) → IsNonDecreasingBy (λ (m : Bor Message). m.now.number) xs → Rise (map (λ (m : Bor Message). m.now) xs)
rise_sorted [] up = tt
rise_sorted (x ∷ xs) up = (rise_behind x xs up, rise_sorted xs (λ i j d le h. up (suc i) (suc j) d (omega arith) (omega arith)))

-- so is a list that was sorted, if there is one
pub listed : {E : Type 0} (ms : List Message) → Ascend ms → (r : Result (Vec (Bor Message) Global) E) → IfOk r (λ vs. IsPermutation ms (map (λ (m : Bor Message). m.now) vs.items)) → IfOk r (λ vs. Rise (map (λ (m : Bor Message). m.now) vs.items)) → IfOk r (λ vs. map (λ (m : Bor Message). m.now) vs.items ≡ ms)
listed ms up (Ok vs) moved rise = sorted_is ms (map (λ (m : Bor Message). m.now) vs.items) up moved rise
listed ms up (Err e) moved rise = tt
