-- A search by halves through threads, which ascend by number.
use Rattle.std.proofs.Common.{◌≡◌, ℕ, zero, suc, ◌<◌, ◌≤◌, ◌+◌, ⊎_elim, true, false, nat_eq, [], ◌∷◌, length, get_or, Some, None, refl, sym, ap, ◌∙◌, subst, arith}
use Rattle.std.specs.Prelude.{slice_get}
use Rattle.std.specs.Map.{lookup}
use Rattle.std.proofs.lemmas.Bool.{cond-false, cases_Bool, cases_lt, eqb-true}
use Rattle.std.proofs.lemmas.Option.{same_Some, slice_get_read}
use Rattle.pat_reduce.specs.declared.threads.state.ThreadState.{ThreadState}
use Rattle.pat_reduce.specs.threads.ThreadViews.{thread_view}
use Rattle.pat_reduce.specs.Views.{threads_view}
use Rattle.pat_reduce.specs.Places.{IsPlace}
use Rattle.pat_reduce.proofs.Ascending.{Threads, Ascending, apart, at_least}

unlike : (a b : ℕ) → b < a → nat_eq b a ≡ false
unlike a b l = ⊎_elim (λ (y : nat_eq b a ≡ true). let e = eqb-true b a y in absurd (omega arith)) (λ (z : nat_eq b a ≡ false). z) (cases_Bool (nat_eq b a))

-- what stands before has a lower number
pub lower : (n : ℕ) (ts : Threads) (i j : ℕ) (d e : ℕ × ThreadState) → Ascending n ts → i < j → slice_get ts i ≡ Some d → slice_get ts j ≡ Some e → d.0 < e.0
lower n [] i j d e a l at there = absurd cc
lower n (x ∷ ts) i zero d e a l at there = absurd (omega arith)
lower n (x ∷ ts) zero (suc j) d e a l at there =
    let same : x.0 ≡ d.0 = ap (λ (q : ℕ × ThreadState). q.0) (same_Some x d at) in
    let h = at_least (suc x.0) ts j e a.1 there in
    omega arith
lower n (x ∷ ts) (suc i) (suc j) d e a l at there = lower (suc x.0) ts i j d e a.1 (omega arith) at there

-- those before the one place have lower numbers, those from the other place on have higher ones
pub record LiesWithin (ts : Threads) (t low high : ℕ) : Type 0 where
  pub within : high ≤ length ts
  pub below : (j : ℕ) (e : ℕ × ThreadState) → slice_get ts j ≡ Some e → j < low → e.0 < t
  pub above : (j : ℕ) (e : ℕ × ThreadState) → slice_get ts j ≡ Some e → high ≤ j → t < e.0

all_differ : (t : ℕ) (ts : Threads) → ((j : ℕ) (e : ℕ × ThreadState) → slice_get ts j ≡ Some e → nat_eq t e.0 ≡ false) → lookup (nat_eq t) (threads_view ts) ≡ None
all_differ t [] h = refl
all_differ t (x ∷ ts) h =
    cond-false (nat_eq t x.0) (Some (thread_view x.1)) (lookup (nat_eq t) (threads_view ts)) (h 0 x refl) ∙ all_differ t ts (λ j e at. h (suc j) e at)

pub nowhere : (ts : Threads) (t low high : ℕ) → LiesWithin ts t low high → high ≤ low → lookup (nat_eq t) (threads_view ts) ≡ None
nowhere ts t low high w met =
    all_differ t ts (λ j e at. ⊎_elim
    (λ (l : j < low). apart e.0 t (w.below j e at l))
    (λ g. unlike e.0 t (w.above j e at (omega arith)))
    (cases_lt j low))

pub in_upper_half : (ts : Threads) (t low high middle : ℕ) (e : ℕ × ThreadState) → Ascending 0 ts → LiesWithin ts t low high → slice_get ts middle ≡ Some e → e.0 < t → LiesWithin ts t (middle + 1) high
in_upper_half ts t low high middle e a w at less = record {
  within = w.within;
  below = λ j d there l. ⊎_elim
      (λ (b : j < middle). let h = lower 0 ts j middle d e a b there at in omega arith)
      (λ g. let here : j ≡ middle = omega arith in let same : d ≡ e = same_Some d e (sym there ∙ ap (slice_get ts) here ∙ at) in subst (λ (q : ℕ × ThreadState). q.0 < t) (sym same) less)
      (cases_lt j middle);
  above = w.above;
}

pub in_lower_half : (ts : Threads) (t low high middle : ℕ) (e : ℕ × ThreadState) → Ascending 0 ts → LiesWithin ts t low high → slice_get ts middle ≡ Some e → middle < high → t < e.0 → LiesWithin ts t low middle
in_lower_half ts t low high middle e a w at within more = record {
  within = let h = w.within in omega arith;
  below = w.below;
  above = λ j d there l. ⊎_elim
      (λ (b : middle < j). let h = lower 0 ts middle j e d a b at there in omega arith)
      (λ g. let here : j ≡ middle = omega arith in let same : d ≡ e = same_Some d e (sym there ∙ ap (slice_get ts) here ∙ at) in subst (λ (q : ℕ × ThreadState). t < q.0) (sym same) more)
      (cases_lt middle j);
}

pub everywhere : (ts : Threads) (t high : ℕ) → high ≡ length ts → LiesWithin ts t 0 high
everywhere ts t high all = record {
  within = omega arith;
  below = λ j e at l. absurd (omega arith);
  above = λ j e at l. absurd (past ts j e (omega arith) at);
}
  where
    past : (ts : Threads) (j : ℕ) (e : ℕ × ThreadState) → length ts ≤ j → slice_get ts j ≡ Some e → ⊥
    past [] j e l at = cc
    past (x ∷ ts) zero e l at = absurd (omega arith)
    past (x ∷ ts) (suc j) e l at = past ts j e (omega arith) at

-- what is read at a place is the thread there
pub stands : (threads : Threads) (t i : ℕ) (e : ℕ × ThreadState) → IsPlace threads t i → e ≡ get_or threads i e → slice_get threads i ≡ Some (t, (get_or threads i e).1)
stands threads t i e at is =
    let got = slice_get_read threads (length threads) i e refl at.within is in
    got ∙ ap (λ (n : ℕ). Some (n, e.1)) (at.state e got).0 ∙ ap (λ (q : ℕ × ThreadState). Some (t, q.1)) is

-- and it is the thread of its number
pub stands_as : (threads slice : Threads) (t i : ℕ) (st : ThreadState) → slice ≡ threads → IsPlace threads t i → slice_get slice i ≡ Some (t, st) → lookup (nat_eq t) (threads_view threads) ≡ Some (thread_view st)
stands_as threads slice t i st same at got = (at.state (t, st) (ap (λ l. slice_get l i) (sym same) ∙ got)).1

-- there is one at each place
one_at : (ts : Threads) (i : ℕ) → i < length ts → (e : ℕ × ThreadState) × (slice_get ts i ≡ Some e)
one_at [] i l = absurd (omega arith)
one_at (x ∷ ts) zero l = (x, refl)
one_at (x ∷ ts) (suc i) l = one_at ts i (omega arith)

-- so the thread at a place is there
pub is_there : (ts : Threads) (t i : ℕ) → IsPlace ts t i → (e : ℕ × ThreadState) × (lookup (nat_eq t) (threads_view ts) ≡ Some (thread_view e.1))
is_there ts t i at = let e = one_at ts i at.within in (e.0, (at.state e.0 e.1).1)
