-- Threads ascend by number, so the one at a place is the only one of its number.
use Rattle.std.proofs.Common.{◌≡◌, ℕ, zero, suc, ◌<◌, ◌≤◌, ⊎_elim, true, false, nat_eq, List, [], ◌∷◌, length, Some, sym, ap, ◌∙◌, arith}
use Rattle.std.specs.Prelude.{slice_get, slice_set, remove}
use Rattle.std.specs.Map.{keys_of, lookup, set_value, remove_entry}
use Rattle.std.proofs.lemmas.Bool.{cond-true, cond-false, cases_Bool, eq-eqb, eqb-true}
use Rattle.std.proofs.lemmas.Option.{same_Some}
use Rattle.pat_semantics_spec.specs.Orders.{AscendsFrom}
use Rattle.pat_reduce.specs.declared.threads.state.ThreadState.{ThreadState}
use Rattle.pat_reduce.specs.threads.ThreadViews.{thread_view}
use Rattle.pat_reduce.specs.Views.{threads_view}
use Rattle.pat_reduce.specs.Places.{IsPlace}

abbrev pub Threads : Type 0
Threads = List (ℕ × ThreadState)

abbrev pub Ascending : ℕ → Threads → Type 0
Ascending n ts = AscendsFrom n (keys_of (threads_view ts))

pub apart : (a b : ℕ) → a < b → nat_eq b a ≡ false
apart a b l = ⊎_elim (λ (y : nat_eq b a ≡ true). let e = eqb-true b a y in absurd (omega arith)) (λ (z : nat_eq b a ≡ false). z) (cases_Bool (nat_eq b a))

pub at_least : (n : ℕ) (ts : Threads) (i : ℕ) (e : ℕ × ThreadState) → Ascending n ts → slice_get ts i ≡ Some e → n ≤ e.0
at_least n [] i e a at = absurd cc
at_least n (x ∷ ts) zero e a at = let same : x.0 ≡ e.0 = ap (λ (q : ℕ × ThreadState). q.0) (same_Some x e at) in let low = a.0 in omega arith
at_least n (x ∷ ts) (suc i) e a at = let h = at_least (suc x.0) ts i e a.1 at in let low = a.0 in omega arith

state_there : (n : ℕ) (ts : Threads) (t i : ℕ) (e : ℕ × ThreadState) → Ascending n ts → slice_get ts i ≡ Some e → e.0 ≡ t → lookup (nat_eq t) (threads_view ts) ≡ Some (thread_view e.1)
state_there n [] t i e a at named = absurd cc
state_there n (x ∷ ts) t zero e a at named =
    let same : x ≡ e = same_Some x e at in
    let number : t ≡ x.0 = sym named ∙ ap (λ (q : ℕ × ThreadState). q.0) (sym same) in
    cond-true (nat_eq t x.0) (Some (thread_view x.1)) (lookup (nat_eq t) (threads_view ts)) (eq-eqb t x.0 number) ∙ ap (λ (q : ℕ × ThreadState). Some (thread_view q.1)) same
state_there n (x ∷ ts) t (suc i) e a at named =
    let h = at_least (suc x.0) ts i e a.1 at in
    let more : x.0 < t = omega arith in
    cond-false (nat_eq t x.0) (Some (thread_view x.1)) (lookup (nat_eq t) (threads_view ts)) (apart x.0 t more) ∙ state_there (suc x.0) ts t i e a.1 at named

changed_there : (n : ℕ) (ts : Threads) (t i : ℕ) (e : ℕ × ThreadState) (s : ThreadState) → Ascending n ts → slice_get ts i ≡ Some e → e.0 ≡ t → set_value (nat_eq t) (threads_view ts) (thread_view s) ≡ threads_view (slice_set ts i (t, s))
changed_there n [] t i e s a at named = absurd cc
changed_there n (x ∷ ts) t zero e s a at named =
    let number : x.0 ≡ t = ap (λ (q : ℕ × ThreadState). q.0) (same_Some x e at) ∙ named in
    cond-true (nat_eq t x.0) ((x.0, thread_view s) ∷ threads_view ts) ((x.0, thread_view x.1) ∷ set_value (nat_eq t) (threads_view ts) (thread_view s)) (eq-eqb t x.0 (sym number))
    ∙ ap (λ (k : ℕ). (k, thread_view s) ∷ threads_view ts) number
changed_there n (x ∷ ts) t (suc i) e s a at named =
    let h = at_least (suc x.0) ts i e a.1 at in
    let more : x.0 < t = omega arith in
    cond-false (nat_eq t x.0) ((x.0, thread_view s) ∷ threads_view ts) ((x.0, thread_view x.1) ∷ set_value (nat_eq t) (threads_view ts) (thread_view s)) (apart x.0 t more)
    ∙ ap (λ l. (x.0, thread_view x.1) ∷ l) (changed_there (suc x.0) ts t i e s a.1 at named)

gone_there : (n : ℕ) (ts : Threads) (t i : ℕ) (e : ℕ × ThreadState) → Ascending n ts → slice_get ts i ≡ Some e → e.0 ≡ t → remove_entry (nat_eq t) (threads_view ts) ≡ threads_view (remove ts i)
gone_there n [] t i e a at named = absurd cc
gone_there n (x ∷ ts) t zero e a at named =
    let number : t ≡ x.0 = sym named ∙ ap (λ (q : ℕ × ThreadState). q.0) (sym (same_Some x e at)) in
    cond-true (nat_eq t x.0) (threads_view ts) ((x.0, thread_view x.1) ∷ remove_entry (nat_eq t) (threads_view ts)) (eq-eqb t x.0 number)
gone_there n (x ∷ ts) t (suc i) e a at named =
    let h = at_least (suc x.0) ts i e a.1 at in
    let more : x.0 < t = omega arith in
    cond-false (nat_eq t x.0) (threads_view ts) ((x.0, thread_view x.1) ∷ remove_entry (nat_eq t) (threads_view ts)) (apart x.0 t more)
    ∙ ap (λ l. (x.0, thread_view x.1) ∷ l) (gone_there (suc x.0) ts t i e a.1 at named)

pub stands_there : (ts : Threads) (t i : ℕ) (e : ℕ × ThreadState) → Ascending 0 ts → i < length ts → slice_get ts i ≡ Some e → e.0 ≡ t → IsPlace ts t i
stands_there ts t i e a within at named = record {
  within = within;
  state = λ f there. let same : e ≡ f = same_Some e f (sym at ∙ there) in (ap (λ (q : ℕ × ThreadState). q.0) (sym same) ∙ named, state_there 0 ts t i e a at named ∙ ap (λ (q : ℕ × ThreadState). Some (thread_view q.1)) same);
  changed = λ s. changed_there 0 ts t i e s a at named;
  gone = gone_there 0 ts t i e a at named;
}
