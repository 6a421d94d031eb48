-- Messages in order, and lists of mailboxes with one that changes.
use Rattle.std.proofs.Common.{◌≡◌, ℕ, zero, suc, ◌+◌, ◌<◌, ◌≤◌, List, [], ◌∷◌, ◌++◌, ⊎_elim, length, remove, slice_set, Option, Some, refl, sym, ap, subst, arith}
use Rattle.std.specs.List.{AllByRecursion}
use Rattle.std.proofs.lemmas.Bool.{cases_eq}
use Rattle.pat_reduce.specs.declared.threads.state.Message.{Message}
use Rattle.pat_mailboxes.specs.Mailboxes.{Mailbox, mailbox_at, pending_in, pending_at, all_pending, Ascend, IsInOrder, AreInOrder}

pub all_push : {X : Type 0} (P : X → Type 0) (xs : List X) (x : X) → AllByRecursion P xs → P x → AllByRecursion P (xs ++ x ∷ [])
all_push P [] x a p = (p, tt)
all_push P (y ∷ ys) x a p = (a.0, all_push P ys x a.1 p)

all_remove : {X : Type 0} (P : X → Type 0) (xs : List X) (i : ℕ) → AllByRecursion P xs → AllByRecursion P (remove xs i)
all_remove P [] zero a = tt
all_remove P [] (suc i) a = tt
all_remove P (y ∷ ys) zero a = a.1
all_remove P (y ∷ ys) (suc i) a = (a.0, all_remove P ys i a.1)

ascend_push : (ms : List Message) (m : Message) → Ascend ms → AllByRecursion (λ n. n.number < m.number) ms → Ascend (ms ++ m ∷ [])
ascend_push [] m a l = (tt, tt)
ascend_push (n ∷ ns) m a l = (all_push (λ k. n.number < k.number) ns m a.0 l.0, ascend_push ns m a.1 l.1)

ascend_remove : (ms : List Message) (i : ℕ) → Ascend ms → Ascend (remove ms i)
ascend_remove [] zero a = tt
ascend_remove [] (suc i) a = tt
ascend_remove (n ∷ ns) zero a = a.1
ascend_remove (n ∷ ns) (suc i) a = (all_remove (λ k. n.number < k.number) ns i a.0, ascend_remove ns i a.1)

pub order_push : (b : ℕ) (ms : List Message) (m : Message) → IsInOrder b ms → AllByRecursion (λ n. n.number < m.number) ms → m.mailbox ≡ b → IsInOrder b (ms ++ m ∷ [])
order_push b ms m o l e = record { ascend = ascend_push ms m o.ascend l; own = all_push (λ n. n.mailbox ≡ b) ms m o.own e }

pub order_remove : (b : ℕ) (ms : List Message) (i : ℕ) → IsInOrder b ms → IsInOrder b (remove ms i)
order_remove b ms i o = record { ascend = ascend_remove ms i o.ascend; own = all_remove (λ n. n.mailbox ≡ b) ms i o.own }

pub order_none : (b : ℕ) → IsInOrder b []
order_none b = record { ascend = tt; own = tt }

mailbox_here : (ms : List (Option Mailbox)) (b : ℕ) (o : Option Mailbox) → b < length ms → mailbox_at (slice_set ms b o) b ≡ o
mailbox_here [] b o h = absurd (omega arith)
mailbox_here (m ∷ ms) zero o h = refl
mailbox_here (m ∷ ms) (suc b) o h = mailbox_here ms b o (omega arith)

mailbox_there : (ms : List (Option Mailbox)) (b r : ℕ) (o : Option Mailbox) → (r ≡ b → ⊥) → mailbox_at (slice_set ms b o) r ≡ mailbox_at ms r
mailbox_there [] b r o ne = refl
mailbox_there (m ∷ ms) zero zero o ne = absurd (ne refl)
mailbox_there (m ∷ ms) zero (suc r) o ne = refl
mailbox_there (m ∷ ms) (suc b) zero o ne = refl
mailbox_there (m ∷ ms) (suc b) (suc r) o ne = mailbox_there ms b r o (λ e. ne (ap suc e))

pub order_set : (ms : List (Option Mailbox)) (b : ℕ) (o : Option Mailbox) → b < length ms → IsInOrder b (pending_in o) → AreInOrder ms → AreInOrder (slice_set ms b o)
order_set ms b o h own order r =
    ⊎_elim (λ (e : r ≡ b). subst (λ k. IsInOrder k (pending_at (slice_set ms b o) k)) (sym e) (subst (λ m. IsInOrder b (pending_in m)) (sym (mailbox_here ms b o h)) own))
    (λ (ne : r ≡ b → ⊥). subst (λ m. IsInOrder r (pending_in m)) (sym (mailbox_there ms b r o ne)) (order r))
    (cases_eq r b)

pending_push : (ms : List (Option Mailbox)) (m : Mailbox) (r : ℕ) → m.pending ≡ [] → pending_at (ms ++ Some m ∷ []) r ≡ pending_at ms r
pending_push [] m zero e = e
pending_push [] m (suc r) e = refl
pending_push (n ∷ ns) m zero e = refl
pending_push (n ∷ ns) m (suc r) e = pending_push ns m r e

pub order_more : (ms : List (Option Mailbox)) (m : Mailbox) → m.pending ≡ [] → AreInOrder ms → AreInOrder (ms ++ Some m ∷ [])
order_more ms m e order r = subst (IsInOrder r) (sym (pending_push ms m r e)) (order r)

pub all-set : (ms : List (Option Mailbox)) (b : ℕ) (o : Option Mailbox) → b < length ms → all_pending (slice_set ms b o) + length (pending_at ms b) ≡ all_pending ms + length (pending_in o)
all-set [] b o h = absurd (omega arith)
all-set (m ∷ ms) zero o h = omega arith
all-set (m ∷ ms) (suc b) o h = let rest = all-set ms b o (omega arith) in omega arith

pub all-push : (ms : List (Option Mailbox)) (o : Option Mailbox) → all_pending (ms ++ o ∷ []) ≡ all_pending ms + length (pending_in o)
all-push [] o = omega arith
all-push (m ∷ ms) o = let rest = all-push ms o in omega arith

pub all-part : (ms : List (Option Mailbox)) (b : ℕ) → length (pending_at ms b) ≤ all_pending ms
all-part [] b = omega arith
all-part (m ∷ ms) zero = omega arith
all-part (m ∷ ms) (suc b) = let rest = all-part ms b in omega arith
