-- One mailbox, through the calls.
use Rattle.std.proofs.Common.{◌≡◌, ℕ, zero, suc, List, [], ◌∷◌, ◌++◌, Option, Some, Result, Ok, IfOk, remove, slice_get, slice_set, sym, ap, ◌∙◌, subst}
use Rattle.pat_reduce.specs.declared.threads.state.Message.{Message}
use Rattle.pat_mailboxes.specs.Mailboxes.{Mailbox, Contents, IsLive, mailbox_at, pending_at}

pub first_made : {E : Type 0} (r : Result Contents E) (made start : Contents) → r ≡ Ok made → IfOk r (λ m. m ≡ start) → made ≡ start
first_made {E} r made start is says = subst (λ (x : Result Contents E). IfOk x (λ m. m ≡ start)) is says

pub one_made : (old new : List (Option Mailbox)) (m : Option Mailbox) → old ≡ [] → new ≡ old ++ m ∷ [] → new ≡ m ∷ []
one_made old new m none is = is ∙ ap (λ ms. ms ++ m ∷ []) none

pub one_set : (old new : List (Option Mailbox)) (m n : Option Mailbox) → old ≡ m ∷ [] → new ≡ slice_set old 0 n → new ≡ n ∷ []
one_set old new m n one is = is ∙ ap (λ ms. slice_set ms 0 n) one

pub one_live : (ms : List (Option Mailbox)) (m : Mailbox) → ms ≡ Some m ∷ [] → IsLive ms 0
one_live ms m one = (m, ap (λ l. mailbox_at l 0) one)

-- the one message that was sent
pub first_pending : (old new : List (Option Mailbox)) (m : Message) → old ≡ Some (record { pending = [] }) ∷ [] → new ≡ Some (record { pending = pending_at old 0 ++ m ∷ [] }) ∷ [] → pending_at new 0 ≡ m ∷ []
first_pending old new m one is = ap (λ ms. pending_at ms 0) is ∙ ap (λ ms. pending_at ms 0 ++ m ∷ []) one

-- and nothing is left where it is taken
pub none_left : (ms : List Message) (m x : Message) (place : ℕ) → ms ≡ m ∷ [] → slice_get ms place ≡ Some x → remove ms place ≡ []
none_left ms m x zero one at = ap (λ l. remove l 0) one
none_left ms m x (suc place) one at = let no : slice_get (m ∷ []) (suc place) ≡ Some x = ap (λ l. slice_get l (suc place)) (sym one) ∙ at in absurd cc
