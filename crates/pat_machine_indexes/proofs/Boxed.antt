-- Mailboxes as code keeps them, and as the laws of pending messages see them.
use Rattle.std.proofs.Common.{◌≡◌, ℕ, zero, suc, ◌<◌, true, false, List, [], ◌∷◌, ◌++◌, map, length, remove, Option, Some, None, slice_get, slice_set, refl, ap, arith}
use Rattle.std.specs.Prelude.{is_some}
use Rattle.std.specs.List.{AllByRecursion}
use Rattle.std.proofs.lemmas.List.{map-append, length-map}
use Rattle.pat_reduce.specs.threads.ThreadViews.{message_view}
use Rattle.pat_machine_laws.specs.mailbox_index.Pending.{count_of, box_at, pending_at}
use Rattle.pat_mailboxes.specs.Mailboxes.{Mailbox, IsLive, mailbox_at, pending_in, all_pending, pending_at as pending_of}
use Rattle.pat_machine_indexes.specs.messages.Boxes.{box_view, boxes_view}

pub pending_view : (ms : List (Option Mailbox)) (b : ℕ) → pending_at (boxes_view ms) b ≡ map message_view (pending_of ms b)
pending_view [] b = refl
pending_view (None ∷ ms) zero = refl
pending_view (Some m ∷ ms) zero = refl
pending_view (o ∷ ms) (suc b) = pending_view ms b

pub live_view : (ms : List (Option Mailbox)) (b : ℕ) → is_some (box_at (boxes_view ms) b) ≡ is_some (mailbox_at ms b)
live_view [] b = refl
live_view (None ∷ ms) zero = refl
live_view (Some m ∷ ms) zero = refl
live_view (o ∷ ms) (suc b) = live_view ms b

live_in : (o : Option Mailbox) → is_some o ≡ true → (m : Mailbox) × (o ≡ Some m)
live_in None h = absurd cc
live_in (Some m) h = (m, refl)

pub is_live : (ms : List (Option Mailbox)) (b : ℕ) → is_some (mailbox_at ms b) ≡ true → IsLive ms b
is_live ms b h = live_in (mailbox_at ms b) h

none_in : (o : Option Mailbox) → is_some o ≡ false → o ≡ None
none_in None h = refl
none_in (Some m) h = absurd cc

-- nothing is pending in a mailbox that isn't live
pub none_pending : (ms : List (Option Mailbox)) (b : ℕ) → is_some (mailbox_at ms b) ≡ false → pending_of ms b ≡ []
none_pending ms b h = ap pending_in (none_in (mailbox_at ms b) h)

pub set_view : (ms : List (Option Mailbox)) (b : ℕ) (o : Option Mailbox) → boxes_view (slice_set ms b o) ≡ slice_set (boxes_view ms) b (box_view o)
set_view [] b o = refl
set_view (m ∷ ms) zero o = refl
set_view (m ∷ ms) (suc b) o = ap (λ l. box_view m ∷ l) (set_view ms b o)

pub push_view : (ms : List (Option Mailbox)) (o : Option Mailbox) → boxes_view (ms ++ o ∷ []) ≡ boxes_view ms ++ box_view o ∷ []
push_view ms o = map-append box_view ms (o ∷ [])

pub map_remove : {A B : Type 0} (f : A → B) (xs : List A) (i : ℕ) → map f (remove xs i) ≡ remove (map f xs) i
map_remove f [] zero = refl
map_remove f [] (suc i) = refl
map_remove f (x ∷ xs) zero = refl
map_remove f (x ∷ xs) (suc i) = ap (λ l. f x ∷ l) (map_remove f xs i)

pub map_get : {A B : Type 0} (f : A → B) (xs : List A) (i : ℕ) (x : A) → slice_get xs i ≡ Some x → slice_get (map f xs) i ≡ Some (f x)
map_get f [] i x h = absurd cc
map_get f (y ∷ ys) zero x h = let same : y ≡ x = cc in ap (λ z. Some (f z)) same
map_get f (y ∷ ys) (suc i) x h = map_get f ys i x h

pub count_view : (ms : List (Option Mailbox)) → count_of (boxes_view ms) ≡ all_pending ms
count_view [] = refl
count_view (None ∷ ms) = let rest = count_view ms in omega arith
count_view (Some m ∷ ms) = let own = length-map m.pending message_view in let rest = count_view ms in omega arith

pub all_unmap : {A B : Type 0} (f : A → B) (P : B → Type 0) (xs : List A) → AllByRecursion P (map f xs) → AllByRecursion (λ x. P (f x)) xs
all_unmap f P [] h = tt
all_unmap f P (x ∷ xs) h = (h.0, all_unmap f P xs h.1)

pub in_length : {A : Type 0} (xs : List A) (i : ℕ) (x : A) → slice_get xs i ≡ Some x → i < length xs
in_length [] i x h = absurd cc
in_length (y ∷ ys) zero x h = omega arith
in_length (y ∷ ys) (suc i) x h = let rest = in_length ys i x h in omega arith

pub unmap_get : {A B : Type 0} (f : A → B) (xs : List A) (i : ℕ) (y : B) → slice_get (map f xs) i ≡ Some y → i < length xs
unmap_get f xs i y h = let l = in_length (map f xs) i y h in let s = length-map xs f in omega arith
