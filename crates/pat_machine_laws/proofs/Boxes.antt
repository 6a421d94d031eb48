-- Messages by mailbox, where one mailbox changes.
use Rattle.std.proofs.Common.{◌≡◌, ℕ, zero, suc, ◌+◌, ◌<◌, ◌≤◌, Bool, true, false, ◌||◌, not, nat_eq, List, [], ◌∷◌, ◌++◌, length, filter, Option, Some, None, refl, sym, ap, ◌∙◌, subst, arith, ◌⊎◌, inl, inr, ⊎_elim, slice_get, slice_set, is_some, append_assoc, append-nil, length-append}
use Rattle.std.specs.List.{AllByRecursion, list_any}
use Rattle.std.proofs.lemmas.Bool.{cond-true, cond-false, ne_eqb, eq-eqb, or_left}
use Rattle.std.proofs.lemmas.List.Elements.{filter-append}
use Rattle.pat_semantics_spec.specs.Programs.{is_among}
use Rattle.pat_semantics_spec.specs.Configs.{Message}
use Rattle.pat_semantics_spec.specs.Orders.{AscendsFrom}
use Rattle.pat_semantics_spec.specs.Faults.{IsIn}
use Rattle.pat_semantics_laws.proofs.Lists.{all_join}
use Rattle.pat_semantics_laws.proofs.Ascending.{ascends_less}
use Rattle.pat_machine_laws.specs.mailbox_index.Pending.{listed, all_of, live_from, count_of, box_at, pending_at, IsOwn, OwnsInOrder}
use Rattle.pat_machine_laws.proofs.Kept.{all_map, all_parts, any_joined, filter_each, filter_nothing, in_first, in_second}

-- ---- what changes where a mailbox is set

-- the messages before and after those of a mailbox
pub record Around (boxes : List (Option (List Message))) (b : ℕ) (ms : List Message) : Type 0 where
  pub before : List Message
  pub after : List Message
  pub all : all_of boxes ≡ before ++ (ms ++ after)
  pub set : (o : Option (List Message)) → all_of (slice_set boxes b o) ≡ before ++ (listed o ++ after)

pub around : (boxes : List (Option (List Message))) (b : ℕ) (ms : List Message) → box_at boxes b ≡ Some ms → Around boxes b ms
around [] b ms h = cc
around (o ∷ boxes) zero ms h = let same : o ≡ Some ms = h in record { before = []; after = all_of boxes; all = ap (λ q. listed q ++ all_of boxes) same; set = λ q. refl }
around (o ∷ boxes) (suc b) ms h =
    let r = around boxes b ms h in
    record {
      before = listed o ++ r.before;
      after = r.after;
      all = ap (λ l. listed o ++ l) r.all ∙ sym (append_assoc (listed o) r.before (ms ++ r.after));
      set = λ q. ap (λ l. listed o ++ l) (r.set q) ∙ sym (append_assoc (listed o) r.before (listed q ++ r.after));
    }

-- a mailbox that is live has messages
pub live_box : (boxes : List (Option (List Message))) (b : ℕ) → is_some (box_at boxes b) ≡ true → box_at boxes b ≡ Some (pending_at boxes b)
live_box boxes b h = go (box_at boxes b) h
  where
    go : (o : Option (List Message)) → is_some o ≡ true → o ≡ Some (listed o)
    go None h = cc
    go (Some ms) h = refl

-- a mailbox with a message is live
pub filled_box : (boxes : List (Option (List Message))) (b i : ℕ) (m : Message) → slice_get (pending_at boxes b) i ≡ Some m → box_at boxes b ≡ Some (pending_at boxes b)
filled_box boxes b i m h = go (box_at boxes b) h
  where
    go : (o : Option (List Message)) → slice_get (listed o) i ≡ Some m → o ≡ Some (listed o)
    go None h = cc
    go (Some ms) h = refl

-- a mailbox without messages that is no longer live changes none
pub all_freed : (boxes : List (Option (List Message))) (b : ℕ) → pending_at boxes b ≡ [] → all_of (slice_set boxes b None) ≡ all_of boxes
all_freed [] b h = refl
all_freed (o ∷ boxes) zero h = ap (λ l. l ++ all_of boxes) (sym h)
all_freed (o ∷ boxes) (suc b) h = ap (λ l. listed o ++ l) (all_freed boxes b h)

pub all_made : (boxes : List (Option (List Message))) → all_of (boxes ++ Some [] ∷ []) ≡ all_of boxes
all_made [] = refl
all_made (o ∷ boxes) = ap (λ l. listed o ++ l) (all_made boxes)

pub pending_made : (boxes : List (Option (List Message))) (b : ℕ) → pending_at (boxes ++ Some [] ∷ []) b ≡ pending_at boxes b
pending_made [] zero = refl
pending_made [] (suc b) = refl
pending_made (o ∷ boxes) zero = refl
pending_made (o ∷ boxes) (suc b) = pending_made boxes b

-- a live mailbox with the messages that it has
pub set_still : (boxes : List (Option (List Message))) (b : ℕ) → is_some (box_at boxes b) ≡ true → slice_set boxes b (Some (pending_at boxes b)) ≡ boxes
set_still [] b h = cc
set_still (None ∷ boxes) zero h = cc
set_still (Some ms ∷ boxes) zero h = refl
set_still (o ∷ boxes) (suc b) h = ap (λ l. o ∷ l) (set_still boxes b h)

-- a mailbox is the one that was set, or what it was
at_set : (boxes : List (Option (List Message))) (b c : ℕ) (o : Option (List Message)) → ((b ≡ c) × (box_at (slice_set boxes b o) c ≡ o)) ⊎ (box_at (slice_set boxes b o) c ≡ box_at boxes c)
at_set [] b c o = inr refl
at_set (x ∷ boxes) zero zero o = inl (refl, refl)
at_set (x ∷ boxes) zero (suc c) o = inr refl
at_set (x ∷ boxes) (suc b) zero o = inr refl
at_set (x ∷ boxes) (suc b) (suc c) o = ⊎_elim (λ here. inl (ap suc here.0, here.1)) (λ other. inr other) (at_set boxes b c o)

-- so each has its own messages where the one that is set does
pub own_set : (boxes : List (Option (List Message))) (b : ℕ) (o : Option (List Message)) → OwnsInOrder boxes → IsOwn b (listed o) → OwnsInOrder (slice_set boxes b o)
own_set boxes b o own is c =
    ⊎_elim
    (λ here. subst (λ q. IsOwn c (listed q)) (sym here.1) (subst (λ d. IsOwn d (listed o)) here.0 is))
    (λ other. subst (λ q. IsOwn c (listed q)) (sym other) (own c))
    (at_set boxes b c o)

-- ---- live mailboxes

pub live_ascends : (n : ℕ) (boxes : List (Option (List Message))) → AscendsFrom n (live_from n boxes)
live_ascends n [] = tt
live_ascends n (None ∷ boxes) = ascends_less n (suc n) (live_from (suc n) boxes) (omega arith) (live_ascends (suc n) boxes)
live_ascends n (Some ms ∷ boxes) = (omega arith, live_ascends (suc n) boxes)

pub live_below : (n k : ℕ) (boxes : List (Option (List Message))) → n + length boxes ≤ k → AllByRecursion (λ a. a < k) (live_from n boxes)
live_below n k [] l = tt
live_below n k (None ∷ boxes) l = live_below (suc n) k boxes (omega arith)
live_below n k (Some ms ∷ boxes) l = (omega arith, live_below (suc n) k boxes (omega arith))

live_above : (n k : ℕ) (boxes : List (Option (List Message))) → k ≤ n → AllByRecursion (λ a. k ≤ a) (live_from n boxes)
live_above n k [] l = tt
live_above n k (None ∷ boxes) l = live_above (suc n) k boxes (omega arith)
live_above n k (Some ms ∷ boxes) l = (l, live_above (suc n) k boxes (omega arith))

pub live_made : (n : ℕ) (boxes : List (Option (List Message))) (a : ℕ) → a ≡ n + length boxes → live_from n (boxes ++ Some [] ∷ []) ≡ live_from n boxes ++ a ∷ []
live_made n [] a e = let same : n ≡ a = omega arith in ap (λ k. k ∷ []) same
live_made n (None ∷ boxes) a e = live_made (suc n) boxes a (omega arith)
live_made n (Some ms ∷ boxes) a e = ap (λ l. n ∷ l) (live_made (suc n) boxes a (omega arith))

-- a live mailbox with other messages stays live
pub live_set : (n : ℕ) (boxes : List (Option (List Message))) (b : ℕ) (ms new : List Message) → box_at boxes b ≡ Some ms → live_from n (slice_set boxes b (Some new)) ≡ live_from n boxes
live_set n [] b ms new h = cc
live_set n (None ∷ boxes) zero ms new h = cc
live_set n (Some old ∷ boxes) zero ms new h = refl
live_set n (None ∷ boxes) (suc b) ms new h = live_set (suc n) boxes b ms new h
live_set n (Some old ∷ boxes) (suc b) ms new h = ap (λ l. n ∷ l) (live_set (suc n) boxes b ms new h)

others_live : (n a : ℕ) (boxes : List (Option (List Message))) → a < n → filter (λ k. not (nat_eq k a)) (live_from n boxes) ≡ live_from n boxes
others_live n a boxes l =
    filter_each (λ k. not (nat_eq k a)) (live_from n boxes)
    (all_map (λ k. n ≤ k) (λ k. not (nat_eq k a) ≡ true) (λ k m. ap not (ne_eqb k a (λ e. omega arith))) (live_from n boxes) (live_above n n boxes (omega arith)))

pub live_freed : (n : ℕ) (boxes : List (Option (List Message))) (b a : ℕ) → a ≡ n + b → live_from n (slice_set boxes b None) ≡ filter (λ k. not (nat_eq k a)) (live_from n boxes)
live_freed n [] b a e = refl
live_freed n (None ∷ boxes) zero a e = sym (others_live (suc n) a boxes (omega arith))
live_freed n (Some ms ∷ boxes) zero a e =
    let rest = filter (λ k. not (nat_eq k a)) (live_from (suc n) boxes) in
    sym (cond-false (not (nat_eq n a)) (n ∷ rest) rest (ap not (eq-eqb n a (omega arith))) ∙ others_live (suc n) a boxes (omega arith))
live_freed n (None ∷ boxes) (suc b) a e = live_freed (suc n) boxes b a (omega arith)
live_freed n (Some ms ∷ boxes) (suc b) a e =
    let rest = filter (λ k. not (nat_eq k a)) (live_from (suc n) boxes) in
    ap (λ l. n ∷ l) (live_freed (suc n) boxes b a (omega arith)) ∙ sym (cond-true (not (nat_eq n a)) (n ∷ rest) rest (ap not (ne_eqb n a (λ q. omega arith))))

none_live : (a : ℕ) (ks : List ℕ) → AllByRecursion (λ k. suc a ≤ k) ks → is_among a ks ≡ false
none_live a [] l = refl
none_live a (k ∷ ks) l = let more = l.0 in ap (λ v. v || is_among a ks) (ne_eqb a k (λ e. omega arith)) ∙ none_live a ks l.1

pub live_listed : (n : ℕ) (boxes : List (Option (List Message))) (b a : ℕ) → a ≡ n + b → is_among a (live_from n boxes) ≡ is_some (box_at boxes b)
live_listed n [] b a e = refl
live_listed n (None ∷ boxes) zero a e = none_live a (live_from (suc n) boxes) (live_above (suc n) (suc a) boxes (omega arith))
live_listed n (Some ms ∷ boxes) zero a e = or_left (nat_eq a n) (is_among a (live_from (suc n) boxes)) (eq-eqb a n (omega arith))
live_listed n (None ∷ boxes) (suc b) a e = live_listed (suc n) boxes b a (omega arith)
live_listed n (Some ms ∷ boxes) (suc b) a e =
    ap (λ v. v || is_among a (live_from (suc n) boxes)) (ne_eqb a n (λ q. omega arith)) ∙ live_listed (suc n) boxes b a (omega arith)

-- ---- the messages of one among those of all

pub all_counted : (boxes : List (Option (List Message))) → length (all_of boxes) ≡ count_of boxes
all_counted [] = refl
all_counted (o ∷ boxes) = length-append (listed o) (all_of boxes) ∙ ap (λ n. length (listed o) + n) (all_counted boxes)

-- a test passes at one of all messages where it does in some mailbox
pub any_all : (test : Message → Bool) (boxes : List (Option (List Message))) → list_any test (all_of boxes) ≡ list_any (λ o. list_any test (listed o)) boxes
any_all test [] = refl
any_all test (o ∷ boxes) = any_joined test (listed o) (all_of boxes) ∙ ap (λ v. list_any test (listed o) || v) (any_all test boxes)

pub pending_in_all : (boxes : List (Option (List Message))) (b : ℕ) (m : Message) → IsIn m (pending_at boxes b) → IsIn m (all_of boxes)
pending_in_all [] b m at = absurd at
pending_in_all (o ∷ boxes) zero m at = in_first m (listed o) (all_of boxes) at
pending_in_all (o ∷ boxes) (suc b) m at = in_second m (listed o) (all_of boxes) (pending_in_all boxes b m at)

-- what is true of all messages is true of those of one
pub pending_all : (P : Message → Type 0) (boxes : List (Option (List Message))) (b : ℕ) → AllByRecursion P (all_of boxes) → AllByRecursion P (pending_at boxes b)
pending_all P [] b a = tt
pending_all P (o ∷ boxes) zero a = (all_parts P (listed o) (all_of boxes) a).0
pending_all P (o ∷ boxes) (suc b) a = pending_all P boxes b (all_parts P (listed o) (all_of boxes) a).1

-- messages that are pending in mailbox n
abbrev AllIn : ℕ → List Message → Type 0
AllIn n ms = AllByRecursion (λ m. m.mailbox ≡ n) ms

-- each mailbox has its own messages, where the first one has number n
abbrev Owns : ℕ → List (Option (List Message)) → Type 0
Owns n [] = Unit {0}
Owns n (o ∷ boxes) = AllIn n (listed o) × Owns (suc n) boxes

owns : (n : ℕ) (boxes : List (Option (List Message))) → ((i : ℕ) → AllIn (n + i) (pending_at boxes i)) → Owns n boxes
owns n [] f = tt
owns n (o ∷ boxes) f =
    let here : n + 0 ≡ n = omega arith in
    (subst (λ k. AllIn k (listed o)) here (f 0), owns (suc n) boxes (λ i. let next : n + suc i ≡ suc n + i = omega arith in subst (λ k. AllIn k (pending_at boxes i)) next (f (suc i))))

owned_above : (n k : ℕ) (boxes : List (Option (List Message))) → k ≤ n → Owns n boxes → AllByRecursion (λ m. k ≤ m.mailbox) (all_of boxes)
owned_above n k [] l w = tt
owned_above n k (o ∷ boxes) l w =
    all_join (λ m. k ≤ m.mailbox) (listed o) (all_of boxes)
    (all_map (λ m. m.mailbox ≡ n) (λ m. k ≤ m.mailbox) (λ m e. omega arith) (listed o) w.0)
    (owned_above (suc n) k boxes (omega arith) w.1)

own_kept : (n : ℕ) (boxes : List (Option (List Message))) (b a : ℕ) → a ≡ n + b → Owns n boxes → filter (λ m. nat_eq m.mailbox a) (all_of boxes) ≡ pending_at boxes b
own_kept n [] b a e w = refl
own_kept n (o ∷ boxes) zero a e w =
    let f : Message → Bool = λ m. nat_eq m.mailbox a in
    let here : filter f (listed o) ≡ listed o =
    filter_each f (listed o) (all_map (λ m. m.mailbox ≡ n) (λ m. f m ≡ true) (λ m k. eq-eqb m.mailbox a (omega arith)) (listed o) w.0) in
    let rest : filter f (all_of boxes) ≡ [] =
    filter_nothing f (all_of boxes) (all_map (λ m. suc n ≤ m.mailbox) (λ m. f m ≡ false) (λ m k. ne_eqb m.mailbox a (λ q. omega arith)) (all_of boxes) (owned_above (suc n) (suc n) boxes (omega arith) w.1)) in
    filter-append f (listed o) (all_of boxes) ∙ ap (λ l. l ++ filter f (all_of boxes)) here ∙ ap (λ l. listed o ++ l) rest ∙ append-nil (listed o)
own_kept n (o ∷ boxes) (suc b) a e w =
    let f : Message → Bool = λ m. nat_eq m.mailbox a in
    let here : filter f (listed o) ≡ [] =
    filter_nothing f (listed o) (all_map (λ m. m.mailbox ≡ n) (λ m. f m ≡ false) (λ m k. ne_eqb m.mailbox a (λ q. omega arith)) (listed o) w.0) in
    filter-append f (listed o) (all_of boxes) ∙ ap (λ l. l ++ filter f (all_of boxes)) here ∙ own_kept (suc n) boxes b a (omega arith) w.1

-- of all messages, those that are pending in a mailbox are its own
pub own_filter : (boxes : List (Option (List Message))) (b : ℕ) → OwnsInOrder boxes → filter (λ m. nat_eq m.mailbox b) (all_of boxes) ≡ pending_at boxes b
own_filter boxes b own =
    let each : (i : ℕ) → AllIn (0 + i) (pending_at boxes i) = λ i. let same : i ≡ 0 + i = omega arith in subst (λ k. AllIn k (pending_at boxes i)) same (own i).own in
    own_kept 0 boxes b b (omega arith) (owns 0 boxes each)
