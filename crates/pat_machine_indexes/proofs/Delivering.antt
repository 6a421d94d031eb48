-- The message that a guard takes, and the one of a number.
use Rattle.std.proofs.Common.{◌≡◌, ℕ, Bool, true, false, cond, nat_eq, List, [], ◌∷◌, map, length, Option, Some, None, slice_get, refl, sym, ap, ◌∙◌}
use Rattle.std.specs.Prelude.{◌<◌, zero, suc, IfNone, IfSome, is_some, option_copied, option_map, option_and_then, find, if◌then◌else◌}
use Rattle.std.proofs.Common.{⊎_elim, true≢false, ne_eqb}
use Rattle.std.proofs.lemmas.Bool.{and_parts, cases_Bool, cond-true, cond-false, eqb-true, eqb-false}
use Rattle.std.specs.Borrow.{Bor}
use Rattle.pat_semantics_spec.specs.Programs.{Program, Clause}
use Rattle.pat_semantics_spec.specs.Configs.{Control, Message}
use Rattle.pat_semantics_spec.specs.Steps.{Redex, clause_for, at_node, received}
use Rattle.pat_reduce.specs.declared.threads.state.Message.{Message as CodeMessage}
use Rattle.pat_reduce.specs.threads.ThreadViews.{message_view}
use Rattle.pat_reduce.specs.threads.ThreadActs.{Guarding, guard_at, message_in, clause_takes, takes, takes_option, first_taken, received_by, received_of, redex_received}
use Rattle.pat_machine_laws.specs.mailbox_index.Pending.{messages_of, pending_at, AreKept}
use Rattle.pat_machine_laws.proofs.MailboxIndexLookUps.{by_number, first_is_own, place_is_found, found_is_own}
use Rattle.pat_mailboxes.specs.Mailboxes.{Mailbox, IsLive, mailbox_at, pending_in, pending_at as pending_of}
use Rattle.pat_mailboxes.specs.queues.Lanes.{lane_of}
use Rattle.pat_machine_indexes.specs.messages.Boxes.{boxes_view}
use Rattle.pat_machine_indexes.specs.messages.Deliveries.{IsDelivery, IsNumbered, has_lane}
use Rattle.pat_machine_indexes.proofs.Boxed.{pending_view, map_get, unmap_get}

find_map : {A B : Type 0} (g : A → B) (f : B → Bool) (xs : List A) → find f (map g xs) ≡ option_map g (find (λ x. f (g x)) xs)
find_map g f [] = refl
find_map g f (x ∷ xs) =
    elim (f (g x)) as (λ v. cond v (Some (g x)) (find f (map g xs)) ≡ option_map g (cond v (Some x) (find (λ y. f (g y)) xs))) [
      | true ↦ refl
      | false ↦ find_map g f xs
    ]

-- what is found has a place, and passes
pub found_place : {X : Type 0} (test : X → Bool) (xs : List X) (x : X) → find test xs ≡ Some x → (place : ℕ) × (slice_get xs place ≡ Some x) × (test x ≡ true)
found_place test [] x is = absurd cc
found_place test (y ∷ ys) x is =
    ⊎_elim
    (λ (yes : test y ≡ true).
    let both : Some y ≡ Some x = sym (cond-true (test y) (Some y) (find test ys) yes) ∙ is in
    let same : y ≡ x = cc in
    (0, both, ap test (sym same) ∙ yes))
    (λ (no : test y ≡ false).
    let rest = found_place test ys x (sym (cond-false (test y) (Some y) (find test ys) no) ∙ is) in
    (suc rest.0, rest.1, rest.2))
    (cases_Bool (test y))

-- what is found by its number
pub numbered_of : (k : ℕ) (ms : List CodeMessage) (o : Option (Bor CodeMessage)) → option_copied o ≡ find (λ m. nat_eq k m.number) ms → IfSome o (IsNumbered ms k)
numbered_of k ms None is = tt
numbered_of k ms (Some m) is =
    let found = found_place (λ (x : CodeMessage). nat_eq k x.number) ms m.now (sym is) in
    (found.0, found.1, sym (eqb-true k m.now.number found.2))

-- a message with a place, where it has the number
pub numbered_by : (ms : List CodeMessage) (k : ℕ) (x : CodeMessage) → (place : ℕ) × (slice_get ms place ≡ Some x) → (o : Option (Bor CodeMessage)) → IfSome o (λ m. (m.now ≡ x) × (m.now.number ≡ k)) → IfSome o (IsNumbered ms k)
numbered_by ms k x at None is = tt
numbered_by ms k x at (Some m) is = (at.0, at.1 ∙ ap Some (sym is.0), is.1)

-- or nothing is
pub none_of : {X : Type 0} (test : X → Bool) (xs : List X) (o : Option (Bor X)) → option_copied o ≡ find test xs → IfNone o (find test xs ≡ None)
none_of test xs None is = sym is
none_of test xs (Some m) is = tt

-- a guard without a clause for a lane takes no message of the lane
no_clause : (tag lane : ℕ) (cs : List Clause) → has_lane lane cs ≡ false → lane_of tag ≡ lane → clause_for tag cs ≡ None
no_clause tag lane [] none is = refl
no_clause tag lane (c ∷ cs) none is =
    ⊎_elim
    (λ (yes : nat_eq (lane_of c.tag) lane ≡ true).
    let some : has_lane lane (c ∷ cs) ≡ true = ap is_some (cond-true (nat_eq (lane_of c.tag) lane) (Some c) (find (λ (d : Clause). nat_eq (lane_of d.tag) lane) cs) yes) in
    absurd (true≢false (sym some ∙ none)))
    (λ (no : nat_eq (lane_of c.tag) lane ≡ false).
    let rest : has_lane lane cs ≡ false = sym (ap is_some (cond-false (nat_eq (lane_of c.tag) lane) (Some c) (find (λ (d : Clause). nat_eq (lane_of d.tag) lane) cs) no)) ∙ none in
    let other = eqb-false (lane_of c.tag) lane no in
    cond-false (nat_eq tag c.tag) (Some c) (clause_for tag cs) (ne_eqb tag c.tag (λ (same : tag ≡ c.tag). other (ap lane_of (sym same) ∙ is))) ∙ no_clause tag lane cs rest is)
    (cases_Bool (nat_eq (lane_of c.tag) lane))

pub untaken : (g : Guarding) (lane : ℕ) (m : Message) → has_lane lane g.receives ≡ false → lane_of m.tag ≡ lane → takes g m ≡ false
untaken g lane m none is = ap (clause_takes g.mailbox m) (no_clause m.tag lane g.receives none is)

filled : (o : Option Mailbox) (i : ℕ) (m : Message) → slice_get (map message_view (pending_in o)) i ≡ Some m → (x : Mailbox) × (o ≡ Some x)
filled None i m h = absurd cc
filled (Some x) i m h = (x, refl)

-- a mailbox with a message is live, and the message has a place
pub live_by : (ms : List (Option Mailbox)) (b i : ℕ) (m : Message) → slice_get (pending_at (boxes_view ms) b) i ≡ Some m → IsLive ms b
live_by ms b i m h = filled (mailbox_at ms b) i m (ap (λ l. slice_get l i) (sym (pending_view ms b)) ∙ h)

pub within_by : (ms : List (Option Mailbox)) (b i : ℕ) (m : Message) → slice_get (pending_at (boxes_view ms) b) i ≡ Some m → i < length (pending_of ms b)
within_by ms b i m h = unmap_get message_view (pending_of ms b) i m (ap (λ l. slice_get l i) (sym (pending_view ms b)) ∙ h)

-- the same message at the place where it was taken
pub taken_at : (ms : List (Option Mailbox)) (p : Program) (r : Redex) (k b i : ℕ) (control : Control) → IsDelivery p (boxes_view ms) r k b i control → (j : ℕ) (m : CodeMessage) → slice_get (pending_of ms b) j ≡ Some m → m.number ≡ k → IsDelivery p (boxes_view ms) r k b j control
taken_at ms p r k b i control d j m at numbered = record {
  message = message_view m;
  there = ap (λ l. slice_get l j) (pending_view ms b) ∙ map_get message_view (pending_of ms b) j m at;
  numbered = numbered;
  goes_on = d.goes_on;
}

own_clause : (a : ℕ) (m : Message) (o : Option Clause) → clause_takes a m o ≡ true → m.mailbox ≡ a
own_clause a m None h = absurd cc
own_clause a m (Some r) h = eqb-true m.mailbox a (and_parts (nat_eq m.mailbox a) (nat_eq (length r.vars) (length m.values)) h).0

-- a guard takes messages of its mailbox alone
takes_own : (g : Guarding) (m : Message) → takes g m ≡ true → m.mailbox ≡ g.mailbox
takes_own g m h = own_clause g.mailbox m (clause_for m.tag g.receives) h

module _ (ms : List (Option Mailbox)) (kept : AreKept (boxes_view ms)) where
  -- the first message that a guard takes is the first of its mailbox
  pub first_in : (g : Guarding) → first_taken g (messages_of (boxes_view ms)) ≡ option_map message_view (find (λ m. takes g (message_view m)) (pending_of ms g.mailbox))
  first_in g =
      by_number (takes_option g) (messages_of (boxes_view ms)) kept.distinct
      ∙ first_is_own (boxes_view ms) g.mailbox (takes g) kept.own (takes_own g)
      ∙ ap (find (takes g)) (pending_view ms g.mailbox)
      ∙ find_map message_view (takes g) (pending_of ms g.mailbox)

  -- the number of the first one
  pub number_in : (g : Guarding) (o : Option CodeMessage) → find (λ m. takes g (message_view m)) (pending_of ms g.mailbox) ≡ o → option_map (λ m. m.number) o ≡ option_map (λ m. m.number) (first_taken g (messages_of (boxes_view ms)))
  number_in g None is = sym (ap (option_map (λ (m : Message). m.number)) (first_in g ∙ ap (option_map message_view) is))
  number_in g (Some m) is = sym (ap (option_map (λ (m : Message). m.number)) (first_in g ∙ ap (option_map message_view) is))

  module _ (p : Program) (r : Redex) (g : Guarding) (at : guard_at r ≡ Some g) (k : ℕ) where
    abbrev all : List Message
    all = messages_of (boxes_view ms)

    received_is : redex_received p all k r ≡ received_of p g (message_in all k)
    received_is = ap (option_and_then (λ h. received_of p h (message_in all k))) at

    -- the message at a place is received
    pub delivers : (i : ℕ) (m : CodeMessage) (control : Control) → slice_get (pending_of ms g.mailbox) i ≡ Some m → m.number ≡ k → received_of p g (Some (message_view m)) ≡ Some control → IsDelivery p (boxes_view ms) r k g.mailbox i control
    delivers i m control there is goes = record {
      message = message_view m;
      there = own_place i m there;
      numbered = is;
      goes_on = received_is ∙ ap (received_of p g) (found_there i m there is) ∙ goes;
    }
      where
        own_place : (i : ℕ) (m : CodeMessage) → slice_get (pending_of ms g.mailbox) i ≡ Some m → slice_get (pending_at (boxes_view ms) g.mailbox) i ≡ Some (message_view m)
        own_place i m there = ap (λ l. slice_get l i) (pending_view ms g.mailbox) ∙ map_get message_view (pending_of ms g.mailbox) i m there

        found_there : (i : ℕ) (m : CodeMessage) → slice_get (pending_of ms g.mailbox) i ≡ Some m → m.number ≡ k → message_in all k ≡ Some (message_view m)
        found_there i m there is = ap (message_in all) (sym is) ∙ place_is_found (boxes_view ms) g.mailbox i (message_view m) kept.distinct (own_place i m there)

    -- nothing goes on with it
    pub undelivered : (i : ℕ) (m : CodeMessage) → slice_get (pending_of ms g.mailbox) i ≡ Some m → m.number ≡ k → received_of p g (Some (message_view m)) ≡ None → redex_received p all k r ≡ None
    undelivered i m there is none =
        let own : slice_get (pending_at (boxes_view ms) g.mailbox) i ≡ Some (message_view m) = ap (λ l. slice_get l i) (pending_view ms g.mailbox) ∙ map_get message_view (pending_of ms g.mailbox) i m there in
        received_is ∙ ap (received_of p g) (ap (message_in all) (sym is) ∙ place_is_found (boxes_view ms) g.mailbox i (message_view m) kept.distinct own) ∙ none

    by_clause : (m : Message) (o : Option Clause) → (m.mailbox ≡ g.mailbox → ⊥) → received_by p g m o ≡ None
    by_clause m None other = refl
    by_clause m (Some c) other =
        (elim (clause_takes g.mailbox m (Some c)) as (λ v. clause_takes g.mailbox m (Some c) ≡ v → (if v then Some (at_node p c.body (received c m g.env)) else None) ≡ None) [
          | true ↦ λ q. absurd (other (own_clause g.mailbox m (Some c) q))
          | false ↦ λ q. refl
        ]) refl

    from_all : (o : Option Message) → message_in all k ≡ o → find (λ m. nat_eq k m.number) (pending_of ms g.mailbox) ≡ None → received_of p g o ≡ None
    from_all None is none = refl
    from_all (Some m) is none =
        by_clause m (clause_for m.tag g.receives)
        (λ same.
        let own : message_in (pending_at (boxes_view ms) g.mailbox) k ≡ Some m = ap (λ b. message_in (pending_at (boxes_view ms) b) k) (sym same) ∙ found_is_own (boxes_view ms) k m kept.own is in
        let no : message_in (pending_at (boxes_view ms) g.mailbox) k ≡ None =
        ap (find (λ n. nat_eq k n.number)) (pending_view ms g.mailbox) ∙ find_map message_view (λ n. nat_eq k n.number) (pending_of ms g.mailbox) ∙ ap (option_map message_view) none in
        let clash : Some m ≡ None = sym own ∙ no in
        absurd cc)

    -- where none of its mailbox has the number, none is received
    pub missing : find (λ m. nat_eq k m.number) (pending_of ms g.mailbox) ≡ None → redex_received p all k r ≡ None
    missing none = received_is ∙ from_all (message_in all k) refl none
