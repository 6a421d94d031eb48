-- All messages, and the live mailboxes, where one mailbox changes.
use Rattle.std.proofs.Common.{◌≡◌, ℕ, suc, ◌<◌, ◌≤◌, Bool, true, not, nat_eq, List, [], ◌∷◌, ◌++◌, length, filter, take, drop, remove, Option, Some, None, refl, sym, ap, ◌∙◌, subst, arith, is_some, slice_get, slice_set, append_assoc}
use Rattle.std.specs.List.{AllByRecursion}
use Rattle.std.proofs.lemmas.Bool.{eq-eqb}
use Rattle.std.proofs.lemmas.List.{same_from_push}
use Rattle.pat_semantics_spec.specs.Configs.{Message}
use Rattle.pat_semantics_laws.proofs.Lists.{all_snoc, all_filter}
use Rattle.pat_semantics_laws.proofs.Ascending.{ascends_filter, ascends_last}
use Rattle.pat_machine_laws.specs.mailbox_index.Pending.{in_order, all_of, messages_of, box_at, pending_at, Ascend, IsOwn, AreDistinct}
use Rattle.pat_machine_laws.specs.mailbox_index.Laws.{sent, taken, IsMade, IsSent, IsTaken, IsFreed, StartIsKept, MakesLast, SendsLast, LastIsSent, TakesOne, FreesOne, SameStays}
use Rattle.pat_machine_laws.proofs.Kept.{all_parts, at_place, keeps_others}
use Rattle.pat_machine_laws.proofs.Insertions.{filter_in_order, all_in_order, in_order_last, ascending_once, once}
use Rattle.pat_machine_laws.proofs.Boxes.{around, live_box, filled_box, all_freed, all_made, pending_made, pending_all, set_still, own_set, live_made, live_set, live_freed}

-- ---- the start, and a further mailbox

pub start_is_kept : StartIsKept
start_is_kept = record { own = λ b. record { ascends = tt; own = tt }; distinct = tt }

made : (boxes : List (Option (List Message))) → IsMade boxes
made boxes =
    let same : messages_of (boxes ++ Some [] ∷ []) ≡ messages_of boxes = ap in_order (all_made boxes) in
    record {
      messages = same;
      live = live_made 0 boxes (length boxes) (omega arith);
      kept = λ k. record { own = λ b. subst (IsOwn b) (sym (pending_made boxes b)) (k.own b); distinct = subst Ascend (sym same) k.distinct };
    }

pub makes_last : MakesLast
makes_last boxes = made boxes

-- ---- a message is sent

module _ (boxes : List (Option (List Message))) (b : ℕ) (m : Message) (live : is_some (box_at boxes b) ≡ true) (below : AllByRecursion (λ n. n.number < m.number) (messages_of boxes)) where
  messages_sent : messages_of (sent boxes b m) ≡ messages_of boxes ++ m ∷ []
  messages_sent =
      let ms = pending_at boxes b in
      let r = around boxes b ms (live_box boxes b live) in
      let first = r.before ++ ms in
      let were : all_of boxes ≡ first ++ r.after = r.all ∙ sym (append_assoc r.before ms r.after) in
      let are : all_of (sent boxes b m) ≡ first ++ m ∷ r.after =
      r.set (Some (ms ++ m ∷ [])) ∙ ap (λ l. r.before ++ l) (append_assoc ms (m ∷ []) r.after) ∙ sym (append_assoc r.before ms (m ∷ r.after)) in
      let parts = all_parts (λ n. n.number < m.number) first r.after (subst (AllByRecursion (λ n. n.number < m.number)) were (all_in_order (λ n. n.number < m.number) (all_of boxes) below)) in
      ap in_order are ∙ in_order_last m first r.after parts.0 parts.1 ∙ ap (λ l. in_order l ++ m ∷ []) (sym were)

  own_sent : m.mailbox ≡ b → IsOwn b (pending_at boxes b) → IsOwn b (pending_at boxes b ++ m ∷ [])
  own_sent to own =
      let ms = pending_at boxes b in
      record {
        ascends = ascends_last (λ n. n.number) 0 ms m own.ascends (omega arith) (pending_all (λ n. n.number < m.number) boxes b (all_in_order (λ n. n.number < m.number) (all_of boxes) below));
        own = all_snoc (λ n. n.mailbox ≡ b) ms m own.own to;
      }

  is_sent : IsSent boxes b m
  is_sent = record {
    messages = messages_sent;
    live = live_set 0 boxes b (pending_at boxes b) (pending_at boxes b ++ m ∷ []) (live_box boxes b live);
    kept = λ to k. record {
      own = own_set boxes b (Some (pending_at boxes b ++ m ∷ [])) k.own (own_sent to (k.own b));
      distinct = subst Ascend (sym messages_sent) (ascends_last (λ n. n.number) 0 (messages_of boxes) m k.distinct (omega arith) below);
    };
  }

pub sends_last : SendsLast
sends_last boxes b m live below = is_sent boxes b m live below

pub last_is_sent : LastIsSent
last_is_sent boxes b m live below ns n h = (same_from_push ns (messages_of boxes) n m (sym h ∙ messages_sent boxes b m live below)).1

-- ---- a message is taken

module _ (boxes : List (Option (List Message))) (b i : ℕ) (m : Message) (there : slice_get (pending_at boxes b) i ≡ Some m) where
  abbrev others : Message → Bool
  others n = not (nat_eq n.number m.number)

  messages_taken : AreDistinct boxes → messages_of (taken boxes b i) ≡ filter others (messages_of boxes)
  messages_taken distinct =
      let ms = pending_at boxes b in
      let r = around boxes b ms (filled_box boxes b i m there) in
      let first = r.before ++ take i ms in
      let last = drop (suc i) ms ++ r.after in
      let were : all_of boxes ≡ first ++ m ∷ last =
      r.all ∙ ap (λ l. r.before ++ (l ++ r.after)) (at_place ms i m there) ∙ ap (λ l. r.before ++ l) (append_assoc (take i ms) (m ∷ drop (suc i) ms) r.after) ∙ sym (append_assoc r.before (take i ms) (m ∷ last)) in
      let are : all_of (taken boxes b i) ≡ first ++ last =
      r.set (Some (remove ms i)) ∙ ap (λ l. r.before ++ l) (append_assoc (take i ms) (drop (suc i) ms) r.after) ∙ sym (append_assoc r.before (take i ms) last) in
      let single = subst (λ l. length (filter (λ n. nat_eq n.number m.number) l) ≤ 1) were (once m.number (all_of boxes) distinct) in
      let kept : filter others (all_of boxes) ≡ first ++ last = ap (filter others) were ∙ keeps_others (λ n. nat_eq n.number m.number) first m last (eq-eqb m.number m.number refl) single in
      ap in_order (are ∙ sym kept) ∙ sym (filter_in_order others (all_of boxes))

  -- of the mailbox's own, those of other numbers are left
  pending_taken : Ascend (pending_at boxes b) → filter others (pending_at boxes b) ≡ remove (pending_at boxes b) i
  pending_taken ascends =
      let ms = pending_at boxes b in
      let were = at_place ms i m there in
      let single = subst (λ l. length (filter (λ n. nat_eq n.number m.number) l) ≤ 1) were (ascending_once m.number 0 ms ascends) in
      ap (filter others) were ∙ keeps_others (λ n. nat_eq n.number m.number) (take i ms) m (drop (suc i) ms) (eq-eqb m.number m.number refl) single

  own_taken : IsOwn b (pending_at boxes b) → IsOwn b (remove (pending_at boxes b) i)
  own_taken own =
      let ms = pending_at boxes b in
      subst (IsOwn b) (pending_taken own.ascends)
      (record { ascends = ascends_filter (λ n. n.number) others 0 ms own.ascends; own = all_filter (λ n. n.mailbox ≡ b) others ms own.own })

  is_taken : AreDistinct boxes → IsTaken boxes b i m
  is_taken distinct = record {
    messages = messages_taken distinct;
    live = live_set 0 boxes b (pending_at boxes b) (remove (pending_at boxes b) i) (filled_box boxes b i m there);
    kept = λ own. record {
      own = own_set boxes b (Some (remove (pending_at boxes b) i)) own (own_taken (own b));
      distinct = subst Ascend (sym (messages_taken distinct)) (ascends_filter (λ n. n.number) others 0 (messages_of boxes) distinct);
    };
  }

pub takes_one : TakesOne
takes_one boxes b i m distinct there = is_taken boxes b i m there distinct

-- ---- a mailbox is freed

freed : (boxes : List (Option (List Message))) (b : ℕ) → pending_at boxes b ≡ [] → IsFreed boxes b
freed boxes b empty =
    let same : messages_of (slice_set boxes b None) ≡ messages_of boxes = ap in_order (all_freed boxes b empty) in
    record {
      messages = same;
      live = live_freed 0 boxes b b (omega arith);
      kept = λ k. record { own = own_set boxes b None k.own (record { ascends = tt; own = tt }); distinct = subst Ascend (sym same) k.distinct };
    }

pub frees_one : FreesOne
frees_one boxes b empty = freed boxes b empty

pub same_stays : SameStays
same_stays boxes b live = set_still boxes b live
