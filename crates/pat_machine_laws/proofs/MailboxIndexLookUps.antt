-- What is found among the messages of all mailboxes, and what in one of them.
use Rattle.std.proofs.Common.{◌≡◌, ℕ, ◌<◌, Bool, not, nat_eq, List, length, filter, Option, Some, refl, sym, ap, ◌∙◌, arith, eq-eqb}
use Rattle.std.specs.Prelude.{find}
use Rattle.std.proofs.lemmas.Bool.{eqb-true}
use Rattle.pat_semantics_spec.specs.Configs.{Message}
use Rattle.pat_semantics_spec.specs.Faults.{IsIn}
use Rattle.pat_semantics_laws.proofs.Ascending.{found_by_number}
use Rattle.pat_machine_laws.specs.mailbox_index.Pending.{in_order, all_of, messages_of, found, pending_at, Ascend, AreDistinct}
use Rattle.pat_machine_laws.specs.mailbox_index.Laws.{OwnArePending, FirstPendingIsOwn, FirstIsOwn, FirstByNumberIsOwn, PendingIsOwn, AnyIsOwn, OwnAreBelow, LiveIsListed, LiveAscend, AllAreCounted, OwnIsFound, PlaceIsFound, FoundIsOwn}
use Rattle.pat_machine_laws.proofs.Kept.{all_in, any_kept, find_same, find_both, find_kept, find_still, find_in, in_place}
use Rattle.pat_machine_laws.proofs.Insertions.{filter_in_order, all_in_order, in_order_still, in_order_length, in_order_in}
use Rattle.pat_machine_laws.proofs.Boxes.{own_filter, pending_all, any_all, pending_in_all, all_counted, live_listed, live_ascends, live_below}

pub own_are_pending : OwnArePending
own_are_pending boxes b own = filter_in_order (λ m. nat_eq m.mailbox b) (all_of boxes) ∙ ap in_order (own_filter boxes b own) ∙ in_order_still 0 (pending_at boxes b) (own b).ascends

pub first_pending_is_own : FirstPendingIsOwn
first_pending_is_own boxes b test own = find_both test (λ m. nat_eq m.mailbox b) (messages_of boxes) ∙ ap (find test) (own_are_pending boxes b own)

pub first_is_own : FirstIsOwn
first_is_own boxes b test own only =
    find_kept test (λ m. nat_eq m.mailbox b) (λ m pass. eq-eqb m.mailbox b (only m pass)) (messages_of boxes) ∙ ap (find test) (own_are_pending boxes b own)

-- where messages ascend, a test of the message of a number is one of the message
pub by_number : (test : Option Message → Bool) (ms : List Message) → Ascend ms → find (λ m. test (found ms m.number)) ms ≡ find (λ m. test (Some m)) ms
by_number test ms ascends =
    find_same (λ m. test (found ms m.number)) (λ m. test (Some m)) ms
    (all_in (λ m. test (found ms m.number) ≡ test (Some m)) ms (λ m at. ap test (found_by_number (λ n. n.number) 0 ms m ascends at)))

pub first_by_number : FirstByNumberIsOwn
first_by_number boxes b test kept only =
    by_number test (messages_of boxes) kept.distinct ∙ first_is_own boxes b (λ m. test (Some m)) kept.own only ∙ sym (by_number test (pending_at boxes b) (kept.own b).ascends)

pub pending_is_own : PendingIsOwn
pending_is_own boxes b own = any_kept (λ m. nat_eq m.mailbox b) (messages_of boxes) ∙ ap (λ l. not (nat_eq (length l) 0)) (own_are_pending boxes b own)

pub any_is_own : AnyIsOwn
any_is_own boxes test =
    let ms = all_of boxes in
    let many : length (filter test (in_order ms)) ≡ length (filter test ms) = ap length (filter_in_order test ms) ∙ in_order_length (filter test ms) in
    any_kept test (in_order ms) ∙ ap (λ n. not (nat_eq n 0)) many ∙ sym (any_kept test ms) ∙ any_all test boxes

pub own_are_below : OwnAreBelow
own_are_below boxes b n below = pending_all (λ m. m.number < n) boxes b (all_in_order (λ m. m.number < n) (all_of boxes) below)

pub live_is_listed : LiveIsListed
live_is_listed boxes b = live_listed 0 boxes b b (omega arith)

pub live_ascend : LiveAscend
live_ascend boxes = (live_ascends 0 boxes, live_below 0 (length boxes) boxes (omega arith))

pub all_are_counted : AllAreCounted
all_are_counted boxes = in_order_length (all_of boxes) ∙ all_counted boxes

-- a message that is pending in a mailbox is the one of its number
own_found : (boxes : List (Option (List Message))) (b : ℕ) (m : Message) → AreDistinct boxes → IsIn m (pending_at boxes b) → found (messages_of boxes) m.number ≡ Some m
own_found boxes b m distinct at = found_by_number (λ n. n.number) 0 (messages_of boxes) m distinct (in_order_in m (all_of boxes) (pending_in_all boxes b m at))

pub own_is_found : OwnIsFound
own_is_found boxes b k m distinct h =
    let at = find_in (λ n. nat_eq k n.number) (pending_at boxes b) m h in
    let same : k ≡ m.number = eqb-true k m.number at.1 in
    ap (found (messages_of boxes)) same ∙ own_found boxes b m distinct at.0

pub place_is_found : PlaceIsFound
place_is_found boxes b i m distinct h = own_found boxes b m distinct (in_place (pending_at boxes b) i m h)

pub found_is_own : FoundIsOwn
found_is_own boxes k m own h =
    sym (ap (λ l. found l k) (own_are_pending boxes m.mailbox own)) ∙ find_still (λ n. nat_eq k n.number) (λ n. nat_eq n.mailbox m.mailbox) (messages_of boxes) m (eq-eqb m.mailbox m.mailbox refl) h
