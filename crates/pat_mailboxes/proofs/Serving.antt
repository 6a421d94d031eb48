-- Messages that come to a queue and are taken out of it, by its lanes.
use Rattle.std.proofs.Common.{◌≡◌, ℕ, ◌+◌, ◌*◌, ◌<◌, List, [], ◌∷◌, ◌++◌, length, get_or, remove, slice_get, slice_set, zero, suc, false, nat_eq, Option, Some, sym, ap, ◌∙◌, subst, arith, length-set, eq-eqb, true≢false}
use Rattle.std.specs.List.{AllByRecursion}
use Rattle.pat_reduce.specs.declared.threads.state.Message.{Message}
use Rattle.pat_mailboxes.specs.queues.Lanes.{lane_of, IsNumberedAt, HasNumber, IsMessageAt}
use Rattle.pat_mailboxes.specs.queues.Queues.{values_at, Becomes, IsLive, NonePasses}
use Rattle.pat_mailboxes.specs.queues.Pooled.{queues_of, AreMarked}
use Rattle.pat_mailboxes.specs.declared.queues.pool.Mark.{Mark}
use Rattle.pat_mailboxes.proofs.ChainLaws.{is_queue}
use Rattle.pat_mailboxes.proofs.LaneChains.{queue_other, queue_push, lane_push, queue_remove, lane_remove, in_lane}
use Rattle.pat_mailboxes.proofs.Marking.{live_seen, set_seen}

pub lane_below : (tag : ℕ) → lane_of tag < 8
lane_below tag = omega arith

inside : (ms : List Message) (i : ℕ) (m : Message) → slice_get ms i ≡ Some m → i < length ms
inside [] i m at = absurd cc
inside (x ∷ xs) zero m at = omega arith
inside (x ∷ xs) (suc i) m at = let rest = inside xs i m at in omega arith

pub numbered_place : (number : ℕ) (ms : List Message) (place : ℕ) → IsNumberedAt number ms place → place < length ms
numbered_place number ms place at = inside ms place at.0 at.1

pub numbered_inside : (number k : ℕ) (cs : List (List Message)) → HasNumber number (get_or cs k []) → k < length cs
numbered_inside number k cs h =
    let there = numbered_place number (get_or cs k []) h.0 h.1 in
    is_queue cs k (omega arith)

pub numbered_is : (number : ℕ) (ms : List Message) (place : ℕ) (m : Message) → IsNumberedAt number ms place → slice_get ms place ≡ Some m → m.number ≡ number
numbered_is number ms place m at is =
    let same : at.0 ≡ m = let both : Some at.0 ≡ Some m = sym at.1 ∙ is in cc in
    ap (λ (x : Message). x.number) (sym same) ∙ at.2

none_at : (number : ℕ) (ms : List Message) (place : ℕ) (m : Message) → slice_get ms place ≡ Some m → NonePasses (λ x. nat_eq number x.number) ms → nat_eq number m.number ≡ false
none_at number [] place m at none = absurd cc
none_at number (x ∷ xs) zero m at none = let same : x ≡ m = cc in ap (λ (y : Message). nat_eq number y.number) (sym same) ∙ none.0
none_at number (x ∷ xs) (suc place) m at none = none_at number xs place m at none.1

pub numbered_there : (number : ℕ) (ms : List Message) → HasNumber number ms → NonePasses (λ x. nat_eq number x.number) ms → ⊥
numbered_there number ms h none =
    let no = none_at number ms h.0 h.1.0 h.1.1 none in
    let yes = eq-eqb number h.1.0.number (sym h.1.2) in
    true≢false (sym yes ∙ no)

module _ (ms : List Mark) (cs : List (List Message)) (spare q : ℕ) (seen : List (Option (List Message)) × ℕ) (view : (queues_of ms cs, spare) ≡ seen) (a : AreMarked ms cs) (live : IsLive seen.0 q) where
  module _ (tag : ℕ) where
    abbrev chain : ℕ
    chain = q * 8 + lane_of tag

    inside_is : chain < length cs
    inside_is =
        let there = (live_seen ms cs spare q seen view a live).1 in
        let below = lane_below tag in
        omega arith

    pub pushed_seen : (m : Message) → m.tag ≡ tag → AllByRecursion (λ x. x.number < m.number) (values_at seen.0 q) → (cs' : List (List Message)) → cs' ≡ slice_set cs chain (get_or cs chain [] ++ m ∷ [])
        → AreMarked ms cs' × Becomes seen.0 (queues_of ms cs') q (Some (values_at seen.0 q ++ m ∷ []))
    pushed_seen m tagged last cs' new =
        let own = (live_seen ms cs spare q seen view a live).3 in
        let behind = subst (AllByRecursion (λ x. x.number < m.number)) own last in
        let to = slice_set cs chain (get_or cs chain [] ++ m ∷ []) in
        subst (λ (x : List (List Message)). AreMarked ms x × Becomes seen.0 (queues_of ms x) q (Some (values_at seen.0 q ++ m ∷ []))) (sym new)
        (set_seen ms cs spare q seen view a to (values_at seen.0 q ++ m ∷ []) live (length-set cs chain (get_or cs chain [] ++ m ∷ []))
        (lane_push cs q (lane_of tag) (lane_below tag) inside_is m a.lanes behind (ap lane_of tagged))
        (queue_push cs q (lane_of tag) (lane_below tag) inside_is m behind ∙ sym (ap (λ (l : List Message). l ++ m ∷ []) own))
        (λ r ne. queue_other cs q (lane_of tag) (lane_below tag) inside_is (get_or cs chain [] ++ m ∷ []) r ne))

    pub sought_seen : (number : ℕ) → (place : ℕ) × IsMessageAt tag number (values_at seen.0 q) place → HasNumber number (get_or cs chain [])
    sought_seen number at =
        let own = (live_seen ms cs spare q seen view a live).3 in
        in_lane cs q tag number at.0 a.lanes (lane_below tag) (subst (λ (l : List Message). IsMessageAt tag number l at.0) own at.1)

    pub taken_seen : (m : Message) (cs' : List (List Message)) → (i : ℕ) × (slice_get (get_or cs chain []) i ≡ Some m) × (cs' ≡ slice_set cs chain (remove (get_or cs chain []) i))
        → AreMarked ms cs' × ((j : ℕ) × (slice_get (values_at seen.0 q) j ≡ Some m) × Becomes seen.0 (queues_of ms cs') q (Some (remove (values_at seen.0 q) j)))
    taken_seen m cs' at =
        let own = (live_seen ms cs spare q seen view a live).3 in
        let less = remove (get_or cs chain []) at.0 in
        let to = slice_set cs chain less in
        let r = queue_remove cs q (lane_of tag) (lane_below tag) inside_is at.0 m at.1 in
        let done =
        set_seen ms cs spare q seen view a to (remove (values_at seen.0 q) r.0) live (length-set cs chain less)
        (lane_remove cs q (lane_of tag) (lane_below tag) inside_is at.0 a.lanes)
        (r.2 ∙ sym (ap (λ (l : List Message). remove l r.0) own))
        (λ x ne. queue_other cs q (lane_of tag) (lane_below tag) inside_is less x ne) in (
          subst (λ (x : List (List Message)). AreMarked ms x) (sym at.2) done.0,
          (r.0, ap (λ (l : List Message). slice_get l r.0) own ∙ r.1, subst (λ (x : List (List Message)). Becomes seen.0 (queues_of ms x) q (Some (remove (values_at seen.0 q) r.0))) (sym at.2) done.1),
        )
