-- The chains of the lanes of queues.
use Rattle.std.proofs.Common.{◌≡◌, ℕ, zero, suc, ◌+◌, ◌*◌, ◌-◌, ◌<◌, ◌≤◌, List, [], ◌∷◌, ◌++◌, ⊎_elim, inl, inr, length, get_or, remove, slice_get, slice_set, Some, refl, sym, ap, ◌∙◌, subst, arith, get_or-set_same, get_or-set_other}
use Rattle.std.specs.Prelude.{◌⊎◌}
use Rattle.std.specs.List.{AllByRecursion}
use Rattle.std.proofs.lemmas.Bool.{cases_eq, cases_order}
use Rattle.pat_reduce.specs.declared.threads.state.Message.{Message}
use Rattle.pat_mailboxes.specs.queues.Lanes.{lane_of, join, merged, IsLane, chains_from, lanes_from, queue_in, AreLanes, HasNumber, IsMessageAt}
use Rattle.pat_mailboxes.proofs.Lanes.{weaken, merged_all, all_merged, merged_push, merged_remove, length-join, rise_push, all_without, rise_remove}
use Rattle.pat_mailboxes.proofs.Messages.{all_push}

chains_at : (cs : List (List Message)) (at n i : ℕ) → i < n → get_or (chains_from cs at n) i [] ≡ get_or cs (at + i) []
chains_at cs at zero i h = absurd (omega arith)
chains_at cs at (suc n) zero h = ap (λ k. get_or cs k []) (let e : at ≡ at + 0 = omega arith in e)
chains_at cs at (suc n) (suc i) h = chains_at cs (suc at) n i (omega arith) ∙ ap (λ k. get_or cs k []) (let e : suc at + i ≡ at + suc i = omega arith in e)

length-chains : (cs : List (List Message)) (at n : ℕ) → length (chains_from cs at n) ≡ n
length-chains cs at zero = refl
length-chains cs at (suc n) = ap suc (length-chains cs (suc at) n)

-- the same chains
chains_same : (cs cs' : List (List Message)) (at n : ℕ) → ((k : ℕ) → at ≤ k → k < at + n → get_or cs' k [] ≡ get_or cs k []) → chains_from cs' at n ≡ chains_from cs at n
chains_same cs cs' at zero f = refl
chains_same cs cs' at (suc n) f =
    ap (λ l. l ∷ chains_from cs' (suc at) n) (f at (omega arith) (omega arith))
    ∙ ap (λ ls. get_or cs at [] ∷ ls) (chains_same cs cs' (suc at) n (λ k low high. f k (omega arith) (omega arith)))

-- one of them changes
chains_set : (cs : List (List Message)) (at n i k : ℕ) (l : List Message) → k ≡ at + i → i < n → k < length cs → chains_from (slice_set cs k l) at n ≡ slice_set (chains_from cs at n) i l
chains_set cs at zero i k l is h inside = absurd (omega arith)
chains_set cs at (suc n) zero k l is h inside =
    let here : k ≡ at = omega arith in
    ap (λ x. x ∷ chains_from (slice_set cs k l) (suc at) n) (ap (λ j. get_or (slice_set cs k l) j []) (sym here) ∙ get_or-set_same cs k l [] inside)
    ∙ ap (λ ls. l ∷ ls) (chains_same cs (slice_set cs k l) (suc at) n (λ j low high. get_or-set_other cs k j l [] (λ (e : j ≡ k). absurd (omega arith))))
chains_set cs at (suc n) (suc i) k l is h inside =
    ap (λ x. x ∷ chains_from (slice_set cs k l) (suc at) n) (get_or-set_other cs k at l [] (λ (e : at ≡ k). absurd (omega arith)))
    ∙ ap (λ ls. get_or cs at [] ∷ ls) (chains_set cs (suc at) n i k l (omega arith) (omega arith) inside)

-- ---- the queue of lanes

module _ (cs : List (List Message)) (q : ℕ) where
  pub lane_at : (c : ℕ) → c < 8 → get_or (lanes_from cs q 0 8) c [] ≡ get_or cs (q * 8 + c) []
  lane_at c h = chains_at cs (q * 8 + 0) 8 c h ∙ ap (λ k. get_or cs k []) (let e : q * 8 + 0 + c ≡ q * 8 + c = omega arith in e)

  -- the lanes from one on, by that one and those behind it
  pub lanes_next : (before lane : ℕ) → before + 1 ≡ lane → lane ≤ 8 → merged (lanes_from cs q before (8 - before)) ≡ join (get_or cs (q * 8 + before) []) (merged (lanes_from cs q lane (8 - lane)))
  lanes_next before lane is h =
      let more : 8 - before ≡ suc (8 - lane) = omega arith in
      let next : suc (q * 8 + before) ≡ q * 8 + lane = omega arith in
      ap (λ n. merged (chains_from cs (q * 8 + before) n)) more ∙ ap (λ k. join (get_or cs (q * 8 + before) []) (merged (chains_from cs k (8 - lane)))) next

  pub others_within : (lane : ℕ) → lane ≤ 8 → length (merged (lanes_from cs q lane (8 - lane))) ≤ length (queue_in cs q)
  others_within zero h = omega arith
  others_within (suc lane) h =
      let rest = others_within lane (omega arith) in
      let own = ap length (lanes_next lane (suc lane) (omega arith) h) ∙ length-join (get_or cs (q * 8 + lane) []) (merged (lanes_from cs q (suc lane) (8 - suc lane))) in
      omega arith

-- a queue whose chains are the same
pub queue_same : (cs cs' : List (List Message)) (q : ℕ) → ((k : ℕ) → get_or cs' k [] ≡ get_or cs k []) → queue_in cs' q ≡ queue_in cs q
queue_same cs cs' q f = ap merged (chains_same cs cs' (q * 8 + 0) 8 (λ k low high. f k))

pub lanes_same : (cs cs' : List (List Message)) → ((k : ℕ) → get_or cs' k [] ≡ get_or cs k []) → AreLanes cs → AreLanes cs'
lanes_same cs cs' f are q c h = subst (IsLane c) (sym (f (q * 8 + c))) (are q c h)

module _ (cs : List (List Message)) (q c : ℕ) (lane : c < 8) (inside : q * 8 + c < length cs) where
  abbrev own : List Message
  own = get_or cs (q * 8 + c) []

  set_is : (l : List Message) → queue_in (slice_set cs (q * 8 + c) l) q ≡ merged (slice_set (lanes_from cs q 0 8) c l)
  set_is l = ap merged (chains_set cs (q * 8 + 0) 8 c (q * 8 + c) l (omega arith) lane inside)

  -- another queue
  pub queue_other : (l : List Message) (r : ℕ) → (r ≡ q → ⊥) → queue_in (slice_set cs (q * 8 + c) l) r ≡ queue_in cs r
  queue_other l r ne =
      ap merged
      (chains_same cs (slice_set cs (q * 8 + c) l) (r * 8 + 0) 8
      (λ k low high.
      get_or-set_other cs (q * 8 + c) k l []
      (λ (e : k ≡ q * 8 + c).
      ⊎_elim (λ (same : r ≡ q). ne same)
      (λ apart.
      ⊎_elim (λ (less : r < q). absurd (omega arith)) (λ (more : q < r). absurd (omega arith)) apart)
      (cases_order r q))))

  pub lanes_set : (l : List Message) → AreLanes cs → IsLane c l → AreLanes (slice_set cs (q * 8 + c) l)
  lanes_set l are is r d h =
      ⊎_elim
      (λ (same : r * 8 + d ≡ q * 8 + c).
      let lanes : c ≡ d = omega arith in
      subst (IsLane d) (sym (ap (λ k. get_or (slice_set cs (q * 8 + c) l) k []) same ∙ get_or-set_same cs (q * 8 + c) l [] inside)) (subst (λ x. IsLane x l) lanes is))
      (λ (apart : r * 8 + d ≡ q * 8 + c → ⊥). subst (IsLane d) (sym (get_or-set_other cs (q * 8 + c) (r * 8 + d) l [] apart)) (are r d h))
      (cases_eq (r * 8 + d) (q * 8 + c))

  -- a message behind all of the queue comes to its lane
  pub queue_push : (m : Message) → AllByRecursion (λ x. x.number < m.number) (queue_in cs q) → queue_in (slice_set cs (q * 8 + c) (own ++ m ∷ [])) q ≡ queue_in cs q ++ m ∷ []
  queue_push m last =
      set_is (own ++ m ∷ [])
      ∙ ap (λ (l : List Message). merged (slice_set (lanes_from cs q 0 8) c (l ++ m ∷ []))) (sym (lane_at cs q c lane))
      ∙ merged_push (lanes_from cs q 0 8) c m (let size = length-chains cs (q * 8 + 0) 8 in omega arith) last

  pub lane_push : (m : Message) → AreLanes cs → AllByRecursion (λ x. x.number < m.number) (queue_in cs q) → lane_of m.tag ≡ c → AreLanes (slice_set cs (q * 8 + c) (own ++ m ∷ []))
  lane_push m are last tag =
      let is = are q c lane in
      let behind = subst (AllByRecursion (λ x. x.number < m.number)) (lane_at cs q c lane) (all_merged (λ x. x.number < m.number) (lanes_from cs q 0 8) c last) in
      lanes_set (own ++ m ∷ []) are (record { rise = rise_push own m is.rise behind; own = all_push (λ x. lane_of x.tag ≡ c) own m is.own tag })

  -- a message of the lane is taken
  pub queue_remove : (i : ℕ) (m : Message) → slice_get own i ≡ Some m → (j : ℕ) × (slice_get (queue_in cs q) j ≡ Some m) × (queue_in (slice_set cs (q * 8 + c) (remove own i)) q ≡ remove (queue_in cs q) j)
  queue_remove i m at =
      let same = lane_at cs q c lane in
      let r = merged_remove (lanes_from cs q 0 8) c i m (ap (λ l. slice_get l i) same ∙ at) in
      (r.0, r.1, set_is (remove own i) ∙ ap (λ (l : List Message). merged (slice_set (lanes_from cs q 0 8) c (remove l i))) (sym same) ∙ r.2)

  pub lane_remove : (i : ℕ) → AreLanes cs → AreLanes (slice_set cs (q * 8 + c) (remove own i))
  lane_remove i are =
      let is = are q c lane in
      lanes_set (remove own i) are (record { rise = rise_remove own i is.rise; own = all_without (λ x. lane_of x.tag ≡ c) own i is.own })

all_got : (P : Message → Type 0) (ms : List Message) (i : ℕ) (m : Message) → AllByRecursion P ms → slice_get ms i ≡ Some m → P m
all_got P [] i m a at = absurd cc
all_got P (x ∷ xs) zero m a at = let same : x ≡ m = cc in subst P same a.0
all_got P (x ∷ xs) (suc i) m a at = all_got P xs i m a.1 at

-- a list has the number, or none of its messages has it
sought : (number : ℕ) (ms : List Message) → HasNumber number ms ⊎ AllByRecursion (λ m. m.number ≡ number → ⊥) ms
sought number [] = inr tt
sought number (m ∷ ms) =
    ⊎_elim (λ (is : m.number ≡ number). inl (0, (m, refl, is)))
    (λ (no : m.number ≡ number → ⊥).
    ⊎_elim (λ (h : HasNumber number ms). inl (suc h.0, h.1)) (λ rest. inr (no, rest)) (sought number ms))
    (cases_eq m.number number)

-- a message of the queue stands in the lane of its tag
pub in_lane : (cs : List (List Message)) (q tag number place : ℕ) → AreLanes cs → lane_of tag < 8 → IsMessageAt tag number (queue_in cs q) place → HasNumber number (get_or cs (q * 8 + lane_of tag) [])
in_lane cs q tag number place are below at =
    ⊎_elim (λ h. h)
    (λ none.
    absurd
    (all_got (λ m. (m.tag ≡ tag) × (m.number ≡ number) → ⊥) (queue_in cs q) place at.0
    (merged_all (λ m. (m.tag ≡ tag) × (m.number ≡ number) → ⊥) (lanes_from cs q 0 8)
    (λ c h.
    let size = length-chains cs (q * 8 + 0) 8 in
    let lane : c < 8 = omega arith in
    subst (AllByRecursion (λ m. (m.tag ≡ tag) × (m.number ≡ number) → ⊥)) (sym (lane_at cs q c lane))
    (⊎_elim
    (λ (same : c ≡ lane_of tag). subst (λ d. AllByRecursion (λ m. (m.tag ≡ tag) × (m.number ≡ number) → ⊥) (get_or cs (q * 8 + d) [])) (sym same) (weaken (λ m. m.number ≡ number → ⊥) (λ m. (m.tag ≡ tag) × (m.number ≡ number) → ⊥) (λ m no both. no both.1) (get_or cs (q * 8 + lane_of tag) []) none))
    (λ (other : c ≡ lane_of tag → ⊥). weaken (λ m. lane_of m.tag ≡ c) (λ m. (m.tag ≡ tag) × (m.number ≡ number) → ⊥) (λ m (own : lane_of m.tag ≡ c) both. other (sym own ∙ ap lane_of both.0)) (get_or cs (q * 8 + c) []) (are q c lane).own)
    (cases_eq c (lane_of tag)))))
    at.1 (at.2, at.3)))
    (sought number (get_or cs (q * 8 + lane_of tag) []))
