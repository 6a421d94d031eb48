-- Walks over the lanes of a queue, from the last one on.
use Rattle.std.proofs.Common.{◌≡◌, ℕ, suc, ◌+◌, ◌*◌, ◌-◌, ◌≤◌, Bool, false, List, [], ◌∷◌, ◌++◌, length, get_or, slice_get, Option, Some, None, refl, sym, ap, ◌∙◌, subst, arith}
use Rattle.std.specs.Prelude.{find}
use Rattle.std.specs.List.Sorted.{IsPermutation}
use Rattle.std.proofs.lemmas.List.Sorted.{IsPermutation-sym, IsPermutation-trans, IsPermutation-append_right}
use Rattle.pat_reduce.specs.declared.threads.state.Message.{Message}
use Rattle.pat_mailboxes.specs.queues.Lanes.{lane_of, join, merged, IsLane, lanes_from, AreLanes, earlier, later, last_of}
use Rattle.pat_mailboxes.proofs.Firsts.{none_found}
use Rattle.pat_mailboxes.proofs.Lanes.{weaken, rise_merged, find_join, last_join, length-join, moved_join}
use Rattle.pat_mailboxes.proofs.LaneChains.{lanes_next}

-- no message of a lane passes a test that none of its tags passes
pub none_in_lane : (test : Message → Bool) (lane : ℕ) (ms : List Message) → IsLane lane ms → ((m : Message) → lane_of m.tag ≡ lane → test m ≡ false) → None ≡ find test ms
none_in_lane test lane ms is none = sym (none_found test ms (weaken (λ m. lane_of m.tag ≡ lane) (λ m. test m ≡ false) none ms is.own))

-- the last message stands at the last place
pub last_at : (ms : List Message) (i : ℕ) (m : Message) → i + 1 ≡ length ms → slice_get ms i ≡ Some m → Some m ≡ last_of ms
last_at [] i m size at = absurd (omega arith)
last_at (x ∷ []) i m size at =
    let first : i ≡ 0 = omega arith in
    sym (subst (λ j. slice_get (x ∷ []) j ≡ Some m) first at)
last_at (x ∷ y ∷ ys) i m size at =
    let next : i ≡ suc (i - 1) = omega arith in
    last_at (y ∷ ys) (i - 1) m (omega arith) (subst (λ j. slice_get (x ∷ y ∷ ys) j ≡ Some m) next at)

pub last_none : (ms : List Message) → length ms ≡ 0 → None ≡ last_of ms
last_none [] none = refl
last_none (m ∷ ms) none = absurd (omega arith)

module _ (cs : List (List Message)) (q before lane : ℕ) (is : before + 1 ≡ lane) (within : lane ≤ 8) where
  abbrev own : List Message
  own = get_or cs (q * 8 + before) []

  abbrev rest : List Message
  rest = merged (lanes_from cs q lane (8 - lane))

  pub first_more : (test : Message → Bool) (one so_far new : Option Message) → AreLanes cs → one ≡ find test own → so_far ≡ find test rest → new ≡ earlier one so_far → new ≡ find test (merged (lanes_from cs q before (8 - before)))
  first_more test one so_far new are first others both =
      both
      ∙ ap (λ o. earlier o so_far) first
      ∙ ap (earlier (find test own)) others
      ∙ sym (find_join test own rest (are q before (omega arith)).rise (rise_merged (lanes_from cs q lane (8 - lane))))
      ∙ sym (ap (find test) (lanes_next cs q before lane is within))

  pub last_more : (one so_far new : Option Message) → AreLanes cs → one ≡ last_of own → so_far ≡ last_of rest → new ≡ later one so_far → new ≡ last_of (merged (lanes_from cs q before (8 - before)))
  last_more one so_far new are last others both =
      both
      ∙ ap (λ o. later o so_far) last
      ∙ ap (later (last_of own)) others
      ∙ sym (last_join own rest (are q before (omega arith)).rise (rise_merged (lanes_from cs q lane (8 - lane))))
      ∙ sym (ap last_of (lanes_next cs q before lane is within))

  pub count_more : length (merged (lanes_from cs q before (8 - before))) ≡ length rest + length own
  count_more =
      let next = ap length (lanes_next cs q before lane is within) in
      let both = length-join own rest in
      omega arith

  pub gathered_more : (ms : List Message) → IsPermutation rest ms → IsPermutation (merged (lanes_from cs q before (8 - before))) (own ++ ms)
  gathered_more ms moved =
      subst (λ l. IsPermutation l (own ++ ms)) (sym (lanes_next cs q before lane is within))
      (IsPermutation-trans (join own rest) (own ++ rest) (own ++ ms) (IsPermutation-sym (own ++ rest) (join own rest) (moved_join own rest)) (IsPermutation-append_right own rest ms moved))
