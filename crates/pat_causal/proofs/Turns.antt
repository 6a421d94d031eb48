-- An entry of the code on its way forward.
use Rattle.std.proofs.Common.{◌≡◌, ℕ, suc, ◌+◌, ◌-◌, ◌<◌, ◌≤◌, true, false, ◌&&◌, List, [], ◌∷◌, ◌++◌, length, get_or, map, Some, sym, ◌∙◌, subst, arith}
use Rattle.std.specs.Prelude.{take, slice_get}
use Rattle.std.specs.List.{insert}
use Rattle.std.proofs.Math.Seq.{take-length}
use Rattle.std.proofs.lemmas.Bool.{and_parts}
use Rattle.std.proofs.lemmas.List.Edits.{insert_end}
use Rattle.pat_semantics_spec.specs.Runs.{Entry}
use Rattle.pat_reduce.specs.declared.history.Entry.{Entry as CodeEntry}
use Rattle.pat_reduce.specs.Views.{entry_view}
use Rattle.pat_causal_spec.specs.Independent.{spawned_by, sent_by, are_independent, independent_at, is_greater, is_out_of_order}
use Rattle.pat_causal_spec.specs.Reordered.{exchanged}
use Rattle.pat_causal_laws.specs.Moving.{SettledFrom, IsMoving}
use Rattle.pat_causal_laws.proofs.Moves.{begins, moves_on, stops_here, stops_first, leads_on}
use Rattle.pat_causal.specs.declared.counts.Counts.{Counts as CodeCounts}
use Rattle.pat_causal.specs.Counts.{AreCounts}
use Rattle.pat_causal.specs.Order.{IsLed, LeadOn}
use Rattle.pat_causal.proofs.Places.{length_seen, seen_at, counted_last, counts_less, counts_small, order_at, exchange_inserted}
use Rattle.pat_limits.specs.Limits.{most_entries, number_count}

-- the entry came to this place among the others by exchanges, and it is known what those before it make
pub record IsOnWay (es : List Entry) (x : Entry) (place : ℕ) (counts : CodeCounts) : Type 0 where
  pub within : place ≤ length es
  pub moving : IsMoving place (insert es place x)
  pub known : AreCounts counts (take place es)
  pub led : LeadOn (es ++ x ∷ []) (insert es place x)

-- it begins behind all others
pub starts : (es : List Entry) (x : Entry) (counts : CodeCounts) → SettledFrom 0 0 es → AreCounts counts es → IsOnWay es x (length es) counts
starts es x counts settled known = record {
  within = omega arith;
  moving = subst (IsMoving (length es)) (sym (insert_end es x)) (begins es x settled);
  known = subst (AreCounts counts) (sym (take-length es)) known;
  led = λ fs rest h. subst (λ l. IsLed fs (l ++ rest)) (sym (insert_end es x)) h;
}

module _ (ordered : List CodeEntry) (x : Entry) (place : ℕ) (counts : CodeCounts) (d : CodeEntry) (way : IsOnWay (map entry_view ordered) x place counts) (more : 0 < place) where
  abbrev es : List Entry
  es = map entry_view ordered

  -- the entry before it
  abbrev own : Entry
  own = entry_view (get_or ordered (place - 1) d)

  next : place - 1 + 1 ≡ place
  next = omega arith

  same : suc (place - 1) ≡ place
  same = omega arith

  pub there : place - 1 < length ordered
  there =
      let inside : place ≤ length (map entry_view ordered) = way.within in
      let size = length_seen ordered in
      omega arith

  known_next : AreCounts counts (take (place - 1 + 1) (map entry_view ordered))
  known_next = subst (λ k. AreCounts counts (take k (map entry_view ordered))) (sym next) way.known

  -- it was counted
  pub counted : (spawned_by (entry_view (get_or ordered (place - 1) d)).shared ≤ counts.spawned) × (sent_by (entry_view (get_or ordered (place - 1) d)).shared ≤ counts.sent)
  counted = counted_last ordered (place - 1) d there counts known_next

  module _ (fewer : CodeCounts) (one : fewer.spawned + spawned_by (entry_view (get_or ordered (place - 1) d)).shared ≡ counts.spawned) (two : fewer.sent + sent_by (entry_view (get_or ordered (place - 1) d)).shared ≡ counts.sent) where
    -- so what those before that one make is known
    fewer_known : AreCounts fewer (take (place - 1) (map entry_view ordered))
    fewer_known = counts_less ordered (place - 1) d there counts fewer known_next one two

    pub fewer_small : length ordered < most_entries → fewer.spawned < number_count
    fewer_small few =
        let small = (counts_small (place - 1) (map entry_view ordered) fewer fewer_known).0 in
        let inside = there in
        omega arith

    moving_next : IsMoving (suc (place - 1)) (insert es place x)
    moving_next = subst (λ k. IsMoving k (insert es place x)) (sym same) way.moving

    test : is_out_of_order (insert es place x) (place - 1) ≡ (is_greater (Some own) (Some x) && are_independent fewer.spawned fewer.sent own x)
    test =
        subst (λ k. is_out_of_order (insert es k x) (place - 1) ≡ (is_greater (Some own) (Some x) && are_independent fewer.spawned fewer.sent own x)) same
        (order_at (place - 1) es own x fewer (seen_at entry_view (place - 1) ordered d there) fewer_known)

    -- the entry stops
    pub stopped : (is_greater (Some own) (Some x) && are_independent fewer.spawned fewer.sent own x) ≡ false → SettledFrom 0 0 (insert (map entry_view ordered) place x)
    stopped off = stops_here (place - 1) (insert es place x) moving_next (test ∙ off)

    -- or moves one place further
    pub turned : (is_greater (Some own) (Some x) && are_independent fewer.spawned fewer.sent own x) ≡ true → IsOnWay (map entry_view ordered) x (place - 1) fewer
    turned on =
        let out : is_out_of_order (insert es place x) (place - 1) ≡ true = test ∙ on in
        let size = length_seen ordered in
        let inside = there in
        let is : exchanged (place - 1) (insert es place x) ≡ insert es (place - 1) x =
        subst (λ k. exchanged (place - 1) (insert es k x) ≡ insert es (place - 1) x) same (exchange_inserted (place - 1) es x (omega arith)) in
        let free = (and_parts (is_greater (slice_get (insert es place x) (place - 1)) (slice_get (insert es place x) (suc (place - 1)))) (independent_at (insert es place x) (place - 1)) out).1 in
        record {
          within = omega arith;
          moving = subst (IsMoving (place - 1)) is (moves_on (place - 1) (insert es place x) moving_next out);
          known = fewer_known;
          led = λ fs rest h.
              let before = way.led fs rest h in
              subst (λ l. IsLed fs (l ++ rest)) is (record {
                places = before.places ++ (place - 1) ∷ [];
                led = leads_on before.places fs (insert es place x) rest (place - 1) free before.led;
              });
        }

-- at the first place there is nothing to pass
pub stopped_first : (es : List Entry) (x : Entry) (place : ℕ) (counts : CodeCounts) → IsOnWay es x place counts → place ≤ 0 → SettledFrom 0 0 (insert es 0 x)
stopped_first es x place counts way none =
    let is : place ≡ 0 = omega arith in
    stops_first (insert es 0 x) (subst (λ k. IsMoving k (insert es k x)) is way.moving)
