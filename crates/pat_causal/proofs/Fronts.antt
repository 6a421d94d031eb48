-- The front of a history in order, and the rest as it was.
use Rattle.std.proofs.Common.{◌≡◌, ℕ, zero, suc, ◌+◌, ◌<◌, ◌≤◌, List, [], ◌∷◌, ◌++◌, length, get_or, map, drop, refl, sym, ap, ◌∙◌, subst, arith, append-nil, append_assoc}
use Rattle.std.specs.List.{insert}
use Rattle.std.proofs.lemmas.List.{drop_all}
use Rattle.std.proofs.lemmas.List.Edits.{length-insert}
use Rattle.pat_semantics_spec.specs.Runs.{Entry}
use Rattle.pat_reduce.specs.declared.history.Entry.{Entry as CodeEntry}
use Rattle.pat_reduce.specs.Views.{entry_view}
use Rattle.pat_causal_spec.specs.Independent.{spawned_by, sent_by, spawns, sends}
use Rattle.pat_causal_laws.specs.Moving.{SettledFrom}
use Rattle.pat_causal_laws.proofs.Settled.{is_settled}
use Rattle.pat_causal_laws.proofs.Moves.{spawns_few, sends_few}
use Rattle.pat_causal.specs.declared.counts.Counts.{Counts as CodeCounts}
use Rattle.pat_causal.specs.Counts.{AreCounts}
use Rattle.pat_causal.specs.Order.{IsLed, HasOrder, LeadOn}
use Rattle.pat_causal.proofs.Places.{length_seen, map_inserted, spawns_inserted, sends_inserted}

-- exchanges brought the first i entries into order, and it is known what they make
pub record IsFront (entries ordered : List CodeEntry) (i : ℕ) (counts : CodeCounts) : Type 0 where
  pub settled : SettledFrom 0 0 (map entry_view ordered)
  pub led : IsLed (map entry_view entries) (map entry_view ordered ++ drop i (map entry_view entries))
  pub size : length ordered ≡ i
  pub known : AreCounts counts (map entry_view ordered)

pub no_front : (entries ordered : List CodeEntry) (counts : CodeCounts) → ordered ≡ [] → counts.spawned ≡ 0 → counts.sent ≡ 0 → IsFront entries ordered 0 counts
no_front entries ordered counts none one two =
    subst (λ l. IsFront entries l 0 counts) (sym none)
    (record { settled = tt; led = record { places = []; led = refl }; size = refl; known = record { spawned = one; sent = two } })

-- no entry makes more than one thread and one message
pub front_small : (entries ordered : List CodeEntry) (i : ℕ) (counts : CodeCounts) → IsFront entries ordered i counts → (counts.spawned ≤ i) × (counts.sent ≤ i)
front_small entries ordered i counts front =
    let a = front.known.spawned in
    let b = front.known.sent in
    let m = spawns_few (map entry_view ordered) in
    let n = sends_few (map entry_view ordered) in
    let size = length_seen ordered in
    let is = front.size in
    (omega arith, omega arith)

-- once all entries stand in order, the history does
pub all_ordered : (entries ordered : List CodeEntry) (i : ℕ) (counts : CodeCounts) → IsFront entries ordered i counts → length entries ≤ i → HasOrder (map entry_view entries) (map entry_view ordered)
all_ordered entries ordered i counts front all =
    let size = length_seen entries in
    let none : drop i (map entry_view entries) ≡ [] = drop_all i (map entry_view entries) (omega arith) in
    let all_led : IsLed (map entry_view entries) (map entry_view ordered) =
    subst (IsLed (map entry_view entries)) (ap (λ l. map entry_view ordered ++ l) none ∙ append-nil (map entry_view ordered)) front.led in
    record { places = all_led.places; reordered = record { led = all_led.led; settled = is_settled (map entry_view ordered) front.settled } }

drop_one : (i : ℕ) (xs : List CodeEntry) (d : CodeEntry) → i < length xs → drop i (map entry_view xs) ≡ entry_view (get_or xs i d) ∷ drop (suc i) (map entry_view xs)
drop_one i [] d l = absurd (omega arith)
drop_one zero (x ∷ xs) d l = refl
drop_one (suc i) (x ∷ xs) d l = drop_one i xs d (omega arith)

module _ (entries ordered : List CodeEntry) (i : ℕ) (counts : CodeCounts) (d : CodeEntry) (front : IsFront entries ordered i counts) (there : i < length entries) where
  abbrev own : Entry
  own = entry_view (get_or entries i d)

  -- what was led to, with the next entry apart
  led_before : IsLed (map entry_view entries) ((map entry_view ordered ++ own ∷ []) ++ drop (suc i) (map entry_view entries))
  led_before =
      let is : map entry_view ordered ++ drop i (map entry_view entries) ≡ (map entry_view ordered ++ own ∷ []) ++ drop (suc i) (map entry_view entries) =
      ap (λ l. map entry_view ordered ++ l) (drop_one i entries d there) ∙ sym (append_assoc (map entry_view ordered) (own ∷ []) (drop (suc i) (map entry_view entries))) in
      subst (IsLed (map entry_view entries)) is front.led

  -- and once it stands at its place, one more is in order
  pub placed : (after : List CodeEntry) (place : ℕ) (more : CodeCounts) → after ≡ insert ordered place (get_or entries i d) → place ≤ length ordered
      → SettledFrom 0 0 (insert (map entry_view ordered) place own) → LeadOn (map entry_view ordered ++ own ∷ []) (insert (map entry_view ordered) place own)
      → more.spawned ≡ counts.spawned + spawned_by own.shared → more.sent ≡ counts.sent + sent_by own.shared → IsFront entries after (i + 1) more
  placed after place more put within settled on one two =
      let view : insert (map entry_view ordered) place own ≡ map entry_view after = sym (ap (map entry_view) put ∙ map_inserted entry_view place ordered (get_or entries i d)) in
      let led = on (map entry_view entries) (drop (suc i) (map entry_view entries)) led_before in
      let next : suc i ≡ i + 1 = omega arith in
      let a = spawns_inserted place (map entry_view ordered) own in
      let b = sends_inserted place (map entry_view ordered) own in
      let m = ap spawns view in
      let n = ap sends view in
      let x = front.known.spawned in
      let y = front.known.sent in
      record {
        settled = subst (SettledFrom 0 0) view settled;
        led = subst (λ q. IsLed (map entry_view entries) (map entry_view after ++ drop q (map entry_view entries))) next
            (subst (λ l. IsLed (map entry_view entries) (l ++ drop (suc i) (map entry_view entries))) view led);
        size =
            let u = ap length put in
            let v = length-insert ordered place (get_or entries i d) within in
            let w = front.size in
            omega arith;
        known = record { spawned = omega arith; sent = omega arith };
      }
