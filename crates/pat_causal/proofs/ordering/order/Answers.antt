use Rattle.std.proofs.Common.{◌≤◌, [], ◌∷◌, ◌++◌, None, length, map, slice_index_or, subst, arith}
use Rattle.std.specs.List.{insert}
use Rattle.pat_reduce.specs.Views.{entry_view}
use Rattle.pat_causal_laws.specs.Moving.{SettledFrom}
use Rattle.pat_causal_laws.proofs.Histories.{leads_replays}
use Rattle.pat_causal.specs.Order.{LeadOn}
use Rattle.pat_causal.proofs.Fronts.{no_front, front_small, placed, all_ordered}
use Rattle.pat_causal.proofs.ordering.order.Goals as goal
use Rattle.pat_limits.specs.Limits.{most_entries}

pub loop-i-init : goal.loop-i-init
loop-i-init c = no_front c.args.entries.now c.new-ordered.result.items c.none-counts.result c.new-ordered.ensures.items c.none-counts.ensures.spawned c.none-counts.ensures.sent

pub with-counts-requires-clause-spawned : goal.with-counts-requires-clause-spawned
with-counts-requires-clause-spawned c =
    let small = (front_small c.args.entries.now c.loop-i.ordered.items c.loop-i.i c.loop-i.counts c.loop-i.invariant).0 in
    let few : length c.args.entries.now ≤ most_entries = c.requires in
    let there = c.loop-i-test.true in
    omega arith

pub with-counts-requires-clause-sent : goal.with-counts-requires-clause-sent
with-counts-requires-clause-sent c =
    let small = (front_small c.args.entries.now c.loop-i.ordered.items c.loop-i.i c.loop-i.counts c.loop-i.invariant).1 in
    let few : length c.args.entries.now ≤ most_entries = c.requires in
    let there = c.loop-i-test.true in
    omega arith

pub returns-clause-ordered : goal.returns-clause-ordered
returns-clause-ordered c = all_ordered c.args.entries.now c.loop-i.ordered.items c.loop-i.i c.loop-i.counts c.loop-i.invariant c.loop-i-test.false

pub returns-clause-replays : goal.returns-clause-replays
returns-clause-replays c =
    λ p x h.
    let ordered = all_ordered c.args.entries.now c.loop-i.ordered.items c.loop-i.i c.loop-i.counts c.loop-i.invariant c.loop-i-test.false in
    leads_replays p ordered.places (map entry_view c.args.entries.now) (map entry_view c.loop-i.ordered.items) x ordered.reordered.led h

pub loop-i-preserved : goal.loop-i-preserved
loop-i-preserved c =
    let own = slice_index_or c.args.entries.now c.loop-i.i (record { worker = 0; thread = 0; local = 0; shared = None }) in
    let seen = c.deref.ensures.value in
    let place = c.place_of-place.result in
    placed c.args.entries.now c.loop-i.ordered.items c.loop-i.i c.loop-i.counts _ c.loop-i.invariant c.loop-i-test.true
    c.insert.new.self.items place c.with-counts.result c.in_ok-insert.ensures.items
    (subst (λ l. place ≤ length l) seen c.place_of-place.ensures.within)
    (subst (λ l. SettledFrom 0 0 (insert (map entry_view l) place (entry_view own))) seen c.place_of-place.ensures.settled)
    (subst (λ l. LeadOn (map entry_view l ++ entry_view own ∷ []) (insert (map entry_view l) place (entry_view own))) seen c.place_of-place.ensures.led)
    c.with-counts.ensures.spawned c.with-counts.ensures.sent
