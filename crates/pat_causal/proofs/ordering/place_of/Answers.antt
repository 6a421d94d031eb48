use Rattle.std.proofs.Common.{sym, ◌∙◌, map}
use Rattle.pat_reduce.specs.Views.{entry_view}
use Rattle.pat_causal.proofs.Turns.{counted, fewer_small, stopped, turned, stopped_first}
use Rattle.pat_causal.proofs.ordering.place_of.Goals as goal

pub without-counts-requires-clause-spawned : goal.without-counts-requires-clause-spawned
without-counts-requires-clause-spawned c = (counted c.args.ordered.now (entry_view c.args.entry.now) c.loop-place.place c.loop-place.counts _ c.loop-place.invariant c.loop-place-test.true).0

pub without-counts-requires-clause-sent : goal.without-counts-requires-clause-sent
without-counts-requires-clause-sent c = (counted c.args.ordered.now (entry_view c.args.entry.now) c.loop-place.place c.loop-place.counts _ c.loop-place.invariant c.loop-place-test.true).1

pub goes_past-requires : goal.goes_past-requires
goes_past-requires c =
    fewer_small c.args.ordered.now (entry_view c.args.entry.now) c.loop-place.place c.loop-place.counts _ c.loop-place.invariant c.loop-place-test.true
    c.without-counts.result c.without-counts.ensures.spawned c.without-counts.ensures.sent c.requires.few

pub returns-then-not-goes_past-clause-settled : goal.returns-then-not-goes_past-clause-settled
returns-then-not-goes_past-clause-settled c =
    stopped c.args.ordered.now (entry_view c.args.entry.now) c.loop-place.place c.loop-place.counts _ c.loop-place.invariant c.loop-place-test.true
    c.without-counts.result c.without-counts.ensures.spawned c.without-counts.ensures.sent
    (sym c.goes_past.ensures ∙ c.if-not-goes_past.true)

pub loop-place-preserved : goal.loop-place-preserved
loop-place-preserved c =
    turned c.args.ordered.now (entry_view c.args.entry.now) c.loop-place.place c.loop-place.counts _ c.loop-place.invariant c.loop-place-test.true
    c.without-counts.result c.without-counts.ensures.spawned c.without-counts.ensures.sent
    (sym c.goes_past.ensures ∙ c.if-not-goes_past.false)

pub returns-clause-settled : goal.returns-clause-settled
returns-clause-settled c = stopped_first (map entry_view c.args.ordered.now) (entry_view c.args.entry.now) c.loop-place.place c.loop-place.counts c.loop-place.invariant c.loop-place-test.false
