use Rattle.std.proofs.Common.{sym, subst}
use Rattle.pat_reduce.specs.threads.ThreadViews.{thread_view}
use Rattle.pat_replay.specs.Naming.{CountsAll}
use Rattle.pat_replay.proofs.Counted.{exchanged_counted}
use Rattle.pat_replay.proofs.Settling.{stops_before, all_taken}
use Rattle.pat_replay.proofs.tables.Tables.put.Goals as goal

pub returns-then-steps-count-clause-gives : goal.returns-then-steps-count-clause-gives
returns-then-steps-count-clause-gives c = λ p run.
    let s = c.requires.there.0 in
    let there = c.requires.there.1 in
    stops_before p c.args.self.now.state.config c.args.thread c.args.count s there c.args.settled (run s there) c.if-steps-count.true

pub returns-in-Ok-clause-gives : goal.returns-in-Ok-clause-gives
returns-in-Ok-clause-gives c = λ p run.
    let s = c.requires.there.0 in
    let there = c.requires.there.1 in
    all_taken p c.args.self.now.state.config c.args.thread c.args.count s there c.args.settled (run s there) c.if-steps-count.false c.put.new.self.config (c.in-Ok.ensures.ok s there)

pub returns-in-Ok-clause-known : goal.returns-in-Ok-clause-known
returns-in-Ok-clause-known c = λ yes.
    let s = thread_view c.in-Some.kept.now in
    let there = sym c.in-Some.ensures in
    let changed = c.exchange_top.ensures yes in
    subst (CountsAll c.exchange_top.new.self.counts.times.items) (sym (c.in-Ok.ensures.ok s there))
    (exchanged_counted c.args.self.now.state.config c.args.thread c.args.settled.gone s (thread_view c.args.settled.end) c.args.self.now.names.counts.times.items c.exchange_top.new.self.counts.times.items there (c.requires.known changed.0) changed.1)
