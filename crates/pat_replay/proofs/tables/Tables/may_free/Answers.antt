use Rattle.std.proofs.Common.{sym}
use Rattle.pat_core.specs.Views.{program_view}
use Rattle.pat_reduce.specs.threads.ThreadViews.{thread_view}
use Rattle.pat_reduce.specs.threads.GuardViews.{guard_view}
use Rattle.pat_replay.proofs.Counted.{enabled_free}
use Rattle.pat_replay.proofs.tables.Tables.may_free.Goals as goal

pub returns : goal.returns
returns c = λ yes.
    enabled_free c.test_laws.ensures.test (program_view c.args.code.now.program) c.args.self.now.state.config c.args.thread c.args.self.now.names.counts.times.items
    (thread_view c.in-Some.state.now) (guard_view c.in-Some-guard_of.guard) c.in-Some-free.field-0 c.requires.ordered
    (c.requires.known (c.tell_alone.ensures.known yes)) (sym c.in-Some.ensures) c.in-Some-guard_of.ensures c.in-Some-free.is
    (c.has_empty.ensures.live c.if-not-has_empty.false) (c.has_empty.ensures.empty c.if-not-has_empty.false) (c.tell_alone.ensures.alone yes)
