use Rattle.std.proofs.Common.{arith}
use Rattle.pat_reduce.specs.threads.GuardViews.{guard_view}
use Rattle.pat_reduce.proofs.Firsts.{rest_on, before_on}
use Rattle.pat_reduce.proofs.threads.guards.first_message.Goals as goal

pub loop-message-preserved : goal.loop-message-preserved
loop-message-preserved c =
    let g = guard_view c.args.guard.now in
    let i = c.loop-message.message-index in
    record {
      rest = rest_on g c.args.messages.now i c.message-item.result (omega arith) c.message-item.is c.takes_first.result c.takes_first.ensures c.if-takes_first.false c.loop-message.invariant.before c.loop-message.invariant.rest;
      before = before_on g c.args.messages.now i c.message-item.result (omega arith) c.message-item.is c.takes_first.result c.takes_first.ensures c.if-takes_first.false c.loop-message.invariant.before;
    }
