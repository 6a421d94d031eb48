use Rattle.std.proofs.Common.{sym, ◌∙◌}
use Rattle.pat_reduce.specs.threads.ThreadViews.{message_view}
use Rattle.pat_reduce.specs.threads.GuardViews.{guard_view}
use Rattle.pat_machine_indexes.proofs.Delivering.{untaken}
use Rattle.pat_machine_indexes.proofs.messages.deliveries.may_take.Goals as goal

pub returns : goal.returns
returns c none m lane = untaken (guard_view c.args.guard.now) c.args.lane (message_view m) (sym c.has_lane.ensures ∙ none) lane
