use Rattle.std.proofs.Common.{◌≡◌, map, take}
use Rattle.pat_reduce.specs.threads.ThreadViews.{message_view}
use Rattle.pat_checkpoint_balances.specs.Gathered.{rows_view, tags_of}
use Rattle.pat_checkpoint_balances.proofs.gathering.tags_coming.Given as goal

abbrev pub invariant-loop-message : goal.invariant-loop-message
invariant-loop-message l = rows_view l.rows ≡ map (tags_of (map message_view (take l.message-index l.messages))) l.live
