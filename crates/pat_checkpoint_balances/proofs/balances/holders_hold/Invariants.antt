use Rattle.std.proofs.Common.{◌≡◌, drop}
use Rattle.std.specs.List.{list_all}
use Rattle.pat_checkpoint_spec.specs.Mailboxes.{is_single}
use Rattle.pat_checkpoint_balances.specs.Gathered.{rows_view}
use Rattle.pat_checkpoint_balances.proofs.balances.holders_hold.Given as goal

abbrev pub invariant-loop-receivers : goal.invariant-loop-receivers
invariant-loop-receivers l = list_all is_single (rows_view (drop l.receivers-index l.sides.receivers)) ≡ list_all is_single (rows_view l.sides.receivers)
