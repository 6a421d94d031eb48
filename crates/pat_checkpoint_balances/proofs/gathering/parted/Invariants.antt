use Rattle.std.proofs.Common.{◌≡◌, List, map, take}
use Rattle.pat_semantics_spec.specs.Configs.{Message}
use Rattle.pat_types.specs.Views.{needs_view}
use Rattle.pat_checkpoint_balances.specs.Gathered.{rows_view, tags_of, Parted}
use Rattle.pat_checkpoint_balances.proofs.gathering.parted.Given as goal

abbrev pub invariant-loop-mailbox : goal.invariant-loop-mailbox
invariant-loop-mailbox l = (ms : List Message) → rows_view l.fn.tags ≡ map (tags_of ms) l.live → Parted l.live ms (needs_view (take l.mailbox-index l.held)) l.sides
