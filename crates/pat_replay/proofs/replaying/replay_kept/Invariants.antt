use Rattle.std.proofs.Common.{◌≡◌, ◌++◌, drop, length, map}
use Rattle.pat_semantics_spec.specs.Orders.{IsOrdered}
use Rattle.pat_semantics_spec.specs.Runs.{replay_from}
use Rattle.pat_semantics_laws.specs.Laws.{history_steps}
use Rattle.pat_checkpoint_spec.specs.Resumed.{made_along}
use Rattle.pat_core.specs.Views.{program_view}
use Rattle.pat_reduce.specs.Views.{entry_view}
use Rattle.pat_replay.specs.Kept.{kept_view, IsKept}
use Rattle.pat_replay.proofs.Refusing.{RefusesOn, RoomLeft}
use Rattle.pat_replay.proofs.replaying.replay_kept.Given as goal

-- what is left goes on from here as the whole goes on, and it is refused where the whole is; numbers are left for it; the configuration is in
-- order; where its names are counted, all are; and what was made comes before what is left to be made
abbrev pub invariant-loop-i : goal.invariant-loop-i
invariant-loop-i l = record {
  whole : replay_from (program_view l.code.program) (kept_view l.kept) (map entry_view (drop l.i l.entries)) ≡ replay_from (program_view l.code.program) (kept_view l.fn.kept) (map entry_view l.entries);
  refused : RefusesOn (program_view l.code.program) (kept_view l.fn.kept) (kept_view l.kept) (map entry_view l.entries) (map entry_view (drop l.i l.entries)) l.i;
  room : RoomLeft (kept_view l.kept) (length l.entries) l.i;
  order : IsOrdered (kept_view l.kept);
  kept : IsKept l.kept;
  made : l.made ++ made_along (program_view l.code.program) (kept_view l.kept) (history_steps (map entry_view (drop l.i l.entries))) ≡ made_along (program_view l.code.program) (kept_view l.fn.kept) (history_steps (map entry_view l.entries));
}
