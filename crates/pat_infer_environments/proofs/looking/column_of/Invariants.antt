use Rattle.std.proofs.Common.{◌≡◌, ◌++◌, map, drop}
use Rattle.pat_types.specs.Views.{needs_view}
use Rattle.pat_infer_environments.specs.Combining.{column_view}
use Rattle.pat_infer_environments.specs.Gathering.{column_at}
use Rattle.pat_infer_environments.specs.Looking.{AreAt}
use Rattle.pat_infer_environments.proofs.looking.column_of.Given as goal

-- what is looked up, and what the branches that are left need
abbrev pub invariant-loop-place : goal.invariant-loop-place
invariant-loop-place l = record {
  column : column_view l.column.items ++ column_at l.variable (map needs_view (drop l.place l.branches)) ≡ column_at l.variable (map needs_view l.branches);
  at : AreAt l.branches l.cursors;
}
