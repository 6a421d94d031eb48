use Rattle.std.proofs.Common.{drop, map}
use Rattle.pat_types.specs.Views.{needs_view}
use Rattle.pat_infer_spec.specs.Branches.{branches}
use Rattle.pat_infer_environments.specs.Gathering.{column_at}
use Rattle.pat_infer_environments.specs.Looking.{AreAt}
use Rattle.pat_infer_environments.proofs.Gathered.{StillToGather}
use Rattle.pat_infer_environments.proofs.gathering.gather_branches.Given as goal

-- what is gathered, and what the names that are left give, are the whole
abbrev pub invariant-loop-name : goal.invariant-loop-name
invariant-loop-name l = record {
  gathered : StillToGather l.fn.program (λ j z. branches l.fn.node j z (column_at z (map needs_view l.fn.branches))) l.fn.problem l.problem l.needs l.name-items (drop l.name-index l.name-items);
  at : AreAt l.fn.branches l.cursors;
}
