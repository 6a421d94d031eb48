use Rattle.std.proofs.Common.{◌≡◌, map, drop}
use Rattle.pat_infer_spec.specs.Constraints.{AtNode, BranchRule, each_unless}
use Rattle.pat_infer_spec.specs.Branches.{branches_agree}
use Rattle.pat_types.specs.Views.{needs_view}
use Rattle.pat_infer_problems.specs.Results.{first_of}
use Rattle.pat_infer_terms.specs.Gathering.{column_at}
use Rattle.pat_infer_terms.specs.Looking.{AreAt}
use Rattle.pat_infer_terms.proofs.branches.arms.agree_on.Given as goal

-- the first broken rule is that of the names that are left
abbrev pub invariant-loop-name : goal.invariant-loop-name
invariant-loop-name l = record {
  first : first_of (each_unless (λ z. branches_agree (column_at z (map needs_view l.fn.branches))) BranchRule (λ z. AtNode l.fn.node) (drop l.name-index l.names)) ≡ first_of (each_unless (λ z. branches_agree (column_at z (map needs_view l.fn.branches))) BranchRule (λ z. AtNode l.fn.node) l.names);
  at : AreAt l.fn.branches l.cursors;
}
