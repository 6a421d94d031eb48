use Rattle.std.proofs.Common.{drop}
use Rattle.pat_types.specs.Views.{needs_view}
use Rattle.pat_infer_spec.specs.BothParts.{both_parts}
use Rattle.pat_type_schemes_spec.specs.NodeTypes.{need_of}
use Rattle.pat_infer_environments.specs.Looking.{IsAt}
use Rattle.pat_infer_environments.proofs.Gathered.{StillToGather}
use Rattle.pat_infer_environments.proofs.gathering.gather_parts.Given as goal

-- what is gathered, and what the names that are left give, are the whole
abbrev pub invariant-loop-name : goal.invariant-loop-name
invariant-loop-name l = record {
  gathered : StillToGather l.fn.program (λ j z. both_parts l.fn.node j z (need_of (needs_view l.fn.bound) z) (need_of (needs_view l.fn.body) z)) l.fn.problem l.problem l.needs l.name-items (drop l.name-index l.name-items);
  bound : IsAt l.fn.bound l.in_bound;
  body : IsAt l.fn.body l.in_body;
}
