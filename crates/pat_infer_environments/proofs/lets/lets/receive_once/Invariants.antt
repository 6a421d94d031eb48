use Rattle.std.proofs.Common.{◌≡◌, drop}
use Rattle.std.specs.List.{list_all}
use Rattle.std.specs.Map.{keys_of}
use Rattle.pat_type_schemes_spec.specs.NodeTypes.{need_of}
use Rattle.pat_infer_spec.specs.BothParts.{one_receives}
use Rattle.pat_types.specs.Views.{needs_view}
use Rattle.pat_infer_environments.specs.Looking.{IsAt}
use Rattle.pat_infer_environments.proofs.lets.lets.receive_once.Given as goal

-- the rule holds of all names just where it holds of those that are left
abbrev pub invariant-loop-name : goal.invariant-loop-name
invariant-loop-name l = record {
  holds : list_all (λ z. one_receives (need_of (needs_view l.fn.bound) z) (need_of (needs_view l.fn.body) z)) (keys_of (needs_view (drop l.name-index l.bound))) ≡ list_all (λ z. one_receives (need_of (needs_view l.fn.bound) z) (need_of (needs_view l.fn.body) z)) (keys_of (needs_view l.fn.bound));
  bound : IsAt l.fn.bound l.in_bound;
  body : IsAt l.fn.body l.in_body;
}
