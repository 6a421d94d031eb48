use Rattle.std.proofs.Common.{◌≡◌, drop, map, ap, ◌∙◌, arith}
use Rattle.pat_core.specs.Views.{node_view}
use Rattle.pat_checkpoint_spec.specs.Kinds.{let_with}
use Rattle.pat_checkpoint_parts.proofs.LetTable.{all_lets}
use Rattle.pat_checkpoint_parts.proofs.lets.lets_of.Goals as goal

pub returns : goal.returns
returns c = λ b.
    let nodes = c.as_slice-nodes.result.now in
    let none : c.loop-n.n ≡ 0 = omega (arith, c.loop-n-test.false) in
    all_lets c.args.program.now nodes c.loop-n.lets c.requires c.as_slice-nodes.ensures c.loop-n.invariant.each (λ k less.
    c.loop-n.invariant.right k less ∙ ap (λ n. let_with (map node_view (drop n nodes)) k) none) b
