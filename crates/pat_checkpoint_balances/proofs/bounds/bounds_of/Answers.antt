use Rattle.std.proofs.Common.{◌-◌, length, get_or, map, ap, sym, ◌∙◌, subst, arith}
use Rattle.pat_core.specs.declared.program.Node.{Node}
use Rattle.pat_core.specs.Views.{core_view, node_view, program_view}
use Rattle.pat_checkpoint_balances.specs.Tables.{Notes}
use Rattle.pat_checkpoint_balances.proofs.Lets.{TellsFrom, tells_before, tells_all}
use Rattle.pat_checkpoint_balances.proofs.bounds.bounds_of.Goals as goal

pub loop-n-preserved : goal.loop-n-preserved
loop-n-preserved c =
    let nodes = c.args.program.now.nodes in
    let d = c.index-nodes-n.result in
    tells_before nodes c.loop-n.n (c.loop-n.n - 1) d c.loop-n.bounds c.note_let.new.bounds (omega (arith, c.loop-n-test.true)) (let k = c.loop-n.auto.n in let same = ap length c.as_slice-nodes.ensures in omega arith) (c.index-nodes-n.is ∙ ap (λ l. get_or l (c.loop-n.n - 1) d) c.as_slice-nodes.ensures) c.loop-n.invariant (subst (λ (e : Node). Notes (core_view e.core) c.loop-n.bounds c.note_let.new.bounds) (sym c.index-nodes-n.is) c.note_let.ensures)

pub returns : goal.returns
returns c =
    tells_all (program_view c.args.program.now) c.loop-n.bounds c.requires (subst (λ k. TellsFrom (map node_view c.args.program.now.nodes) k c.loop-n.bounds) (omega (arith, c.loop-n-test.false)) c.loop-n.invariant)
