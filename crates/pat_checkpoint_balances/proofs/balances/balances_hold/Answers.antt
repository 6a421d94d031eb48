use Rattle.std.proofs.Common.{ap, sym, ◌∙◌, length, arith}
use Rattle.std.proofs.lemmas.List.{length-map}
use Rattle.pat_core.specs.Views.{program_view}
use Rattle.pat_derivations.specs.Views.{derivation_view}
use Rattle.pat_checkpoint_data.specs.Views.{end_view, checkpoint_view}
use Rattle.pat_checkpoint_balances.proofs.Balancing.{unequal, shown_end}
use Rattle.pat_checkpoint_balances.proofs.balances.balances_hold.Goals as goal

pub returns-then-interfaces-coming : goal.returns-then-interfaces-coming
returns-then-interfaces-coming c =
    sym (unequal (program_view c.args.program.now) (derivation_view c.args.derivation.now) (checkpoint_view c.args.checkpoint.now) c.args.sides.now c.requires.sides (λ e f.
    c.if-interfaces-coming.true (ap length c.as_slice-interfaces.ensures ∙ e ∙ sym (ap length c.as_slice-coming.ensures))))

pub returns-then-certs-coming : goal.returns-then-certs-coming
returns-then-certs-coming c =
    sym (unequal (program_view c.args.program.now) (derivation_view c.args.derivation.now) (checkpoint_view c.args.checkpoint.now) c.args.sides.now c.requires.sides (λ e f.
    c.if-certs-coming.true (ap length c.as_slice-certs.ensures ∙ sym (length-map c.args.checkpoint.now.mailbox_certs end_view) ∙ f ∙ sym (ap length c.as_slice-coming.ensures))))

pub returns : goal.returns
returns c =
    let p = program_view c.args.program.now in
    let d = derivation_view c.args.derivation.now in
    let x = checkpoint_view c.args.checkpoint.now in
    let s = c.args.sides.now in
    let coming = ap length c.as_slice-coming.ensures in
    let interfaces = ap length c.as_slice-interfaces.ensures in
    let certs = ap length c.as_slice-certs.ensures in
    let mapped = length-map c.args.checkpoint.now.mailbox_certs end_view in
    sym (shown_end p d x c.loop-place.place s c.requires.sides (let h = c.if-interfaces-coming.false in omega arith) (let h = c.if-certs-coming.false in omega arith) (let h = c.loop-place-test.false in omega arith)) ∙ c.loop-place.invariant
