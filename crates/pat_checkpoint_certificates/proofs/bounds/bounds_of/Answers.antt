use Rattle.std.proofs.Common.{◌≡◌, ◌+◌, length, sym, subst, arith}
use Rattle.std.proofs.lemmas.List.{length-map}
use Rattle.pat_core.specs.Views.{interface_view, program_view}
use Rattle.pat_checkpoint_certificates.specs.Bounds.{IsListed}
use Rattle.pat_checkpoint_certificates.proofs.Listed.{none_listed, one_more, all_listed}
use Rattle.pat_checkpoint_certificates.proofs.bounds.bounds_of.Goals as goal

pub loop-interface-init : goal.loop-interface-init
loop-interface-init c = let p = program_view c.args.program.now in subst (IsListed p 0) (sym c.new-bounds.ensures) (none_listed p)

pub loop-interface-preserved : goal.loop-interface-preserved
loop-interface-preserved c =
    let p = program_view c.args.program.now in
    let i = c.loop-interface.interface in
    subst (IsListed p (i + 1)) (sym c.in_ok-push.ensures.ok) (one_more p i c.loop-interface.bounds c.bound_at-bound.result c.bound_at-bound.ensures c.loop-interface.invariant)

pub returns : goal.returns
returns c =
    let p = program_view c.args.program.now in
    let long = length-map c.args.program.now.interfaces interface_view in
    let end = c.loop-interface-test.false in
    let stop = c.loop-interface.auto.interface-end in
    let count = c.len-interfaces.ensures in
    let small = c.if-interfaces.false in
    let all : c.loop-interface.interface ≡ length p.interfaces = omega (arith, long, end, stop, count, small) in
    all_listed p c.loop-interface.bounds (subst (λ i. IsListed p i c.loop-interface.bounds) all c.loop-interface.invariant)
