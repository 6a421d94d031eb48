use Rattle.std.proofs.Common.{◌≡◌, length, subst, arith}
use Rattle.std.proofs.lemmas.List.{length-map}
use Rattle.pat_core.specs.Views.{interface_view, program_view}
use Rattle.pat_solve.specs.States.{Stands}
use Rattle.pat_solve.proofs.Ends.{begun_stands, finished_answer}
use Rattle.pat_solve.proofs.solving.answer_usable.Goals as goal

pub loop-interface-init : goal.loop-interface-init
loop-interface-init c =
    begun_stands c.args.program.now c.args.problem.now c.in_ok-state.state c.requires.problem c.requires.usable c.in_ok-state.ensures

pub returns : goal.returns
returns c =
    let p = program_view c.args.program.now in
    let long = length-map c.args.program.now.interfaces interface_view in
    let end = c.loop-interface-test.false in
    let stop = c.loop-interface.auto.interface-end in
    let count = c.len-interfaces.ensures in
    let small = c.if-interfaces.false in
    let all : c.loop-interface.interface ≡ length p.interfaces = omega (arith, long, end, stop, count, small) in
    finished_answer p (c.refusal_laws.ensures.there p c.requires.well) c.loop-interface.state c.finished.result (subst (λ i. Stands p i c.loop-interface.state) all c.loop-interface.invariant) c.finished.ensures
