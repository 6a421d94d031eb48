use Rattle.std.proofs.Common.{◌≡◌, List, length, ap, sym, ◌∙◌, subst, arith}
use Rattle.std.proofs.lemmas.List.{length-map}
use Rattle.std.proofs.lemmas.Result.{IfOk-weaker}
use Rattle.pat_core.specs.Views.{program_view}
use Rattle.pat_core.specs.declared.program.Program.{Program}
use Rattle.pat_reduce.specs.declared.history.Entry.{Entry}
use Rattle.pat_machine.specs.declared.job.Named.{Named}
use Rattle.pat_turn.specs.Shown.{ShownPass, AreAll, IsOfAll}
use Rattle.pat_workers.specs.turns.Holds.{worker_of}
use Rattle.pat_workers.specs.declared.serving.Worker.{Worker}
use Rattle.pat_workers.proofs.Placed.{some_is}
use Rattle.pat_workers.proofs.Rows.{length_new, ready_at, worked_at}
use Rattle.pat_workers.proofs.Ending.{are_all, run_gives}
use Rattle.pat_workers.proofs.running.run.Goals as goal

pub work_all-requires-after_bounds : goal.work_all-requires-after_bounds
work_all-requires-after_bounds g c κs within = ready_at c.in_ok-turn.turn c.in_ok-code.code.program c.in_ok-turn.passes.items c.in_ok-turn.ensures.passes
    (λ named is.
    let same : c.in_ok-turn.turn.name ≡ named = some_is is in
    let own : program_view named.program ≡ program_view c.into_program-program.result = ap (λ (n : Named). program_view n.program) (sym same ∙ c.in_ok-turn.ensures.turn.0) ∙ ap (λ (n : Named). program_view n.program) c.in_ok-machine.ensures.named ∙ ap program_view c.of.ensures in
    own ∙ sym c.in_ok-copy.ensures.same ∙ ap program_view (sym c.in_ok-code.ensures))

pub close-requires : goal.close-requires
close-requires g c =
    let t = c.in_ok-turn.turn in
    let ws = c.in_ok-ended.ended.items in
    let worked = worked_at t c.in_ok-turn.passes.items ws c.in_ok-turn.ensures.passes c.in_ok-ended.ensures.len c.in_ok-ended.ensures.each in
    let many : length ws ≡ t.passes = c.in_ok-ended.ensures.len ∙ ap length c.in_ok-turn.ensures.passes ∙ length_new t 0 t.passes in
    subst (AreAll t) (sym c.in_ok-passes.ensures.passes) (are_all t ws worked many)

pub finish-requires : goal.finish-requires
finish-requires g c =
    let t = c.in_ok-turn.turn in
    let ws = c.in_ok-ended.ended.items in
    let many : length ws ≡ t.passes = c.in_ok-ended.ensures.len ∙ ap length c.in_ok-turn.ensures.passes ∙ length_new t 0 t.passes in
    let rows : length c.in_ok-passes.receipts.items ≡ c.args.workers = ap length c.in_ok-passes.ensures.receipts ∙ length-map ws (λ (w : Worker). w.receipts) ∙ many ∙ c.in_ok-turn.ensures.turn.1 in
    let some = c.requires.workers.0 in
    omega (arith, rows, some)

pub returns : goal.returns
returns g c =
    let t = c.in_ok-turn.turn in
    let ws = c.in_ok-ended.ended.items in
    let worked = worked_at t c.in_ok-turn.passes.items ws c.in_ok-turn.ensures.passes c.in_ok-ended.ensures.len c.in_ok-ended.ensures.each in
    let many : length ws ≡ t.passes = c.in_ok-ended.ensures.len ∙ ap length c.in_ok-turn.ensures.passes ∙ length_new t 0 t.passes in
    let name = c.in_ok-turn.ensures.turn.0 ∙ c.in_ok-machine.ensures.named in
    let is : c.of.result ≡ c.args.accepted = c.of.ensures ∙ c.into_program-program.ensures.program in
    let all = subst (λ (ps : List (ShownPass Named Entry)). IsOfAll worker_of ps c.close.result.history) c.in_ok-passes.ensures.passes c.close.ensures.log in
    IfOk-weaker c.finish.result _ _
    (λ f done. run_gives c.args.accepted c.args.workers c.args.steps c.args.messages t ws c.close.result c.in_ok-passes.receipts.items f c.requires.workers.0
    (name ∙ ap (λ (p : Program). record { program = p; budget = c.args.steps; limit = c.args.messages }) is)
    c.in_ok-turn.ensures.turn.1 many worked c.close.ensures.name all c.in_ok-passes.ensures.receipts done)
    c.finish.ensures
