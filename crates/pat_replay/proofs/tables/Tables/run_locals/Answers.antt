use Rattle.std.proofs.Common.{◌<◌, sym, subst, ◌∙◌, arith}
use Rattle.std.proofs.lemmas.Option.{same_Some}
use Rattle.pat_core.specs.Views.{program_view}
use Rattle.pat_reduce.specs.threads.ThreadViews.{thread_view}
use Rattle.pat_machine_threads.specs.Settling.{IsRunOnTop}
use Rattle.pat_replay.proofs.Settling.{none_there}
use Rattle.pat_replay.proofs.tables.Tables.run_locals.Goals as goal

pub returns-in_default-clause-gives : goal.returns-in_default-clause-gives
returns-in_default-clause-gives c =
    let some = c.if-count-eq0.false in
    let more : 0 < c.args.count = omega arith in
    none_there (program_view c.args.code.now.program) c.args.self.now.state.config c.args.thread c.args.count more (sym c.in_default.ensures)

pub returns-in-Ok-clause-gives : goal.returns-in-Ok-clause-gives
returns-in-Ok-clause-gives c =
    let p = program_view c.args.code.now.program in
    c.put.ensures.gives p (λ s there. subst (λ x. IsRunOnTop p c.args.count x c.in-Ok.settled) (same_Some (thread_view c.in-Some.kept.now) s (c.in-Some.ensures ∙ there)) c.in-Ok.ensures)
