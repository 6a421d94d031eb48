use Rattle.std.proofs.Common.{IfOk, sym, subst}
use Rattle.pat_run.specs.single.Runners.{RunGives}
use Rattle.pat_command_run.proofs.Runs.{few_entries, shown_history, run_shows}
use Rattle.pat_command_run.proofs.command.run_program.Goals as goal

pub told-requires-clause-history : goal.told-requires-clause-history
told-requires-clause-history g c =
    shown_history c.in_ok-finished.finished.machine c.history-entries.result.now c.history-entries.ensures.facts c.history-entries.ensures.history

pub told-requires-clause-few : goal.told-requires-clause-few
told-requires-clause-few g c =
    let gives = subst (λ r. IfOk r (RunGives c.args.accepted c.args.options)) c.in_ok-finished.was (c.requires.runner.gives c.args.accepted c.args.options c.run.result c.run.ensures) in
    few_entries c.in_ok-finished.finished.machine c.history-entries.result.now _ c.history-entries.ensures.facts c.history-entries.ensures.history gives.named c.requires.within.steps

pub returns : goal.returns
returns g c =
    let gives = subst (λ r. IfOk r (RunGives c.args.accepted c.args.options)) c.in_ok-finished.was (c.requires.runner.gives c.args.accepted c.args.options c.run.result c.run.ensures) in
    let text = c.in_ok-text.ensures c.in_ok-finished.finished.machine.config (sym c.printed-printed.ensures) (sym c.in_ok-remains.ensures) in
    run_shows c.args.detail c.args.accepted c.args.options c.in_ok-finished.finished c.history-entries.result.now c.in_ok-text.text.items c.status_of.result gives c.history-entries.ensures.facts c.history-entries.ensures.history text c.status_of.ensures
