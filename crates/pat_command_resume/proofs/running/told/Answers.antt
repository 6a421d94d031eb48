use Rattle.std.proofs.Common.{sym, ap, ◌∙◌}
use Rattle.std.specs.Prelude.{List, map}
use Rattle.pat_reduce.specs.declared.history.Entry.{Entry}
use Rattle.pat_reduce.specs.Views.{config_view, entry_view}
use Rattle.pat_history.specs.run_reports.Gives.{outcome_view}
use Rattle.pat_history.specs.run_reports.RunText.{run_text}
use Rattle.pat_command_resume.proofs.running.told.Goals as goal

pub returns : goal.returns
returns c =
    let r = c.args.resumed.now in
    let shown = c.in_ok-text.ensures (config_view r.config) (sym c.as_slice-printed.ensures) (sym c.in_ok-remains.ensures) in
    (c.status_of.ensures, shown ∙ ap (λ (l : List Entry). run_text (map entry_view l) (config_view r.config) (outcome_view r.outcome)) c.as_slice-entries.ensures)
