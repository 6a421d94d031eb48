use Rattle.std.proofs.Common.{sym, ap, subst}
use Rattle.std.specs.Prelude.{IfOk}
use Rattle.pat_semantics_spec.specs.WellFormed.{WellFormed}
use Rattle.pat_core.specs.Views.{program_view}
use Rattle.pat_checkpoint_spec.specs.Checked.{IsChecked}
use Rattle.pat_checkpoint_data.specs.Views.{checkpoint_view}
use Rattle.pat_command_resume.specs.Gives.{ShowsFrom}
use Rattle.pat_command_resume.proofs.Going.{history_of, few_of, not_full, shows_from}
use Rattle.pat_command_resume.proofs.running.go_on.Goals as goal

pub told-requires-clause-history : goal.told-requires-clause-history
told-requires-clause-history c =
    let p = program_view c.in_ok-code.code.program in
    let x = checkpoint_view c.args.checkpoint in
    let same = sym (ap program_view c.in_ok-code.ensures) in
    let k = c.requires.checked in
    let own = subst (λ q. IsChecked q k.0 x) same k.1 in
    history_of p k.0 x c.args.steps c.turn_laws.ensures.ends c.checked_laws.ensures.typed (subst WellFormed same c.requires.well_formed) own _ _ _ _ (c.in_ok-resumed.ensures k.0 own)

pub told-requires-clause-few : goal.told-requires-clause-few
told-requires-clause-few c =
    let p = program_view c.in_ok-code.code.program in
    let x = checkpoint_view c.args.checkpoint in
    let same = sym (ap program_view c.in_ok-code.ensures) in
    let k = c.requires.checked in
    let own = subst (λ q. IsChecked q k.0 x) same k.1 in
    few_of p k.0 x c.args.steps c.turn_laws.ensures.ends c.checked_laws.ensures.typed (subst WellFormed same c.requires.well_formed) own _ _ _ _ c.requires.steps (c.in_ok-resumed.ensures k.0 own)

pub told-requires-clause-ended : goal.told-requires-clause-ended
told-requires-clause-ended c =
    let p = program_view c.in_ok-code.code.program in
    let x = checkpoint_view c.args.checkpoint in
    let same = sym (ap program_view c.in_ok-code.ensures) in
    let k = c.requires.checked in
    not_full p k.0 x c.args.steps c.outcome_laws.ensures.outcomes _ _ _ _ (c.in_ok-resumed.ensures k.0 (subst (λ q. IsChecked q k.0 x) same k.1))

pub returns : goal.returns
returns c = λ d k.
    let p = program_view c.in_ok-code.code.program in
    let x = checkpoint_view c.args.checkpoint in
    let same = ap program_view c.in_ok-code.ensures in
    subst (λ q. IfOk c.told.result (λ a. ShowsFrom q d x c.args.steps a.text.items a.status)) same
    (shows_from p d x c.args.steps c.in_ok-resumed.resumed c.told.result (c.in_ok-resumed.ensures d (subst (λ q. IsChecked q d x) (sym same) k)) c.told.ensures)
