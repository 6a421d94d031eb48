use Rattle.std.proofs.Common.{map, sym, ap, ◌∙◌, subst}
use Rattle.pat_core.specs.Views.{program_view}
use Rattle.pat_semantics_spec.specs.Orders.{AscendsFrom, IsOrdered}
use Rattle.pat_reduce.specs.declared.config.Config.{Config as CodeConfig}
use Rattle.pat_reduce.specs.Views.{config_view, entry_view}
use Rattle.pat_checkpoint_data.specs.Views.{checkpoint_view}
use Rattle.pat_checkpoint_run.specs.Courses.{HasRun}
use Rattle.pat_checkpoint_run.proofs.Resuming.{resumed, kept_is, checked_in_order}
use Rattle.pat_checkpoint_run.proofs.resumed.run_from.Goals as goal

pub run_turns-requires-clause-ordered : goal.run_turns-requires-clause-ordered
run_turns-requires-clause-ordered c =
    subst (λ (k : CodeConfig). IsOrdered (config_view k)) (sym c.into_parts-config.ensures.config)
    (checked_in_order (program_view c.args.code.now.program) (checkpoint_view c.args.checkpoint) c.checked_laws.ensures.typed c.requires.well_formed c.requires.checked)

pub interfaces_of-requires : goal.interfaces_of-requires
interfaces_of-requires c =
    subst (AscendsFrom 0) (sym (c.in_ok-first.ensures.live ∙ ap (λ (k : CodeConfig). k.live) c.into_parts-config.ensures.config))
    (checked_in_order (program_view c.args.code.now.program) (checkpoint_view c.args.checkpoint) c.checked_laws.ensures.typed c.requires.well_formed c.requires.checked).live

pub returns : goal.returns
returns c =
    let x = checkpoint_view c.args.checkpoint in
    let course = c.in_ok-course.course in
    let parts = c.into_parts-config.ensures in
    let first = c.in_ok-first.ensures in
    let run = subst (λ (k : CodeConfig). HasRun (program_view c.args.code.now.program) (config_view k) c.args.steps course) parts.config c.in_ok-course.ensures in
    resumed (program_view c.args.code.now.program) x c.args.steps (map entry_view course.entries) (config_view course.config) course.made c.in_ok-interfaces.interfaces _ run.entries run.reached run.made
    (kept_is _ _ _ _ _ _ _ _ _ _ _ (first.live ∙ ap (λ (k : CodeConfig). k.live) parts.config) (first.interfaces ∙ parts.interfaces) (first.next ∙ ap (λ (k : CodeConfig). k.next_mailbox) parts.config) c.as_slice.ensures c.as_slice-live.ensures c.in_ok-interfaces.ensures)
    c.outcome_of-outcome.ensures c.made_laws.ensures.interfaces c.resumed_laws.ensures.resumes c.requires.well_formed
