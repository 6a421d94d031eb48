use Rattle.pat_core.specs.Views.{program_view}
use Rattle.pat_command_checkpoint.proofs.Starting.{started_checked, started_threads, started_mailboxes, started_messages, started_reached}
use Rattle.pat_command_checkpoint.proofs.command.run_program.Goals as goal

pub run_from-requires-clause-checked : goal.run_from-requires-clause-checked
run_from-requires-clause-checked c =
    started_checked (program_view c.args.code.now.program) _ c.in_ok-start.ensures c.resumed_laws.ensures.start c.requires.well_formed c.requires.typed

pub run_from-requires-clause-threads : goal.run_from-requires-clause-threads
run_from-requires-clause-threads c = started_threads (program_view c.args.code.now.program) _ c.in_ok-start.ensures

pub run_from-requires-clause-mailboxes : goal.run_from-requires-clause-mailboxes
run_from-requires-clause-mailboxes c = started_mailboxes (program_view c.args.code.now.program) _ c.in_ok-start.ensures

pub run_from-requires-clause-messages : goal.run_from-requires-clause-messages
run_from-requires-clause-messages c = started_messages (program_view c.args.code.now.program) _ c.in_ok-start.ensures

pub returns : goal.returns
returns c =
    started_reached (program_view c.args.code.now.program) _ c.in_ok-start.ensures c.resumed_laws.ensures.start c.requires.well_formed c.args.steps c.run_from.result c.run_from.ensures
