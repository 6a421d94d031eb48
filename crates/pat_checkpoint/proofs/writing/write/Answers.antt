use Rattle.pat_core.specs.Views.{program_view}
use Rattle.pat_derivations.specs.Views.{derivation_view}
use Rattle.pat_reduce.specs.Views.{config_view}
use Rattle.pat_checkpoint_data.specs.Views.{checkpoint_view}
use Rattle.pat_checkpoint.proofs.Written.{lists_align, mailboxes_ascend, written, both, nothing_said}
use Rattle.pat_checkpoint.proofs.writing.write.Goals as goal

pub certify-requires-clause-well : goal.certify-requires-clause-well
certify-requires-clause-well c = c.requires.resolved.1.well_formed

pub text_of-requires-clause-aligned : goal.text_of-requires-clause-aligned
text_of-requires-clause-aligned c =
    lists_align (program_view c.args.program.now) (derivation_view c.args.derivation.now) (config_view c.args.config) c.args.interfaces (checkpoint_view c.in-Ok.checkpoint) c.in-Ok.ensures.certified c.checked_laws.ensures.aligned

pub text_of-requires-clause-order : goal.text_of-requires-clause-order
text_of-requires-clause-order c =
    mailboxes_ascend (program_view c.args.program.now) (derivation_view c.args.derivation.now) (config_view c.args.config) c.args.interfaces (checkpoint_view c.in-Ok.checkpoint) c.in-Ok.ensures.certified c.requires.typed

pub returns-in-Ok-clause-written : goal.returns-in-Ok-clause-written
returns-in-Ok-clause-written c =
    both c.text_of.result
    (λ text is range. written (program_view c.args.program.now) (derivation_view c.args.derivation.now) (config_view c.args.config) c.args.interfaces (checkpoint_view c.in-Ok.checkpoint) c.in-Ok.ensures.certified
    c.requires.resolved.0 c.requires.resolved.1 c.requires.there c.requires.strings c.checked_laws.ensures.broken c.checked_laws.ensures.aligned c.strings_law.ensures c.lines_law.ensures.plain c.text_is_read_law.ensures.read range text.items is)
    c.text_of.ensures.text c.text_of.ensures.range

pub returns-in-Ok-clause-unshown : goal.returns-in-Ok-clause-unshown
returns-in-Ok-clause-unshown c =
    nothing_said (program_view c.args.program.now) (derivation_view c.args.derivation.now) (config_view c.args.config) c.args.interfaces c.text_of.result c.text_of.ensures.refused

pub returns-in-Err-clause-unshown : goal.returns-in-Err-clause-unshown
returns-in-Err-clause-unshown c =
    c.refusal_of.ensures (program_view c.args.program.now) (derivation_view c.args.derivation.now) (config_view c.args.config) c.args.interfaces c.in-Err.ensures.unshown
