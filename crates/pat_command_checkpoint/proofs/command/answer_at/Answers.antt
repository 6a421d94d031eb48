use Rattle.pat_core.specs.Views.{program_view}
use Rattle.pat_derivations.specs.Views.{derivation_view}
use Rattle.pat_command_checkpoint.proofs.Answering.{can_be_certified, strings_spelled, in_parts, answered_at}
use Rattle.pat_command_checkpoint.proofs.command.answer_at.Goals as goal

pub written-requires-clause-typed : goal.written-requires-clause-typed
written-requires-clause-typed c =
    let p = program_view c.args.program.now in
    let d = derivation_view c.args.derivation.now in
    let k = c.requires.reached in
    let parts = c.into_parts-entries.ensures in
    can_be_certified p d k.0 _ _ _ _ (in_parts p d k.0 c.args.resumed _ _ parts.config parts.interfaces k.1)

pub written-requires-clause-there : goal.written-requires-clause-there
written-requires-clause-there c =
    let p = program_view c.args.program.now in
    let d = derivation_view c.args.derivation.now in
    let k = c.requires.reached in
    let resolved = c.requires.resolved.1 in
    let parts = c.into_parts-entries.ensures in
    c.started_law.ensures p d k.0 _ _ _ _ resolved.well_formed (in_parts p d k.0 c.args.resumed _ _ parts.config parts.interfaces k.1)

pub written-requires-clause-strings : goal.written-requires-clause-strings
written-requires-clause-strings c =
    let p = program_view c.args.program.now in
    let d = derivation_view c.args.derivation.now in
    let k = c.requires.reached in
    let r = c.requires.resolved in
    let parts = c.into_parts-entries.ensures in
    strings_spelled p d k.0 _ _ _ _ (in_parts p d k.0 c.args.resumed _ _ parts.config parts.interfaces k.1) r.0 r.1

pub returns : goal.returns
returns c = λ steps reached.
    let p = program_view c.args.program.now in
    let d = derivation_view c.args.derivation.now in
    let parts = c.into_parts-entries.ensures in
    answered_at p d steps _ _ _ _ (in_parts p d steps c.args.resumed _ _ parts.config parts.interfaces reached) c.written.result c.written.ensures
