use Rattle.std.proofs.Common.{sym, subst}
use Rattle.std.specs.Prelude.{◌<◌, length, IfOk}
use Rattle.std.specs.List.{AllByRecursion}
use Rattle.pat_core.specs.Views.{program_view}
use Rattle.pat_derivations.specs.Views.{derivation_view}
use Rattle.pat_reduce.specs.Views.{config_view}
use Rattle.pat_checkpoint.specs.Certified.{CanBeCertified}
use Rattle.pat_command_checkpoint.specs.Allowed.{AnswersAt}
use Rattle.pat_command_checkpoint.proofs.Leading.{resolved, valid, certified, there, strings, piece_answered}
use Rattle.pat_command_checkpoint.proofs.pieces.answer_led.Goals as goal

pub written-requires-clause-resolved : goal.written-requires-clause-resolved
written-requires-clause-resolved c = let given = c.requires.1 in resolved c.requires.0 _ _ given.from _ _ given.replays

pub written-requires-clause-valid : goal.written-requires-clause-valid
written-requires-clause-valid c = let given = c.requires.1 in valid c.requires.0 _ _ given.from _ _ given.replays

pub written-requires-clause-typed : goal.written-requires-clause-typed
written-requires-clause-typed c =
    let r = c.args.piece in
    let given = c.requires.1 in
    subst (CanBeCertified (program_view r.replayed.code.program) (derivation_view r.derivation) (config_view r.replayed.config)) (sym given.interfaces)
    (certified c.requires.0 _ _ given.from _ _ given.replays c.resumed_laws.ensures.typed)

pub written-requires-clause-there : goal.written-requires-clause-there
written-requires-clause-there c =
    let r = c.args.piece in
    let given = c.requires.1 in
    subst (AllByRecursion (λ i. i < length (program_view r.replayed.code.program).interfaces)) (sym given.interfaces)
    (there c.requires.0 _ _ given.from _ _ given.replays c.replayed_law.ensures.there)

pub written-requires-clause-strings : goal.written-requires-clause-strings
written-requires-clause-strings c = let given = c.requires.1 in strings c.requires.0 _ _ given.from _ _ given.replays c.replayed_law.ensures.strings

pub returns : goal.returns
returns c = λ bytes gives.
    let r = c.args.piece in
    let own = subst (λ l. IfOk c.written.result (λ a. AnswersAt (program_view r.replayed.code.program) (derivation_view r.derivation) (config_view r.replayed.config) l a.text.items a.status)) gives.interfaces c.written.ensures in
    piece_answered bytes _ _ gives.from _ _ gives.replays c.written.result c.checked_laws.ensures.safe own
