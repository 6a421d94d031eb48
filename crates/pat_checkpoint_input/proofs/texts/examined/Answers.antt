use Rattle.std.proofs.Common.{◌≡◌, Some, sym, ◌∙◌, rules}
use Rattle.pat_core.specs.Views.{program_view}
use Rattle.pat_derivations.specs.Views.{derivation_view}
use Rattle.pat_checkpoint_data.specs.Views.{checkpoint_view}
use Rattle.pat_checkpoint_spec.specs.Checked.{broken_check}
use Rattle.pat_checkpoint_checks.specs.Answers.{check_rule_view}
use Rattle.pat_checkpoint_input.proofs.Giving.{no_room, with_room}
use Rattle.pat_checkpoint_input.proofs.texts.examined.Goals as goal

pub returns-then-not-has_room : goal.returns-then-not-has_room
returns-then-not-has_room c =
    no_room (program_view c.args.program.now) (derivation_view c.args.derivation.now) (checkpoint_view c.args.checkpoint.now) (sym c.has_room.ensures ∙ c.if-not-has_room.true)

pub returns-in-Ok : goal.returns-in-Ok
returns-in-Ok c = (record { valid = c.requires.valid; none = c.in-Ok.ensures }, sym c.has_room.ensures ∙ c.if-not-has_room.false)

pub returns-in-Err-Bad : goal.returns-in-Err-Bad
returns-in-Err-Bad c =
    let broken : broken_check (program_view c.args.program.now) (derivation_view c.args.derivation.now) (checkpoint_view c.args.checkpoint.now) ≡ Some (check_rule_view c.in-Err-Bad.rule) = search rules in
    with_room (program_view c.args.program.now) (derivation_view c.args.derivation.now) (checkpoint_view c.args.checkpoint.now) c.in-Err-Bad.rule (sym c.has_room.ensures ∙ c.if-not-has_room.false) broken
