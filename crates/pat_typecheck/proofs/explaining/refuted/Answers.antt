use Rattle.std.proofs.Common.{◌≡◌, ◌<◌, length, Some, sym, ap, ◌∙◌, arith}
use Rattle.std.specs.Prelude.{option_copied, slice_get}
use Rattle.std.proofs.lemmas.List.{length-map}
use Rattle.pat_bags.specs.Views.{word_of}
use Rattle.pat_core.specs.Views.{interface_view, program_view}
use Rattle.pat_typecheck.proofs.Told.{refuted_there, refuted_interface, refuted_reason}
use Rattle.pat_typecheck.proofs.explaining.refuted.Goals as goal

pub refuted_words-requires-clause-there : goal.refuted_words-requires-clause-there
refuted_words-requires-clause-there c =
    let p = program_view c.args.program.now in
    let at : slice_get c.args.problem.now.constraints c.args.number ≡ Some c.in-Some.constraint.now = sym c.constraint_at.ensures ∙ ap option_copied c.in-Some.is in
    let there : c.in-Some.constraint.now.interface < length p.interfaces =
    refuted_interface c.args.program.now c.args.problem.now c.requires.problem c.requires.enough.clean (c.refusal_laws.ensures.there p c.requires.well) c.args.number c.in-Some.constraint.now (word_of c.args.word.now) c.requires.refuted at in
    let long = length-map c.args.program.now.interfaces interface_view in
    omega (arith, there, long)

pub unreachable-requires : goal.unreachable-requires
unreachable-requires c =
    refuted_there c.args.program.now c.args.problem.now c.requires.problem c.requires.enough.clean c.args.number (word_of c.args.word.now) c.requires.refuted (sym c.constraint_at.ensures ∙ ap option_copied c.in-None.is)

pub returns : goal.returns
returns c =
    let at : slice_get c.args.problem.now.constraints c.args.number ≡ Some c.in-Some.constraint.now = sym c.constraint_at.ensures ∙ ap option_copied c.in-Some.is in
    refuted_reason c.args.program.now c.args.problem.now c.requires.problem c.requires.enough.clean c.args.number c.in-Some.constraint.now (word_of c.args.word.now) c.in_ok-more-in-Some.more.items c.requires.refuted at c.in_ok-more-in-Some.ensures
