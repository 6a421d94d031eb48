use Rattle.std.proofs.Common.{◌≡◌, ◌-◌, length, rules, arith, refl, subst, sym}
use Rattle.std.specs.Prelude.{Some, None}
use Rattle.pat_texts_spec.specs.Joined.{cut}
use Rattle.pat_texts_spec.proofs.Cutting.{CutInPieces, cut_pieces}
use Rattle.pat_core.specs.Views.{program_view}
use Rattle.pat_checkpoint_spec.specs.text.LineReading.{read_next}
use Rattle.pat_checkpoint_spec.specs.text.Reading.{NoNext, first}
use Rattle.pat_checkpoint_text.specs.Views.{next_view}
use Rattle.pat_checkpoint_text.proofs.Unread.{unread_next}
use Rattle.pat_checkpoint_text.proofs.reading.read_body.Goals as goal

pub read_lines-requires-clause-read : goal.read_lines-requires-clause-read
read_lines-requires-clause-read c =
    let cut_is : cut 10 c.args.body.now ≡ Some (c.in-Some.line.now, c.in-Some.rest.now) = search rules in
    let next_is : read_next c.in-Some.line.now ≡ Some (next_view c.in-Ok.next) = search rules in
    (next_view c.in-Ok.next, first c.requires.first cut_is next_is, c.start.ensures)

pub read_lines-requires-clause-within : goal.read_lines-requires-clause-within
read_lines-requires-clause-within c =
    let cut_is : cut 10 c.args.body.now ≡ Some (c.in-Some.line.now, c.in-Some.rest.now) = search rules in
    let shorter = (subst (CutInPieces 10 c.args.body.now) cut_is (cut_pieces 10 c.args.body.now)).1 in
    omega (arith, shorter, c.requires.within)

pub returns-in-Err-NotSpelled : goal.returns-in-Err-NotSpelled
returns-in-Err-NotSpelled c =
    let cut_is : cut 10 c.args.body.now ≡ Some (c.in-Some.line.now, c.in-Some.rest.now) = search rules in
    let next_is : read_next c.in-Some.line.now ≡ None = search rules in
    (length c.args.text.now - length c.args.body.now, refl, unread_next (program_view c.args.program.now) c.args.text.now c.args.body.now c.requires.first c.requires.within (subst NoNext (sym cut_is) next_is))

pub returns-in-None : goal.returns-in-None
returns-in-None c =
    let cut_is : cut 10 c.args.body.now ≡ None = search rules in
    (length c.args.text.now - length c.args.body.now, refl, unread_next (program_view c.args.program.now) c.args.text.now c.args.body.now c.requires.first c.requires.within (subst NoNext (sym cut_is) tt))
