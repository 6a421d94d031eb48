use Rattle.std.proofs.Common.{◌≡◌, ◌-◌, length, rules, arith, refl, subst}
use Rattle.std.specs.Prelude.{Some, None}
use Rattle.std.proofs.lemmas.Bool.Decides.{nat_tests}
use Rattle.pat_core.specs.Views.{program_view}
use Rattle.pat_texts_spec.specs.Joined.{cut}
use Rattle.pat_texts_spec.proofs.Cutting.{CutInPieces, cut_pieces}
use Rattle.pat_checkpoint_spec.specs.text.LineReading.{with_line}
use Rattle.pat_checkpoint_spec.specs.text.Reading.{another}
use Rattle.pat_checkpoint_text.specs.Gathered.{Grows}
use Rattle.pat_checkpoint_text.proofs.Grown.{unspelled}
use Rattle.pat_checkpoint_text.proofs.Unread.{unread_line, unread_end}
use Rattle.pat_checkpoint_text.proofs.reading.read_lines.Goals as goal

pub loop-rest-smaller : goal.loop-rest-smaller
loop-rest-smaller c =
    let cut_is : cut 10 c.loop-rest.rest.now ≡ Some (c.in-Some.line.now, c.in-Some.more.now) = search rules in
    (subst (CutInPieces 10 c.loop-rest.rest.now) cut_is (cut_pieces 10 c.loop-rest.rest.now)).1

pub loop-rest-preserved : goal.loop-rest-preserved
loop-rest-preserved c =
    let cut_is : cut 10 c.loop-rest.rest.now ≡ Some (c.in-Some.line.now, c.in-Some.more.now) = search rules in
    let shorter = (subst (CutInPieces 10 c.loop-rest.rest.now) cut_is (cut_pieces 10 c.loop-rest.rest.now)).1 in
    let before = c.loop-rest.invariant.read in
    let grown = subst (Grows (with_line (program_view c.args.program.now) before.0 c.in-Some.line.now) c.read_line.new.x) c.in-Ok.is (c.read_line.ensures before.0 before.2) in
    record {
      read = (grown.0, another before.1 cut_is grown.1, grown.2);
      within = omega (arith, shorter, c.loop-rest.invariant.within);
    }

pub returns-in-Err-NotSpelled : goal.returns-in-Err-NotSpelled
returns-in-Err-NotSpelled c =
    let cut_is : cut 10 c.loop-rest.rest.now ≡ Some (c.in-Some.line.now, c.in-Some.more.now) = search rules in
    let before = c.loop-rest.invariant.read in
    let unread = unspelled (with_line (program_view c.args.program.now) before.0 c.in-Some.line.now) c.read_line.new.x c.read_line.result c.in-Err-NotSpelled.field-0 c.in-Err-NotSpelled.is c.in-Err-NotSpelled.field-0-is (c.read_line.ensures before.0 before.2) in
    (length c.args.text.now - length c.loop-rest.rest.now, refl, unread_line (program_view c.args.program.now) c.args.text.now before.0 c.loop-rest.rest.now c.in-Some.line.now c.in-Some.more.now before.1 (grind (arith, nat_tests)) c.loop-rest.invariant.within cut_is unread)

pub returns-in-None : goal.returns-in-None
returns-in-None c =
    let cut_is : cut 10 c.loop-rest.rest.now ≡ None = search rules in
    let before = c.loop-rest.invariant.read in
    (length c.args.text.now - length c.loop-rest.rest.now, refl, unread_end (program_view c.args.program.now) c.args.text.now before.0 c.loop-rest.rest.now before.1 (grind (arith, nat_tests)) c.loop-rest.invariant.within cut_is)
