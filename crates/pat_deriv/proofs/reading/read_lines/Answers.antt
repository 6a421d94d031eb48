use Rattle.std.proofs.Common.{◌≡◌, ◌-◌, length, rules, arith, refl, subst}
use Rattle.std.specs.Prelude.{Some, None}
use Rattle.std.proofs.lemmas.Bool.Decides.{nat_tests}
use Rattle.pat_core.specs.Views.{program_view}
use Rattle.pat_derivations.specs.Views.{derivation_view}
use Rattle.pat_texts_spec.specs.Joined.{cut}
use Rattle.pat_derivation_text_spec.specs.LineReading.{with_line}
use Rattle.pat_derivation_text_spec.specs.Reading.{another}
use Rattle.pat_texts_spec.proofs.Cutting.{CutInPieces, cut_pieces}
use Rattle.pat_deriv.proofs.Unread.{unread_line, unread_end}
use Rattle.pat_deriv.proofs.reading.read_lines.Goals as goal

pub loop-rest-smaller : goal.loop-rest-smaller
loop-rest-smaller c =
    let cut_is : cut 10 c.loop-rest.rest.now ≡ Some (c.in-Some.line.now, c.in-Some.more.now) = search rules in
    (subst (CutInPieces 10 c.loop-rest.rest.now) cut_is (cut_pieces 10 c.loop-rest.rest.now)).1

pub loop-rest-preserved : goal.loop-rest-preserved
loop-rest-preserved c =
    let cut_is : cut 10 c.loop-rest.rest.now ≡ Some (c.in-Some.line.now, c.in-Some.more.now) = search rules in
    let shorter = (subst (CutInPieces 10 c.loop-rest.rest.now) cut_is (cut_pieces 10 c.loop-rest.rest.now)).1 in
    let line_is : with_line (program_view c.args.names.now.program.now) (derivation_view c.loop-rest.d) c.in-Some.line.now ≡ Some (derivation_view c.read_line.new.d) = search rules in
    record {
      reads = another c.loop-rest.invariant.reads cut_is line_is;
      within = omega (arith, shorter, c.loop-rest.invariant.within);
    }

pub returns-in-Err-NotSpelled : goal.returns-in-Err-NotSpelled
returns-in-Err-NotSpelled c =
    let cut_is : cut 10 c.loop-rest.rest.now ≡ Some (c.in-Some.line.now, c.in-Some.more.now) = search rules in
    let line_is : with_line (program_view c.args.names.now.program.now) (derivation_view c.loop-rest.d) c.in-Some.line.now ≡ None = search rules in
    (length c.args.text.now - length c.loop-rest.rest.now, refl, unread_line (program_view c.args.names.now.program.now) c.args.text.now (derivation_view c.loop-rest.d) c.loop-rest.rest.now c.in-Some.line.now c.in-Some.more.now c.loop-rest.invariant.reads (grind (arith, nat_tests)) c.loop-rest.invariant.within cut_is line_is)

pub returns-in-None : goal.returns-in-None
returns-in-None c =
    let cut_is : cut 10 c.loop-rest.rest.now ≡ None = search rules in
    (length c.args.text.now - length c.loop-rest.rest.now, refl, unread_end (program_view c.args.names.now.program.now) c.args.text.now (derivation_view c.loop-rest.d) c.loop-rest.rest.now c.loop-rest.invariant.reads (grind (arith, nat_tests)) c.loop-rest.invariant.within cut_is)
