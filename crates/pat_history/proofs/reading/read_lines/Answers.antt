use Rattle.std.proofs.Common.{◌≡◌, ◌++◌, ◌∷◌, [], rules, arith, subst}
use Rattle.std.specs.Prelude.{Some}
use Rattle.pat_texts_spec.specs.Joined.{cut}
use Rattle.pat_texts_spec.proofs.Cutting.{CutInPieces, cut_pieces}
use Rattle.pat_history.proofs.Lines.{line_read}
use Rattle.pat_history.proofs.reading.read_lines.Goals as goal

pub loop-rest-smaller : goal.loop-rest-smaller
loop-rest-smaller c =
    let cut_is : cut 10 c.loop-rest.rest.now ≡ Some (c.in-Some.line.now, c.in-Some.more.now) = search rules in
    (subst (CutInPieces 10 c.loop-rest.rest.now) cut_is (cut_pieces 10 c.loop-rest.rest.now)).1

pub loop-rest-preserved : goal.loop-rest-preserved
loop-rest-preserved c =
    let cut_is : cut 10 c.loop-rest.rest.now ≡ Some (c.in-Some.line.now, c.in-Some.more.now) = search rules in
    let shorter = (subst (CutInPieces 10 c.loop-rest.rest.now) cut_is (cut_pieces 10 c.loop-rest.rest.now)).1 in
    let grown : c.push.new.self.items ≡ c.loop-rest.entries.items ++ c.in-Some-read_entry.entry ∷ [] = search rules in
    record {
      reads =
          line_read c.args.lines.now c.loop-rest.entries.items c.push.new.self.items c.loop-rest.rest.now c.in-Some.line.now c.in-Some.more.now c.in-Some-read_entry.entry c.read_entry.result c.loop-rest.invariant.reads cut_is c.read_entry.ensures c.in-Some-read_entry.is grown;
      within = omega (arith, shorter, c.loop-rest.invariant.within);
    }
