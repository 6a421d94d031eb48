use Rattle.std.proofs.Common.{◌≡◌, rules, arith, subst}
use Rattle.std.specs.Prelude.{Some}
use Rattle.pat_texts_spec.specs.Joined.{cut}
use Rattle.pat_texts_spec.proofs.Cutting.{CutInPieces, cut_pieces}
use Rattle.pat_history_spec.specs.HistoryText.{marker}
use Rattle.pat_history.specs.Answers.{FirstGives}
use Rattle.pat_history.proofs.reading.read.Goals as goal

pub read_lines-requires-clause-within : goal.read_lines-requires-clause-within
read_lines-requires-clause-within c =
    let cut_is : cut 10 c.args.text.now ≡ Some (marker, c.in-Some.rest.now) = subst (λ r. FirstGives r c.args.text.now) c.in-Some.is c.behind_marker.ensures in
    let shorter = (subst (CutInPieces 10 c.args.text.now) cut_is (cut_pieces 10 c.args.text.now)).1 in
    omega (arith, shorter)
