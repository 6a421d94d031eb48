use Rattle.std.proofs.Common.{◌≡◌, arith, subst}
use Rattle.std.specs.Prelude.{Some}
use Rattle.pat_texts_spec.specs.Joined.{cut}
use Rattle.pat_texts_spec.proofs.Cutting.{CutInPieces, cut_pieces}
use Rattle.pat_checkpoint_spec.specs.text.CheckpointText.{marker}
use Rattle.pat_checkpoint_spec.specs.text.Reading.{NoMarker, no_marker}
use Rattle.pat_checkpoint_text.specs.Answers.{FirstGives}
use Rattle.pat_checkpoint_text.proofs.reading.read.Goals as goal

pub read_body-requires-clause-first : goal.read_body-requires-clause-first
read_body-requires-clause-first c = subst (λ r. FirstGives r c.args.text.now) c.in-Some.is c.behind_marker.ensures

pub read_body-requires-clause-within : goal.read_body-requires-clause-within
read_body-requires-clause-within c =
    let cut_is : cut 10 c.args.text.now ≡ Some (marker, c.in-Some.body.now) = subst (λ r. FirstGives r c.args.text.now) c.in-Some.is c.behind_marker.ensures in
    (subst (CutInPieces 10 c.args.text.now) cut_is (cut_pieces 10 c.args.text.now)).1

pub returns-in-None : goal.returns-in-None
returns-in-None c =
    let none : NoMarker (cut 10 c.args.text.now) = subst (λ r. FirstGives r c.args.text.now) c.in-None.is c.behind_marker.ensures in
    (0, omega arith, no_marker none)
