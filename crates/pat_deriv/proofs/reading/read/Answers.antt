use Rattle.std.proofs.Common.{◌≡◌, rules, arith, subst}
use Rattle.std.specs.Prelude.{Some, None}
use Rattle.pat_derivation_text_spec.specs.DerivationText.{marker}
use Rattle.pat_texts_spec.specs.Joined.{cut}
use Rattle.pat_derivation_text_spec.specs.Reading.{NoMarker, first, no_marker}
use Rattle.pat_texts_spec.proofs.Cutting.{CutInPieces, cut_pieces}
use Rattle.pat_deriv.specs.Answers.{FirstGives}
use Rattle.pat_deriv.proofs.reading.read.Goals as goal

pub read_lines-requires-clause-first : goal.read_lines-requires-clause-first
read_lines-requires-clause-first c =
    let cut_is : cut 10 c.args.text.now ≡ Some (marker, c.in-Some.rest.now) = subst (λ r. FirstGives r c.args.text.now) c.in-Some.is c.behind_marker.ensures in
    first cut_is

pub read_lines-requires-clause-within : goal.read_lines-requires-clause-within
read_lines-requires-clause-within c =
    let cut_is : cut 10 c.args.text.now ≡ Some (marker, c.in-Some.rest.now) = subst (λ r. FirstGives r c.args.text.now) c.in-Some.is c.behind_marker.ensures in
    let shorter = (subst (CutInPieces 10 c.args.text.now) cut_is (cut_pieces 10 c.args.text.now)).1 in
    omega (arith, shorter)

pub returns-in-None : goal.returns-in-None
returns-in-None c =
    let none : NoMarker (cut 10 c.args.text.now) = subst (λ r. FirstGives r c.args.text.now) c.in-None.is c.behind_marker.ensures in
    (0, omega arith, no_marker none)
