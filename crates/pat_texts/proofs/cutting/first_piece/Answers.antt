use Rattle.std.proofs.Common.{rules, arith, subst, sym}
use Rattle.pat_texts_spec.specs.Joined.{cut}
use Rattle.pat_texts_spec.proofs.Cutting.{CutInPieces, cut_pieces}
use Rattle.std.specs.Prelude.{Some, None}
use Rattle.pat_texts.proofs.cutting.first_piece.Goals as goal

pub returns-in-Some-clause-pieces : goal.returns-in-Some-clause-pieces
returns-in-Some-clause-pieces c =
    (subst (CutInPieces c.args.byte c.args.text.now) {x = cut c.args.byte c.args.text.now} {y = Some (c.in-Some.own.now, c.in-Some.more.now)} (search rules) (cut_pieces c.args.byte c.args.text.now)).0

pub returns-in-Some-clause-shorter : goal.returns-in-Some-clause-shorter
returns-in-Some-clause-shorter c =
    let h = (subst (CutInPieces c.args.byte c.args.text.now) {x = cut c.args.byte c.args.text.now} {y = Some (c.in-Some.own.now, c.in-Some.more.now)} (search rules) (cut_pieces c.args.byte c.args.text.now)).1 in
    omega (arith, h)

pub returns-in-None-clause-pieces : goal.returns-in-None-clause-pieces
returns-in-None-clause-pieces c =
    subst (CutInPieces c.args.byte c.args.text.now) {x = cut c.args.byte c.args.text.now} {y = None} (search rules) (cut_pieces c.args.byte c.args.text.now)
