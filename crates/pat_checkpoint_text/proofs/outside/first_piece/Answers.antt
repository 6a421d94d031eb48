use Rattle.std.proofs.Common.{rules, arith, subst}
use Rattle.pat_checkpoint_spec.specs.text.Outside.{Outside, cut_outside}
use Rattle.pat_checkpoint_text.proofs.Cuts.{CutInPieces, cut_pieces}
use Rattle.std.specs.Prelude.{Some, None}
use Rattle.pat_checkpoint_text.proofs.outside.first_piece.Goals as goal

pub returns-in-Some-clause-pieces : goal.returns-in-Some-clause-pieces
returns-in-Some-clause-pieces c =
    (subst (CutInPieces Outside c.args.byte c.args.text.now) {x = cut_outside c.args.byte c.args.text.now} {y = Some (c.in-Some.own.now, c.in-Some.more.now)} (search rules) (cut_pieces Outside c.args.byte c.args.text.now)).0

pub returns-in-Some-clause-shorter : goal.returns-in-Some-clause-shorter
returns-in-Some-clause-shorter c =
    let h = (subst (CutInPieces Outside c.args.byte c.args.text.now) {x = cut_outside c.args.byte c.args.text.now} {y = Some (c.in-Some.own.now, c.in-Some.more.now)} (search rules) (cut_pieces Outside c.args.byte c.args.text.now)).1 in
    omega (arith, h)

pub returns-in-None-clause-pieces : goal.returns-in-None-clause-pieces
returns-in-None-clause-pieces c =
    subst (CutInPieces Outside c.args.byte c.args.text.now) {x = cut_outside c.args.byte c.args.text.now} {y = None} (search rules) (cut_pieces Outside c.args.byte c.args.text.now)
