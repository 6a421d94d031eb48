use Rattle.std.proofs.Common.{take, drop, sym, subst}
use Rattle.pat_history_spec.specs.HistoryText.{marker}
use Rattle.pat_checkpoint_input.specs.Parts.{HasMarks}
use Rattle.pat_checkpoint_input.proofs.pieces.piece_at.Goals as goal

pub returns-then-not-has_marks-clause-none : goal.returns-then-not-has_marks-clause-none
returns-then-not-has_marks-clause-none c = λ head history piece.
    let bytes = c.args.bytes.now in
    let same = (c.split_law.ensures marker bytes).same (take c.args.at bytes) head (drop c.args.at bytes) history c.requires.marked piece.marked in
    c.has_marks.ensures.lacks c.if-not-has_marks.true (subst HasMarks (sym same.0) piece.marks)

pub returns-clause-piece : goal.returns-clause-piece
returns-clause-piece c = record { small = c.requires.small; marked = c.requires.marked; marks = c.has_marks.ensures.has c.if-not-has_marks.false }
