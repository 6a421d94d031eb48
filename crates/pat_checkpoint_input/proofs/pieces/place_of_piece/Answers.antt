use Rattle.pat_history_spec.specs.HistoryText.{marker}
use Rattle.pat_checkpoint_input.proofs.pieces.place_of_piece.Goals as goal

pub returns-in-None-clause-none : goal.returns-in-None-clause-none
returns-in-None-clause-none c = λ head history piece. (c.split_law.ensures marker c.args.bytes.now).not_both head history piece.marked c.in-None.ensures.unmarked
