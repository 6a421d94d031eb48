use Rattle.test_workers.proofs.board.programs.accepted.Goals as goal

pub check_input-requires : goal.check_input-requires
check_input-requires c = (c.args.text.now, c.in_ok-input.ensures)

pub accepted_of-requires : goal.accepted_of-requires
accepted_of-requires c = (c.args.text.now, c.in_ok-found.ensures c.args.text.now c.in_ok-input.ensures)
