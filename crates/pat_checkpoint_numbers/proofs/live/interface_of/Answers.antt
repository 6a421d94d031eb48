use Rattle.std.proofs.Common.{sym, ◌∙◌}
use Rattle.pat_checkpoint_numbers.proofs.Halved.{beside, not_there}
use Rattle.pat_checkpoint_numbers.proofs.live.interface_of.Goals as goal

pub returns-in-None : goal.returns-in-None
returns-in-None c = sym (not_there c.args.live.now c.args.interfaces.now c.args.mailbox c.in-None.ensures.none)

pub returns-in-Some : goal.returns-in-Some
returns-in-Some c = c.number_at.ensures ∙ sym (beside c.args.live.now c.args.interfaces.now c.in-Some.place c.args.mailbox c.requires c.in-Some.ensures.some)
