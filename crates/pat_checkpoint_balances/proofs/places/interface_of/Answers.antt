use Rattle.std.proofs.Common.{◌∙◌}
use Rattle.pat_checkpoint_balances.proofs.Halves.{interface_there, no_interface}
use Rattle.pat_checkpoint_balances.proofs.places.interface_of.Goals as goal

pub returns-in-None : goal.returns-in-None
returns-in-None c = no_interface c.args.live.now c.args.interfaces.now c.args.mailbox c.in-None.ensures.none

pub returns-in-Some : goal.returns-in-Some
returns-in-Some c = c.at_or_zero.ensures ∙ interface_there 0 c.args.live.now c.args.interfaces.now c.in-Some.place c.args.mailbox c.requires c.in-Some.ensures.found
