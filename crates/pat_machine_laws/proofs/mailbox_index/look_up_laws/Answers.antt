use Rattle.pat_machine_laws.proofs.MailboxIndexLookUps.{pending_is_own, any_is_own, own_are_below, live_is_listed, live_ascend as ascending, all_are_counted, own_is_found, place_is_found, found_is_own}
use Rattle.pat_machine_laws.proofs.mailbox_index.look_up_laws.Goals as goal

pub returns : goal.returns
returns c = record { pending = pending_is_own; any = any_is_own; below = own_are_below; live = live_is_listed; live_ascend = ascending; counted = all_are_counted; own = own_is_found; place = place_is_found; mailbox = found_is_own }
