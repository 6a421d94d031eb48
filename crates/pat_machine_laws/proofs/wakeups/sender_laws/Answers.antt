use Rattle.pat_machine_laws.proofs.Senders.{held_back, found_in_both, open_in_both, enabled_in_both}
use Rattle.pat_machine_laws.proofs.wakeups.sender_laws.Goals as goal

pub returns : goal.returns
returns c = record { held = held_back; found = found_in_both; opens = open_in_both; enabled = enabled_in_both }
