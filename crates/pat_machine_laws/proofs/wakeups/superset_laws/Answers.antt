use Rattle.pat_machine_laws.proofs.Supersets.{found_among_those, found_in_list, open_in_list, enabled_in_list}
use Rattle.pat_machine_laws.proofs.wakeups.superset_laws.Goals as goal

pub returns : goal.returns
returns c = record { those = found_among_those; list = found_in_list; opens = open_in_list; enabled = enabled_in_list }
