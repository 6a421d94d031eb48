use Rattle.pat_machine_laws.proofs.Calls.{others_stay, sleepers_called}
use Rattle.pat_machine_laws.proofs.WakeupsTops.{top_lets_go}
use Rattle.pat_machine_laws.proofs.wakeups.sleeper_laws.Goals as goal

pub returns : goal.returns
returns c = record { stay = others_stay; call = sleepers_called; top = top_lets_go }
