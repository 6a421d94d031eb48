use Rattle.pat_machine_laws.proofs.Runs.{commit_stands}
use Rattle.pat_machine_laws.proofs.Takings.{start_stands, ready_stands, give_back_stands, give_all_stands}
use Rattle.pat_machine_laws.proofs.Rooms.{room_of}
use Rattle.pat_machine_laws.proofs.commits.machine_laws.Goals as goal

pub returns : goal.returns
returns c = record {
  start = start_stands;
  take = λ p budget limit c es left out t n s ready some less. ready_stands p budget limit c es left out s t n ready some less;
  give_back = λ p budget limit c es left out t n s is. give_back_stands p budget limit c es left out s t n is;
  give_back_all = give_all_stands;
  commit = commit_stands;
  numbers = room_of;
}
