use Rattle.pat_print_laws.proofs.Again.{read_again}
use Rattle.pat_print_laws.proofs.text_round_trip_law.Goals as goal

pub returns : goal.returns
returns c = read_again
