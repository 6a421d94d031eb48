use Rattle.pat_print_laws.proofs.RoundTrip.{spelled_again}
use Rattle.pat_print_laws.proofs.round_trip_law.Goals as goal

pub returns : goal.returns
returns c = spelled_again
