use Rattle.pat_print_laws.proofs.BareText.{bare_again, of_text}
use Rattle.pat_print_laws.proofs.bare_round_trip_law.Goals as goal

pub returns : goal.returns
returns c = record { again = bare_again; texts = of_text }
