use Rattle.pat_print_laws.proofs.Again.{divides_into}
use Rattle.pat_print_laws.proofs.division_law.Goals as goal

pub returns : goal.returns
returns c = divides_into
