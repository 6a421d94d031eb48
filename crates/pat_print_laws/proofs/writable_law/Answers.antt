use Rattle.pat_print_laws.proofs.Writable.{writable}
use Rattle.pat_print_laws.proofs.writable_law.Goals as goal

pub returns : goal.returns
returns c = writable
