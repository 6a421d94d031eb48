use Rattle.pat_machine_laws.proofs.Opens.{open_exact}
use Rattle.pat_machine_laws.proofs.Ready.{turn_none}
use Rattle.pat_machine_laws.proofs.Firsts.{turn_is}
use Rattle.pat_machine_laws.proofs.commits.turn_laws.Goals as goal

pub returns : goal.returns
returns c = record { opens = open_exact; turns = λ p c limit out last t o h. turn_is p c limit out o last t h; none = turn_none }
