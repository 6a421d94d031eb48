use Rattle.pat_infer_laws.proofs.Enough.{solution_types, typable_exactly}
use Rattle.pat_infer_laws.proofs.Least.{least_solves}
use Rattle.pat_infer_laws.proofs.enough_laws.Goals as goal

pub returns : goal.returns
returns c = record { types = solution_types; exactly = typable_exactly c.environment_laws.ensures.unbound; least = least_solves }
