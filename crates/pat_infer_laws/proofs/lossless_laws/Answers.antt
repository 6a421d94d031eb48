use Rattle.pat_infer_laws.proofs.Lossless.{broken_untypable, typing_solves, typable_solved}
use Rattle.pat_infer_laws.proofs.lossless_laws.Goals as goal

pub returns : goal.returns
returns c = let unbound = c.environment_laws.ensures.unbound in record { broken = broken_untypable unbound; solves = typing_solves unbound; solved = typable_solved unbound }
