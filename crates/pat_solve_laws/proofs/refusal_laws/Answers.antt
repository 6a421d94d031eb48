use Rattle.pat_solve_laws.proofs.Apart.{interfaces_apart}
use Rattle.pat_solve_laws.proofs.Untypable.{refuted_untypable, large_untypable}
use Rattle.pat_solve_laws.proofs.InterfacesThere.{interfaces_there}
use Rattle.pat_solve_laws.proofs.refusal_laws.Goals as goal

pub returns : goal.returns
returns c = record { refuted = refuted_untypable c.environment_laws.ensures.unbound; large = large_untypable c.environment_laws.ensures.unbound; apart = interfaces_apart c.found_laws.ensures.fits; there = interfaces_there }
