use Rattle.pat_safety_laws.proofs.Interfaces.{interfaces_stay, interfaces_join, live_matter}
use Rattle.pat_safety_laws.proofs.preservation.interface_laws.Goals as goal

pub returns : goal.returns
returns c = record { stay = interfaces_stay; join = interfaces_join; live = live_matter }
