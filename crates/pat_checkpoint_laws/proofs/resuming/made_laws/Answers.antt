use Rattle.pat_checkpoint_laws.proofs.Made.{along_made, made_join, made_count}
use Rattle.pat_checkpoint_laws.proofs.resuming.made_laws.Goals as goal

pub returns : goal.returns
returns c = record { interfaces = along_made; joins = made_join; counts = made_count }
