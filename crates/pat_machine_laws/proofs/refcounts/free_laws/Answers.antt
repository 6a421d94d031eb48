use Rattle.pat_machine_laws.proofs.Freed.{freed_unframed, counts_tell, counts_tell_without_top}
use Rattle.pat_machine_laws.proofs.refcounts.free_laws.Goals as goal

pub returns : goal.returns
returns c = record { frames = freed_unframed; each = counts_tell; top = counts_tell_without_top }
