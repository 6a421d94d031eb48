use Rattle.pat_machine_laws.proofs.Live.{start_names, named_live, next_not_named}
use Rattle.pat_machine_laws.proofs.refcounts.live_laws.Goals as goal

pub returns : goal.returns
returns c = record { start = start_names; live = named_live; next = next_not_named }
