use Rattle.pat_machine_laws.proofs.Joined.{over_counts, top_counts}
use Rattle.pat_machine_laws.proofs.Changed.{exchanged_thread, exchanged_top}
use Rattle.pat_machine_laws.proofs.refcounts.exchange_laws.Goals as goal

pub returns : goal.returns
returns c = record { threads = exchanged_thread; over = over_counts; top = top_counts; tops = exchanged_top }
