use Rattle.pat_machine_laws.proofs.Tells.{tells_both, thread_tells, message_tells}
use Rattle.pat_machine_laws.proofs.Alone.{alone_counts, alone_test}
use Rattle.pat_machine_laws.proofs.refcounts.test_laws.Goals as goal

pub returns : goal.returns
returns c = record { threads = λ a s. tells_both (thread_tells a s); messages = λ a m. tells_both (message_tells a m); alone = alone_counts; test = alone_test }
