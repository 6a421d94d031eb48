use Rattle.std.proofs.Common.{ap, ◌∙◌}
use Rattle.std.specs.Prelude.{is_ok}
use Rattle.pat_machine_laws.specs.refcounts.Counting.{count_at}
use Rattle.pat_replay.proofs.Walks.{padded_if}
use Rattle.pat_replay.proofs.counting.add_mailbox.Goals as goal

pub returns : goal.returns
returns c = λ a. ap (λ l. count_at l a) c.push.ensures.items ∙ padded_if (is_ok c.push.result) c.args.times.now.items a
