use Rattle.pat_machine_laws.proofs.Runs.{commit_runs, commit_within, commit_shared}
use Rattle.pat_machine_laws.proofs.Idle.{idle_still, still_idle}
use Rattle.pat_machine_laws.proofs.CommitsTops.{top_runs, top_keeps_frame}
use Rattle.pat_machine_laws.proofs.Belows.{shares_on_top}
use Rattle.pat_machine_laws.proofs.commits.commit_laws.Goals as goal

pub returns : goal.returns
returns c = record {
  runs = λ p allowance limit c d e j. (commit_runs p allowance limit c d e j, commit_within p allowance limit c d e j, commit_shared p allowance limit c d e j);
  idle = λ p allowance limit c d e j some. (idle_still p allowance limit c d e j some, still_idle p allowance limit c d e j some);
  tops = top_runs;
  frame = top_keeps_frame;
  shares = shares_on_top;
}
