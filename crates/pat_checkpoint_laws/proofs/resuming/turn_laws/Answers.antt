use Rattle.pat_checkpoint_laws.proofs.Commits.{turn_commits}
use Rattle.pat_checkpoint_laws.proofs.Nexts.{next_able, none_able}
use Rattle.pat_checkpoint_laws.proofs.Firsts.{first_none, first_is, locals_are}
use Rattle.pat_checkpoint_laws.proofs.Machines.{turn_is_next}
use Rattle.pat_checkpoint_laws.proofs.TurnsEnd.{turn_takes, turns_unfold, turns_end}
use Rattle.pat_checkpoint_laws.proofs.resuming.turn_laws.Goals as goal

pub returns : goal.returns
returns c = record {
  ends = turns_end;
  commits = turn_commits;
  takes = turn_takes;
  unfolds = turns_unfold;
  acts = λ p c t. (first_is p c t, first_none p c t);
  locals = locals_are;
  machines = λ p c limit last space. turn_is_next p c limit space last;
  able = λ p c last. (next_able p c last, none_able p c last);
}
