use Rattle.pat_semantics_laws.proofs.Replays.{runs_join, replays_join, replay_runs, runs_replay}
use Rattle.pat_semantics_laws.proofs.replay_laws.Goals as goal

pub returns : goal.returns
returns c = record {
  runs = runs_join;
  replays = replays_join;
  replay = λ p c d es. (replay_runs p c d es, λ h. runs_replay p c d es h.0 h.1);
}
