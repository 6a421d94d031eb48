use Rattle.pat_machine_laws.proofs.Joined.{values_join, envs_join, frames_join}
use Rattle.pat_machine_laws.proofs.refcounts.join_laws.Goals as goal

pub returns : goal.returns
returns c = record { values = values_join; environments = envs_join; frames = frames_join }
