use Rattle.pat_machine_laws.proofs.Committed.{step_counts, shared_step_keeps_frames, commit_counts}
use Rattle.pat_machine_laws.proofs.refcounts.commit_laws.Goals as goal

pub returns : goal.returns
returns c = record { step = step_counts; frames = shared_step_keeps_frames; commit = commit_counts }
