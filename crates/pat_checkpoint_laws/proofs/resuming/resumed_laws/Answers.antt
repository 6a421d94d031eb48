use Rattle.pat_derivation_spec.specs.Derivations.{typing_of}
use Rattle.pat_checkpoint_spec.specs.Checkpoints.{interface_at}
use Rattle.pat_checkpoint_spec.specs.Resumed.{silent_checkpoint}
use Rattle.pat_checkpoint_laws.proofs.Resumes.{silent_typed, resumed_typed, turns_resume, start_checked}
use Rattle.pat_checkpoint_laws.proofs.resuming.resumed_laws.Goals as goal

pub returns : goal.returns
returns c = record {
  typed = resumed_typed c.checked_laws.ensures.typed c.preservation_laws.ensures.replays c.interface_laws.ensures.live;
  resumes = turns_resume c.checked_laws.ensures.typed c.preservation_laws.ensures.replays c.interface_laws.ensures.live;
  start = start_checked c.preservation_laws.ensures.start c.validity_laws.ensures.typing c.checked_laws.ensures.shown;
  written = λ p d k interfaces mailboxes parts w t.
      c.checked_laws.ensures.stands p d (silent_checkpoint k interfaces mailboxes parts) w (silent_typed p (typing_of p d) (interface_at k.live interfaces) k t);
}
