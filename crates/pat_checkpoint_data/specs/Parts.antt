-- Certificates of the parts of a thread.
use Rattle.std.specs.Prelude.{List, Option, None, replicate}
use Rattle.pat_derivations.specs.declared.data.Cert.{Cert}
use Rattle.pat_checkpoint_data.specs.declared.part_certs.Held.{Held}
use Rattle.pat_checkpoint_data.specs.declared.part_certs.Held.TheVariants.{Bare, Certified}

-- its control's, and those of its frames, the next one first
pub record PartCerts : Type 0 where
  pub control : Option Cert
  pub frames : List (Option Cert)

abbrev pub held_view : Held → PartCerts
held_view (Bare count) = record { control = None; frames = replicate count None }
held_view (Certified certified) = record { control = certified.value.control; frames = certified.value.frames }
