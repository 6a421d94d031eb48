-- What the code's checkpoints are in the definitions.
use Rattle.std.specs.Prelude.{map, Option, option_map}
use Rattle.pat_inclusion_spec.specs.Certificates as certificates
use Rattle.pat_derivations.specs.declared.data.Cert.{Cert}
use Rattle.pat_derivations.specs.Views.{cert_view}
use Rattle.pat_reduce.specs.Views.{config_view}
use Rattle.pat_checkpoint_spec.specs.Checkpoints as checkpoints
use Rattle.pat_checkpoint_data.specs.Parts.{PartCerts}
use Rattle.pat_checkpoint_data.specs.declared.data.Checkpoint.{Checkpoint}

-- a certificate, if there is one
abbrev pub end_view : Option Cert → Option certificates.Cert
end_view o = option_map cert_view o

-- those of a thread's parts
abbrev pub part_certs_view : PartCerts → checkpoints.PartCerts
part_certs_view k = record { control = end_view k.control; frames = map end_view k.frames }

abbrev pub checkpoint_view : Checkpoint → checkpoints.Checkpoint
checkpoint_view x = record {
  config = config_view x.config;
  interfaces = x.interfaces;
  mailbox_certs = map end_view x.mailbox_certs;
  part_certs = map part_certs_view x.part_certs;
}
