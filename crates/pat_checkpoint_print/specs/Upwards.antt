-- Frames from the bottom up, as a text has them.
use Rattle.std.specs.Prelude.{ℕ, List, Option}
use Rattle.std.specs.List.{flat_map}
use Rattle.pat_semantics_spec.specs.Configs.{Frame}
use Rattle.pat_inclusion_spec.specs.Certificates.{Cert}
use Rattle.pat_checkpoint_spec.specs.text.Lines.{frame_lines}
use Rattle.pat_checkpoint_spec.specs.text.CheckpointText.{line, frame_text}

-- the lines of frames that stand from the bottom up
abbrev pub frames_upwards : List Frame → List (Option Cert) → List ℕ
frames_upwards fs certs = flat_map (λ f. line (frame_text f)) (frame_lines fs certs)
