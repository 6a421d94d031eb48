-- What `replay` answers is a command's.
use Rattle.std.proofs.Common.{◌≤◌, ◌⊎◌, ℕ, List, length, ⊎_elim}
use Rattle.std.specs.Prelude.{◌≢◌}
use Rattle.pat_semantics_spec.specs.Programs.{Program}
use Rattle.pat_semantics_spec.specs.Configs.{Config}
use Rattle.pat_semantics_spec.specs.Runs.{Entry}
use Rattle.pat_input.specs.Inputs.{whole_limit}
use Rattle.pat_front.specs.declared.verdict.Verdict.{Verdict}
use Rattle.pat_front.specs.declared.verdict.Verdict.TheVariants as verdict
use Rattle.pat_front.specs.exit_answers.Answers.{IsStatusWithin}
use Rattle.pat_front.specs.declared.exit_answers.status.Status.{Status}
use Rattle.pat_front.specs.declared.exit_answers.status.Status.TheVariants.{Ok, Refused, Usage, ReadFault, WriteFault, NoMemory, Budget, Waiting, Full}
use Rattle.pat_replay_input.specs.Histories.{Replays, IsReplayRefusal}
use Rattle.pat_replay_input.proofs.Small.{refusal_small}
use Rattle.pat_checkpoint_input.specs.Pieces.{IsNoPiece, RefusesPiece}
use Rattle.pat_command_replay.specs.Pieces.{GoesOnFrom, ReplaysInput, IsInputRefusal}
use Rattle.pat_command_replay.specs.Allowed.{AllowedReplay}

input_small : (bytes : List ℕ) (p : Program) (es : List Entry) (c : Config) → ReplaysInput bytes p es c → length bytes ≤ whole_limit
input_small bytes p es c a =
    ⊎_elim (λ (h : Replays bytes p es c). h.has.small) (λ (h : GoesOnFrom bytes p es c). h.replays.piece.small) a

small_if : (bytes : List ℕ) (v : Verdict) → IsInputRefusal bytes v → v ≢ verdict.TooLong → length bytes ≤ whole_limit
small_if bytes v r other =
    ⊎_elim
    (λ (a : IsNoPiece bytes × IsReplayRefusal bytes v). refusal_small bytes v a.1 other)
    (λ (a : RefusesPiece bytes v). a.piece.small)
    r

pub replay_status : (bytes out : List ℕ) (s : Status) → AllowedReplay bytes out s → IsStatusWithin whole_limit bytes s
replay_status bytes out Ok a = input_small bytes a.program a.entries a.config a.replays
replay_status bytes out (Refused v) a = small_if bytes v a.0
replay_status bytes out Budget a = absurd a
replay_status bytes out Waiting a = absurd a
replay_status bytes out Full a = absurd a
replay_status bytes out Usage a = absurd a
replay_status bytes out ReadFault a = absurd a
replay_status bytes out WriteFault a = absurd a
replay_status bytes out NoMemory a = absurd a
