-- What `checkpoint` answers is a command's.
use Rattle.std.proofs.Common.{◌≡◌, ◌≤◌, ◌⊎◌, ℕ, List, length, ⊎_elim, arith}
use Rattle.std.specs.Prelude.{◌≢◌}
use Rattle.pat_input.specs.Inputs.{limit, whole_limit}
use Rattle.pat_front.specs.Lines.{line_of_verdict}
use Rattle.pat_front.specs.declared.verdict.Verdict.{Verdict}
use Rattle.pat_front.specs.declared.verdict.Verdict.TheVariants.{TooLong, Unshown}
use Rattle.pat_front.specs.exit_answers.Answers.{IsStatusWithin}
use Rattle.pat_front.specs.declared.exit_answers.status.Status.{Status}
use Rattle.pat_front.specs.declared.exit_answers.status.Status.TheVariants.{Ok, Refused, Usage, ReadFault, WriteFault, NoMemory, Budget, Waiting, Full}
use Rattle.pat_typecheck.specs.Inputs.{IsCheckRefusal}
use Rattle.pat_typecheck.proofs.Statuses.{refused_small}
use Rattle.pat_checkpoint_input.specs.Pieces.{IsNoPiece, RefusesPiece}
use Rattle.pat_command_checkpoint.specs.Allowed.{IsUnshownRun, IsRunRefusal, IsWrittenRun, IsWrittenPiece, IsUnshownPiece, IsPieceRefusal, IsWritten, IsCheckpointRefusal, AllowedCheckpoint}

run_small : (steps : ℕ) (bytes out : List ℕ) (v : Verdict) → IsRunRefusal steps bytes v out → v ≢ TooLong → length bytes ≤ limit
run_small steps bytes out v r other =
    ⊎_elim
    (λ (why : IsCheckRefusal bytes v out). refused_small bytes out v why other)
    (λ (why : (n : ℕ) × (v ≡ Unshown n) × IsUnshownRun steps bytes n × (out ≡ line_of_verdict v)). let shown = why.2 in shown.0.spelled.tree.small)
    r

piece_small : (bytes out : List ℕ) (v : Verdict) → IsPieceRefusal bytes v out → length bytes ≤ whole_limit
piece_small bytes out v r =
    ⊎_elim
    (λ (why : RefusesPiece bytes v). why.piece.small)
    (λ (why : (n : ℕ) × (v ≡ Unshown n) × IsUnshownPiece bytes n). let unshown = why.2 in unshown.leads.replays.piece.small)
    r.0

small_if : (steps : ℕ) (bytes out : List ℕ) (v : Verdict) → IsCheckpointRefusal steps bytes v out → v ≢ TooLong → length bytes ≤ whole_limit
small_if steps bytes out v r other =
    ⊎_elim
    (λ (why : IsNoPiece bytes × IsRunRefusal steps bytes v out). let few = run_small steps bytes out v why.1 other in omega (arith, few))
    (λ (why : IsPieceRefusal bytes v out). piece_small bytes out v why)
    r

pub written_small : (steps : ℕ) (bytes out : List ℕ) → IsWritten steps bytes out → length bytes ≤ whole_limit
written_small steps bytes out w =
    ⊎_elim
    (λ (own : IsNoPiece bytes × IsWrittenRun steps bytes out). let run = own.1 in let few = run.0.spelled.tree.small in omega (arith, few))
    (λ (own : IsWrittenPiece bytes out). let leads = own.leads in leads.replays.piece.small)
    w

pub checkpoint_status : (steps : ℕ) (bytes out : List ℕ) (s : Status) → AllowedCheckpoint steps bytes out s → IsStatusWithin whole_limit bytes s
checkpoint_status steps bytes out Ok a = written_small steps bytes out a
checkpoint_status steps bytes out (Refused v) a = small_if steps bytes out v a
checkpoint_status steps bytes out Usage a = absurd a
checkpoint_status steps bytes out ReadFault a = absurd a
checkpoint_status steps bytes out WriteFault a = absurd a
checkpoint_status steps bytes out NoMemory a = absurd a
checkpoint_status steps bytes out Budget a = absurd a
checkpoint_status steps bytes out Waiting a = absurd a
checkpoint_status steps bytes out Full a = absurd a
