-- What `verify` answers is a command's.
use Rattle.std.proofs.Common.{◌≤◌, ◌⊎◌, ℕ, List, length, ⊎_elim}
use Rattle.std.specs.Prelude.{◌≢◌}
use Rattle.pat_derivation_text_spec.specs.DerivationText.{marker}
use Rattle.pat_input.specs.Inputs.{whole_limit}
use Rattle.pat_input_split.specs.program_with_text.MarkedPrograms.{IsMarkedRefusal}
use Rattle.pat_input_split.proofs.Small.{refused_small}
use Rattle.pat_front.specs.declared.verdict.Verdict.{Verdict}
use Rattle.pat_front.specs.declared.verdict.Verdict.TheVariants as verdict
use Rattle.pat_front.specs.exit_answers.Answers.{IsStatusWithin}
use Rattle.pat_front.specs.declared.exit_answers.status.Status.{Status}
use Rattle.pat_front.specs.declared.exit_answers.status.Status.TheVariants.{Ok, Refused, Usage, ReadFault, WriteFault, NoMemory, Budget, Waiting, Full}
use Rattle.pat_command_verify.specs.Allowed.{AllowedVerify, IsVerifyRefusal, RefusesText}

small_if : (bytes : List ℕ) (v : Verdict) → IsVerifyRefusal bytes v → v ≢ verdict.TooLong → length bytes ≤ whole_limit
small_if bytes v r other =
    ⊎_elim
    (λ (why : IsMarkedRefusal marker bytes v). refused_small marker bytes v why other)
    (λ (why : RefusesText bytes v). why.has.small)
    r

pub verify_status : (bytes text : List ℕ) (s : Status) → AllowedVerify bytes text s → IsStatusWithin whole_limit bytes s
verify_status bytes text Ok a = a.0.has.small
verify_status bytes text (Refused v) a = small_if bytes v a.0
verify_status bytes text Budget a = absurd a
verify_status bytes text Usage a = absurd a
verify_status bytes text ReadFault a = absurd a
verify_status bytes text WriteFault a = absurd a
verify_status bytes text NoMemory a = absurd a
verify_status bytes text Waiting a = absurd a
verify_status bytes text Full a = absurd a
