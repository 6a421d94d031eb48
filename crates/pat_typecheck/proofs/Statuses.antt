-- Refusals, by the bytes that they speak of.
use Rattle.std.proofs.Common.{◌≡◌, ◌≤◌, ℕ, List, length, ⊎_elim}
use Rattle.std.specs.Prelude.{◌≢◌}
use Rattle.pat_input.specs.Inputs.{limit}
use Rattle.pat_front.specs.Lines.{line_of_verdict, line_with}
use Rattle.pat_front.specs.Texts.{IsRefusal}
use Rattle.pat_front.specs.declared.reason.Reason.{Reason}
use Rattle.pat_front.specs.declared.verdict.Verdict.{Verdict}
use Rattle.pat_front.specs.declared.verdict.Verdict.TheVariants.{TooLong, Unaccepted}
use Rattle.pat_front.proofs.Refusals.{small}
use Rattle.pat_typecheck.specs.Inputs.{RefusesProgram, IsCheckRefusal}

-- only one verdict is on bytes that are too many
pub refused_small : (bytes line : List ℕ) (v : Verdict) → IsCheckRefusal bytes v line → v ≢ TooLong → length bytes ≤ limit
refused_small bytes line v r other =
    ⊎_elim
    (λ (why : IsRefusal bytes v × (line ≡ line_of_verdict v)). small bytes v why.0 other)
    (λ (why : (r : Reason) × (more : List ℕ) × (v ≡ Unaccepted r) × RefusesProgram bytes r more × (line ≡ line_with v more)). let program = why.3 in program.spelled.tree.small)
    r
