-- What is refused for another reason than being too long is short enough.
use Rattle.std.proofs.Common.{◌≤◌, ◌⊎◌, ℕ, List, length, ⊎_elim, inl}
use Rattle.std.specs.Prelude.{◌≢◌}
use Rattle.pat_derivation_text_spec.specs.DerivationText.{marker}
use Rattle.pat_input.specs.Inputs.{whole_limit}
use Rattle.pat_input_split.specs.program_with_text.MarkedPrograms.{RefusesBytes}
use Rattle.pat_input_split.proofs.Small.{refused_small}
use Rattle.pat_front.specs.declared.verdict.Verdict.{Verdict}
use Rattle.pat_front.specs.declared.verdict.Verdict.TheVariants as verdict
use Rattle.pat_checkpoint_input.specs.Parts.{RefusesProgram, LacksCheckpoint, IsPartsRefusal}
use Rattle.pat_checkpoint_input.specs.CheckedTexts.{RefusesTexts, IsCheckpointRefusal}

parts_small : (bytes : List ℕ) (v : Verdict) → IsPartsRefusal bytes v → v ≢ verdict.TooLong → length bytes ≤ whole_limit
parts_small bytes v r other =
    ⊎_elim
    (λ (a : RefusesBytes marker bytes v). refused_small marker bytes v (inl a) other)
    (λ (b : RefusesProgram bytes v ⊎ LacksCheckpoint bytes v).
    ⊎_elim (λ (a : RefusesProgram bytes v). let front = a.front in front.small) (λ (a : LacksCheckpoint bytes v). a.small) b)
    r

pub checkpoint_small : (bytes : List ℕ) (v : Verdict) → IsCheckpointRefusal bytes v → v ≢ verdict.TooLong → length bytes ≤ whole_limit
checkpoint_small bytes v r other =
    ⊎_elim
    (λ (a : IsPartsRefusal bytes v). parts_small bytes v a other)
    (λ (a : RefusesTexts bytes v). let has = a.has in has.has.small)
    r
