-- What is refused for another reason than being too long is short enough.
use Rattle.std.proofs.Common.{◌≤◌, ◌⊎◌, ℕ, List, length, ⊎_elim}
use Rattle.std.specs.Prelude.{◌≢◌}
use Rattle.pat_history_spec.specs.HistoryText.{marker}
use Rattle.pat_input.specs.Inputs.{whole_limit}
use Rattle.pat_front.specs.declared.verdict.Verdict.{Verdict}
use Rattle.pat_front.specs.declared.verdict.Verdict.TheVariants as verdict
use Rattle.pat_input_split.specs.program_with_text.MarkedPrograms.{IsMarkedRefusal}
use Rattle.pat_input_split.proofs.Small.{refused_small}
use Rattle.pat_replay_input.specs.Histories.{RefusesText, IsReplayRefusal}

pub refusal_small : (bytes : List ℕ) (v : Verdict) → IsReplayRefusal bytes v → v ≢ verdict.TooLong → length bytes ≤ whole_limit
refusal_small bytes v r other =
    ⊎_elim
    (λ (why : IsMarkedRefusal marker bytes v). refused_small marker bytes v why other)
    (λ (why : RefusesText bytes v). why.has.small)
    r
