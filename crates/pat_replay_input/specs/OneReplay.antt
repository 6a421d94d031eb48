-- A text is that of one history, and bytes are those of one history of one program, or there is one reason why they aren't.
use Rattle.std.specs.Prelude.{◌≡◌, ℕ, List}
use Rattle.pat_semantics_spec.specs.Programs.{Program}
use Rattle.pat_semantics_spec.specs.Configs.{Config}
use Rattle.pat_semantics_spec.specs.Runs.{Entry}
use Rattle.pat_front.specs.declared.verdict.Verdict.{Verdict}
use Rattle.pat_replay_input.specs.Histories.{HasReplay, Unreplayed, Replays, IsReplayRefusal}

-- from a configuration of the program on
pub record OneText (p : Program) (b : Config) (text : List ℕ) : Type 0 where
  pub same : (es fs : List Entry) (c d : Config) → HasReplay p b text es c → HasReplay p b text fs d → (es ≡ fs) × (c ≡ d)
  pub not_both : (from : ℕ) (es : List Entry) (c : Config) (v : Verdict) → HasReplay p b text es c → Unreplayed p b from text v → ⊥
  pub one_refusal : (from : ℕ) (v w : Verdict) → Unreplayed p b from text v → Unreplayed p b from text w → v ≡ w

pub record OneReplay (bytes : List ℕ) : Type 0 where
  pub same : (p q : Program) (es fs : List Entry) (c d : Config) → Replays bytes p es c → Replays bytes q fs d → (p ≡ q) × (es ≡ fs) × (c ≡ d)
  pub not_both : (p : Program) (es : List Entry) (c : Config) (v : Verdict) → Replays bytes p es c → IsReplayRefusal bytes v → ⊥
  pub one_refusal : (v w : Verdict) → IsReplayRefusal bytes v → IsReplayRefusal bytes w → v ≡ w
