-- What `order` may answer.
use Rattle.std.specs.Prelude.{◌≡◌, ◌≤◌, ◌<◌, ◌⊎◌, ℕ, List, Some, length}
use Rattle.pat_semantics_spec.specs.Programs.{Program}
use Rattle.pat_semantics_spec.specs.Configs.{Config}
use Rattle.pat_semantics_spec.specs.Runs.{Entry, replay, step_count}
use Rattle.pat_causal_spec.specs.Reordered.{IsReordered}
use Rattle.pat_replay_input.specs.RunText.{order_text}
use Rattle.pat_front.specs.Lines.{line_of_verdict}
use Rattle.pat_front.specs.declared.verdict.Verdict.{Verdict}
use Rattle.pat_front.specs.declared.verdict.Verdict.TheVariants as verdict
use Rattle.pat_front.specs.declared.exit_answers.status.Status.{Status}
use Rattle.pat_front.specs.declared.exit_answers.status.Status.TheVariants.{Ok, Refused}
use Rattle.pat_replay_input.specs.Histories.{standing, Replays, IsReplayRefusal}
use Rattle.pat_limits.specs.Limits.{most_entries}

-- the bytes are the text of a program, and behind it that of a history that replays; exchanges of independent neighbours bring its
-- entries into order, and they still lead to the same; and this is their text, what was printed, and how it stands
pub record IsOrdered (bytes out : List ℕ) : Type 0 where
  pub program : Program
  pub entries : List Entry
  pub config : Config
  pub replays : Replays bytes program entries config
  pub few : length entries ≤ most_entries
  pub ordered : List Entry
  pub places : List ℕ
  pub reordered : IsReordered entries ordered places
  pub same : replay program ordered ≡ Some config
  pub steps : step_count ordered ≡ step_count entries
  pub shown : out ≡ order_text ordered config (standing program config)

-- the history replays, and has more entries than are brought into order
pub record HasTooMany (bytes : List ℕ) : Type 0 where
  pub program : Program
  pub entries : List Entry
  pub config : Config
  pub replays : Replays bytes program entries config
  pub many : most_entries < length entries

-- why the bytes are refused
abbrev pub IsOrderRefusal : List ℕ → Verdict → Type 0
IsOrderRefusal bytes v = IsReplayRefusal bytes v ⊎ ((v ≡ verdict.TooManyEntries) × HasTooMany bytes)

-- the text and the status of `order` on these bytes
abbrev pub AllowedOrder : List ℕ → List ℕ → Status → Type 0
AllowedOrder bytes out Ok = IsOrdered bytes out
AllowedOrder bytes out (Refused v) = IsOrderRefusal bytes v × (out ≡ line_of_verdict v)
AllowedOrder bytes out _ = ⊥
