-- Inputs that are the text of a program, and behind it that of a history.
use Rattle.std.specs.Prelude.{◌≡◌, ◌⊎◌, ◌+◌, ℕ, not, List, length, codes, Option, Some, None, if◌then◌else◌}
use Rattle.pat_semantics_spec.specs.Programs.{Program}
use Rattle.pat_semantics_spec.specs.Configs.{Config, start}
use Rattle.pat_semantics_spec.specs.Runs.{Entry, Outcome, EndDone, EndWaiting, replay_from, has_threads, can_step}
use Rattle.pat_machine_spec.specs.Refusals.{IsRefusedAt}
use Rattle.pat_history_spec.specs.HistoryText.{marker}
use Rattle.pat_history_spec.specs.Reading.{ReadsAs, Unread}
use Rattle.pat_input_split.specs.Marked.{IsMarked, IsUnmarked}
use Rattle.pat_input_split.specs.program_with_text.MarkedPrograms.{HasProgram, IsMarkedRefusal}
use Rattle.pat_front.specs.declared.verdict.Verdict.{Verdict}
use Rattle.pat_front.specs.declared.verdict.Verdict.TheVariants as verdict

-- the history stops before the first line `%%output`, if there is one
abbrev pub IsHistoryPart : (text part : List ℕ) → Type 0
IsHistoryPart text part = ((rest : List ℕ) × IsMarked (codes "%%output") text part rest) ⊎ (IsUnmarked (codes "%%output") text × (part ≡ text))

-- how a configuration stands: done, waiting, or none of them, where a thread is left and a step is enabled
abbrev pub standing : Program → Config → Option Outcome
standing p c = if not (has_threads c.threads) then Some EndDone else if not (can_step p c) then Some EndWaiting else None

-- ---- behind a program

-- the text spells the history, which leads from the first configuration to the other
pub record HasReplay (p : Program) (b : Config) (text : List ℕ) (es : List Entry) (c : Config) : Type 0 where
  pub part : List ℕ
  pub own : IsHistoryPart text part
  pub read : ReadsAs part es
  pub replayed : replay_from p b es ≡ Some c

-- a line of the text, of which the first byte has this offset, isn't read; it is the first
pub record HasBadLine (from : ℕ) (text : List ℕ) (at : ℕ) : Type 0 where
  pub part : List ℕ
  pub own : IsHistoryPart text part
  pub offset : ℕ
  pub is : at ≡ from + offset
  pub unread : Unread part offset

-- the text spells a history whose entries before this one replay from the configuration, and this one doesn't: it has no step, or a step that
-- isn't enabled then
pub record HasBadEntry (p : Program) (b : Config) (text : List ℕ) (i : ℕ) : Type 0 where
  pub part : List ℕ
  pub own : IsHistoryPart text part
  pub entries : List Entry
  pub read : ReadsAs part entries
  pub refused : IsRefusedAt p b entries i

-- why the text isn't replayed
abbrev pub Unreplayed : Program → Config → (from : ℕ) → (text : List ℕ) → Verdict → Type 0
Unreplayed p b from text (verdict.BadText o) = HasBadLine from text o
Unreplayed p b from text (verdict.RefusedAt i) = HasBadEntry p b text i
Unreplayed p b from text _ = ⊥

-- ---- whole inputs

-- the bytes are the text of the program, and behind it that of the history, which leads from its start to the configuration
pub record Replays (bytes : List ℕ) (p : Program) (es : List Entry) (c : Config) : Type 0 where
  pub front : List ℕ
  pub text : List ℕ
  pub has : HasProgram marker bytes front text p
  pub leads : HasReplay p (start p) text es c

-- the text behind the program isn't replayed
pub record RefusesText (bytes : List ℕ) (v : Verdict) : Type 0 where
  pub front : List ℕ
  pub text : List ℕ
  pub program : Program
  pub has : HasProgram marker bytes front text program
  pub unreplayed : Unreplayed program (start program) (length front) text v

-- why the bytes are refused
abbrev pub IsReplayRefusal : List ℕ → Verdict → Type 0
IsReplayRefusal bytes v = IsMarkedRefusal marker bytes v ⊎ RefusesText bytes v
