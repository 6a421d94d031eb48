-- What is answered of bytes, and of parts of them.
use Rattle.std.specs.Prelude.{◌≡◌, ◌+◌, ℕ, List, map, Result, Some}
use Rattle.std.specs.declared.result.Result.TheVariants.{Ok, Err}
use Rattle.pat_semantics_spec.specs.Programs.{Program}
use Rattle.pat_semantics_spec.specs.Configs.{Config}
use Rattle.pat_semantics_spec.specs.Runs.{Entry, replay_from}
use Rattle.pat_semantics_laws.specs.Laws.{history_steps}
use Rattle.pat_core.specs.Views.{program_view}
use Rattle.pat_reduce.specs.Views.{config_view, entry_view}
use Rattle.pat_machine_spec.specs.Refusals.{IsRefusedAt}
use Rattle.pat_checkpoint_spec.specs.Resumed.{made_along}
use Rattle.pat_replay.specs.declared.error.ReplayError.{ReplayError}
use Rattle.pat_replay.specs.declared.error.ReplayError.TheVariants as replay_error
use Rattle.pat_history_spec.specs.Reading.{ReadsAs, Unread}
use Rattle.pat_front.specs.declared.front.FrontError.{FrontError}
use Rattle.pat_front.specs.declared.front.FrontError.TheVariants as error
use Rattle.pat_front.specs.declared.verdict.Verdict.{Verdict}
use Rattle.pat_front.specs.declared.verdict.Verdict.TheVariants as verdict
use Rattle.pat_replay_input.specs.declared.histories.Replayed.{Replayed}
use Rattle.pat_replay_input.specs.Histories.{HasReplay, Unreplayed, Replays, IsReplayRefusal}

-- the program, the history and the configuration of the bytes, or why they are refused; want of memory says nothing
abbrev pub BytesGive : List ℕ → Result Replayed FrontError → Type 0
BytesGive bytes (Ok r) = Replays bytes (program_view r.code.program) (map entry_view r.entries.items) (config_view r.config)
BytesGive bytes (Err (error.Refused v)) = IsReplayRefusal bytes v
BytesGive bytes (Err error.NoMemory) = Unit {0}

-- the same of the text behind a program, from a configuration on
abbrev pub TextGives : Program → Config → (from : ℕ) → (text : List ℕ) → Result Replayed FrontError → Type 0
TextGives p b from text (Ok r) = (program_view r.code.program ≡ p) × HasReplay p b text (map entry_view r.entries.items) (config_view r.config)
TextGives p b from text (Err (error.Refused v)) = Unreplayed p b from text v
TextGives p b from text (Err error.NoMemory) = Unit {0}

-- why what is looked at of a text isn't replayed: a line of it isn't read, or an entry is refused
abbrev pub RefusesPart : Program → Config → (from : ℕ) → (part : List ℕ) → Verdict → Type 0
RefusesPart p b from part (verdict.BadText o) = (offset : ℕ) × (o ≡ from + offset) × Unread part offset
RefusesPart p b from part (verdict.RefusedAt i) = (es : List Entry) × ReadsAs part es × IsRefusedAt p b es i
RefusesPart p b from part _ = ⊥

abbrev pub PartGives : Program → Config → (from : ℕ) → (part : List ℕ) → Result Replayed FrontError → Type 0
PartGives p b from part (Ok r) =
    (program_view r.code.program ≡ p) × ReadsAs part (map entry_view r.entries.items) × (replay_from p b (map entry_view r.entries.items) ≡ Some (config_view r.config))
PartGives p b from part (Err (error.Refused v)) = RefusesPart p b from part v
PartGives p b from part (Err error.NoMemory) = Unit {0}

-- the interfaces of the mailboxes that the history makes, from a configuration on
abbrev pub Makes : Program → Config → Replayed → Type 0
Makes p b r = r.made ≡ made_along p b (history_steps (map entry_view r.entries.items))

-- what is said where a history isn't replayed
abbrev pub refusal_of : ReplayError → FrontError
refusal_of (replay_error.RefusedAt i) = error.Refused (verdict.RefusedAt i)
refusal_of replay_error.NoMemory = error.NoMemory
