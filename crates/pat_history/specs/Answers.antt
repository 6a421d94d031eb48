-- What the reader answers, against what the text is read as.
use Rattle.std.specs.Prelude.{◌≡◌, ℕ, ◌+◌, List, Option, Some, None, option_map, map, Result, Ok, Err, Vec}
use Rattle.std.specs.declared.alloc.Global.{Global}
use Rattle.std.specs.Borrow.{Bor}
use Rattle.pat_semantics_spec.specs.Steps.{Act}
use Rattle.pat_reduce.specs.declared.history.Act.{Act as CodeAct}
use Rattle.pat_reduce.specs.declared.history.Entry.{Entry as CodeEntry}
use Rattle.pat_reduce.specs.Views.{act_view, entry_view}
use Rattle.pat_texts_spec.specs.Joined.{cut}
use Rattle.pat_history_spec.specs.HistoryText.{marker}
use Rattle.pat_history_spec.specs.Reading.{ReadsAs, Unread, NoMarker}
use Rattle.pat_texts.specs.declared.error.TextError.{TextError}
use Rattle.pat_texts.specs.declared.error.TextError.TheVariants.{BadText, NoMemory}

-- what stands behind the first line, or no first line stands here
abbrev pub FirstGives : Option (Bor (List ℕ)) → List ℕ → Type 0
FirstGives (Some rest) text = cut 10 text ≡ Some (marker, rest.now)
FirstGives None text = NoMarker (cut 10 text)

-- a shared act that is there or not
abbrev pub shared_view : Option (Option CodeAct) → Option (Option Act)
shared_view o = option_map (λ a. option_map act_view a) o

-- the history that the text is read as, or where its first line begins that isn't read, or memory ran out
abbrev pub Gives : List ℕ → ℕ → Result (Vec CodeEntry Global) TextError → Type 0
Gives text from (Ok es) = ReadsAs text (map entry_view es.items)
Gives text from (Err (BadText at)) = (offset : ℕ) × (at ≡ from + offset) × Unread text offset
Gives text from (Err NoMemory) = Unit {0}
