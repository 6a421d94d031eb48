-- What the reader answers, against what the text is read as.
use Rattle.std.specs.Prelude.{◌≡◌, ℕ, ◌+◌, List, Option, Some, None, Result, Ok, Err}
use Rattle.std.specs.Borrow.{Bor}
use Rattle.pat_semantics_spec.specs.Programs.{Program}
use Rattle.pat_checkpoint_data.specs.declared.data.Checkpoint.{Checkpoint}
use Rattle.pat_checkpoint_data.specs.Views.{checkpoint_view}
use Rattle.pat_texts_spec.specs.Joined.{cut}
use Rattle.pat_checkpoint_spec.specs.text.CheckpointText.{marker}
use Rattle.pat_checkpoint_spec.specs.text.Reading.{ReadsAs, Unread, NoMarker}
use Rattle.pat_texts.specs.declared.error.TextError.{TextError}
use Rattle.pat_texts.specs.declared.error.TextError.TheVariants.{BadText, NoMemory}

-- what stands behind the first line, or no first line stands here
abbrev pub FirstGives : Option (Bor (List ℕ)) → List ℕ → Type 0
FirstGives (Some rest) text = cut 10 text ≡ Some (marker, rest.now)
FirstGives None text = NoMarker (cut 10 text)

-- the checkpoint that the text is read as, or the first line that isn't read begins there, or memory ran out
abbrev pub Gives : Program → List ℕ → ℕ → Result Checkpoint TextError → Type 0
Gives p text from (Ok x) = ReadsAs p text (checkpoint_view x)
Gives p text from (Err (BadText at)) = (offset : ℕ) × (at ≡ from + offset) × Unread p text offset
Gives p text from (Err NoMemory) = Unit {0}
