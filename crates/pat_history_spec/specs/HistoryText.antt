-- The text of a history: a first line, and then a line for each entry.
use Rattle.std.specs.Prelude.{ℕ, List, [], ◌∷◌, ◌++◌, Option, Some, None, codes}
use Rattle.std.specs.List.{flat_map}
use Rattle.std.specs.Fmt.{decimal}
use Rattle.pat_semantics_spec.specs.Steps.{Act, ActLocal, ActNew, ActSend, ActSpawn, ActPrint, ActEnd, ActFree, ActReceive}
use Rattle.pat_semantics_spec.specs.Runs.{Entry}

-- a line ends with a newline
abbrev pub line : List ℕ → List ℕ
line text = text ++ 10 ∷ []

-- with a space between
abbrev pub spaced : List ℕ → List ℕ → List ℕ
spaced first rest = first ++ 32 ∷ rest

-- the word of an entry's shared act; a receive names its message. No entry of a history has a local step there
abbrev pub act_word : Option Act → List ℕ
act_word None = codes "-"
act_word (Some ActLocal) = codes "local"
act_word (Some ActNew) = codes "new"
act_word (Some ActSend) = codes "send"
act_word (Some ActSpawn) = codes "spawn"
act_word (Some ActPrint) = codes "print"
act_word (Some ActEnd) = codes "end"
act_word (Some ActFree) = codes "free"
act_word (Some (ActReceive m)) = spaced (codes "receive") (decimal m)

-- worker, thread, count of local steps, and the shared act
abbrev pub entry_words : Entry → List ℕ
entry_words e = spaced (decimal e.worker) (spaced (decimal e.thread) (spaced (decimal e.local_steps) (act_word e.shared)))

abbrev pub entry_line : Entry → List ℕ
entry_line e = line (entry_words e)

-- the first line
abbrev pub marker : List ℕ
marker = codes "%%history"

abbrev pub history_text : List Entry → List ℕ
history_text entries = line marker ++ flat_map entry_line entries

-- an act whose word says all of it
abbrev pub NamesNoMessage : Act → Type 0
NamesNoMessage (ActReceive m) = ⊥
NamesNoMessage _ = Unit {0}
