-- The text of a run, with its history, what it printed, and how it ended; and that of a history that was replayed.
use Rattle.std.specs.Prelude.{ℕ, nat_eq, List, [], ◌∷◌, ◌++◌, length, codes, Option, Some, None, if◌then◌else◌}
use Rattle.std.specs.List.{flat_map}
use Rattle.std.specs.Map.{keys_of}
use Rattle.std.specs.Fmt.{decimal}
use Rattle.pat_semantics_spec.specs.Configs.{Config}
use Rattle.pat_semantics_spec.specs.Runs.{Entry, Outcome, EndDone, EndWaiting, EndFull, EndBudget, step_count}
use Rattle.pat_history_spec.specs.HistoryText.{line, spaced, history_text}

-- a line that was printed
abbrev pub output_line : List ℕ → List ℕ
output_line printed = line (codes "out " ++ printed)

abbrev pub output_text : List (List ℕ) → List ℕ
output_text printed = line (codes "%%output") ++ flat_map output_line printed

-- the numbers of threads, each after a space
abbrev pub numbers_text : List ℕ → List ℕ
numbers_text threads = flat_map (λ n. 32 ∷ decimal n) threads

-- how many mailboxes are left, where some are
abbrev pub left_text : ℕ → List ℕ
left_text n = if nat_eq n 0 then [] else spaced (codes " left") (decimal n)

-- the outcome after so many steps; where the run waits, with the threads that are left, and where it is done, with how many mailboxes are live
abbrev pub outcome_text : Outcome → (steps : ℕ) → (threads : List ℕ) → (live : ℕ) → List ℕ
outcome_text EndDone steps threads live = spaced (codes "done") (decimal steps) ++ left_text live
outcome_text EndWaiting steps threads live = spaced (codes "waiting") (decimal steps) ++ numbers_text threads
outcome_text EndFull steps threads live = spaced (codes "full") (decimal steps)
outcome_text EndBudget steps threads live = spaced (codes "budget") (decimal steps)

-- the same, or that a thread can go on
abbrev pub standing_text : Option Outcome → (steps : ℕ) → (threads : List ℕ) → (live : ℕ) → List ℕ
standing_text (Some o) steps threads live = outcome_text o steps threads live
standing_text None steps threads live = spaced (codes "open") (decimal steps)

-- the text of a run: its history, its output and its outcome
abbrev pub run_text : List Entry → Config → Outcome → List ℕ
run_text entries c o = history_text entries ++ output_text c.printed ++ line (outcome_text o (step_count entries) (keys_of c.threads) (length c.live))

-- the text of a replay: the lines that were printed, and how it stands after the history
abbrev pub replay_text : List Entry → Config → Option Outcome → List ℕ
replay_text entries c o = flat_map output_line c.printed ++ line (standing_text o (step_count entries) (keys_of c.threads) (length c.live))

-- the text of a history in order: the history, its output, and how it stands
abbrev pub order_text : List Entry → Config → Option Outcome → List ℕ
order_text entries c o = history_text entries ++ output_text c.printed ++ line (standing_text o (step_count entries) (keys_of c.threads) (length c.live))
