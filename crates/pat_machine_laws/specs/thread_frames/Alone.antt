-- A thread by itself, and what a step of it leaves, put back among the others.
use Rattle.std.specs.Prelude.{◌≡◌, ℕ, ◌+◌, Bool, true, false, nat_eq, List, [], ◌∷◌, ◌++◌}
use Rattle.std.specs.Map.{set_value, remove_entry}
use Rattle.pat_semantics_spec.specs.Configs.{Thread, Config}
use Rattle.pat_semantics_spec.specs.Steps.{Act, ActLocal, ActSpawn, ActPrint, ActEnd}

-- the configuration with this thread alone, no message, and these live mailboxes
abbrev pub alone : Config → ℕ → Thread → List ℕ → Config
alone c t s live = record c { threads = (t, s) ∷ []; messages = []; live = live }

-- the threads with what is left of thread t in its place, and who came behind them; where nothing is left, it ended
abbrev pub put_back : ℕ → List (ℕ × Thread) → List (ℕ × Thread) → List (ℕ × Thread)
put_back t threads [] = remove_entry (nat_eq t) threads
put_back t threads (own ∷ came) = set_value (nat_eq t) threads own.1 ++ came

-- what a step left of thread t alone, put back into the configuration
abbrev pub back : Config → ℕ → Config → Config
back c t d = record d { threads = put_back t c.threads d.threads; messages = c.messages ++ d.messages; live = c.live ++ d.live }

-- what a step leaves of thread t alone, and how many threads were made, where it was n: nothing, or the thread, or it and a newcomer
abbrev pub AreLeft : (t n : ℕ) → List (ℕ × Thread) → (made : ℕ) → Type 0
AreLeft t n [] made = made ≡ n
AreLeft t n (own ∷ []) made = (own.0 ≡ t) × (made ≡ n)
AreLeft t n (own ∷ came ∷ []) made = (own.0 ≡ t) × (came.0 ≡ n) × (made ≡ n + 1)
AreLeft t n (own ∷ came ∷ other ∷ more) made = ⊥

-- an act that looks at no message and makes none, and makes and frees no mailbox
abbrev pub is_beside : Act → Bool
is_beside ActLocal = true
is_beside ActSpawn = true
is_beside ActPrint = true
is_beside ActEnd = true
is_beside _ = false
