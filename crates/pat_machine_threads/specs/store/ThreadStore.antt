-- A configuration whose threads stand in a table.
use Rattle.std.specs.Prelude.{◌≡◌, ℕ, List, [], ◌∷◌, Option, Some, None}
use Rattle.pat_semantics_spec.specs.Values.{Const, UnitConst}
use Rattle.pat_semantics_spec.specs.Configs.{Thread, Config, Returned}
use Rattle.pat_semantics_spec.specs.Steps.{thread_of}
use Rattle.pat_reduce.specs.declared.config.Config.{Config as CodeConfig}
use Rattle.pat_reduce.specs.Views.{config_view, threads_view}
use Rattle.pat_machine_threads.specs.table.Entries.{Threads}

-- the configuration with the threads of the table
abbrev pub placed_view : CodeConfig → Threads → Config
placed_view c table = record (config_view c) { threads = threads_view table.entries }

-- no thread is there besides, and as many were made
pub record IsPlaced (c : CodeConfig) (table : Threads) : Type 0 where
  pub none : c.threads ≡ []
  pub made : table.made ≡ c.next_thread

-- what stands in the place of a thread that is moved out
abbrev pub hollow : Thread
hollow = thread_of (Returned (Const UnitConst)) []

-- what there is, as a list
abbrev pub in_list : {A : Type 0} → Option A → List A
in_list None = []
in_list (Some x) = x ∷ []

-- what there is, with its number, as a list
abbrev pub numbered : {A : Type 0} → ℕ → Option A → List (ℕ × A)
numbered n None = []
numbered n (Some x) = (n, x) ∷ []
