-- The places of interfaces by their names.
use Rattle.std.specs.Prelude.{◌≡◌, ◌<◌, ℕ, List, Option, option_map, map, length, bytes_eq}
use Rattle.std.specs.Borrow.{Bor}
use Rattle.std.specs.Map.{lookup}
use Rattle.pat_semantics_spec.specs.Programs as programs
use Rattle.pat_core.specs.declared.program.Interface.{Interface}
use Rattle.pat_core.specs.Views.{interface_view}
use Rattle.pat_derivation_text_spec.specs.LineReading.{found}

-- the first place of a name
abbrev pub first_place : List ℕ → List programs.Interface → Option ℕ
first_place x is = option_map (λ f. f.0) (found x is)

-- what a table has for a name
abbrev pub known_place : List ℕ → List (Bor (List ℕ) × ℕ) → Option ℕ
known_place x entries = lookup (λ k. bytes_eq x k.now) entries

-- a table has the first place of each name, and nothing else
abbrev pub IsTable : List Interface → List (Bor (List ℕ) × ℕ) → Type 0
IsTable is entries = (x : List ℕ) → known_place x entries ≡ first_place x (map interface_view is)

-- more interfaces than are looked through are in the table
abbrev pub Known : List Interface → List (Bor (List ℕ) × ℕ) → Type 0
Known is entries = 16 < length is → IsTable is entries
