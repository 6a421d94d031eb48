-- A result against the list of all rules that are broken.
use Rattle.std.specs.Prelude.{◌≡◌, List, [], ◌∷◌, Option, Some, None, Result, Ok, Err, option_map}
use Rattle.pat_core.specs.declared.program.Program.{Program}
use Rattle.pat_infer_spec.specs.Constraints.{Finding}
use Rattle.pat_infer_problems.specs.Views.{rule_view, PlacedFinding, placed_finding}
use Rattle.pat_infer_problems.specs.declared.error.InferError.{InferError}
use Rattle.pat_infer_problems.specs.declared.error.InferError.TheVariants.{Untypable, NoMemory}

-- what is found first
abbrev pub first_of : List Finding → Option Finding
first_of [] = None
first_of (x ∷ rest) = Some x

-- what is found first is refused; want of memory claims nothing
abbrev pub Refuses : Program → InferError → List Finding → Type 0
Refuses p (Untypable s r) fs = option_map (placed_finding p) (first_of fs) ≡ Some (record { rule = rule_view r; span = s })
Refuses p NoMemory fs = Unit {0}

-- Ok where nothing is found, and otherwise what is found first; want of memory claims nothing
abbrev pub Meets : {A : Type 0} → Program → Result A InferError → List Finding → Type 0
Meets p (Ok x) fs = first_of fs ≡ None
Meets p (Err e) fs = Refuses p e fs
