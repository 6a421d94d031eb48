-- A result against the list of all that is found.
use Rattle.std.specs.Prelude.{◌≡◌, List, [], ◌∷◌, Option, Some, None, Result, Ok, Err}
use Rattle.pat_resolver_spec.specs.Findings.{Finding}
use Rattle.pat_resolver_heads.specs.results.Views.{finding_view}
use Rattle.pat_resolver_heads.specs.declared.results.error.ResolveError.{ResolveError}
use Rattle.pat_resolver_heads.specs.declared.results.error.ResolveError.TheVariants.{Broken, NoMemory}

-- what is found first
abbrev pub first_of : List Finding → Option Finding
first_of [] = None
first_of (x ∷ rest) = Some x

-- what is found first is refused; want of memory claims nothing
abbrev pub Refuses : ResolveError → List Finding → Type 0
Refuses (Broken k s) fs = first_of fs ≡ Some (finding_view k s)
Refuses NoMemory fs = Unit {0}

-- Ok where nothing is found, and otherwise what is found first; want of memory claims nothing
abbrev pub Meets : {A : Type 0} → Result A ResolveError → List Finding → Type 0
Meets (Ok x) fs = first_of fs ≡ None
Meets (Err e) fs = Refuses e fs
