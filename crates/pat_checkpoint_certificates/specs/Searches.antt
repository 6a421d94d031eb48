-- What certificates are found with.
use Rattle.std.specs.Prelude.{◌≡◌, ℕ, Option, IsTrue}
use Rattle.pat_semantics_spec.specs.Programs.{Program}
use Rattle.pat_semantics_spec.specs.WellFormed.{WellFormed}
use Rattle.pat_inclusion_spec.specs.Values.{Scope, values_fit}
use Rattle.pat_type_system_spec.specs.Typings.{Typing}
use Rattle.pat_type_system_spec.specs.Holdings.{bound_of}
use Rattle.pat_derivation_spec.specs.Derivations.{scope_of, written_typing}
use Rattle.pat_patterns.specs.Views.{patterns_view}
use Rattle.pat_core.specs.Views.{program_view}
use Rattle.pat_derivations.specs.Views.{derivation_view}
use Rattle.pat_certificate_checks.specs.Plain.{all_plain}
use Rattle.pat_checkpoint_certificates.specs.Bounds.{bound_in, listed_at}
use Rattle.pat_checkpoint_certificates.specs.declared.search.Search.{Search}

abbrev pub program_in : Search → Program
program_in s = program_view s.program.now

-- what patterns may speak of
abbrev pub scope_in : Search → Scope
scope_in s = scope_of (program_view s.program.now) (derivation_view s.derivation.now)

-- the types as they are written, with variables
abbrev pub typing_in : Search → Typing
typing_in s = written_typing (program_view s.program.now) (derivation_view s.derivation.now)

-- the bounds of grids
abbrev pub bounds_in : Search → ℕ → Option ℕ
bounds_in s = bound_in (program_view s.program.now)

-- the program is well formed, values are ones that their variables may have, and the rest is made of program and derivation
pub record IsSearch (s : Search) : Type 0 where
  pub well : WellFormed (program_in s)
  pub values : IsTrue (values_fit (scope_in s))
  pub plain : patterns_view s.plain.now ≡ all_plain (derivation_view s.derivation.now).vars
  pub bounds : (i : ℕ) → listed_at s.bounds.now i ≡ bounds_in s i
  pub lets : (b : ℕ) → listed_at s.lets.now b ≡ bound_of (program_in s).nodes b
