use Rattle.std.proofs.Common.{ℕ, List, subst}
use Rattle.pat_core.specs.declared.program.Program.{Program}
use Rattle.pat_core.specs.Views.{program_view}
use Rattle.pat_derivations.specs.declared.data.Derivation.{Derivation}
use Rattle.pat_semantics_spec.specs.WellFormed.{WellFormed}
use Rattle.pat_type_system_spec.specs.Typings.{IsTypable}
use Rattle.pat_typecheck.specs.declared.inputs.Checked.TheVariants.{Accepted}
use Rattle.pat_typecheck.specs.Checks.{IsChecked}
use Rattle.test_workers.proofs.board.programs.accepted_of.Goals as goal

is_well : (bytes : List ℕ) (p : Program) (d : Derivation) → IsChecked bytes (Accepted p d) → WellFormed (program_view p)
is_well bytes p d is = is.2

is_typable : (bytes : List ℕ) (p : Program) (d : Derivation) → IsChecked bytes (Accepted p d) → IsTypable (program_view p)
is_typable bytes p d is = is.4

pub accepted_by-requires-clause-well : goal.accepted_by-requires-clause-well
accepted_by-requires-clause-well c = is_well c.requires.0 c.in-Accepted.program c.in-Accepted.derivation (subst (IsChecked c.requires.0) c.in-Accepted.is c.requires.1)

pub accepted_by-requires-clause-typable : goal.accepted_by-requires-clause-typable
accepted_by-requires-clause-typable c = is_typable c.requires.0 c.in-Accepted.program c.in-Accepted.derivation (subst (IsChecked c.requires.0) c.in-Accepted.is c.requires.1)
