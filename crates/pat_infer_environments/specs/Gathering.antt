-- What is needed by several parts, variable by variable, against what is gathered.
use Rattle.std.specs.Prelude.{◌≡◌, ℕ, List, [], ◌∷◌, map, Option, Some, None, Result, Ok, Err}
use Rattle.pat_type_system_spec.specs.Types as types
use Rattle.pat_type_schemes_spec.specs.NodeTypes.{Needs, need_of}
use Rattle.pat_infer_spec.specs.Needs.{gather, Gathered}
use Rattle.pat_infer_spec.specs.Branches.{branches}
use Rattle.pat_core.specs.declared.program.Program.{Program}
use Rattle.pat_types.specs.Views.{needs_view}
use Rattle.pat_types.specs.declared.types.MailboxType.{MailboxType}
use Rattle.pat_infer_problems.specs.Views.{placed_variable, placed_constraint}
use Rattle.pat_infer_problems.specs.Growing.{Grows}
use Rattle.pat_infer_problems.specs.declared.problem.Problem.{Problem}
use Rattle.pat_infer_environments.specs.variables.Names.{names_of_outer}

-- the need of a name, if there is one
abbrev pub need_here : ℕ → Option types.MailboxType → Needs
need_here x None = []
need_here x (Some a) = (x, a) ∷ []

-- the needs are found, and the problem has the variables and constraints that come with them
pub record IsGathered (p : Program) (old new : Problem) (found : List (ℕ × MailboxType)) (g : Gathered) : Type 0 where
  pub needs : needs_view found ≡ g.needs
  pub grows : Grows old new (map (placed_variable p) g.vars) (map (placed_constraint p) g.constraints) []

-- the same, if there is memory
abbrev pub Gathers : {E : Type 0} → Program → Problem → Problem → Result (List (ℕ × MailboxType)) E → Gathered → Type 0
Gathers p old new (Ok found) g = IsGathered p old new found g
Gathers p old new (Err e) g = Unit {0}

-- ---- branches, by what each needs beside its own names

-- what each branch needs of a variable
abbrev pub column_at : ℕ → List Needs → List (Option types.MailboxType)
column_at x all = map (λ needs. need_of needs x) all

-- all variables
abbrev pub outer_gathered : ℕ → ℕ → List Needs → Gathered
outer_gathered n k all = gather (λ j z. branches n j z (column_at z all)) k (names_of_outer all)
