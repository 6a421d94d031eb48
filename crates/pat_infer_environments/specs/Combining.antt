-- What the code finds of one variable, against what is combined.
use Rattle.std.specs.Prelude.{◌≡◌, List, [], map, Option, Some, None, option_map, Result, Ok, Err}
use Rattle.std.specs.Borrow.{Bor}
use Rattle.pat_type_system_spec.specs.Types as types
use Rattle.pat_infer_spec.specs.Needs.{Combined, vars_with, constraints_with}
use Rattle.pat_core.specs.declared.program.Program.{Program}
use Rattle.pat_types.specs.Views.{type_view}
use Rattle.pat_types.specs.declared.types.MailboxType.{MailboxType}
use Rattle.pat_infer_problems.specs.Views.{placed_variable, placed_constraint}
use Rattle.pat_infer_problems.specs.Growing.{Grows}
use Rattle.pat_infer_problems.specs.declared.problem.Problem.{Problem}

-- a need behind a reference, if there is one
abbrev pub need_ref : Option (Bor MailboxType) → Option types.MailboxType
need_ref o = option_map (λ a. type_view a.now) o

-- what each branch needs
abbrev pub column_view : List (Option (Bor MailboxType)) → List (Option types.MailboxType)
column_view needs = map need_ref needs

-- the need that is combined, if there is one
abbrev pub combined_need : Option Combined → Option types.MailboxType
combined_need o = option_map (λ c. c.need) o

-- the need is found, and the problem has the variables and constraints that come with it
pub record IsCombined (p : Program) (old new : Problem) (found : Option MailboxType) (o : Option Combined) : Type 0 where
  pub need : option_map type_view found ≡ combined_need o
  pub grows : Grows old new (map (placed_variable p) (vars_with o)) (map (placed_constraint p) (constraints_with o)) []

-- the same, if there is memory
abbrev pub Combines : {E : Type 0} → Program → Problem → Problem → Result (Option MailboxType) E → Option Combined → Type 0
Combines p old new (Ok found) o = IsCombined p old new found o
Combines p old new (Err e) o = Unit {0}
