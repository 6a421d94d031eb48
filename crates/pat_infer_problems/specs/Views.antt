-- What the definitions see of problems and refusals, with places in the text.
use Rattle.std.specs.Prelude.{ℕ, List, map}
use Rattle.pat_words_spec.specs.Patterns.{Pat}
use Rattle.pat_semantics_spec.specs.Programs.{Polarity}
use Rattle.pat_syntax.specs.declared.span.Span.{Span}
use Rattle.pat_core.specs.declared.program.Program.{Program}
use Rattle.pat_primitives.specs.Views.{polarity_view}
use Rattle.pat_patterns.specs.Views.{pattern_view}
use Rattle.pat_type_schemes_spec.specs.Signatures.{Variable}
use Rattle.pat_types.specs.Views.{RightForm, right_form, right_view}
use Rattle.pat_infer_spec.specs.Constraints as found
use Rattle.pat_infer_problems.specs.Places.{place_of, origin_place}
use Rattle.pat_infer_problems.specs.declared.error.Rule.{Rule}
use Rattle.pat_infer_problems.specs.declared.error.Rule.TheVariants as rule
use Rattle.pat_infer_problems.specs.declared.problem.VarDecl.{VarDecl}
use Rattle.pat_infer_problems.specs.declared.problem.Constraint.{Constraint}

abbrev pub rule_view : Rule → found.Rule
rule_view rule.Alias = found.AliasRule
rule_view rule.Order = found.OrderRule
rule_view rule.Double = found.DoubleRule
rule_view rule.Branch = found.BranchRule
rule_view rule.Payload = found.PayloadRule
rule_view rule.Covers = found.CoversRule
rule_view rule.Unused = found.UnusedRule
rule_view rule.Polarity = found.PolarityRule
rule_view rule.Second = found.SecondRule

-- ---- variables

-- a variable of patterns, and where it arises
pub record PlacedVariable : Type 0 where
  pub interface : ℕ
  pub polarity : Polarity
  pub span : Span

abbrev pub placed_variable : Program → Variable → PlacedVariable
placed_variable p v = record { interface = v.interface; polarity = v.polarity; span = origin_place p v.origin }

abbrev pub placed_variable_of : VarDecl → PlacedVariable
placed_variable_of v = record { interface = v.interface; polarity = polarity_view v.polarity; span = v.span }

-- ---- constraints

-- a constraint, and where it is
pub record PlacedConstraint : Type 0 where
  pub interface : ℕ
  pub left : Pat
  pub right : RightForm
  pub span : Span

abbrev pub placed_constraint_of : ℕ → Pat → RightForm → Span → PlacedConstraint
placed_constraint_of i e f s = record { interface = i; left = e; right = f; span = s }

abbrev pub placed_constraint : Program → found.Constraint → PlacedConstraint
placed_constraint p c = placed_constraint_of c.interface c.left (right_form c.right) (place_of p c.at)

abbrev pub constraint_view : Constraint → PlacedConstraint
constraint_view c = placed_constraint_of c.interface (pattern_view c.left) (right_view c.right) c.span

-- ---- broken rules

-- a broken rule, and where it is broken
pub record PlacedFinding : Type 0 where
  pub rule : found.Rule
  pub span : Span

abbrev pub placed_finding : Program → found.Finding → PlacedFinding
placed_finding p x = record { rule = x.rule; span = place_of p x.at }
