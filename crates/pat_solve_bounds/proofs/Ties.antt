-- The problem's constraints and variables against those that inference finds.
use Rattle.std.proofs.Common.{◌≡◌, ℕ, suc, if◌then◌else◌, List, [], ◌∷◌, refl, sym, ap, ap₂, ◌∙◌}
use Rattle.std.specs.Prelude.{nat_eq, map}
use Rattle.pat_words_spec.specs.Patterns.{Pat, Zero, One, Tag, Sum, Prod, Star, Var}
use Rattle.pat_inclusion_spec.specs.bounds.Assignments as bounds
use Rattle.pat_core.specs.declared.program.Program.{Program}
use Rattle.pat_core.specs.Views.{program_view}
use Rattle.pat_types.specs.Views.{right_form}
use Rattle.pat_type_schemes_spec.specs.Signatures.{Variable}
use Rattle.pat_infer_spec.specs.Constraints as found
use Rattle.pat_infer_spec.specs.Walk.{inferred, all_vars}
use Rattle.pat_infer_problems.specs.Problems.{IsProblemOf}
use Rattle.pat_infer_problems.specs.Views.{PlacedVariable, placed_variable, placed_variable_of, PlacedConstraint, placed_constraint, constraint_view}
use Rattle.pat_infer_problems.specs.declared.problem.Constraint.{Constraint}
use Rattle.pat_infer_problems.specs.declared.problem.VarDecl.{VarDecl}
use Rattle.pat_infer_problems.specs.declared.problem.Problem.{Problem}
use Rattle.pat_solve_spec.specs.LowerBounds.{right_side, sides_of}
use Rattle.pat_solve_spec.specs.Assignments.{vars_in}
use Rattle.pat_solve_bounds.specs.declared.lower_bounds.indexing.Index.{Index}
use Rattle.pat_solve_bounds.specs.lower_bounds.Rows.{numbers}
use Rattle.pat_solve_bounds.specs.lower_bounds.Sides.{form_side, sides_list}
use Rattle.pat_solve_bounds.specs.lower_bounds.Indexes.{IsIndexOf}
use Rattle.pat_solve_bounds.specs.lower_bounds.Laws.{IsIndexed}
use Rattle.pat_solve_bounds.proofs.Numbering.{numbers_map}

pub map_map : {A B C : Type 0} (f : A → B) (g : B → C) (xs : List A) → map g (map f xs) ≡ map (λ x. g (f x)) xs
map_map f g [] = refl
map_map f g (x ∷ xs) = ap (λ r. g (f x) ∷ r) (map_map f g xs)

pub map_as : {A B : Type 0} (f g : A → B) → ((x : A) → f x ≡ g x) → (xs : List A) → map f xs ≡ map g xs
map_as f g same [] = refl
map_as f g same (x ∷ xs) = ap₂ (λ a r. a ∷ r) (same x) (map_as f g same xs)

-- what is seen of both lists through the same view
pub through : {A B P C : Type 0} (f : A → P) (g : B → P) (see : P → C) (xs : List A) (ys : List B) → map f xs ≡ map g ys → map (λ x. see (f x)) xs ≡ map (λ y. see (g y)) ys
through f g see xs ys e = sym (map_map f see xs) ∙ ap (map see) e ∙ map_map g see ys

form_same : (e : Pat) → form_side (right_form e) ≡ right_side e
form_same Zero = refl
form_same One = refl
form_same (Tag m) = refl
form_same (Sum e f) = refl
form_same (Prod e f) = refl
form_same (Star e) = refl
form_same (Var k) = refl

abbrev placed_sides : PlacedConstraint → bounds.Constraint
placed_sides c = record { left = c.left; right = form_side c.right }

vars_numbers : (i n : ℕ) (vs : List Variable) → numbers (λ (v : Variable). nat_eq v.interface i) n vs ≡ vars_in i n vs
vars_numbers i n [] = refl
vars_numbers i n (v ∷ vs) = ap (λ r. if nat_eq v.interface i then n ∷ r else r) (vars_numbers i (suc n) vs)

module _ (p : Program) (q : Problem) (h : IsProblemOf p q) where
  pub sides_same : sides_list q.constraints ≡ map sides_of (inferred (program_view p)).constraints
  sides_same =
      through constraint_view (placed_constraint p) placed_sides q.constraints (inferred (program_view p)).constraints h.constraints
      ∙ map_as (λ d. placed_sides (placed_constraint p d)) sides_of (λ d. ap (λ r. record { left = d.left; right = r }) (form_same d.right)) (inferred (program_view p)).constraints

  pub interfaces_same : map (λ (c : Constraint). c.interface) q.constraints ≡ map (λ (d : found.Constraint). d.interface) (inferred (program_view p)).constraints
  interfaces_same =
      through constraint_view (placed_constraint p) (λ (c : PlacedConstraint). c.interface) q.constraints (inferred (program_view p)).constraints h.constraints

  pub var_interfaces_same : map (λ (v : VarDecl). v.interface) q.vars ≡ map (λ (v : Variable). v.interface) (all_vars (program_view p))
  var_interfaces_same =
      through placed_variable_of (placed_variable p) (λ (v : PlacedVariable). v.interface) q.vars (all_vars (program_view p)) h.vars

  pub constraint_numbers : (i : ℕ) → numbers (λ (c : Constraint). nat_eq c.interface i) 0 q.constraints ≡ numbers (λ (d : found.Constraint). nat_eq d.interface i) 0 (inferred (program_view p)).constraints
  constraint_numbers i =
      numbers_map (λ (c : Constraint). c.interface) (λ j. nat_eq j i) 0 q.constraints
      ∙ ap (numbers (λ j. nat_eq j i) 0) interfaces_same
      ∙ sym (numbers_map (λ (d : found.Constraint). d.interface) (λ j. nat_eq j i) 0 (inferred (program_view p)).constraints)

  pub var_numbers : (i : ℕ) → numbers (λ (v : VarDecl). nat_eq v.interface i) 1 q.vars ≡ vars_in i 1 (all_vars (program_view p))
  var_numbers i =
      numbers_map (λ (v : VarDecl). v.interface) (λ j. nat_eq j i) 1 q.vars
      ∙ ap (numbers (λ j. nat_eq j i) 1) var_interfaces_same
      ∙ sym (numbers_map (λ (v : Variable). v.interface) (λ j. nat_eq j i) 1 (all_vars (program_view p)))
      ∙ vars_numbers i 1 (all_vars (program_view p))

pub indexed : (p : Program) (q : Problem) (x : Index) → IsProblemOf p q → IsIndexOf q x → IsIndexed p q x
indexed p q x h k = record {
  constraints = λ i l. k.constraints i l ∙ constraint_numbers p q h i;
  variables = λ i l. k.variables i l ∙ var_numbers p q h i;
  sides = sides_same p q h;
}
