-- Needs that are gathered name by name: what is gathered, and what is still to come.
use Rattle.std.proofs.Common.{◌≡◌, ℕ, ◌+◌, List, [], ◌∷◌, ◌++◌, map, length, Option, Some, None, refl, sym, ap, ◌∙◌, subst, arith}
use Rattle.std.specs.Prelude.{option_map}
use Rattle.std.proofs.lemmas.List.{append-nil, append_assoc, map-append, length-append, length-map}
use Rattle.pat_type_system_spec.specs.Types as types
use Rattle.pat_type_schemes_spec.specs.NodeTypes.{Needs}
use Rattle.pat_type_schemes_spec.specs.Signatures.{Variable}
use Rattle.pat_infer_spec.specs.Constraints.{Constraint}
use Rattle.pat_infer_spec.specs.Needs.{Combined, vars_with, constraints_with, need_before, gather, Gathered}
use Rattle.pat_core.specs.declared.program.Program.{Program}
use Rattle.pat_types.specs.Views.{type_view, needs_view, node_type_view}
use Rattle.pat_types.specs.declared.types.MailboxType.{MailboxType}
use Rattle.pat_infer_problems.specs.Views.{PlacedVariable, PlacedConstraint, placed_variable, placed_variable_of, placed_constraint, constraint_view}
use Rattle.pat_infer_problems.specs.Growing.{Grows}
use Rattle.pat_infer_problems.specs.declared.problem.Problem.{Problem}
use Rattle.pat_infer_problems.proofs.Joining.{grown}
use Rattle.pat_infer_environments.specs.Combining.{IsCombined, combined_need}
use Rattle.pat_infer_environments.specs.Gathering.{IsGathered, need_here}

-- what is gathered so far, with what the names that are left give, numbered from k, is what all names give
pub record Gathering (p : Program) (f : ℕ → ℕ → Option Combined) (old now : Problem) (found : List (ℕ × MailboxType)) (all left : List ℕ) (k : ℕ) : Type 0 where
  pub needs : needs_view found ++ (gather f k left).needs ≡ (gather f (1 + length old.vars) all).needs
  pub vars : map placed_variable_of now.vars ++ map (placed_variable p) (gather f k left).vars ≡ map placed_variable_of old.vars ++ map (placed_variable p) (gather f (1 + length old.vars) all).vars
  pub constraints : map constraint_view now.constraints ++ map (placed_constraint p) (gather f k left).constraints ≡ map constraint_view old.constraints ++ map (placed_constraint p) (gather f (1 + length old.vars) all).constraints
  pub nodes : map node_type_view now.nodes ≡ map node_type_view old.nodes

abbrev pub StillToGather : Program → (ℕ → ℕ → Option Combined) → Problem → Problem → List (ℕ × MailboxType) → List ℕ → List ℕ → Type 0
StillToGather p f old now found all left = Gathering p f old now found all left (1 + length now.vars)

pub at_first : (p : Program) (f : ℕ → ℕ → Option Combined) (old : Problem) (all : List ℕ) → StillToGather p f old old [] all all
at_first p f old all = record { needs = refl; vars = refl; constraints = refl; nodes = refl }

-- the need of a name stands before those of the others
here_before : (x : ℕ) (o : Option Combined) (needs : Needs) → need_before x o needs ≡ need_here x (combined_need o) ++ needs
here_before x None needs = refl
here_before x (Some c) needs = refl

-- one name more
pub one_more : (p : Program) (f : ℕ → ℕ → Option Combined) (old now next : Problem) (found more : List (ℕ × MailboxType)) (need : Option MailboxType) (all left : List ℕ) (x : ℕ) → StillToGather p f old now found all (x ∷ left) → IsCombined p now next need (f (1 + length now.vars) x) → needs_view more ≡ needs_view found ++ need_here x (option_map type_view need) → StillToGather p f old next more all left
one_more p f old now next found more need all left x s c e =
    let o : Option Combined = f (1 + length now.vars) x in
    let k : ℕ = 1 + length now.vars + length (vars_with o) in
    let number : k ≡ 1 + length next.vars = sym (grown p now next (vars_with o) (map (placed_constraint p) (constraints_with o)) [] c.grows) in
    subst (λ n. Gathering p f old next more all left n) number (record {
      needs =
          ap (λ zs. zs ++ (gather f k left).needs) (e ∙ ap (λ w. needs_view found ++ need_here x w) c.need)
          ∙ append_assoc (needs_view found) (need_here x (combined_need o)) (gather f k left).needs
          ∙ ap (λ zs. needs_view found ++ zs) (sym (here_before x o (gather f k left).needs))
          ∙ s.needs;
      vars =
          ap (λ zs. zs ++ map (placed_variable p) (gather f k left).vars) c.grows.vars
          ∙ append_assoc (map placed_variable_of now.vars) (map (placed_variable p) (vars_with o)) (map (placed_variable p) (gather f k left).vars)
          ∙ ap (λ zs. map placed_variable_of now.vars ++ zs) (sym (map-append (placed_variable p) (vars_with o) (gather f k left).vars))
          ∙ s.vars;
      constraints =
          ap (λ zs. zs ++ map (placed_constraint p) (gather f k left).constraints) c.grows.constraints
          ∙ append_assoc (map constraint_view now.constraints) (map (placed_constraint p) (constraints_with o)) (map (placed_constraint p) (gather f k left).constraints)
          ∙ ap (λ zs. map constraint_view now.constraints ++ zs) (sym (map-append (placed_constraint p) (constraints_with o) (gather f k left).constraints))
          ∙ s.constraints;
      nodes = c.grows.nodes ∙ s.nodes;
    })

-- no name is left
pub at_last : (p : Program) (f : ℕ → ℕ → Option Combined) (old now : Problem) (found : List (ℕ × MailboxType)) (all : List ℕ) → StillToGather p f old now found all [] → IsGathered p old now found (gather f (1 + length old.vars) all)
at_last p f old now found all s = record {
  needs = sym (append-nil (needs_view found)) ∙ s.needs;
  grows = record {
    vars = sym (append-nil (map placed_variable_of now.vars)) ∙ s.vars;
    constraints = sym (append-nil (map constraint_view now.constraints)) ∙ s.constraints;
    nodes = s.nodes;
  };
}
