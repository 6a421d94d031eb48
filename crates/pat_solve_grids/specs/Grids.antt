-- The grids of an interface of a program, and what is found of its constraints.
use Rattle.std.specs.Prelude.{◌≡◌, ℕ, ◌<◌, ◌≤◌, length, Some, None, IsTrue, IsFalse}
use Rattle.pat_words_spec.specs.Words.{Word}
use Rattle.pat_words_spec.specs.Patterns.{is_closed}
use Rattle.pat_semantics_spec.specs.Programs.{Program}
use Rattle.pat_bags.specs.Views.{word_of}
use Rattle.pat_inclusion_spec.specs.bounds.Trees.{Bound, tree_size}
use Rattle.pat_inclusion_spec.specs.bounds.Searches.{Refutes, IsInside, IsFound, IsLarge}
use Rattle.pat_inclusion_spec.specs.bounds.LeastGrids.{AreLeastPoints}
use Rattle.pat_infer_spec.specs.Constraints.{Constraint}
use Rattle.pat_infer_spec.specs.Walk.{all_vars}
use Rattle.pat_witnesses.specs.declared.search.Refutation.{Refutation}
use Rattle.pat_witnesses.specs.Views.{bound_view}
use Rattle.pat_solve_spec.specs.LowerBounds.{lowers_of, lowers_in}
use Rattle.pat_solve_spec.specs.Assignments.{vars_in}
use Rattle.pat_solve_spec.specs.Answers.{tags_of, grid_bound, IsConstraint}
use Rattle.pat_solve_grids.specs.declared.entry.InterfaceGrids.{InterfaceGrids}
use Rattle.pat_solve_grids.specs.Points.{points_by}
use Rattle.pat_limits.specs.Limits.{most_tree_nodes}

-- constraint n is one of the interface, without variables on its right
pub record IsClosedOf (p : Program) (i n : ℕ) (c : Constraint) : Type 0 where
  pub at : IsConstraint p n c
  pub own : c.interface ≡ i
  pub closed : IsTrue (is_closed c.right)

pub record AreGridsOf (p : Program) (i : ℕ) (g : InterfaceGrids) : Type 0 where
  pub count : length g.points ≡ length (vars_in i 1 (all_vars p))
  pub least : AreLeastPoints (grid_bound p i) (tags_of p i) (lowers_in p i) (points_by (vars_in i 1 (all_vars p)) g.points)
  pub found : (n : ℕ) (r : Refutation) → g.refuted ≡ Some (n, r) → (c : Constraint) × IsClosedOf p i n c × IsFound most_tree_nodes (lowers_of p) c.left c.right (word_of r.word) (bound_view r.tree)
  pub least_tree : (n : ℕ) (r : Refutation) (c : Constraint) (w : Word) (b : Bound) → g.refuted ≡ Some (n, r) → IsClosedOf p i n c → Refutes (lowers_of p) c.left c.right w b → tree_size (bound_view r.tree) ≤ tree_size b
  pub first : (n m : ℕ) (r : Refutation) (c : Constraint) (w : Word) (b : Bound) → g.refuted ≡ Some (n, r) → m < n → IsClosedOf p i m c → IsFound most_tree_nodes (lowers_of p) c.left c.right w b → ⊥
  pub none : (m : ℕ) (c : Constraint) (w : Word) (b : Bound) → g.refuted ≡ None → IsClosedOf p i m c → IsFound most_tree_nodes (lowers_of p) c.left c.right w b → ⊥
  pub large : IsTrue g.is_oversized → (n : ℕ) × (c : Constraint) × IsClosedOf p i n c × IsLarge most_tree_nodes (lowers_of p) c.left c.right
  pub small : (n : ℕ) (c : Constraint) → IsFalse g.is_oversized → IsClosedOf p i n c → IsLarge most_tree_nodes (lowers_of p) c.left c.right → ⊥
  pub inside : (n : ℕ) (c : Constraint) → g.refuted ≡ None → IsFalse g.is_oversized → IsClosedOf p i n c → IsInside (lowers_of p) c.left c.right
