-- What trees of a renamed system show is what those of the program's lower bounds show.
use Rattle.std.proofs.Common.{◌≡◌, ℕ, true, List, length, map, refl, ap, ◌∙◌}
use Rattle.std.specs.List.{AllByRecursion}
use Rattle.std.proofs.lemmas.List.{length-map}
use Rattle.pat_words_spec.specs.Words.{Word}
use Rattle.pat_words_spec.specs.Patterns.{Pat, Zero, One, Tag, Sum, Prod, Star, Var, is_closed}
use Rattle.pat_semantics_spec.specs.Programs as core
use Rattle.pat_inclusion_spec.specs.bounds.Trees.{Bound, Shows, bounds_of}
use Rattle.pat_inclusion_spec.specs.bounds.Assignments as bounds
use Rattle.pat_inclusion_spec.specs.bounds.Assignments.{PatternRight, VarRight, lower_of}
use Rattle.pat_inclusion_spec.specs.bounds.Searches.{IsInside, IsFound, IsLarge}
use Rattle.pat_infer_spec.specs.Shapes.{PatternFits, ConstraintFits, is_simple}
use Rattle.pat_infer_spec.specs.Walk.{inferred, all_vars}
use Rattle.pat_solve_spec.specs.LowerBounds.{right_side, sides_of, constraints_in, lowers_of}
use Rattle.pat_solve_spec.specs.Assignments.{vars_in}
use Rattle.pat_solve_spec.specs.Answers.{tags_of}
use Rattle.pat_solve_bounds.proofs.Apart.{apart_to, apart_from}
use Rattle.pat_solve_bounds.specs.renumbered.Renaming.{place_in, renamed}
use Rattle.pat_solve_bounds.proofs.Systematic.{SideWithin, summed, system_is, tree_from, tree_to}
use Rattle.pat_solve_grids.specs.Findings.{FoundIn, LargeIn, InsideIn}
use Rattle.pat_limits.specs.Limits.{most_tree_nodes}

-- ---- right sides that are simple

pub found_to : (lower : ℕ → Pat) (left f : Pat) (w : Word) (b : Bound) → is_simple f ≡ true → FoundIn lower left (right_side f) w b → (is_closed f ≡ true) × IsFound most_tree_nodes lower left f w b
found_to lower left Zero w b s h = (refl, h)
found_to lower left One w b s h = (refl, h)
found_to lower left (Tag m) w b s h = (refl, h)
found_to lower left (Sum e g) w b s h = (s, h)
found_to lower left (Prod e g) w b s h = (s, h)
found_to lower left (Star e) w b s h = (s, h)
found_to lower left (Var k) w b s h = absurd h

pub found_from : (lower : ℕ → Pat) (left f : Pat) (w : Word) (b : Bound) → is_closed f ≡ true → IsFound most_tree_nodes lower left f w b → FoundIn lower left (right_side f) w b
found_from lower left Zero w b s h = h
found_from lower left One w b s h = h
found_from lower left (Tag m) w b s h = h
found_from lower left (Sum e g) w b s h = h
found_from lower left (Prod e g) w b s h = h
found_from lower left (Star e) w b s h = h
found_from lower left (Var k) w b s h = cc

pub large_to : (lower : ℕ → Pat) (left f : Pat) → is_simple f ≡ true → LargeIn lower left (right_side f) → (is_closed f ≡ true) × IsLarge most_tree_nodes lower left f
large_to lower left Zero s h = (refl, h)
large_to lower left One s h = (refl, h)
large_to lower left (Tag m) s h = (refl, h)
large_to lower left (Sum e g) s h = (s, h)
large_to lower left (Prod e g) s h = (s, h)
large_to lower left (Star e) s h = (s, h)
large_to lower left (Var k) s h = absurd h

pub large_from : (lower : ℕ → Pat) (left f : Pat) → is_closed f ≡ true → IsLarge most_tree_nodes lower left f → LargeIn lower left (right_side f)
large_from lower left Zero s h = h
large_from lower left One s h = h
large_from lower left (Tag m) s h = h
large_from lower left (Sum e g) s h = h
large_from lower left (Prod e g) s h = h
large_from lower left (Star e) s h = h
large_from lower left (Var k) s h = cc

pub inside_to : (lower : ℕ → Pat) (left f : Pat) → is_closed f ≡ true → InsideIn lower left (right_side f) → IsInside lower left f
inside_to lower left Zero s h = h
inside_to lower left One s h = h
inside_to lower left (Tag m) s h = h
inside_to lower left (Sum e g) s h = h
inside_to lower left (Prod e g) s h = h
inside_to lower left (Star e) s h = h
inside_to lower left (Var k) s h = cc

-- ---- the same trees

-- just the trees that show a word of e under L show it of f under M
pub record SameTrees (L M : ℕ → Pat) (e f : Pat) : Type 0 where
  pub to : (b : Bound) (w : Word) → Shows L b e w → Shows M b f w
  pub from : (b : Bound) (w : Word) → Shows M b f w → Shows L b e w

module _ (L M : ℕ → Pat) (e f : Pat) (same : SameTrees L M e f) where
  pub found_moves : (right : Pat) (w : Word) (b : Bound) → IsFound most_tree_nodes L e right w b → IsFound most_tree_nodes M f right w b
  found_moves right w b h = let r = h.0 in ((same.to b w r.0, r.1), h.1)

  pub found_back : (right : Pat) (w : Word) (b : Bound) → IsFound most_tree_nodes M f right w b → IsFound most_tree_nodes L e right w b
  found_back right w b h = let r = h.0 in ((same.from b w r.0, r.1), h.1)

  pub large_moves : (right : Pat) → IsLarge most_tree_nodes L e right → IsLarge most_tree_nodes M f right
  large_moves right h =
      let one = h.0 in
      let r = one.2 in
      ((one.0, one.1, (same.to one.1 one.0 r.0, r.1)), λ w b k. h.1 w b (same.from b w k.0, k.1))

  pub large_back : (right : Pat) → IsLarge most_tree_nodes M f right → IsLarge most_tree_nodes L e right
  large_back right h =
      let one = h.0 in
      let r = one.2 in
      ((one.0, one.1, (same.from one.1 one.0 r.0, r.1)), λ w b k. h.1 w b (same.to b w k.0, k.1))

  pub inside_moves : (right : Pat) → IsInside L e right → IsInside M f right
  inside_moves right h w d = h w (d.0, same.from d.0 w d.1)

-- ---- of an interface's patterns

module _ (p : core.Program) (i : ℕ) (fits : AllByRecursion (ConstraintFits p (all_vars p)) (inferred p).constraints) where
  abbrev pub vars : List ℕ
  vars = vars_in i 1 (all_vars p)

  abbrev pub sides : List bounds.Constraint
  sides = map sides_of (constraints_in i (inferred p).constraints)

  module _ (within : AllByRecursion (SideWithin (tags_of p i) vars) sides) where
    abbrev pub system : List Pat
    system = summed (tags_of p i) vars sides within

    pub system_length : length system ≡ length vars
    system_length =
        ap length (system_is (tags_of p i) vars sides within)
        ∙ length-map vars (λ k. renamed (place_in vars) (lower_of sides k))

    pub same_trees : (e : Pat) → PatternFits p (all_vars p) i e → SameTrees (bounds_of system) (lowers_of p) (renamed (place_in vars) e) e
    same_trees e f = record {
      to = λ b w h. apart_from p fits i e b w f (tree_from (tags_of p i) vars sides within b e w h);
      from = λ b w h. tree_to (tags_of p i) vars sides within b e w (apart_to p fits i e b w f h);
    }
