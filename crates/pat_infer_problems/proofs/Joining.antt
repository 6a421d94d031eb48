-- What is found first, and problems that grow, where one part comes behind another.
use Rattle.std.proofs.Common.{◌≡◌, ℕ, ◌+◌, List, [], ◌∷◌, ◌++◌, length, map, Some, None, refl, sym, ap, ◌∙◌, arith, slice_set}
use Rattle.std.specs.Prelude.{option_map}
use Rattle.std.proofs.lemmas.List.{append-nil, append_assoc, map-append, length-append, length-map}
use Rattle.pat_type_schemes_spec.specs.NodeTypes.{NodeType}
use Rattle.pat_type_schemes_spec.specs.Signatures.{Variable}
use Rattle.pat_infer_spec.specs.Constraints as found
use Rattle.pat_infer_spec.specs.Constraints.{Finding}
use Rattle.pat_core.specs.declared.program.Program.{Program}
use Rattle.pat_types.specs.Views.{node_type_view}
use Rattle.pat_infer_problems.specs.Views.{placed_variable, placed_variable_of, PlacedConstraint, placed_constraint, constraint_view, placed_finding}
use Rattle.pat_infer_problems.specs.Results.{first_of, Refuses}
use Rattle.pat_infer_problems.specs.Growing.{Grows, settled}
use Rattle.pat_infer_problems.specs.declared.problem.Problem.{Problem}
use Rattle.pat_infer_problems.specs.declared.error.InferError.{InferError}
use Rattle.pat_infer_problems.specs.declared.error.InferError.TheVariants.{Untypable, NoMemory}

-- ---- first findings

-- where nothing is found in the front, the rest decides
pub first_behind : (xs ys : List Finding) → first_of xs ≡ None → first_of (xs ++ ys) ≡ first_of ys
first_behind [] ys e = refl
first_behind (x ∷ xs) ys e = cc

-- what is found first in the front is first
pub first_front : (xs ys : List Finding) (x : Finding) → first_of xs ≡ Some x → first_of (xs ++ ys) ≡ Some x
first_front [] ys x e = cc
first_front (y ∷ xs) ys x e = e

pub ruleset in_order = (first_front, first_behind)

pub refuses_front : (p : Program) (e : InferError) (xs ys : List Finding) → Refuses p e xs → Refuses p e (xs ++ ys)
refuses_front p (Untypable s r) [] ys h = cc
refuses_front p (Untypable s r) (x ∷ xs) ys h = h
refuses_front p NoMemory xs ys h = tt

pub refuses_behind : (p : Program) (e : InferError) (xs ys : List Finding) → first_of xs ≡ None → Refuses p e ys → Refuses p e (xs ++ ys)
refuses_behind p e [] ys n h = h
refuses_behind p e (x ∷ xs) ys n h = cc

pub refuses_by : (p : Program) (e : InferError) (xs ys : List Finding) → ((x : Finding) → first_of xs ≡ Some x → first_of ys ≡ Some x) → Refuses p e xs → Refuses p e ys
refuses_by p (Untypable s r) [] ys f h = cc
refuses_by p (Untypable s r) (x ∷ xs) ys f h = ap (option_map (placed_finding p)) (f x refl) ∙ h
refuses_by p NoMemory xs ys f h = tt

-- ---- problems that grow

pub settled_both : (xs ys : List (ℕ × NodeType)) (ts : List NodeType) → settled (xs ++ ys) ts ≡ settled ys (settled xs ts)
settled_both [] ys ts = refl
settled_both (x ∷ xs) ys ts = settled_both xs ys (slice_set ts x.0 x.1)

pub grows_none : (q : Problem) → Grows q q [] [] []
grows_none q = record {
  vars = sym (append-nil (map placed_variable_of q.vars));
  constraints = sym (append-nil (map constraint_view q.constraints));
  nodes = refl;
}

-- joins what is added first, and then
added_both : {A B : Type 0} (f : A → B) (a b c : List B) (v w : List A) → b ≡ a ++ map f v → c ≡ b ++ map f w → c ≡ a ++ map f (v ++ w)
added_both f a b c v w h k = k ∙ ap (λ x. x ++ map f w) h ∙ append_assoc a (map f v) (map f w) ∙ ap (λ x. a ++ x) (sym (map-append f v w))

pub grows_both : (p : Program) (a b c : Problem) (v1 v2 : List Variable) (c1 c2 : List found.Constraint) (n1 n2 : List (ℕ × NodeType)) → Grows a b (map (placed_variable p) v1) (map (placed_constraint p) c1) n1 → Grows b c (map (placed_variable p) v2) (map (placed_constraint p) c2) n2 → Grows a c (map (placed_variable p) (v1 ++ v2)) (map (placed_constraint p) (c1 ++ c2)) (n1 ++ n2)
grows_both p a b c v1 v2 c1 c2 n1 n2 g h = record {
  vars = added_both (placed_variable p) (map placed_variable_of a.vars) (map placed_variable_of b.vars) (map placed_variable_of c.vars) v1 v2 g.vars h.vars;
  constraints = added_both (placed_constraint p) (map constraint_view a.constraints) (map constraint_view b.constraints) (map constraint_view c.constraints) c1 c2 g.constraints h.constraints;
  nodes = h.nodes ∙ ap (settled n2) g.nodes ∙ sym (settled_both n1 n2 (map node_type_view a.nodes));
}

-- how many variables there are then
pub grown : (p : Program) (a b : Problem) (vs : List Variable) (cs : List PlacedConstraint) (ns : List (ℕ × NodeType)) → Grows a b (map (placed_variable p) vs) cs ns → 1 + length b.vars ≡ 1 + length a.vars + length vs
grown p a b vs cs ns g =
    let counts : length b.vars ≡ length a.vars + length vs =
    sym (length-map b.vars placed_variable_of)
    ∙ ap length g.vars
    ∙ length-append (map placed_variable_of a.vars) (map (placed_variable p) vs)
    ∙ ap (λ n. n + length (map (placed_variable p) vs)) (length-map a.vars placed_variable_of)
    ∙ ap (λ n. length a.vars + n) (length-map vs (placed_variable p)) in
    omega (arith, counts)
