-- A term has no more nodes than its size, and binds no more variables.
use Rattle.std.proofs.Common.{◌≡◌, ◌+◌, ◌≤◌, ℕ, List, [], ◌∷◌, ◌++◌, length, Some, None, refl, ap, ◌∙◌, arith}
use Rattle.std.specs.Prelude.{slice_get}
use Rattle.pat_semantics_spec.specs.Values.{Kind}
use Rattle.pat_parser_spec.specs.Trees as tree
use Rattle.pat_parser_laws.specs.Counts.{sum_of, names_in, term_size, clauses_size, tree_size}
use Rattle.pat_resolver_spec.specs.Heads.{definitions_of}
use Rattle.pat_resolver_spec.specs.Findings.{binders_in, clauses_binders_in}
use Rattle.pat_resolver_spec.specs.Numbering.{nodes_in, clauses_nodes_in}
use Rattle.pat_resolver_laws.proofs.Counting.{get_behind}
use Rattle.pat_resolver.specs.numbering.Kinds.{HasAt}

mutual
  pub nodes_within : (t : tree.Term) → nodes_in t ≤ term_size t
  nodes_within (tree.LetTerm x m b at) = omega (arith, nodes_within m, nodes_within b)
  nodes_within (tree.IfTerm e m b at) = omega (arith, nodes_within m, nodes_within b)
  nodes_within (tree.PrintTerm e at) = omega arith
  nodes_within (tree.NewTerm x at) = omega arith
  nodes_within (tree.SpawnTerm m at) = omega (arith, nodes_within m)
  nodes_within (tree.FreeTerm x at) = omega arith
  nodes_within (tree.GuardTerm x p cs at) = omega (arith, clauses_nodes_within cs)
  nodes_within (tree.SendTerm x t es at) = omega arith
  nodes_within (tree.CallTerm f es at) = omega arith
  nodes_within (tree.ValueTerm e at) = omega arith

  pub clauses_nodes_within : (cs : tree.Clauses) → clauses_nodes_in cs ≤ clauses_size cs
  clauses_nodes_within tree.no_clauses = omega arith
  clauses_nodes_within (tree.with_clause (tree.FailClause w) cs) = omega (arith, clauses_nodes_within cs)
  clauses_nodes_within (tree.with_clause (tree.FreeClause w m) cs) = omega (arith, nodes_within m, clauses_nodes_within cs)
  clauses_nodes_within (tree.with_clause (tree.ReceiveClause w t xs y m) cs) = omega (arith, nodes_within m, clauses_nodes_within cs)

names_count : (xs : List tree.Name) → names_in xs ≡ length xs
names_count [] = refl
names_count (x ∷ xs) = omega (arith, names_count xs)

mutual
  pub binders_within : (t : tree.Term) → binders_in t ≤ term_size t
  binders_within (tree.LetTerm None m b at) = omega (arith, binders_within m, binders_within b)
  binders_within (tree.LetTerm (Some x) m b at) = omega (arith, binders_within m, binders_within b)
  binders_within (tree.IfTerm e m b at) = omega (arith, binders_within m, binders_within b)
  binders_within (tree.PrintTerm e at) = omega arith
  binders_within (tree.NewTerm x at) = omega arith
  binders_within (tree.SpawnTerm m at) = omega (arith, binders_within m)
  binders_within (tree.FreeTerm x at) = omega arith
  binders_within (tree.GuardTerm x p cs at) = omega (arith, clauses_binders_within cs)
  binders_within (tree.SendTerm x t es at) = omega arith
  binders_within (tree.CallTerm f es at) = omega arith
  binders_within (tree.ValueTerm e at) = omega arith

  pub clauses_binders_within : (cs : tree.Clauses) → clauses_binders_in cs ≤ clauses_size cs
  clauses_binders_within tree.no_clauses = omega arith
  clauses_binders_within (tree.with_clause (tree.FailClause w) cs) = omega (arith, clauses_binders_within cs)
  clauses_binders_within (tree.with_clause (tree.FreeClause w m) cs) = omega (arith, binders_within m, clauses_binders_within cs)
  clauses_binders_within (tree.with_clause (tree.ReceiveClause w t xs y m) cs) = omega (arith, names_count xs, binders_within m, clauses_binders_within cs)

-- all bodies together
pub bodies_within : (t : tree.Tree) → sum_of (λ d. nodes_in d.body) (definitions_of t) ≤ tree_size t
bodies_within [] = omega arith
bodies_within (tree.InterfaceDecl x ms ∷ ds) = omega (arith, bodies_within ds)
bodies_within (tree.DefDecl x ps r m ∷ ds) = omega (arith, nodes_within m, bodies_within ds)

-- the kinds behind those of the parameters
pub has_behind : (xs ys : List Kind) (v : ℕ) → v ≡ length xs → HasAt (xs ++ ys) v ys
has_behind xs ys v e i k h = ap (λ (q : ℕ). slice_get (xs ++ ys) (q + i)) e ∙ get_behind xs ys i ∙ h
