-- Numbers are left for the parts of a tree of bounded size.
use Rattle.std.proofs.Common.{◌≡◌, ◌+◌, ◌<◌, ◌≤◌, ℕ, zero, suc, List, [], ◌∷◌, length, drop, map, ap, arith}
use Rattle.std.proofs.lemmas.List.{length-map}
use Rattle.pat_parser_spec.specs.Trees as tree
use Rattle.pat_parser_laws.specs.Counts.{sum_of, param_size, decl_size, tree_size}
use Rattle.pat_resolver_spec.specs.Heads.{definitions_of}
use Rattle.pat_resolver_spec.specs.Findings.{binders_in}
use Rattle.pat_resolver.proofs.Sizes.{binders_within, nodes_within}
use Rattle.pat_resolver.specs.Steps.{nodes_in_all}
use Rattle.pat_tree.specs.declared.tree.Param.{Param}
use Rattle.pat_tree.specs.declared.tree.Decl.{Decl}
use Rattle.pat_tree.specs.Views.{param_view, decl_view}
use Rattle.pat_limits.specs.Limits.{number_count}

params_within : (ps : List tree.Param) → length ps ≤ sum_of param_size ps
params_within [] = omega arith
params_within (p ∷ ps) = omega (arith, params_within ps)

-- a function's variables
pub names_few : (x : tree.Name) (ps slice : List Param) (r : tree.WrittenType) (m : tree.Term) → slice ≡ ps → decl_size (tree.DefDecl x (map param_view ps) r m) < number_count → length slice + binders_in m < number_count
names_few x ps slice r m same small =
    let many = params_within (map param_view ps) in
    let long = length-map ps param_view in
    let few = binders_within m in
    let e = ap length same in
    omega (arith, many, long, few, e, small)

-- a tree's nodes and functions
pub nodes_few : (t : tree.Tree) → nodes_in_all (definitions_of t) ≤ tree_size t
nodes_few [] = omega arith
nodes_few (tree.InterfaceDecl x ms ∷ ds) = omega (arith, nodes_few ds)
nodes_few (tree.DefDecl x ps r m ∷ ds) = omega (arith, nodes_within m, nodes_few ds)

pub decls_few : (t : tree.Tree) → length t ≤ tree_size t
decls_few [] = omega arith
decls_few (tree.InterfaceDecl x ms ∷ ds) = omega (arith, decls_few ds)
decls_few (tree.DefDecl x ps r m ∷ ds) = omega (arith, decls_few ds)

-- what is left of a tree is no larger
rest_within : (i : ℕ) (ds : List Decl) → tree_size (map decl_view (drop i ds)) ≤ tree_size (map decl_view ds)
rest_within zero ds = omega arith
rest_within (suc i) [] = omega arith
rest_within (suc i) (d ∷ ds) = omega (arith, rest_within i ds)

-- a declaration is no larger than the tree
pub decl_within : (i : ℕ) (ds more : List Decl) (d : Decl) → drop i ds ≡ d ∷ more → decl_size (decl_view d) ≤ tree_size (map decl_view ds)
decl_within i ds more d e =
    let rest = rest_within i ds in
    let same = ap (λ xs. tree_size (map decl_view xs)) e in
    omega (arith, rest, same)

pub decls_within : (ds : List Decl) → length ds ≤ tree_size (map decl_view ds)
decls_within ds = let a = decls_few (map decl_view ds) in let b = length-map ds decl_view in omega (arith, a, b)
