-- A text has few interfaces.
use Rattle.std.proofs.Common.{◌≡◌, ◌≤◌, ◌<◌, ℕ, List, [], ◌∷◌, length, ap, map, arith}
use Rattle.std.proofs.lemmas.List.{length-map}
use Rattle.pat_core.specs.declared.program.Program.{Program as CodeProgram}
use Rattle.pat_core.specs.Views.{interface_view, program_view}
use Rattle.pat_semantics_spec.specs.Programs.{Program}
use Rattle.pat_parser_spec.specs.Trees.{Tree}
use Rattle.pat_parser_spec.specs.Trees as tree
use Rattle.pat_parser_laws.specs.Counts.{tree_size}
use Rattle.pat_resolver_spec.specs.Heads.{InterfaceNames, interface_names, interfaces_of}
use Rattle.pat_front.specs.Texts.{IsProgramText}
use Rattle.pat_limits.specs.Limits.{most_number, number_count}

few_of : (names : List InterfaceNames) (t : Tree) → length (interfaces_of names t) ≤ tree_size t
few_of names [] = omega arith
few_of names (tree.InterfaceDecl x ms ∷ ds) = let few = few_of names ds in omega (arith, few)
few_of names (tree.DefDecl x ps r m ∷ ds) = let few = few_of names ds in omega (arith, few)

pub few_interfaces : (front : List ℕ) (t : Tree) (p : CodeProgram) → IsProgramText front t (program_view p) → tree_size t < most_number → length p.interfaces < number_count
few_interfaces front t p spelled small =
    let same : length (interfaces_of (interface_names t) t) ≡ length (map interface_view p.interfaces) = ap (λ (q : Program). length q.interfaces) spelled.resolved.program in
    let long = length-map p.interfaces interface_view in
    let few = few_of (interface_names t) t in
    omega (arith, same, long, few, small)
