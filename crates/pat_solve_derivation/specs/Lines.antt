-- Lines of derivations, without certificates and with them.
use Rattle.std.specs.Prelude.{◌≡◌, ℕ, List, [], ◌∷◌, length, map, Some, slice_get}
use Rattle.pat_semantics_spec.specs.Programs.{Node, Program, node_at}
use Rattle.pat_inclusion_spec.specs.Certificates.{Cert}
use Rattle.pat_type_schemes_spec.specs.NodeTypes.{NodeType}
use Rattle.pat_derivation_spec.specs.Derivations.{Line}
use Rattle.pat_solve_spec.specs.Derived.{found_of}
use Rattle.pat_types.specs.declared.types.NodeType.{NodeType as CodeType}
use Rattle.pat_types.specs.Views.{node_type_view}

-- these are the types that inference finds of the program's nodes
pub record IsFound (p : Program) (types : List CodeType) : Type 0 where
  pub count : length types ≡ length p.nodes
  pub at : (n : ℕ) (c : Node) → node_at p n ≡ Some c → slice_get (map node_type_view types) n ≡ found_of p n

-- a line without certificates
abbrev pub bare_line : NodeType → Line
bare_line t = record { of = t; certs = [] }

abbrev pub bare_lines : List NodeType → List Line
bare_lines ts = map bare_line ts

-- the line with certificates in place of its own
abbrev pub line_with : Line → List Cert → Line
line_with l certs = record { of = l.of; certs = certs }

-- the lines with certificates in place of their own, in order
abbrev pub with_certs : List Line → List (List Cert) → List Line
with_certs [] all = []
with_certs (l ∷ ls) [] = l ∷ ls
with_certs (l ∷ ls) (certs ∷ all) = line_with l certs ∷ with_certs ls all
