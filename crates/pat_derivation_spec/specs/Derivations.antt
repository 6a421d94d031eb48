-- Derivations: values for pattern variables, and for each node a type, the types of its variables, and certificates.
use Rattle.std.specs.Prelude.{ℕ, suc, nat_le, Bool, true, ◌&&◌, List, [], ◌∷◌, length, Option, Some, None, option_map, slice_get}
use Rattle.pat_type_system_spec.specs.Programs.{Interface, Program}
use Rattle.pat_type_system_spec.specs.Typings.{Typing}
use Rattle.pat_type_schemes_spec.specs.Values.{VarLine, Scope, pattern_of}
use Rattle.pat_type_schemes_spec.specs.Certificates.{Cert}
use Rattle.pat_type_schemes_spec.specs.NodeTypes.{Needs, NodeType}
use Rattle.pat_type_schemes_spec.specs.Typings.{typing_with, typing_under}

-- what stands at a node: its type, the types of the variables that name mailboxes, and the certificates of its inclusions
pub record Line : Type 0 where
  pub of : NodeType
  pub certs : List Cert

-- pattern variables, numbered from 1, and a line for each node, numbered from 0
pub record Derivation : Type 0 where
  pub vars : List VarLine
  pub lines : List Line

-- the line of a node, if there is one
abbrev pub line_at : Derivation → ℕ → Option Line
line_at d n = slice_get d.lines n

-- the variables are in ascending order, from n on
abbrev pub ascends_from : ℕ → Needs → Bool
ascends_from n [] = true
ascends_from n (e ∷ es) = nat_le n e.0 && ascends_from (suc e.0) es

-- how many tags an interface has, if it is there
abbrev pub tag_count : Option Interface → ℕ
tag_count None = 0
tag_count (Some i) = length i.tags

-- what patterns of the derivation may speak of
abbrev pub scope_of : Program → Derivation → Scope
scope_of p d = record { tags = λ i. tag_count (slice_get p.interfaces i); vars = d.vars }

-- ---- the typing that a derivation gives

-- the types that stand at a node, if it has a line
abbrev pub type_at : Derivation → ℕ → Option NodeType
type_at d n = option_map (λ l. l.of) (line_at d n)

-- the typing with variables, as it is written
abbrev pub written_typing : Program → Derivation → Typing
written_typing p d = typing_with p (type_at d)

-- the typing that the derivation gives: each variable is replaced by its value, and nothing is simplified
abbrev pub typing_of : Program → Derivation → Typing
typing_of p d = typing_under (pattern_of (scope_of p d)) (written_typing p d)
