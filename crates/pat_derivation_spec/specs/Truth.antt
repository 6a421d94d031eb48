-- Derivations whose inclusions are true, whether or not certificates show them.
use Rattle.std.specs.Prelude.{◌≡◌, ℕ, Some, IsTrue}
use Rattle.std.specs.List.{AllByRecursion}
use Rattle.pat_words_spec.specs.Patterns.{Included, subst_of}
use Rattle.pat_type_system_spec.specs.Programs.{Program, Function, Node, node_at, function_at}
use Rattle.pat_type_schemes_spec.specs.Values.{Scope, pattern_of}
use Rattle.pat_type_schemes_spec.specs.Certificates.{Inclusion}
use Rattle.pat_derivation_spec.specs.Derivations.{Line, Derivation, line_at, scope_of}
use Rattle.pat_derivation_spec.specs.Conditions.{Place}
use Rattle.pat_derivation_spec.specs.Rules.{has_shape, has_words, has_no_alias, uses_well, drops_well, payloads_stand_apart, guard_covers, needed}

-- both sides are of one interface, and the left lies in the right once variables are replaced
abbrev pub HoldsTrue : Scope → Inclusion → Type 0
HoldsTrue s q = (i : ℕ) × (q.interface ≡ Some i) × Included (subst_of (pattern_of s) q.left) (subst_of (pattern_of s) q.right)

-- the node with its function and its line
abbrev pub place : ℕ → Node → Function → Line → Place
place n c g l = record { number = n; node = c; function = g; line = l }

-- the node has a line, no rule but Cert is broken there, and each inclusion that it needs is true
pub record HoldsAt (p : Program) (d : Derivation) (n : ℕ) (c : Node) : Type 0 where
  pub function : Function
  pub of : function_at p c.function ≡ Some function
  pub line : Line
  pub there : line_at d n ≡ Some line
  pub shape : IsTrue (has_shape p d (place n c function line))
  pub words : IsTrue (has_words p d (place n c function line))
  pub alias : IsTrue (has_no_alias p d (place n c function line))
  pub uses : IsTrue (uses_well p d (place n c function line))
  pub drops : IsTrue (drops_well p d (place n c function line))
  pub apart : IsTrue (payloads_stand_apart p d (place n c function line))
  pub covered : IsTrue (guard_covers (place n c function line))
  pub inclusions : AllByRecursion (HoldsTrue (scope_of p d)) (needed p d (place n c function line))

-- so it is at each node
abbrev pub HoldsThroughout : Program → Derivation → Type 0
HoldsThroughout p d = (n : ℕ) (c : Node) → node_at p n ≡ Some c → HoldsAt p d n c
