-- Scopes within one another.
use Rattle.std.specs.Prelude.{◌≡◌, List, ◌++◌}
use Rattle.pat_resolver_heads.specs.declared.tables.scope.Variable.{Variable}

-- the inner scope has variables before those of the outer one
pub record IsAbove (outer inner : List Variable) : Type 0 where
  pub front : List Variable
  pub is : inner ≡ front ++ outer
