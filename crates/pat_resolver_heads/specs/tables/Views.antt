-- What the definitions see of variables in scope.
use Rattle.std.specs.Prelude.{List, map}
use Rattle.pat_resolver_spec.specs.Scopes as scopes
use Rattle.pat_core.specs.Views.{kind_view}
use Rattle.pat_resolver_heads.specs.declared.tables.scope.Variable.{Variable}

abbrev pub variable_view : Variable → scopes.Variable
variable_view v = record { name = v.name; number = v.number; kind = kind_view v.kind }

-- the innermost first
abbrev pub scope_view : List Variable → scopes.Scope
scope_view vs = map variable_view vs
