-- The first function called main.
use Rattle.std.specs.Prelude.{ℕ, Option, codes}
use Rattle.pat_parser_spec.specs.Trees as tree
use Rattle.pat_resolver_spec.specs.Scopes.{first_named}
use Rattle.pat_resolver_spec.specs.Heads.{Definition, definitions_of}

abbrev pub main_in : tree.Tree → Option (ℕ × Definition)
main_in t = first_named (λ d. d.name.text) (codes "main") (definitions_of t)
