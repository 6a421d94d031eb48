-- What an error says of a tree.
use Rattle.std.specs.Prelude.{ℕ}
use Rattle.pat_parser_spec.specs.Trees.{Tree}
use Rattle.pat_resolver_spec.specs.Claims.{BreaksFirst}
use Rattle.pat_resolver_heads.specs.results.Views.{finding_view}
use Rattle.pat_resolver_heads.specs.declared.results.error.ResolveError.{ResolveError}
use Rattle.pat_resolver_heads.specs.declared.results.error.ResolveError.TheVariants.{Broken, NoMemory}

-- what an error says of a tree whose text ends at the offset; want of memory claims nothing
abbrev pub Explains : ℕ → Tree → ResolveError → Type 0
Explains end t (Broken k s) = BreaksFirst end t (finding_view k s)
Explains end t NoMemory = Unit {0}
