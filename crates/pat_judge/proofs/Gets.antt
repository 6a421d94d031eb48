-- Look-ups in lists as the definitions see them.
use Rattle.std.proofs.Common.{◌≡◌, ℕ, List, map, option_map}
use Rattle.std.specs.Prelude.{slice_get}
use Rattle.std.proofs.lemmas.Option.{slice_get-map}
use Rattle.pat_core.specs.declared.program.Node.{Node}
use Rattle.pat_core.specs.declared.program.Function.{Function}
use Rattle.pat_core.specs.Views.{node_view, function_view}
use Rattle.pat_derivations.specs.declared.data.DerivedNode.{DerivedNode}
use Rattle.pat_derivations.specs.Views.{line_view, lines_view}

pub line_get : (ds : List DerivedNode) (k : ℕ) → slice_get (lines_view ds) k ≡ option_map line_view (slice_get ds k)
line_get ds k = slice_get-map line_view ds k

pub node_get : (ns : List Node) (k : ℕ) → slice_get (map node_view ns) k ≡ option_map node_view (slice_get ns k)
node_get ns k = slice_get-map node_view ns k

pub function_get : (gs : List Function) (k : ℕ) → slice_get (map function_view gs) k ≡ option_map function_view (slice_get gs k)
function_get gs k = slice_get-map function_view gs k
