-- What the first node of a function is asked for by the function's signature.
use Rattle.std.specs.Prelude.{ℕ, if◌then◌else◌, List, [], length, Option, Some, None, slice_get}
use Rattle.pat_type_schemes_spec.specs.NodeTypes.{Needs}
use Rattle.pat_derivation_spec.specs.Demands.{Demand}
use Rattle.pat_derivation_spec.specs.Conditions.{Place, is_first}
use Rattle.pat_obligations.specs.Listed.{Signature, listed_first}

-- what a signature asks for, if it is there, where the function has so many parameters
abbrev pub asked_by : ℕ → Needs → Option Signature → List Demand
asked_by count needs None = []
asked_by count needs (Some s) = listed_first count s.params needs

-- what the signature of a node's function asks for, if the node is the function's first
abbrev pub listed_at_first : List Signature → Place → List Demand
listed_at_first gs h =
    if is_first h then asked_by (length h.function.params) h.line.of.needs (slice_get gs h.node.function) else []
