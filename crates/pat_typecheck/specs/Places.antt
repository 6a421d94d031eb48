-- Where the places that inference speaks of are in a text.
use Rattle.std.specs.Prelude.{ℕ, Option, Some, None, slice_get}
use Rattle.pat_parser_spec.specs.Trees.{Span}
use Rattle.pat_resolver_spec.specs.Places.{FunctionPlaces, Places}
use Rattle.pat_type_schemes_spec.specs.Signatures.{Origin, OfParameter, OfResult, OfNeed}
use Rattle.pat_infer_spec.specs.Constraints.{Place, AtNode, AtName}

-- the beginning of the text, for what isn't there
abbrev pub nowhere : Span
nowhere = record { from = 0; to = 0 }

abbrev pub span_or : Option Span → Span
span_or None = nowhere
span_or (Some s) = s

abbrev pub type_span : Option (Option Span) → Span
type_span (Some (Some s)) = s
type_span _ = nowhere

abbrev pub name_span : Option FunctionPlaces → ℕ → Span
name_span None x = nowhere
name_span (Some g) x = span_or (slice_get g.vars x)

abbrev pub param_span : Option FunctionPlaces → ℕ → Span
param_span None k = nowhere
param_span (Some g) k = type_span (slice_get g.params k)

abbrev pub result_span : Option FunctionPlaces → Span
result_span None = nowhere
result_span (Some g) = span_or g.result

-- a place among those of a program's parts
abbrev pub place_in : Places → Place → Span
place_in q (AtNode n) = span_or (slice_get q.nodes n)
place_in q (AtName f x) = name_span (slice_get q.functions f) x

-- where a variable of patterns comes from
abbrev pub origin_in : Places → Origin → Span
origin_in q (OfParameter f k) = param_span (slice_get q.functions f) k
origin_in q (OfResult f) = result_span (slice_get q.functions f)
origin_in q (OfNeed n x) = span_or (slice_get q.nodes n)
