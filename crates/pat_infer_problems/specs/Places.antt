-- Where the places of the definitions are in a program's text.
use Rattle.std.specs.Prelude.{ℕ, Option, Some, None, slice_get}
use Rattle.pat_syntax.specs.declared.span.Span.{Span}
use Rattle.pat_core.specs.declared.program.Sort.{Sort}
use Rattle.pat_core.specs.declared.program.Sort.TheVariants as sort
use Rattle.pat_core.specs.declared.program.Function.{Function}
use Rattle.pat_core.specs.declared.program.Node.{Node}
use Rattle.pat_core.specs.declared.program.Program.{Program}
use Rattle.pat_type_schemes_spec.specs.Signatures.{Origin, OfParameter, OfResult, OfNeed}
use Rattle.pat_infer_spec.specs.Constraints.{Place, AtNode, AtName}

-- the beginning of the text, for what isn't there
abbrev pub nowhere : Span
nowhere = record { from = 0; to = 0 }

abbrev pub span_or : Option Span → Span
span_or None = nowhere
span_or (Some s) = s

abbrev pub node_place : Option Node → Span
node_place None = nowhere
node_place (Some d) = d.span

-- that of a variable's name
abbrev pub name_place : Option Function → ℕ → Span
name_place None x = nowhere
name_place (Some g) x = span_or (slice_get g.spans x)

-- that of a written mailbox type
abbrev pub sort_place : Sort → Span
sort_place (sort.Base b) = nowhere
sort_place (sort.Mailbox m) = m.span

abbrev pub sort_place_or : Option Sort → Span
sort_place_or None = nowhere
sort_place_or (Some s) = sort_place s

abbrev pub param_place : Option Function → ℕ → Span
param_place None k = nowhere
param_place (Some g) k = sort_place_or (slice_get g.params k)

abbrev pub result_place : Option Function → Span
result_place None = nowhere
result_place (Some g) = sort_place g.result

-- a place in the program
abbrev pub place_of : Program → Place → Span
place_of p (AtNode n) = node_place (slice_get p.nodes n)
place_of p (AtName f x) = name_place (slice_get p.functions f) x

-- where a variable of patterns comes from
abbrev pub origin_place : Program → Origin → Span
origin_place p (OfParameter f k) = param_place (slice_get p.functions f) k
origin_place p (OfResult f) = result_place (slice_get p.functions f)
origin_place p (OfNeed n x) = node_place (slice_get p.nodes n)
