-- Where the places that inference speaks of are: in a program as code has it, and among the places of its text.
use Rattle.std.proofs.Common.{◌≡◌, ℕ, map, Option, Some, None, option_map, slice_get, refl, sym, ap, ◌∙◌}
use Rattle.std.proofs.lemmas.Option.{slice_get-map}
use Rattle.pat_syntax.specs.declared.span.Span.{Span}
use Rattle.pat_tree.specs.Views.{span_view}
use Rattle.pat_core.specs.declared.program.Sort.{Sort}
use Rattle.pat_core.specs.declared.program.Sort.TheVariants as sort
use Rattle.pat_core.specs.declared.program.Function.{Function}
use Rattle.pat_core.specs.declared.program.Node.{Node}
use Rattle.pat_core.specs.declared.program.Program.{Program}
use Rattle.pat_resolver_heads.specs.results.Views.{places_view, function_places, sort_place}
use Rattle.pat_type_schemes_spec.specs.Signatures.{Origin, OfParameter, OfResult, OfNeed}
use Rattle.pat_infer_spec.specs.Constraints.{Place, AtNode, AtName}
use Rattle.pat_infer_problems.specs.Places as code
use Rattle.pat_infer_problems.specs.Places.{place_of, origin_place}
use Rattle.pat_typecheck.specs.Places.{span_or, type_span, name_span, param_span, result_span, place_in, origin_in}

or_nowhere : (o : Option Span) → span_view (code.span_or o) ≡ span_or (option_map span_view o)
or_nowhere None = refl
or_nowhere (Some s) = refl

of_node : (o : Option Node) → span_view (code.node_place o) ≡ span_or (option_map (λ (d : Node). span_view d.span) o)
of_node None = refl
of_node (Some d) = refl

of_name : (o : Option Function) (x : ℕ) → span_view (code.name_place o x) ≡ name_span (option_map function_places o) x
of_name None x = refl
of_name (Some g) x = or_nowhere (slice_get g.spans x) ∙ ap span_or (sym (slice_get-map span_view g.spans x))

of_sort : (s : Sort) → span_view (code.sort_place s) ≡ span_or (sort_place s)
of_sort (sort.Base b) = refl
of_sort (sort.Mailbox m) = refl

type_or : (s : Sort) → span_view (code.sort_place s) ≡ type_span (Some (sort_place s))
type_or (sort.Base b) = refl
type_or (sort.Mailbox m) = refl

of_type : (o : Option Sort) → span_view (code.sort_place_or o) ≡ type_span (option_map sort_place o)
of_type None = refl
of_type (Some s) = type_or s

of_param : (o : Option Function) (k : ℕ) → span_view (code.param_place o k) ≡ param_span (option_map function_places o) k
of_param None k = refl
of_param (Some g) k = of_type (slice_get g.params k) ∙ ap type_span (sym (slice_get-map sort_place g.params k))

of_result : (o : Option Function) → span_view (code.result_place o) ≡ result_span (option_map function_places o)
of_result None = refl
of_result (Some g) = of_sort g.result

node_is : (p : Program) (n : ℕ) → span_view (code.node_place (slice_get p.nodes n)) ≡ span_or (slice_get (places_view p).nodes n)
node_is p n =
    of_node (slice_get p.nodes n) ∙ ap span_or (sym (slice_get-map (λ (d : Node). span_view d.span) p.nodes n))

function_is : (p : Program) (f : ℕ) → option_map function_places (slice_get p.functions f) ≡ slice_get (places_view p).functions f
function_is p f = sym (slice_get-map function_places p.functions f)

pub place_is : (p : Program) (at : Place) → span_view (place_of p at) ≡ place_in (places_view p) at
place_is p (AtNode n) = node_is p n
place_is p (AtName f x) = of_name (slice_get p.functions f) x ∙ ap (λ o. name_span o x) (function_is p f)

pub origin_is : (p : Program) (o : Origin) → span_view (origin_place p o) ≡ origin_in (places_view p) o
origin_is p (OfParameter f k) = of_param (slice_get p.functions f) k ∙ ap (λ o. param_span o k) (function_is p f)
origin_is p (OfResult f) = of_result (slice_get p.functions f) ∙ ap result_span (function_is p f)
origin_is p (OfNeed n x) = node_is p n
