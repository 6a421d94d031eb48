-- What the definitions see of a refusal, and of the places in a program.
use Rattle.std.specs.Prelude.{map, Option, Some, None}
use Rattle.pat_resolver_spec.specs.Trees as tree
use Rattle.pat_resolver_spec.specs.Findings.{Rule, Finding}
use Rattle.pat_resolver_spec.specs.Findings as rule
use Rattle.pat_resolver_spec.specs.Places.{FunctionPlaces, Places}
use Rattle.pat_syntax.specs.declared.span.Span.{Span}
use Rattle.pat_tree.specs.Views.{span_view}
use Rattle.pat_core.specs.declared.program.Sort.{Sort}
use Rattle.pat_core.specs.declared.program.Sort.TheVariants as sort
use Rattle.pat_core.specs.declared.program.Function.{Function}
use Rattle.pat_core.specs.declared.program.Program.{Program}
use Rattle.pat_resolver_heads.specs.declared.results.error.ResolveKind.{ResolveKind}
use Rattle.pat_resolver_heads.specs.declared.results.error.ResolveKind.TheVariants as kind

abbrev pub rule_view : ResolveKind → Rule
rule_view kind.UnknownName = rule.UnknownName
rule_view kind.Twice = rule.Twice
rule_view kind.WrongArity = rule.WrongArity
rule_view kind.WrongKind = rule.WrongKind
rule_view kind.ForeignTag = rule.ForeignTag
rule_view kind.EmptySending = rule.EmptySending
rule_view kind.TooManyTags = rule.TooManyTags

-- a broken rule, and where
abbrev pub finding_view : ResolveKind → Span → Finding
finding_view k s = record { rule = rule_view k; at = span_view s }

-- the place of a mailbox type
abbrev pub sort_place : Sort → Option tree.Span
sort_place (sort.Base b) = None
sort_place (sort.Mailbox m) = Some (span_view m.span)

abbrev pub function_places : Function → FunctionPlaces
function_places f = record {
  vars = map span_view f.spans;
  params = map sort_place f.params;
  result = sort_place f.result;
}

-- the places in a program
abbrev pub places_view : Program → Places
places_view p = record {
  payloads = map (λ i. map (λ t. map sort_place t.payloads) i.tags) p.interfaces;
  functions = map function_places p.functions;
  nodes = map (λ d. span_view d.span) p.nodes;
}
