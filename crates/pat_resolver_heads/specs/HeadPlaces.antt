-- Where the mailbox types of heads stand in the text.
use Rattle.std.specs.Prelude.{List, map, Option}
use Rattle.pat_parser_spec.specs.Trees as tree
use Rattle.pat_core.specs.declared.program.Interface.{Interface}
use Rattle.pat_resolver_spec.specs.Heads.{Definition}
use Rattle.pat_resolver_spec.specs.Places.{type_place}
use Rattle.pat_resolver_heads.specs.results.Views.{sort_place}
use Rattle.pat_resolver_heads.specs.declared.heads.Signature.{Signature}

-- the payloads of an interface, by tag
abbrev pub interface_places : Interface → List (List (Option tree.Span))
interface_places i = map (λ t. map sort_place t.payloads) i.tags

-- the parameters of a function
abbrev pub param_places : Signature → List (Option tree.Span)
param_places s = map sort_place s.params

-- the result of a function
abbrev pub result_place : Signature → Option tree.Span
result_place s = sort_place s.result

-- the parameters of a function as it is written
abbrev pub written_params : Definition → List (Option tree.Span)
written_params d = map (λ p. type_place p.type) d.params

-- its result
abbrev pub written_result : Definition → Option tree.Span
written_result d = type_place d.result
