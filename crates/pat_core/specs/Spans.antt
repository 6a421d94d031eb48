-- Where the parts of a program stand in its text.
use Rattle.std.specs.Prelude.{List, [], ◌∷◌, map}
use Rattle.pat_syntax.specs.declared.span.Span.{Span}
use Rattle.pat_core.specs.declared.program.Sort.{Sort}
use Rattle.pat_core.specs.declared.program.Sort.TheVariants as sort
use Rattle.pat_core.specs.declared.program.TagDecl.{TagDecl}
use Rattle.pat_core.specs.declared.program.Interface.{Interface}
use Rattle.pat_core.specs.declared.program.Function.{Function}
use Rattle.pat_core.specs.declared.program.Node.{Node}
use Rattle.pat_core.specs.declared.program.Program.{Program}

-- that of a mailbox type; a base type has none
abbrev pub sort_spans : Sort → List Span
sort_spans (sort.Base b) = []
sort_spans (sort.Mailbox m) = m.span ∷ []

-- those of a tag's payloads
abbrev pub tag_spans : TagDecl → List (List Span)
tag_spans t = map sort_spans t.payloads

-- those of an interface's tags
abbrev pub interface_spans : Interface → List (List (List Span))
interface_spans i = map tag_spans i.tags

-- those of a function's parameters, of its result, and of its variables' names
abbrev pub function_spans : Function → List (List Span) × List Span × List Span
function_spans f = (map sort_spans f.params, sort_spans f.result, f.spans)

abbrev pub node_span : Node → Span
node_span d = d.span

-- those of the interfaces, the functions and the nodes
abbrev pub program_spans : Program → List (List (List (List Span))) × List (List (List Span) × List Span × List Span) × List Span
program_spans p = (map interface_spans p.interfaces, map function_spans p.functions, map node_span p.nodes)
