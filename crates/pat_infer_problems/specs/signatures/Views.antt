-- What the definitions see of signatures, and the variables of written types.
use Rattle.std.specs.Prelude.{List, [], ◌∷◌, ◌++◌, Option, Some, None, map, option_map}
use Rattle.std.specs.List.{flat_map}
use Rattle.pat_words_spec.specs.Patterns.{Pat}
use Rattle.pat_core.specs.declared.program.Sort.{Sort}
use Rattle.pat_core.specs.declared.program.Sort.TheVariants as sort
use Rattle.pat_core.specs.declared.program.MailboxSort.{MailboxSort}
use Rattle.pat_core.specs.declared.program.Function.{Function}
use Rattle.pat_primitives.specs.Views.{polarity_view}
use Rattle.pat_types.specs.Views.{type_view, result_view}
use Rattle.pat_infer_problems.specs.Views.{PlacedVariable}
use Rattle.pat_infer_problems.specs.signatures.Opened as opened
use Rattle.pat_infer_problems.specs.declared.signatures.signatures.Signature.{Signature}

abbrev pub signature_view : Signature → opened.Signature
signature_view s = record { params = map (option_map type_view) s.params; result = result_view s.result }

-- the pattern, if it is written
abbrev pub written_or : Pat → Option Pat → Pat
written_or e None = e
written_or e (Some f) = f

-- the element, if there is no other
abbrev pub if_none : {A B : Type 0} → Option A → B → List B
if_none None x = x ∷ []
if_none (Some a) x = []

-- the variable of a mailbox type, if its pattern isn't written
abbrev pub omitted_variable : MailboxSort → List PlacedVariable
omitted_variable m = if_none m.pattern (record { interface = m.interface; polarity = polarity_view m.polarity; span = m.span })

abbrev pub own_variable : Sort → List PlacedVariable
own_variable (sort.Base b) = []
own_variable (sort.Mailbox m) = omitted_variable m

-- the variables of a signature
abbrev pub function_variables : Function → List PlacedVariable
function_variables g = flat_map own_variable g.params ++ own_variable g.result
