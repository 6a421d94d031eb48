-- Short words for writing programs, and what is found in them, down.
use Rattle.std.specs.Prelude.{ℕ, List, [], ◌∷◌, codes}
use Rattle.pat_words_spec.specs.Patterns.{Pat}
use Rattle.pat_semantics_spec.specs.Values.{BaseUnit, Kind}
use Rattle.pat_semantics_spec.specs.Programs.{Sending, Receiving, Sort, TagDecl, Interface, Function, Node, Program}
use Rattle.pat_type_system_spec.specs.Types.{Second, Returnable, MailboxType, mailbox_type, TypeOf, BaseTerm}
use Rattle.pat_type_schemes_spec.specs.NodeTypes.{Needs, NodeType}
use Rattle.pat_type_schemes_spec.specs.Signatures.{Variable, Origin}
use Rattle.pat_infer_spec.specs.Constraints.{Place, Rule, Finding}
use Rattle.pat_examples.specs.safety.Build.{tag}

-- the interface with this name and these tags
abbrev pub interface : List ℕ → List TagDecl → Interface
interface name tags = record { name = name; tags = tags }

-- a function with this result
abbrev pub function_to : Sort → List ℕ → List Sort → List Kind → ℕ → Function
function_to result name params vars body =
    record { name = name; params = params; result = result; vars = vars; body = body }

-- the program with these interfaces, functions and nodes, whose last function is this one
abbrev pub program : List Interface → List Function → ℕ → List Node → Program
program interfaces functions main nodes =
    record { interfaces = interfaces; functions = functions; main = main; nodes = nodes }

-- the interface `I { m() }`
abbrev pub one_tag : Interface
one_tag = interface (codes "I") (tag (codes "m") [] ∷ [])

-- the types `I?E ret`, `I?E sec` and `I!E sec`
abbrev pub returnable : ℕ → Pat → MailboxType
returnable i e = mailbox_type i Receiving e Returnable

abbrev pub held : ℕ → Pat → MailboxType
held i e = mailbox_type i Receiving e Second

abbrev pub sender : ℕ → Pat → MailboxType
sender i e = mailbox_type i Sending e Second

-- a broken rule
abbrev pub broken : Rule → Place → Finding
broken r at = record { rule = r; at = at }

-- a receiving variable of interface i
abbrev pub receiver : ℕ → Origin → Variable
receiver i origin = record { interface = i; polarity = Receiving; origin = origin }

-- a node of this type with these needs
abbrev pub line : ℕ → TypeOf → Needs → ℕ × NodeType
line n t needs = (n, record { result = t; needs = needs })

-- a node of type unit
abbrev pub unit_line : ℕ → Needs → ℕ × NodeType
unit_line n needs = line n (BaseTerm BaseUnit) needs
