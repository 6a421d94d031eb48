-- Short words for writing programs and histories down.
use Rattle.std.specs.Prelude.{ℕ, List, Option, Some, None, unwrap_or}
use Rattle.pat_words_spec.specs.Patterns.{Pat}
use Rattle.pat_semantics_spec.specs.Values.{BaseUnit, BaseInt, Kind, Plain, MailboxOf, UnitConst, Literal}
use Rattle.pat_semantics_spec.specs.Programs.{Sending, Receiving, Sort, BaseSort, MailboxSort, TagDecl, Function, Clause, Core, Val, Node, Program}
use Rattle.pat_semantics_spec.specs.Configs.{Config, start}
use Rattle.pat_semantics_spec.specs.Steps.{Act, Step}
use Rattle.pat_semantics_spec.specs.Runs.{run, Entry}

-- a node of function f whose kind is unit
abbrev pub unit_node : ℕ → Core → Node
unit_node f core = record { core = core; kind = Plain BaseUnit; function = f }

-- a node of function f whose kind is a mailbox of interface i
abbrev pub mailbox_node : ℕ → ℕ → Core → Node
mailbox_node f i core = record { core = core; kind = MailboxOf i; function = f }

-- the term ()
abbrev pub nothing : Core
nothing = Val (Literal UnitConst)

-- the clause `receive m(xs) from x -> body`
abbrev pub clause : ℕ → List ℕ → ℕ → ℕ → Clause
clause m xs x body = record { tag = m; vars = xs; from = x; body = body }

-- the tag with this name and these payloads
abbrev pub tag : List ℕ → List Sort → TagDecl
tag name payloads = record { name = name; payloads = payloads }

-- the function with result unit
abbrev pub function : List ℕ → List Sort → List Kind → ℕ → Function
function name params vars body =
    record { name = name; params = params; result = BaseSort BaseUnit; vars = vars; body = body }

-- the types `I?` and `I?E`, `I!E`
abbrev pub receiving : ℕ → Sort
receiving i = MailboxSort i Receiving None

abbrev pub receiving_as : ℕ → Pat → Sort
receiving_as i e = MailboxSort i Receiving (Some e)

abbrev pub sending_as : ℕ → Pat → Sort
sending_as i e = MailboxSort i Sending (Some e)

-- the kind of integers
abbrev pub int : Kind
int = Plain BaseInt

-- an entry of a history: worker 0, the thread, its local steps and its shared act
abbrev pub entry : ℕ → ℕ → Option Act → Entry
entry t k a = record { worker = 0; thread = t; local_steps = k; shared = a }

-- a step of thread 0
abbrev pub main_step : Act → Step
main_step a = record { thread = 0; act = a }

-- where the steps lead to, if they are enabled
abbrev pub led_by : Program → List Step → Config
led_by p ks = unwrap_or (run p ks) (start p)
