-- Preservation: steps keep a configuration typed.
use Rattle.std.specs.Prelude.{◌≡◌, ℕ, ◌<◌, List, ◌++◌, Some, IsTrue}
use Rattle.pat_semantics_spec.specs.Programs.{Program, is_among}
use Rattle.pat_semantics_spec.specs.Configs.{Config, start}
use Rattle.pat_semantics_spec.specs.WellFormed.{WellFormed}
use Rattle.pat_semantics_spec.specs.Steps.{Step, step}
use Rattle.pat_semantics_spec.specs.Runs.{run_from, run, Entry, replay_from}
use Rattle.pat_semantics_laws.specs.Laws.{history_steps}
use Rattle.pat_type_system_spec.specs.Typings.{Typing, IsTyping}
use Rattle.pat_type_system_spec.specs.Typed.{IsTyped}
use Rattle.pat_type_system_spec.specs.Interfaces.{interfaces_after, interfaces_along}

-- the start of a program is typed by each typing of it; there is no mailbox yet, so under any interfaces
abbrev pub StartTyped : Type 0
StartTyped = (p : Program) (y : Typing) (interfaces : ℕ → ℕ) → WellFormed p → IsTyping p y → IsTyped p y interfaces (start p)

-- in a well-formed program a step leads from a typed configuration to a typed one: the typing stays, and so do the
-- interfaces, but for the mailbox that a `new` makes, which has that node's interface
abbrev pub StepKeeps : Type 0
StepKeeps =
    (p : Program) (y : Typing) (interfaces : ℕ → ℕ) (c d : Config) (k : Step) → WellFormed p → IsTyped p y interfaces c → step p c k ≡ Some d → IsTyped p y (interfaces_after p c k interfaces) d

-- and so do steps one after another
abbrev pub RunKeeps : Type 0
RunKeeps =
    (p : Program) (y : Typing) (interfaces : ℕ → ℕ) (ks : List Step) (c d : Config) → WellFormed p → IsTyped p y interfaces c → run_from p c ks ≡ Some d → IsTyped p y (interfaces_along p c ks interfaces) d

-- and so does the replay of a history
abbrev pub ReplayKeeps : Type 0
ReplayKeeps =
    (p : Program) (y : Typing) (interfaces : ℕ → ℕ) (es : List Entry) (c d : Config) → WellFormed p → IsTyped p y interfaces c → replay_from p c es ≡ Some d → IsTyped p y (interfaces_along p c (history_steps es) interfaces) d

-- what a run of a program leads to is typed by each typing of it
abbrev pub RunTyped : Type 0
RunTyped =
    (p : Program) (y : Typing) (interfaces : ℕ → ℕ) (ks : List Step) (d : Config) → WellFormed p → IsTyping p y → run p ks ≡ Some d → IsTyped p y (interfaces_along p (start p) ks interfaces) d

-- steps give each mailbox that was made before them the interface that it had
abbrev pub InterfacesStay : Type 0
InterfacesStay =
    (p : Program) (interfaces : ℕ → ℕ) (ks : List Step) (c d : Config) → run_from p c ks ≡ Some d → (a : ℕ) → a < c.next_mailbox → interfaces_along p c ks interfaces a ≡ interfaces a

-- the interfaces after joined steps are those after the second, from those after the first
abbrev pub InterfacesJoin : Type 0
InterfacesJoin =
    (p : Program) (interfaces : ℕ → ℕ) (ks ls : List Step) (c d : Config) → run_from p c ks ≡ Some d → interfaces_along p c (ks ++ ls) interfaces ≡ interfaces_along p d ls (interfaces_along p c ks interfaces)

-- a typed configuration is typed under all interfaces that agree on the live mailboxes
abbrev pub LiveInterfacesMatter : Type 0
LiveInterfacesMatter =
    (p : Program) (y : Typing) (interfaces others : ℕ → ℕ) (c : Config) → IsTyped p y interfaces c → ((a : ℕ) → IsTrue (is_among a c.live) → others a ≡ interfaces a) → IsTyped p y others c
