-- The interfaces of mailboxes, along steps.
use Rattle.std.specs.Prelude.{ℕ, nat_eq, if◌then◌else◌, List, [], ◌∷◌, Option, Some, None, option_map, unwrap_or}
use Rattle.pat_semantics_spec.specs.Programs.{Program, New}
use Rattle.pat_semantics_spec.specs.Configs.{Thread, Config, thread_at}
use Rattle.pat_semantics_spec.specs.Steps.{Act, ActNew, Redex, At, redex, Step, step}

-- the interface of the mailbox that is made here, if one is
abbrev pub new_interface : Redex → Option ℕ
new_interface (At (New i) env) = Some i
new_interface _ = None

-- the interface of the mailbox that the act of a thread makes, if it makes one
abbrev pub made_by : Program → Act → Option Thread → Option ℕ
made_by p ActNew (Some s) = new_interface (redex p s.control)
made_by p _ o = None

-- the interfaces, where mailbox n has this one, if it is given
abbrev pub with_interface : ℕ → Option ℕ → (ℕ → ℕ) → ℕ → ℕ
with_interface n None interfaces = interfaces
with_interface n (Some i) interfaces = λ a. if nat_eq a n then i else interfaces a

-- the interfaces after a step: those before it, but for the mailbox that a `new` makes, which has that node's interface
abbrev pub interfaces_after : Program → Config → Step → (ℕ → ℕ) → ℕ → ℕ
interfaces_after p c k interfaces = with_interface c.next_mailbox (made_by p k.act (thread_at c k.thread)) interfaces

-- the interfaces after steps, one after another, as far as they are enabled
abbrev pub interfaces_along : Program → Config → List Step → (ℕ → ℕ) → ℕ → ℕ
interfaces_along p c [] interfaces = interfaces
interfaces_along p c (k ∷ ks) interfaces =
    unwrap_or (option_map (λ d. interfaces_along p d ks (interfaces_after p c k interfaces)) (step p c k)) interfaces
