-- Safety: nothing goes wrong in a typed configuration, so a typable program is safe.
use Rattle.std.specs.Prelude.{◌≡◌, ℕ, List, [], Some, None, IsTrue, IsFalse, ◌↔◌}
use Rattle.pat_semantics_spec.specs.Programs.{Program, is_among, delegates}
use Rattle.pat_semantics_spec.specs.Configs.{Thread, Config, thread_at, some_thread_refers}
use Rattle.pat_semantics_spec.specs.WellFormed.{WellFormed}
use Rattle.pat_semantics_spec.specs.Steps.{Step, step}
use Rattle.pat_semantics_spec.specs.Runs.{run_from, run}
use Rattle.pat_semantics_spec.specs.Faults.{GuardAt, AccountsFor, is_delegated, Fault, IsSafe}
use Rattle.pat_type_system_spec.specs.Typings.{Typing, IsTypable}
use Rattle.pat_type_system_spec.specs.Typed.{IsTyped}

-- nothing has gone wrong in a typed configuration
abbrev pub TypedHasNoFault : Type 0
TypedHasNoFault = (p : Program) (y : Typing) (interfaces : ℕ → ℕ) (c : Config) → WellFormed p → IsTyped p y interfaces c → Fault p c → ⊥

-- nor does anything go wrong in what steps from a typed configuration lead to
abbrev pub TypedStaysSafe : Type 0
TypedStaysSafe =
    (p : Program) (y : Typing) (interfaces : ℕ → ℕ) (ks : List Step) (c d : Config) → WellFormed p → IsTyped p y interfaces c → run_from p c ks ≡ Some d → Fault p d → ⊥

-- a well-formed program that can be typed is safe
abbrev pub TypableIsSafe : Type 0
TypableIsSafe = (p : Program) → WellFormed p → IsTypable p → IsSafe p

-- the plain form of what is left behind: in a run of a safe program that declares no receiving payload, a thread refers to each live mailbox
abbrev pub LiveIsReferredTo : Type 0
LiveIsReferredTo =
    (p : Program) (ks : List Step) (c : Config) (a : ℕ) → IsSafe p → IsFalse (delegates p) → run p ks ≡ Some c → IsTrue (is_among a c.live) → IsTrue (some_thread_refers c a)

-- so no mailbox is live where all threads of such a program have ended
abbrev pub DoneLeavesNone : Type 0
DoneLeavesNone =
    (p : Program) (ks : List Step) (c : Config) → IsSafe p → IsFalse (delegates p) → run p ks ≡ Some c → c.threads ≡ [] → c.live ≡ []

-- just those mailboxes stand in pending payloads that are declared as receiving, under a choice of interfaces that accounts for the configuration
abbrev pub JustDelegated : Program → Config → Type 0
JustDelegated p c =
    (interfaces : ℕ → ℕ) × AccountsFor p c interfaces × ((a : ℕ) → IsTrue (is_among a c.live) ↔ IsTrue (is_delegated p interfaces c a))

-- where all threads of a typable program have ended, just those mailboxes are live that pending messages hand over
abbrev pub DoneLeavesDelegated : Type 0
DoneLeavesDelegated =
    (p : Program) (ks : List Step) (c : Config) → WellFormed p → IsTypable p → run p ks ≡ Some c → c.threads ≡ [] → JustDelegated p c

-- where no step of a typable program is enabled, each thread that is left waits at a guard
abbrev pub WaitsAtGuards : Type 0
WaitsAtGuards =
    (p : Program) (ks : List Step) (c : Config) (t : ℕ) (s : Thread) → WellFormed p → IsTypable p → run p ks ≡ Some c → ((k : Step) → step p c k ≡ None) → thread_at c t ≡ Some s → GuardAt p c t
