-- How often mailboxes are named, as a replay counts it, and what it can tell by that.
use Rattle.std.specs.Prelude.{◌≡◌, ℕ, ◌+◌, ◌<◌, Bool, IsTrue, List, [], ◌∷◌, ◌++◌, length}
use Rattle.pat_semantics_spec.specs.Programs.{Program}
use Rattle.pat_semantics_spec.specs.Configs.{Message, Config}
use Rattle.pat_semantics_spec.specs.Runs.{IsShared}
use Rattle.pat_semantics_spec.specs.Steps.{ActFree, ActSend, Step}
use Rattle.pat_semantics_laws.specs.Laws.{IsEnabled}
use Rattle.pat_machine_laws.specs.refcounts.Naming.{times_in}
use Rattle.pat_machine_laws.specs.refcounts.Counting.{count_at}
use Rattle.pat_machine_states.specs.Boxes.{Indexed}
use Rattle.pat_machine_states.specs.Stepping.{SendsToLive}
use Rattle.pat_replay.specs.declared.names.Change.{Change}
use Rattle.pat_replay.specs.declared.names.Change.TheVariants.{Come, Go}
use Rattle.pat_replay.specs.declared.counting.Names.{Names}

-- so many names of each mailbox came, or went
abbrev pub Changes : Change → List ℕ → (ℕ → ℕ) → List ℕ → Type 0
Changes Come old names new = (a : ℕ) → count_at new a ≡ count_at old a + names a
Changes Go old names new = (a : ℕ) → count_at new a + names a ≡ count_at old a

-- each name of the configuration is counted
abbrev pub CountsAll : List ℕ → Config → Type 0
CountsAll ns c = (a : ℕ) → count_at ns a ≡ times_in a c

-- where names are counted, all are
abbrev pub Knows : Names → Config → Type 0
Knows names c = IsTrue names.known → CountsAll names.counts.times.items c

-- the last message is the one that was sent last
pub record IsSentLast (d : Config) : Type 0 where
  pub before : List Message
  pub message : Message
  pub last : d.messages ≡ before ++ message ∷ []
  pub next : message.number + 1 ≡ d.next_message

-- tables have what the step leads to, if it is enabled: it is a shared one, a send goes to a live mailbox and finds a place, and a free is enabled
pub record CanTake (p : Program) (s : Indexed) (k : Step) : Type 0 where
  pub shared : IsShared k.act
  pub live : k.act ≡ ActSend → SendsToLive p s.config k.thread
  pub place : k.act ≡ ActSend → length s.config.messages < s.places
  pub free : k.act ≡ ActFree → IsEnabled p s.config (record { thread = k.thread; act = ActFree })
