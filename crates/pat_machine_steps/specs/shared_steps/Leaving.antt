-- How often mailboxes are named at the end of a commit.
use Rattle.std.specs.Prelude.{◌≡◌, ℕ, ◌+◌, ◌<◌, ◌≤◌, List, [], ◌∷◌, ◌++◌, length, Option, Some}
use Rattle.pat_semantics_spec.specs.Configs.{Thread, Message, Config, thread_at}
use Rattle.pat_semantics_spec.specs.Steps.{Act, ActNew, ActSend, ActSpawn, ActReceive}
use Rattle.pat_machine_laws.specs.refcounts.Naming.{times_in}
use Rattle.pat_machine_laws.specs.refcounts.Counting.{count_at, times_if_message, times_if_thread, times_if_top, last_message}
use Rattle.pat_limits.specs.Limits.{number_count}

-- the names of each mailbox can be counted, and one that is named was made
pub record CanBeCounted (c : Config) : Type 0 where
  pub few : (a : ℕ) → times_in a c < number_count
  pub made : (a : ℕ) → 0 < times_in a c → a < c.next_mailbox

-- how many mailboxes the act makes
abbrev pub made_by : Option Act → ℕ
made_by (Some ActNew) = 1
made_by _ = 0

-- how often the message that the act took names a mailbox
abbrev pub times_received : Option Act → Option Message → ℕ → ℕ
times_received (Some (ActReceive k)) m a = times_if_message a m
times_received _ m a = 0

-- how often what the act put into d besides its thread names it: the message that was sent, or the thread that was spawned, with the number of the newcomer
abbrev pub times_put : Config → (newcomer : ℕ) → Option Act → ℕ → ℕ
times_put d newcomer (Some ActSend) a = times_if_message a (last_message d.messages)
times_put d newcomer (Some ActSpawn) a = times_if_thread a (thread_at d newcomer)
times_put d newcomer _ a = 0

-- the last message is the one that was sent last
pub record IsSentLast (d : Config) : Type 0 where
  pub before : List Message
  pub message : Message
  pub last : d.messages ≡ before ++ message ∷ []
  pub next : message.number + 1 ≡ d.next_message

-- where the act sent a message, it is the last one of d, and where it spawned a thread, that has no frame
pub record IsFound (newcomer : ℕ) (act : Option Act) (d : Config) : Type 0 where
  pub sent : act ≡ Some ActSend → IsSentLast d
  pub spawned : (s : Thread) → act ≡ Some ActSpawn → thread_at d newcomer ≡ Some s → s.frames ≡ []

-- the list counts what is named in d but for the top of thread t and what its act put there, and besides that what the act took
pub record IsLeft (t n newcomer : ℕ) (act : Option Act) (message : Option Message) (ns : List ℕ) (d : Config) : Type 0 where
  pub mailboxes : d.next_mailbox ≡ length ns + made_by act
  pub taken : (a : ℕ) → times_received act message a ≤ count_at ns a
  pub all : (a : ℕ) → times_in a d + times_received act message a ≡ count_at ns a + (times_if_top n a (thread_at d t) + times_put d newcomer act a)
  pub found : IsFound newcomer act d
