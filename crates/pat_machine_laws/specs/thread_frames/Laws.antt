-- Laws of a thread by itself.
use Rattle.std.specs.Prelude.{◌≡◌, ℕ, true, nat_eq, List, [], ◌∷◌, Some, option_map}
use Rattle.std.specs.Map.{lookup, set_value}
use Rattle.pat_semantics_spec.specs.Programs.{Program}
use Rattle.pat_semantics_spec.specs.Configs.{Thread, Message, Config, thread_at, some_thread_refers}
use Rattle.pat_semantics_spec.specs.Steps.{Act, ActSend, step}
use Rattle.pat_machine_laws.specs.thread_frames.Alone.{alone, put_back, back, AreLeft, is_beside}

-- a step that looks at no message and makes none is one of the thread alone, what is left of which is put back
abbrev pub StepsAlone : Type 0
StepsAlone =
    (p : Program) (c : Config) (t : ℕ) (s : Thread) (a : Act) → is_beside a ≡ true → thread_at c t ≡ Some s
    → step p c (record { thread = t; act = a }) ≡ option_map (back c t) (step p (alone c t s []) (record { thread = t; act = a }))

-- ---- what is left

-- of the thread, and who came
abbrev pub ThreadsAreLeft : Type 0
ThreadsAreLeft = (p : Program) (c d : Config) (t : ℕ) (s : Thread) (live : List ℕ) (a : Act) → step p (alone c t s live) (record { thread = t; act = a }) ≡ Some d → AreLeft t c.next_thread d.threads d.next_thread

-- no message and no live mailbox, and no number of those is given out
pub record Leaves (c d : Config) : Type 0 where
  pub messages : d.messages ≡ []
  pub live : d.live ≡ []
  pub mailboxes : d.next_mailbox ≡ c.next_mailbox
  pub next : d.next_message ≡ c.next_message

abbrev pub BesideLeaves : Type 0
BesideLeaves = (p : Program) (c d : Config) (t : ℕ) (s : Thread) (a : Act) → is_beside a ≡ true → step p (alone c t s []) (record { thread = t; act = a }) ≡ Some d → Leaves c d

-- a message that was sent under the next number, to a mailbox that a thread refers to
pub record Sends (c : Config) (m : Message) : Type 0 where
  pub number : m.number ≡ c.next_message
  pub named : some_thread_refers c m.mailbox ≡ true

abbrev pub SendLeaves : Type 0
SendLeaves =
    (p : Program) (c d : Config) (t : ℕ) (s : Thread) (m : Message) → thread_at c t ≡ Some s → step p (alone c t s []) (record { thread = t; act = ActSend }) ≡ Some d → d.messages ≡ m ∷ []
    → Sends c m

-- ---- putting back

-- what stood in the place of the thread meanwhile goes
abbrev pub PlaceIsTaken : Type 0
PlaceIsTaken = (t : ℕ) (threads : List (ℕ × Thread)) (hollow : Thread) (left : List (ℕ × Thread)) → put_back t (set_value (nat_eq t) threads hollow) left ≡ put_back t threads left

-- a thread that is put back as it was changes nothing
abbrev pub SameIsBack : Type 0
SameIsBack = (t : ℕ) (threads : List (ℕ × Thread)) (s : Thread) → lookup (nat_eq t) threads ≡ Some s → put_back t threads ((t, s) ∷ []) ≡ threads
