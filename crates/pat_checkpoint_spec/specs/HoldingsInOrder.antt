-- Holdings in the order of a text: messages come before threads, and frames from the last one up.
use Rattle.std.specs.Prelude.{ℕ, suc, nat_eq, List, [], ◌∷◌, ◌++◌, map, filter, reverse, Option, Some, None}
use Rattle.pat_semantics_spec.specs.Values.{Value, Mailbox, Env}
use Rattle.pat_semantics_spec.specs.Programs.{Polarity, Sending, Receiving, Program, tag_at}
use Rattle.pat_inclusion_spec.specs.Patterns.{Pat}
use Rattle.pat_semantics_spec.specs.Configs.{Control, Running, Returned, Frame, Thread, Message, Config}
use Rattle.pat_type_system_spec.specs.Types.{MailboxType, TypeEnv}
use Rattle.pat_type_system_spec.specs.Typings.{Typing}
use Rattle.pat_type_system_spec.specs.Holdings.{Holding, as_holding, wanted, control_held, frame_held, declared_types, message_held, receives_by}

-- ---- of one mailbox

-- the holdings in a thread: the control's, and then those of the frames from the last one up
abbrev pub thread_lines_held : Program → Typing → ℕ → Thread → List Holding
thread_lines_held p y b s = control_held p y b s.control s.frames ∷ reverse (map (frame_held y b) s.frames)

abbrev pub threads_lines_held : Program → Typing → ℕ → List (ℕ × Thread) → List Holding
threads_lines_held p y b [] = []
threads_lines_held p y b (e ∷ es) = thread_lines_held p y b e.1 ++ threads_lines_held p y b es

-- all holdings of a mailbox
abbrev pub lines_held : Program → Typing → (ℕ → ℕ) → Config → ℕ → List Holding
lines_held p y interfaces c b = map (message_held p interfaces b) c.messages ++ threads_lines_held p y b c.threads

-- the types of those that are there
abbrev pub types_held : List Holding → List MailboxType
types_held [] = []
types_held (None ∷ hs) = types_held hs
types_held (Some a ∷ hs) = a ∷ types_held hs

-- ---- of all mailboxes at once

-- a mailbox, with the type that a place holds it with
abbrev pub Held : Type 0
Held = ℕ × MailboxType

-- what a place holds, if its value is a mailbox and it has a type
abbrev pub held_as : Value → Option MailboxType → List Held
held_as (Mailbox a) (Some t) = (a, t) ∷ []
held_as _ _ = []

abbrev pub env_holds : TypeEnv → Env → List Held
env_holds g [] = []
env_holds g (e ∷ env) = held_as e.1 (g e.0) ++ env_holds g env

abbrev pub control_holds : Program → Typing → Control → List Frame → List Held
control_holds p y (Running n env) fs = env_holds (y.envs n) env
control_holds p y (Returned v) fs = held_as v (as_holding (wanted p y fs))

-- what the frames hold, from the last one up
abbrev pub frames_hold : Typing → List Frame → List Held
frames_hold y [] = []
frames_hold y (f ∷ fs) = frames_hold y fs ++ env_holds (y.envs f.body) f.env

abbrev pub threads_hold : Program → Typing → List (ℕ × Thread) → List Held
threads_hold p y [] = []
threads_hold p y (e ∷ es) = (control_holds p y e.1.control e.1.frames ++ frames_hold y e.1.frames) ++ threads_hold p y es

-- what the places of a payload hold, from place k on
abbrev pub payload_holds : TypeEnv → ℕ → List Value → List Held
payload_holds types k [] = []
payload_holds types k (v ∷ vs) = held_as v (types k) ++ payload_holds types (suc k) vs

abbrev pub messages_hold_types : Program → (ℕ → ℕ) → List Message → List Held
messages_hold_types p interfaces [] = []
messages_hold_types p interfaces (m ∷ ms) =
    payload_holds (declared_types (tag_at p (interfaces m.mailbox) m.tag)) 0 m.values ++ messages_hold_types p interfaces ms

-- what all places hold
abbrev pub all_held : Program → Typing → (ℕ → ℕ) → Config → List Held
all_held p y interfaces c = messages_hold_types p interfaces c.messages ++ threads_hold p y c.threads

-- the types with which a mailbox is held
abbrev pub types_of : ℕ → List Held → List MailboxType
types_of a hs = map (λ h. h.1) (filter (λ h. nat_eq a h.0) hs)

-- the pattern, where the type is sending
abbrev pub sends_by : Polarity → Pat → List Pat
sends_by Sending e = e ∷ []
sends_by Receiving e = []

-- the sending patterns among the types
abbrev pub sending : List MailboxType → List Pat
sending [] = []
sending (t ∷ ts) = sends_by t.polarity t.pattern ++ sending ts

-- the receiving ones
abbrev pub receiving : List MailboxType → List Pat
receiving [] = []
receiving (t ∷ ts) = receives_by t.polarity t.pattern ++ receiving ts
