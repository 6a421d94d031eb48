-- Configurations: threads, pending messages, live mailboxes, and what was printed.
use Rattle.std.specs.Prelude.{ℕ, Bool, false, ◌||◌, ◌&&◌, not, nat_eq, if◌then◌else◌, List, [], ◌∷◌, Option, Some, None}
use Rattle.std.specs.Map.{lookup, set_value}
use Rattle.std.specs.List.{list_any}
use Rattle.pat_words_spec.specs.Words.{Word, no_word, one, plus}
use Rattle.pat_semantics_spec.specs.Values.{Value, Const, Mailbox, Env}
use Rattle.pat_semantics_spec.specs.Programs.{Program, Function, function_at}

-- what a thread does next: it evaluates a node, under an environment of that node's free variables alone, or it gives a value back
pub data Control : Type 0 where
  Running : (node : ℕ) → (env : Env) → Control
  Returned : (value : Value) → Control

-- what takes a thread's value: the name that is bound to it, the body that then runs, and an environment of what else is free there
pub record Frame : Type 0 where
  pub var : Option ℕ
  pub body : ℕ
  pub env : Env

-- a thread: its control, and the frames below it, the next one first
pub record Thread : Type 0 where
  pub control : Control
  pub frames : List Frame

-- a pending message: the mailbox that it is pending in, its tag, and its payload
pub record Message : Type 0 where
  pub number : ℕ
  pub mailbox : ℕ
  pub tag : ℕ
  pub values : List Value

-- a configuration: threads, messages and live mailboxes, in ascending order of number, lines in the order of printing, and the next free numbers
pub record Config : Type 0 where
  pub threads : List (ℕ × Thread)
  pub messages : List Message
  pub live : List ℕ
  pub printed : List (List ℕ)
  pub next_thread : ℕ
  pub next_mailbox : ℕ
  pub next_message : ℕ

-- the thread with this number
abbrev pub thread_at : Config → ℕ → Option Thread
thread_at c t = lookup (nat_eq t) c.threads

-- the configuration where thread t is this one
abbrev pub with_thread : Config → ℕ → Thread → Config
with_thread c t s = record c { threads = set_value (nat_eq t) c.threads s }

-- the start with this main: thread 0 with its body, and nothing else
abbrev pub start_of : Option Function → Config
start_of None = record { threads = []; messages = []; live = []; printed = []; next_thread = 0; next_mailbox = 0; next_message = 0 }
start_of (Some f) = record {
  threads = (0, record { control = Running f.body []; frames = [] }) ∷ [];
  messages = [];
  live = [];
  printed = [];
  next_thread = 1;
  next_mailbox = 0;
  next_message = 0;
}

-- the start of a program
abbrev pub start : Program → Config
start p = start_of (function_at p p.main)

-- whether the value is this mailbox
abbrev pub is_mailbox : ℕ → Value → Bool
is_mailbox a (Const k) = false
is_mailbox a (Mailbox b) = nat_eq a b

-- whether one of the values is the mailbox
abbrev pub env_refers : ℕ → Env → Bool
env_refers a env = list_any (λ b. is_mailbox a b.1) env

-- whether one of the control's values is the mailbox
abbrev pub control_refers : ℕ → Control → Bool
control_refers a (Running n env) = env_refers a env
control_refers a (Returned v) = is_mailbox a v

-- whether the thread refers to the mailbox: its control has it for a value, or a frame keeps it
abbrev pub thread_refers : ℕ → Thread → Bool
thread_refers a s = control_refers a s.control || list_any (λ f. env_refers a f.env) s.frames

-- whether the message refers to the mailbox: it is in its payload
abbrev pub message_refers : ℕ → Message → Bool
message_refers a m = list_any (is_mailbox a) m.values

-- whether another thread than t refers to the mailbox
abbrev pub other_refers : ℕ → ℕ → List (ℕ × Thread) → Bool
other_refers a t threads = list_any (λ e. not (nat_eq e.0 t) && thread_refers a e.1) threads

-- whether a message is pending in the mailbox
abbrev pub has_pending : ℕ → List Message → Bool
has_pending a messages = list_any (λ m. nat_eq m.mailbox a) messages

-- whether nothing but thread t can reach the mailbox
abbrev pub is_reached_by_none_but : Config → ℕ → ℕ → Bool
is_reached_by_none_but c a t = not (other_refers a t c.threads) && not (list_any (message_refers a) c.messages)

-- whether a thread refers to the mailbox
abbrev pub some_thread_refers : Config → ℕ → Bool
some_thread_refers c a = list_any (λ e. thread_refers a e.1) c.threads

-- whether a message refers to the mailbox
abbrev pub some_message_refers : Config → ℕ → Bool
some_message_refers c a = list_any (message_refers a) c.messages

-- the word of those messages that are pending in a mailbox
abbrev pub pending_in : ℕ → List Message → Word
pending_in a [] = no_word
pending_in a (m ∷ ms) = if nat_eq m.mailbox a then plus (one m.tag) (pending_in a ms) else pending_in a ms

-- the word of the messages that are pending in a mailbox of the configuration
abbrev pub pending : Config → ℕ → Word
pending c a = pending_in a c.messages
