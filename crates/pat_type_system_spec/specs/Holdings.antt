-- Holdings: the places of a configuration that name a mailbox, with the types that they have there.
use Rattle.std.specs.Prelude.{◌≡◌, ℕ, suc, nat_eq, if◌then◌else◌, List, [], ◌∷◌, ◌++◌, Option, Some, None, map}
use Rattle.pat_semantics_spec.specs.Words.{Word, no_word, plus}
use Rattle.pat_semantics_spec.specs.Patterns.{Pat, In}
use Rattle.pat_semantics_spec.specs.Values.{Value, BaseUnit, Env}
use Rattle.pat_semantics_spec.specs.Programs.{Polarity, Sending, Receiving, TagDecl, Core, Let, Node, Program, tag_at}
use Rattle.pat_semantics_spec.specs.Configs.{Control, Running, Returned, Frame, Thread, Message, Config, is_mailbox}
use Rattle.pat_type_system_spec.specs.Types.{Returnable, MailboxType, TypeOf, BaseTerm, MailboxTerm, mailbox_type, TypeEnv, no_types}
use Rattle.pat_type_system_spec.specs.Typings.{Typing, payload_type}

-- what a place holds of a mailbox: nothing, or its name with a type
abbrev pub Holding : Type 0
Holding = Option MailboxType

-- the bound part of a let with this body
abbrev pub let_bound : ℕ → Core → Option ℕ
let_bound b (Let x m n) = if nat_eq b n then Some m else None
let_bound b _ = None

-- the first, if it is there, and otherwise the second
abbrev pub first_of_two : Option ℕ → Option ℕ → Option ℕ
first_of_two None o = o
first_of_two (Some n) o = Some n

-- the bound part of the let whose body this is
abbrev pub bound_of : List Node → ℕ → Option ℕ
bound_of [] b = None
bound_of (d ∷ ds) b = first_of_two (let_bound b d.core) (bound_of ds b)

-- the type of a node, if there is one, and otherwise unit
abbrev pub type_at : Typing → Option ℕ → TypeOf
type_at y None = BaseTerm BaseUnit
type_at y (Some m) = y.results m

-- what the frames want of what is above them: the frame on top, the type of the bound part of its let; no frame, nothing
abbrev pub wanted : Program → Typing → List Frame → TypeOf
wanted p y [] = BaseTerm BaseUnit
wanted p y (f ∷ fs) = type_at y (bound_of p.nodes f.body)

-- the type of the variable that names the mailbox; in a part at most one does
abbrev pub held : TypeEnv → ℕ → Env → Holding
held g b [] = None
held g b (e ∷ env) = if is_mailbox b e.1 then g e.0 else held g b env

-- a returned mailbox of this type is held as returnable
abbrev pub as_holding : TypeOf → Holding
as_holding (BaseTerm b) = None
as_holding (MailboxTerm i q e) = Some (mailbox_type i q e Returnable)

-- a variable's type in the environment of the node; a returned mailbox has the type that is wanted, returnable
abbrev pub control_held : Program → Typing → ℕ → Control → List Frame → Holding
control_held p y b (Running n env) fs = held (y.envs n) b env
control_held p y b (Returned v) fs = if is_mailbox b v then as_holding (wanted p y fs) else None

-- what a frame holds of the mailbox
abbrev pub frame_held : Typing → ℕ → Frame → Holding
frame_held y b f = held (y.envs f.body) b f.env

-- the holdings of a mailbox in a thread's parts: the control, and the frames from the top down
abbrev pub thread_held : Program → Typing → ℕ → Thread → List Holding
thread_held p y b s = control_held p y b s.control s.frames ∷ map (frame_held y b) s.frames

-- the holdings of a mailbox in all threads
abbrev pub threads_held : Program → Typing → ℕ → List (ℕ × Thread) → List Holding
threads_held p y b [] = []
threads_held p y b (e ∷ es) = thread_held p y b e.1 ++ threads_held p y b es

-- the first payload that is the mailbox, with the type at its place
abbrev pub payload_held : ℕ → TypeEnv → ℕ → List Value → Holding
payload_held b types k [] = None
payload_held b types k (v ∷ vs) = if is_mailbox b v then types k else payload_held b types (suc k) vs

-- the types of a tag's payloads, if it is declared
abbrev pub declared_types : Option TagDecl → TypeEnv
declared_types None = no_types
declared_types (Some decl) = payload_type decl

-- a mailbox in a payload has the declared type, second-class
abbrev pub message_held : Program → (ℕ → ℕ) → ℕ → Message → Holding
message_held p interfaces b m = payload_held b (declared_types (tag_at p (interfaces m.mailbox) m.tag)) 0 m.values

-- all holdings of a mailbox
abbrev pub holdings : Program → Typing → (ℕ → ℕ) → Config → ℕ → List Holding
holdings p y interfaces c b = threads_held p y b c.threads ++ map (message_held p interfaces b) c.messages

-- the pattern, where the type is receiving
abbrev pub receives_by : Polarity → Pat → List Pat
receives_by Sending e = []
receives_by Receiving e = e ∷ []

-- the pattern of a receiving holding
abbrev pub receives : Holding → List Pat
receives None = []
receives (Some a) = receives_by a.polarity a.pattern

-- the patterns of the receiving holdings
abbrev pub receivers : List Holding → List Pat
receivers [] = []
receivers (h ∷ hs) = receives h ++ receivers hs

-- a word of the pattern, where the type is sending; none but the empty one otherwise
abbrev pub SendsBy : Polarity → Pat → Word → Type 0
SendsBy Sending e w = In e w
SendsBy Receiving e w = w ≡ no_word

-- a word that may still be sent through the holding; none but the empty one where it isn't sending
abbrev pub Sends : Holding → Word → Type 0
Sends None w = w ≡ no_word
Sends (Some a) w = SendsBy a.polarity a.pattern w

-- a choice of one word from each sending holding
abbrev pub Choice : List Holding → Word → Type 0
Choice [] w = w ≡ no_word
Choice (h ∷ hs) w = (u v : Word) × Sends h u × Choice hs v × (w ≡ plus u v)

-- one holding receives, and what is pending with any choice of what may be sent is a word of its pattern
pub record Balanced (hs : List Holding) (pending : Word) : Type 0 where
  pub pattern : Pat
  pub one_receiver : receivers hs ≡ pattern ∷ []
  pub fits : (w : Word) → Choice hs w → In pattern (plus pending w)
