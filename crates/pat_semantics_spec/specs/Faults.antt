-- Faults, and safe programs.
use Rattle.std.specs.Prelude.{◌≡◌, ℕ, Bool, false, ◌||◌, ◌&&◌, List, [], ◌∷◌, Option, Some, None, ◌⊎◌, IsTrue, IsFalse, map}
use Rattle.std.specs.List.{list_any, AllByRecursion}
use Rattle.pat_words_spec.specs.Words.{Word, LiesIn}
use Rattle.pat_words_spec.specs.Patterns.{Pat, In}
use Rattle.pat_semantics_spec.specs.Values.{Value, Mailbox, Kind, MailboxOf, Env, value_at, ValueHasKind, ValuesHaveKinds, ValuesFit}
use Rattle.pat_semantics_spec.specs.Programs.{Program, TagDecl, Sort, Guard, Clause, core_at, tag_at, kind_of, is_among, option_list, is_free, KindAt, is_receiving}
use Rattle.pat_semantics_spec.specs.Configs.{Control, Running, Returned, Frame, Thread, Message, Config, thread_at, is_mailbox, has_pending, is_reached_by_none_but, some_thread_refers, some_message_refers, pending}
use Rattle.pat_semantics_spec.specs.Steps.{Act, ActFree, ActReceive, Step, step, thread_of}
use Rattle.pat_semantics_spec.specs.Runs.{run, can_step_thread}

-- the variable has a value of its kind
abbrev pub HasValue : Program → ℕ → Env → ℕ → Type 0
HasValue p n env x = (v : Value) × (k : Kind) × (value_at env x ≡ Some v) × KindAt p n x k × ValueHasKind v k

-- thread t stands at a guard
pub record GuardAt (p : Program) (c : Config) (t : ℕ) : Type 0 where
  pub node : ℕ
  pub env : Env
  pub frames : List Frame
  pub var : ℕ
  pub pattern : Pat
  pub free : Option ℕ
  pub receives : List Clause
  pub stands : thread_at c t ≡ Some (thread_of (Running node env) frames)
  pub term : core_at p node ≡ Some (Guard var pattern free receives)

-- thread t stands at a guard on mailbox a
pub record GuardOn (p : Program) (c : Config) (t a : ℕ) : Type 0 where
  pub guard : GuardAt p c t
  pub names : value_at guard.env guard.var ≡ Some (Mailbox a)

-- the message's tag and payload are as interface i declares
abbrev pub IsAsDeclared : Program → ℕ → Message → Type 0
IsAsDeclared p i m = (decl : TagDecl) × (tag_at p i m.tag ≡ Some decl) × ValuesHaveKinds m.values (map kind_of decl.payloads)

-- the step isn't enabled
abbrev pub IsDisabled : Program → Config → ℕ → Act → Type 0
IsDisabled p c t a = step p c (record { thread = t; act = a }) ≡ None

-- the element is in the list
abbrev pub IsIn : {A : Type 0} → A → List A → Type 0
IsIn x [] = ⊥
IsIn x (y ∷ ys) = (y ≡ x) ⊎ IsIn x ys

-- failing guard: without any clause, or with none that can be taken, now or later, since nobody else can send
pub data FailingGuard (p : Program) (c : Config) : Type 0 where
  no_clause : (t : ℕ) (g : GuardAt p c t) → g.free ≡ None → g.receives ≡ [] → FailingGuard p c
  starved : (t a : ℕ) (g : GuardOn p c t a) → ((k : ℕ) → IsDisabled p c t (ActReceive k)) → IsDisabled p c t ActFree → IsTrue (is_reached_by_none_but c a t) → FailingGuard p c

-- unexpected message: the guard's pattern has no word with room for all that is pending, or the interface declares a message's tag or payload otherwise
pub data UnexpectedMessage (p : Program) (c : Config) : Type 0 where
  too_many : (t a : ℕ) (g : GuardOn p c t a) → ((w : Word) → In g.guard.pattern w → LiesIn (pending c a) w → ⊥) → UnexpectedMessage p c
  undeclared : (t a i : ℕ) (g : GuardOn p c t a) (m : Message) → KindAt p g.guard.node g.guard.var (MailboxOf i) → IsIn m c.messages → m.mailbox ≡ a → (IsAsDeclared p i m → ⊥) → UnexpectedMessage p c

-- wrong value: of a free variable of a control or of a frame, or returned to a frame; or a thread that isn't at a guard is stuck
pub data WrongValue (p : Program) (c : Config) : Type 0 where
  in_control : (t n x : ℕ) (env : Env) (frames : List Frame) → thread_at c t ≡ Some (thread_of (Running n env) frames) → IsTrue (is_free p x n) → (HasValue p n env x → ⊥) → WrongValue p c
  in_frame : (t x : ℕ) (s : Thread) (f : Frame) → thread_at c t ≡ Some s → IsIn f s.frames → IsTrue (is_free p x f.body) → IsFalse (is_among x (option_list f.var)) → (HasValue p f.body f.env x → ⊥) → WrongValue p c
  in_return : (t x : ℕ) (v : Value) (f : Frame) (frames : List Frame) (k : Kind) → thread_at c t ≡ Some (thread_of (Returned v) (f ∷ frames)) → f.var ≡ Some x → KindAt p f.body x k → (ValueHasKind v k → ⊥) → WrongValue p c
  stuck : (t : ℕ) (s : Thread) → thread_at c t ≡ Some s → (GuardAt p c t → ⊥) → IsFalse (can_step_thread p c t) → WrongValue p c

-- where a variable stands for a live mailbox, its kind names the interface that was chosen for that mailbox
abbrev pub VariablesAgree : Program → (ℕ → ℕ) → List ℕ → ℕ → Env → Type 0
VariablesAgree p interfaces live n env =
    (x a : ℕ) → value_at env x ≡ Some (Mailbox a) → IsTrue (is_among a live) → KindAt p n x (MailboxOf (interfaces a))

-- the variables of a control agree; a returned value is none
abbrev pub ControlAgrees : Program → (ℕ → ℕ) → List ℕ → Control → Type 0
ControlAgrees p interfaces live (Running n env) = VariablesAgree p interfaces live n env
ControlAgrees p interfaces live (Returned v) = Unit {0}

-- the variables of a thread's control and frames agree
abbrev pub ThreadAgrees : Program → (ℕ → ℕ) → List ℕ → Thread → Type 0
ThreadAgrees p interfaces live s =
    ControlAgrees p interfaces live s.control × AllByRecursion (λ f. VariablesAgree p interfaces live f.body f.env) s.frames

-- the interface of the message's mailbox declares its tag, and declares payloads that its values fit
pub record MessageAgrees (p : Program) (interfaces : ℕ → ℕ) (m : Message) : Type 0 where
  pub decl : TagDecl
  pub declared : tag_at p (interfaces m.mailbox) m.tag ≡ Some decl
  pub values : ValuesFit interfaces m.values (map kind_of decl.payloads)

-- whether the mailbox is among the values that stand at a place of receiving type
abbrev pub is_received_as : ℕ → List Sort → List Value → Bool
is_received_as a (s ∷ ss) (v ∷ vs) = (is_receiving s && is_mailbox a v) || is_received_as a ss vs
is_received_as a _ _ = false

-- the payload's types, of a tag that is declared
abbrev pub payloads_of : Option TagDecl → List Sort
payloads_of None = []
payloads_of (Some decl) = decl.payloads

-- whether the message's receiver may receive from the mailbox then
abbrev pub message_delegates : Program → (ℕ → ℕ) → ℕ → Message → Bool
message_delegates p interfaces a m = is_received_as a (payloads_of (tag_at p (interfaces m.mailbox) m.tag)) m.values

-- whether someone may receive from the mailbox once a message that waits is taken
abbrev pub is_delegated : Program → (ℕ → ℕ) → Config → ℕ → Bool
is_delegated p interfaces c a = list_any (message_delegates p interfaces a) c.messages

-- with these interfaces every variable and every message agrees, and no live mailbox is out of reach: a thread names it, or a message on its way brings the right to receive from it
pub record AccountsFor (p : Program) (c : Config) (interfaces : ℕ → ℕ) : Type 0 where
  pub threads : AllByRecursion (λ e. ThreadAgrees p interfaces c.live e.1) c.threads
  pub messages : AllByRecursion (MessageAgrees p interfaces) c.messages
  pub reached : (a : ℕ) → IsTrue (is_among a c.live) → IsTrue (some_thread_refers c a || is_delegated p interfaces c a)

-- left behind: whatever interfaces are chosen, some mailbox isn't accounted for, or a mailbox that is gone is still named or still has a message
pub data LeftBehind (p : Program) (c : Config) : Type 0 where
  unreached : ((interfaces : ℕ → ℕ) → AccountsFor p c interfaces → ⊥) → LeftBehind p c
  dead : (a : ℕ) → IsFalse (is_among a c.live) → IsTrue (some_thread_refers c a || (some_message_refers c a || has_pending a c.messages)) → LeftBehind p c

-- something has gone wrong in the configuration
pub data Fault (p : Program) (c : Config) : Type 0 where
  failing : FailingGuard p c → Fault p c
  unexpected : UnexpectedMessage p c → Fault p c
  wrong : WrongValue p c → Fault p c
  left : LeftBehind p c → Fault p c

-- whatever steps are taken from the start, what they reach has no fault
abbrev pub IsSafe : Program → Type 0
IsSafe p = (ks : List Step) (c : Config) → run p ks ≡ Some c → Fault p c → ⊥
