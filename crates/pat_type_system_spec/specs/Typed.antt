-- Typed configurations.
use Rattle.std.specs.Prelude.{◌≡◌, ℕ, Bool, ◌||◌, nat_eq, List, [], ◌∷◌, Some, map, IsTrue, IsFalse}
use Rattle.std.specs.List.{AllByRecursion, IsDistinct, list_any}
use Rattle.std.specs.Map.{keys_of}
use Rattle.pat_semantics_spec.specs.Values.{Value, Const, Mailbox, Kind, Env, value_at, ValueFits, ValuesFit}
use Rattle.pat_semantics_spec.specs.Programs.{Program, TagDecl, Core, Let, core_at, tag_at, kind_of, is_among, option_list, is_free, KindAt}
use Rattle.pat_semantics_spec.specs.Configs.{Control, Running, Returned, Frame, Thread, Message, Config, env_refers, has_pending, pending, some_thread_refers, some_message_refers}
use Rattle.pat_semantics_spec.specs.Orders.{AscendsFrom, IsOrdered}
use Rattle.pat_type_system_spec.specs.Types.{Returnable, MailboxType, kind_of_type, TypeFits}
use Rattle.pat_type_system_spec.specs.Typings.{Typing, IsTyping}
use Rattle.pat_type_system_spec.specs.Holdings.{Holding, wanted, control_held, frame_held, holdings, Balanced}

-- a part at a node of the program has values for just the node's free variables but these, and they fit; different variables name different mailboxes
pub record PartFits (p : Program) (interfaces : ℕ → ℕ) (n : ℕ) (but : List ℕ) (env : Env) : Type 0 where
  pub there : (core : Core) × (core_at p n ≡ Some core)
  pub keys : AscendsFrom 0 (keys_of env)
  pub values : (x : ℕ) → IsTrue (is_free p x n) → IsFalse (is_among x but) → (v : Value) × (value_at env x ≡ Some v)
  pub free : (x : ℕ) (v : Value) → value_at env x ≡ Some v → IsTrue (is_free p x n) × IsFalse (is_among x but)
  pub kinds : (x : ℕ) (v : Value) → value_at env x ≡ Some v → (k : Kind) × KindAt p n x k × ValueFits interfaces v k
  pub different : (x z a : ℕ) → value_at env x ≡ Some (Mailbox a) → value_at env z ≡ Some (Mailbox a) → x ≡ z

-- a control fits: its part, and what it gives to the frames
abbrev pub ControlFits : Program → Typing → (ℕ → ℕ) → Control → List Frame → Type 0
ControlFits p y interfaces (Running n env) fs = PartFits p interfaces n [] env × TypeFits (y.results n) (wanted p y fs)
ControlFits p y interfaces (Returned v) fs = ValueFits interfaces v (kind_of_type (wanted p y fs))

-- a frame is that of a let
abbrev pub IsFrameOfLet : Program → Frame → Type 0
IsFrameOfLet p f = (n m : ℕ) × (core_at p n ≡ Some (Let f.var m f.body))

-- the frames, and what each gives to the next
abbrev pub FramesFit : Program → Typing → (ℕ → ℕ) → List Frame → Type 0
FramesFit p y interfaces [] = Unit {0}
FramesFit p y interfaces (f ∷ fs) =
    IsFrameOfLet p f
    × PartFits p interfaces f.body (option_list f.var) f.env
    × TypeFits (y.results f.body) (wanted p y fs)
    × FramesFit p y interfaces fs

-- whether one of the frames refers to the mailbox
abbrev pub frames_refer : ℕ → List Frame → Bool
frames_refer b fs = list_any (λ f. env_refers b f.env) fs

-- what is held here as returnable is in none of the frames
abbrev pub KeepsFrom : (ℕ → Holding) → List Frame → Type 0
KeepsFrom holds fs = (b : ℕ) (a : MailboxType) → holds b ≡ Some a → a.usage ≡ Returnable → IsFalse (frames_refer b fs)

-- what a frame holds as returnable is in no later frame
abbrev pub FramesKeep : Typing → List Frame → Type 0
FramesKeep y [] = Unit {0}
FramesKeep y (f ∷ fs) = KeepsFrom (λ b. frame_held y b f) fs × FramesKeep y fs

-- a thread
pub record ThreadFits (p : Program) (y : Typing) (interfaces : ℕ → ℕ) (s : Thread) : Type 0 where
  pub control : ControlFits p y interfaces s.control s.frames
  pub frames : FramesFit p y interfaces s.frames
  pub control_keeps : KeepsFrom (λ b. control_held p y b s.control s.frames) s.frames
  pub frames_keep : FramesKeep y s.frames

-- the mailboxes among values
abbrev pub mailboxes_of : List Value → List ℕ
mailboxes_of [] = []
mailboxes_of (Const c ∷ vs) = mailboxes_of vs
mailboxes_of (Mailbox a ∷ vs) = a ∷ mailboxes_of vs

-- a message is as its mailbox's interface declares, and its mailboxes are all different
pub record MessageFits (p : Program) (interfaces : ℕ → ℕ) (m : Message) : Type 0 where
  pub decl : TagDecl
  pub declared : tag_at p (interfaces m.mailbox) m.tag ≡ Some decl
  pub values : ValuesFit interfaces m.values (map kind_of decl.payloads)
  pub different : IsDistinct nat_eq (m.mailbox ∷ mailboxes_of m.values)

-- numbers are in order, and what is referred to or has a message is live
pub record NumbersFit (c : Config) : Type 0 where
  pub ordered : IsOrdered c
  pub threads_live : (a : ℕ) → IsTrue (some_thread_refers c a) → IsTrue (is_among a c.live)
  pub messages_live : (a : ℕ) → IsTrue (some_message_refers c a || has_pending a c.messages) → IsTrue (is_among a c.live)

-- the configuration is typed by y, where mailboxes have these interfaces; only those of live mailboxes matter
pub record IsTyped (p : Program) (y : Typing) (interfaces : ℕ → ℕ) (c : Config) : Type 0 where
  pub typing : IsTyping p y
  pub numbers : NumbersFit c
  pub threads : AllByRecursion (λ e. ThreadFits p y interfaces e.1) c.threads
  pub messages : AllByRecursion (MessageFits p interfaces) c.messages
  pub balanced : (a : ℕ) → IsTrue (is_among a c.live) → Balanced (holdings p y interfaces c a) (pending c a)
