-- Checkpoints that a reader takes: numbers have 32 bits and integers 64, strings are ones of programs, interfaces, tags and nodes are
-- there, each message's mailbox is live, and all is in order.
use Rattle.std.specs.Prelude.{◌≡◌, ℕ, Bool, true, false, ◌&&◌, nat_eq, nat_lt, if◌then◌else◌, List, [], ◌∷◌, length, map, Option, Some, None}
use Rattle.std.specs.List.{list_all}
use Rattle.pat_semantics_spec.specs.Values.{Env}
use Rattle.pat_semantics_spec.specs.Programs.{Program}
use Rattle.pat_semantics_spec.specs.Configs.{Control, Running, Returned, Frame, Thread, Message}
use Rattle.pat_inclusion_spec.specs.Certificates.{Cert}
use Rattle.pat_derivation_spec.specs.Spelled.{spells_cert}
use Rattle.pat_texts_spec.specs.Numbers.{is_number}
use Rattle.pat_derivation_text_spec.specs.DerivationText.{tag_names}
use Rattle.pat_checkpoint_spec.specs.Checkpoints.{PartCerts, Checkpoint, IsAligned}
use Rattle.pat_checkpoint_spec.specs.text.ValueText.{is_value, is_named}
use Rattle.pat_checkpoint_spec.specs.text.ValueReading.{ascends_from}
use Rattle.pat_checkpoint_spec.specs.text.Lines.{MailboxLine, FrameLine, ThreadLine, Lines, lines_of}
use Rattle.pat_checkpoint_spec.specs.text.CheckpointText.{interface_in}

-- values of variables, in ascending order of variable
abbrev pub is_env : Env → Bool
is_env env = ascends_from 0 env && list_all is_named env

-- a certificate that a text can spell, or none
abbrev pub is_cert : Option Cert → Bool
is_cert None = true
is_cert (Some c) = spells_cert c

-- a node of the program
abbrev pub is_node : Program → ℕ → Bool
is_node p n = nat_lt n (length p.nodes) && is_number n

abbrev pub is_mailbox_line : Program → MailboxLine → Bool
is_mailbox_line p m = is_number m.number && (nat_lt m.interface (length p.interfaces) && is_cert m.cert)

-- the mailbox is live, and the tag is one of its interface
abbrev pub has_tag : Program → Option ℕ → ℕ → Bool
has_tag p None t = false
has_tag p (Some i) t = nat_lt t (length (tag_names p i)) && nat_lt t 256

abbrev pub is_message_line : Program → List MailboxLine → Message → Bool
is_message_line p ms m =
    is_number m.number && (is_number m.mailbox && (has_tag p (interface_in ms m.mailbox) m.tag && list_all is_value m.values))

abbrev pub is_control : Program → Control → Bool
is_control p (Running n env) = is_node p n && is_env env
is_control p (Returned v) = is_value v

abbrev pub is_name : Option ℕ → Bool
is_name None = true
is_name (Some x) = is_number x

abbrev pub is_frame_line : Program → FrameLine → Bool
is_frame_line p f = is_name f.frame.var && (is_node p f.frame.body && (is_env f.frame.env && is_cert f.cert))

abbrev pub is_thread_line : Program → ThreadLine → Bool
is_thread_line p t = is_number t.number && (is_control p t.control && (is_cert t.cert && list_all (is_frame_line p) t.frames))

-- each number is above the one before it
abbrev pub ascend : List ℕ → Bool
ascend [] = true
ascend (k ∷ []) = true
ascend (k ∷ l ∷ ks) = nat_lt k l && ascend (l ∷ ks)

pub record AreReadable (p : Program) (x : Lines) : Type 0 where
  pub next_thread : is_number x.next_thread ≡ true
  pub next_mailbox : is_number x.next_mailbox ≡ true
  pub next_message : is_number x.next_message ≡ true
  pub mailboxes_ascend : ascend (map (λ m. m.number) x.mailboxes) ≡ true
  pub mailboxes : list_all (is_mailbox_line p) x.mailboxes ≡ true
  pub messages_ascend : ascend (map (λ m. m.number) x.messages) ≡ true
  pub messages : list_all (is_message_line p x.mailboxes) x.messages ≡ true
  pub threads_ascend : ascend (map (λ t. t.number) x.threads) ≡ true
  pub threads : list_all (is_thread_line p) x.threads ≡ true

-- a checkpoint that a reader takes
pub record IsReadable (p : Program) (x : Checkpoint) : Type 0 where
  pub aligned : IsAligned x
  pub lines : AreReadable p (lines_of x)

-- ---- the same of a checkpoint's own lists

-- the interface that stands at the place of the mailbox
abbrev pub interface_among : List ℕ → List ℕ → ℕ → Option ℕ
interface_among (n ∷ ns) (i ∷ is) b = if nat_eq n b then Some i else interface_among ns is b
interface_among _ _ b = None

abbrev pub is_message : Program → List ℕ → List ℕ → Message → Bool
is_message p live interfaces m =
    is_number m.number && (is_number m.mailbox && (has_tag p (interface_among live interfaces m.mailbox) m.tag && list_all is_value m.values))

abbrev pub is_frame : Program → Frame → Bool
is_frame p f = is_name f.var && (is_node p f.body && is_env f.env)

abbrev pub is_thread : Program → ℕ × Thread → Bool
is_thread p e = is_number e.0 && (is_control p e.1.control && list_all (is_frame p) e.1.frames)

abbrev pub are_certs : PartCerts → Bool
are_certs k = is_cert k.control && list_all is_cert k.frames

pub record IsPlain (p : Program) (x : Checkpoint) : Type 0 where
  pub aligned : IsAligned x
  pub next_thread : is_number x.config.next_thread ≡ true
  pub next_mailbox : is_number x.config.next_mailbox ≡ true
  pub next_message : is_number x.config.next_message ≡ true
  pub live_ascends : ascend x.config.live ≡ true
  pub live : list_all is_number x.config.live ≡ true
  pub interfaces : list_all (λ i. nat_lt i (length p.interfaces)) x.interfaces ≡ true
  pub mailbox_certs : list_all is_cert x.mailbox_certs ≡ true
  pub messages_ascend : ascend (map (λ m. m.number) x.config.messages) ≡ true
  pub messages : list_all (is_message p x.config.live x.interfaces) x.config.messages ≡ true
  pub threads_ascend : ascend (map (λ e. e.0) x.config.threads) ≡ true
  pub threads : list_all (is_thread p) x.config.threads ≡ true
  pub part_certs : list_all are_certs x.part_certs ≡ true
