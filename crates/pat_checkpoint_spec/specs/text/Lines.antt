-- What the lines of a checkpoint say, and the checkpoint that they make.
use Rattle.std.specs.Prelude.{ℕ, List, [], ◌∷◌, map, Option}
use Rattle.pat_semantics_spec.specs.Configs.{Control, Frame, Thread, Message, Config}
use Rattle.pat_inclusion_spec.specs.Certificates.{Cert}
use Rattle.pat_checkpoint_spec.specs.Checkpoints.{PartCerts, Checkpoint}

-- a live mailbox with its interface, and the certificate of its balance
pub record MailboxLine : Type 0 where
  pub number : ℕ
  pub interface : ℕ
  pub cert : Option Cert

-- a frame, and the certificate for what the next one below it wants
pub record FrameLine : Type 0 where
  pub frame : Frame
  pub cert : Option Cert

-- a thread with its control and the certificate of that, and its frames, the next one first
pub record ThreadLine : Type 0 where
  pub number : ℕ
  pub control : Control
  pub cert : Option Cert
  pub frames : List FrameLine

-- the next numbers, the mailboxes, the pending messages and the threads
pub record Lines : Type 0 where
  pub next_thread : ℕ
  pub next_mailbox : ℕ
  pub next_message : ℕ
  pub mailboxes : List MailboxLine
  pub messages : List Message
  pub threads : List ThreadLine

-- ---- the checkpoint that the lines make

abbrev pub thread_of : ThreadLine → ℕ × Thread
thread_of t = (t.number, record { control = t.control; frames = map (λ f. f.frame) t.frames })

abbrev pub certs_of : ThreadLine → PartCerts
certs_of t = record { control = t.cert; frames = map (λ f. f.cert) t.frames }

-- nothing was printed
abbrev pub config_of : Lines → Config
config_of x = record {
  threads = map thread_of x.threads;
  messages = x.messages;
  live = map (λ m. m.number) x.mailboxes;
  printed = [];
  next_thread = x.next_thread;
  next_mailbox = x.next_mailbox;
  next_message = x.next_message;
}

abbrev pub checkpoint_of : Lines → Checkpoint
checkpoint_of x = record {
  config = config_of x;
  interfaces = map (λ m. m.interface) x.mailboxes;
  mailbox_certs = map (λ m. m.cert) x.mailboxes;
  part_certs = map certs_of x.threads;
}

-- ---- the lines of a checkpoint

abbrev pub mailbox_lines : List ℕ → List ℕ → List (Option Cert) → List MailboxLine
mailbox_lines (n ∷ ns) (i ∷ is) (c ∷ cs) = record { number = n; interface = i; cert = c } ∷ mailbox_lines ns is cs
mailbox_lines _ _ _ = []

abbrev pub frame_lines : List Frame → List (Option Cert) → List FrameLine
frame_lines (f ∷ fs) (c ∷ cs) = record { frame = f; cert = c } ∷ frame_lines fs cs
frame_lines _ _ = []

abbrev pub thread_line_of : ℕ × Thread → PartCerts → ThreadLine
thread_line_of e k = record { number = e.0; control = e.1.control; cert = k.control; frames = frame_lines e.1.frames k.frames }

abbrev pub thread_lines : List (ℕ × Thread) → List PartCerts → List ThreadLine
thread_lines (e ∷ es) (k ∷ ks) = thread_line_of e k ∷ thread_lines es ks
thread_lines _ _ = []

abbrev pub lines_of : Checkpoint → Lines
lines_of x = record {
  next_thread = x.config.next_thread;
  next_mailbox = x.config.next_mailbox;
  next_message = x.config.next_message;
  mailboxes = mailbox_lines x.config.live x.interfaces x.mailbox_certs;
  messages = x.config.messages;
  threads = thread_lines x.config.threads x.part_certs;
}
