-- A checkpoint that is being put together, against the lines that were read.
use Rattle.std.specs.Prelude.{◌≡◌, ℕ, ◌<◌, List, [], ◌∷◌, ◌++◌, length, get_or, map, Option, Some, None, Result, Ok, Err}
use Rattle.pat_semantics_spec.specs.Programs.{Program}
use Rattle.pat_reduce.specs.declared.threads.state.Frame.{Frame}
use Rattle.pat_reduce.specs.declared.threads.state.ThreadState.{ThreadState}
use Rattle.pat_reduce.specs.Views.{threads_view}
use Rattle.pat_reduce.specs.threads.ThreadViews.{message_view}
use Rattle.pat_derivations.specs.declared.data.Cert.{Cert}
use Rattle.pat_checkpoint_data.specs.Parts.{PartCerts}
use Rattle.pat_checkpoint_data.specs.declared.data.Checkpoint.{Checkpoint}
use Rattle.pat_checkpoint_data.specs.Views.{end_view, part_certs_view}
use Rattle.pat_checkpoint_spec.specs.text.Lines.{Lines, thread_of, certs_of}
use Rattle.pat_checkpoint_spec.specs.text.Reading.{ReadsTo}
use Rattle.pat_derivation_lines.specs.declared.patterns.unread.Unread.{Unread}
use Rattle.pat_derivation_lines.specs.declared.patterns.unread.Unread.TheVariants.{NotSpelled, NoMemory}
use Rattle.pat_checkpoint_text.specs.declared.mailboxes.MailboxLine.{MailboxLine}
use Rattle.pat_checkpoint_text.specs.declared.threads.ThreadLine.{ThreadLine}

-- each number is above those before it
abbrev pub Ascends : List ℕ → Type 0
Ascends ks = (i j : ℕ) → i < j → j < length ks → get_or ks i 0 < get_or ks j 0

-- the checkpoint is what the lines make, and its mailboxes ascend
pub record Gathers (x : Lines) (c : Checkpoint) : Type 0 where
  pub next_thread : x.next_thread ≡ c.config.next_thread
  pub next_mailbox : x.next_mailbox ≡ c.config.next_mailbox
  pub next_message : x.next_message ≡ c.config.next_message
  pub live : map (λ m. m.number) x.mailboxes ≡ c.config.live
  pub interfaces : map (λ m. m.interface) x.mailboxes ≡ c.interfaces
  pub mailbox_certs : map (λ m. m.cert) x.mailboxes ≡ map end_view c.mailbox_certs
  pub messages : x.messages ≡ map message_view c.config.messages
  pub threads : map thread_of x.threads ≡ threads_view c.config.threads
  pub part_certs : map certs_of x.threads ≡ map part_certs_view c.part_certs
  pub silent : [] ≡ c.config.printed
  pub ascends : Ascends c.config.live

-- the lines are read, and the checkpoint is what they make, or they aren't read, or memory ran out
abbrev pub Grows : {A : Type 0} → Option Lines → Checkpoint → Result A Unread → Type 0
Grows o c (Ok x) = (y : Lines) × (o ≡ Some y) × Gathers y c
Grows o c (Err NotSpelled) = o ≡ None
Grows o c (Err NoMemory) = Unit {0}

-- the text up to the rest is read as lines that make the checkpoint
abbrev pub IsReadTo : Program → List ℕ → Checkpoint → List ℕ → Type 0
IsReadTo p text c rest = (x : Lines) × ReadsTo p text x rest × Gathers x c

-- a mailbox more
abbrev pub with_mailbox : Checkpoint → MailboxLine → Checkpoint
with_mailbox c m = record c {
  config = record c.config { live = c.config.live ++ m.number ∷ [] };
  interfaces = c.interfaces ++ m.interface ∷ [];
  mailbox_certs = c.mailbox_certs ++ m.cert ∷ [];
}

-- a thread more, without frames
abbrev pub with_thread : Checkpoint → ThreadLine → Checkpoint
with_thread c t = record c {
  config = record c.config { threads = c.config.threads ++ (t.number, record { control = t.control; frames = [] }) ∷ [] };
  part_certs = c.part_certs ++ record { control = t.cert; frames = [] } ∷ [];
}

-- a frame more, on top
abbrev pub with_frame : Frame → ℕ × ThreadState → ℕ × ThreadState
with_frame f e = (e.0, record { control = e.1.control; frames = f ∷ e.1.frames })

abbrev pub with_cert : Option Cert → PartCerts → PartCerts
with_cert k e = record { control = e.control; frames = k ∷ e.frames }

-- the last item is another
pub record LastTurned {A : Type 0} (f : A → A) (old new : List A) : Type 0 where
  pub front : List A
  pub last : A
  pub was : old ≡ front ++ last ∷ []
  pub is : new ≡ front ++ f last ∷ []

-- the last item is another, or there is none, or memory ran out
abbrev pub Turns : {A B : Type 0} → (A → A) → List A → List A → Result B Unread → Type 0
Turns f old new (Ok x) = LastTurned f old new
Turns f old new (Err NotSpelled) = old ≡ []
Turns f old new (Err NoMemory) = Unit {0}
