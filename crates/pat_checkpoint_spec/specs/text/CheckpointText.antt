-- The text of a checkpoint: a first line, the next numbers, a line for each live mailbox, for each pending message and for each thread,
-- and behind a thread's one for each of its frames.
use Rattle.std.specs.Prelude.{ℕ, List, [], ◌∷◌, ◌++◌, Option, Some, None, nat_eq, if◌then◌else◌, slice_index_or, codes}
use Rattle.std.specs.List.{flat_map}
use Rattle.std.specs.Fmt.{decimal}
use Rattle.pat_semantics_spec.specs.Programs.{Program}
use Rattle.pat_semantics_spec.specs.Configs.{Control, Running, Returned, Message}
use Rattle.pat_inclusion_spec.specs.Certificates.{Cert}
use Rattle.pat_derivation_text_spec.specs.DerivationText.{interface_name, tag_names, cert_text}
use Rattle.pat_checkpoint_spec.specs.Checkpoints.{Checkpoint}
use Rattle.pat_checkpoint_spec.specs.text.ValueText.{value_text, values_text, env_text}
use Rattle.pat_checkpoint_spec.specs.text.Lines.{MailboxLine, FrameLine, ThreadLine, Lines, lines_of}

-- a line ends with a newline
abbrev pub line : List ℕ → List ℕ
line text = text ++ 10 ∷ []

-- the first line
abbrev pub marker : List ℕ
marker = codes "%%checkpoint"

-- a certificate at the end of a line, if there is one
abbrev pub cert_end : Option Cert → List ℕ
cert_end None = []
cert_end (Some c) = 32 ∷ cert_text c

-- the next numbers of threads, mailboxes and messages
abbrev pub next_text : Lines → List ℕ
next_text x = codes "next " ++ (decimal x.next_thread ++ 32 ∷ (decimal x.next_mailbox ++ 32 ∷ decimal x.next_message))

abbrev pub mailbox_text : Program → MailboxLine → List ℕ
mailbox_text p m = codes "mailbox " ++ (decimal m.number ++ 32 ∷ (interface_name p m.interface ++ cert_end m.cert))

-- the interface of a mailbox that has a line
abbrev pub interface_in : List MailboxLine → ℕ → Option ℕ
interface_in [] b = None
interface_in (m ∷ ms) b = if nat_eq m.number b then Some m.interface else interface_in ms b

-- the name of a tag of a mailbox's interface
abbrev pub tag_name : Program → Option ℕ → ℕ → List ℕ
tag_name p None t = []
tag_name p (Some i) t = slice_index_or (tag_names p i) t []

-- a message's number, its mailbox, its tag, and its payload in brackets
abbrev pub message_text : Program → List MailboxLine → Message → List ℕ
message_text p ms m =
    codes "message " ++ (decimal m.number ++ 32 ∷ (decimal m.mailbox ++ 32 ∷ (tag_name p (interface_in ms m.mailbox) m.tag ++ 40 ∷ (values_text m.values ++ 41 ∷ []))))

-- the node with the values of variables, or the value that is given back
abbrev pub control_text : Control → List ℕ
control_text (Running n env) = codes "node " ++ (decimal n ++ 32 ∷ 123 ∷ (env_text env ++ 125 ∷ []))
control_text (Returned v) = codes "value " ++ value_text v

abbrev pub thread_text : ThreadLine → List ℕ
thread_text t = codes "thread " ++ (decimal t.number ++ 32 ∷ (control_text t.control ++ cert_end t.cert))

-- the variable that a value is bound to, or none
abbrev pub name_text : Option ℕ → List ℕ
name_text None = codes "-"
name_text (Some x) = 118 ∷ decimal x

-- a frame's name, its body and the values of variables
abbrev pub frame_text : FrameLine → List ℕ
frame_text f =
    codes "frame " ++ (name_text f.frame.var ++ 32 ∷ (decimal f.frame.body ++ 32 ∷ 123 ∷ (env_text f.frame.env ++ 125 ∷ cert_end f.cert)))

-- frames stand from the bottom up
abbrev pub frames_text : List FrameLine → List ℕ
frames_text [] = []
frames_text (f ∷ fs) = frames_text fs ++ line (frame_text f)

-- a thread's line, and those of its frames
abbrev pub thread_lines_text : ThreadLine → List ℕ
thread_lines_text t = line (thread_text t) ++ frames_text t.frames

abbrev pub mailboxes_text : Program → List MailboxLine → List ℕ
mailboxes_text p ms = flat_map (λ m. line (mailbox_text p m)) ms

abbrev pub messages_text : Program → List MailboxLine → List Message → List ℕ
messages_text p ms es = flat_map (λ m. line (message_text p ms m)) es

abbrev pub threads_text : List ThreadLine → List ℕ
threads_text ts = flat_map thread_lines_text ts

abbrev pub lines_text : Program → Lines → List ℕ
lines_text p x =
    line marker ++ (line (next_text x) ++ (mailboxes_text p x.mailboxes ++ (messages_text p x.mailboxes x.messages ++ threads_text x.threads)))

abbrev pub checkpoint_text : Program → Checkpoint → List ℕ
checkpoint_text p x = lines_text p (lines_of x)
