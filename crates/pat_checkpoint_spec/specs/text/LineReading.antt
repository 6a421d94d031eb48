-- How the lines of a checkpoint are read.
use Rattle.std.specs.Prelude.{ℕ, Bool, true, false, ◌&&◌, nat_lt, bytes_eq, if◌then◌else◌, List, [], ◌∷◌, ◌++◌, length, map, Option, Some, None, option_map, option_and_then, codes}
use Rattle.pat_semantics_spec.specs.Values.{Env}
use Rattle.pat_semantics_spec.specs.Programs.{Program}
use Rattle.pat_semantics_spec.specs.Configs.{Control, Running, Returned, Message}
use Rattle.pat_inclusion_spec.specs.Certificates.{Cert}
use Rattle.pat_texts_spec.specs.Numbers.{read_number}
use Rattle.pat_derivation_text_spec.specs.patterns.PatternReading.{place_of}
use Rattle.pat_texts_spec.specs.Fronts.{behind}
use Rattle.pat_texts_spec.specs.Joined.{cut, before}
use Rattle.pat_derivation_text_spec.specs.DerivationText.{tag_names}
use Rattle.pat_derivation_text_spec.specs.LineReading.{found, read_cert}
use Rattle.pat_checkpoint_spec.specs.text.Outside.{cut_outside}
use Rattle.pat_checkpoint_spec.specs.text.ValueReading.{read_value, read_values, read_env}
use Rattle.pat_checkpoint_spec.specs.text.Lines.{MailboxLine, FrameLine, ThreadLine, Lines}
use Rattle.pat_checkpoint_spec.specs.text.CheckpointText.{interface_in}

-- ---- certificates

-- a certificate behind a space, or none at the end of a line
abbrev pub read_cert_end : List ℕ → Option (Option Cert)
read_cert_end [] = Some None
read_cert_end (b ∷ bs) = option_and_then (λ more. option_map Some (read_cert more)) (behind (32 ∷ []) (b ∷ bs))

-- what stands before a space, and the certificate behind it; or all, and none
abbrev pub with_cert : List ℕ → Option (List ℕ × List ℕ) → Option (List ℕ × Option Cert)
with_cert bytes None = Some (bytes, None)
with_cert bytes (Some r) = option_map (λ c. (r.0, Some c)) (read_cert r.1)

-- ---- the next numbers

abbrev pub lines_with : (t b m : ℕ) → Lines
lines_with t b m = record { next_thread = t; next_mailbox = b; next_message = m; mailboxes = []; messages = []; threads = [] }

abbrev pub next_messages : (t b : ℕ) → List ℕ → Option Lines
next_messages t b bytes = option_map (lines_with t b) (read_number bytes)

abbrev pub next_mailboxes : (t : ℕ) → List ℕ × List ℕ → Option Lines
next_mailboxes t r = option_and_then (λ b. next_messages t b r.1) (read_number r.0)

abbrev pub next_threads : List ℕ × List ℕ → Option Lines
next_threads r = option_and_then (λ t. option_and_then (next_mailboxes t) (cut 32 r.1)) (read_number r.0)

abbrev pub read_next : List ℕ → Option Lines
read_next bytes = option_and_then (λ more. option_and_then next_threads (cut 32 more)) (behind (codes "next ") bytes)

-- ---- mailboxes

abbrev pub mailbox_with : (number : ℕ) → Option Cert → ℕ × List (List ℕ) → MailboxLine
mailbox_with n c f = record { number = n; interface = f.0; cert = c }

abbrev pub mailbox_named : Program → (number : ℕ) → List ℕ × Option Cert → Option MailboxLine
mailbox_named p n r = option_map (mailbox_with n r.1) (found r.0 p.interfaces)

abbrev pub mailbox_of : Program → List ℕ × List ℕ → Option MailboxLine
mailbox_of p r = option_and_then (λ n. option_and_then (mailbox_named p n) (with_cert r.1 (cut 32 r.1))) (read_number r.0)

-- behind `mailbox `
abbrev pub read_mailbox : Program → List ℕ → Option MailboxLine
read_mailbox p bytes = option_and_then (mailbox_of p) (cut 32 bytes)

-- ---- messages

-- a tag's number, if messages may have it
abbrev pub tag_number : ℕ → Option ℕ
tag_number t = if nat_lt t 256 then Some t else None

-- the tag of this name, of a mailbox's interface
abbrev pub tag_of : Program → List ℕ → ℕ → Option ℕ
tag_of p name i = option_and_then tag_number (place_of name (tag_names p i))

abbrev pub message_with : (number mailbox tag : ℕ) → List ℕ → Option Message
message_with n b t bytes = option_map (λ vs. record { number = n; mailbox = b; tag = t; values = vs }) (option_and_then read_values (before (41 ∷ []) bytes))

-- the tag before a bracket, of a mailbox that has a line, and the payload behind it
abbrev pub message_tagged : Program → List MailboxLine → (number mailbox : ℕ) → List ℕ × List ℕ → Option Message
message_tagged p ms n b r = option_and_then (λ t. message_with n b t r.1) (option_and_then (tag_of p r.0) (interface_in ms b))

abbrev pub message_in : Program → List MailboxLine → (number : ℕ) → List ℕ × List ℕ → Option Message
message_in p ms n r = option_and_then (λ b. option_and_then (message_tagged p ms n b) (cut 40 r.1)) (read_number r.0)

abbrev pub message_of : Program → List MailboxLine → List ℕ × List ℕ → Option Message
message_of p ms r = option_and_then (λ n. option_and_then (message_in p ms n) (cut 32 r.1)) (read_number r.0)

-- behind `message `
abbrev pub read_message : Program → List MailboxLine → List ℕ → Option Message
read_message p ms bytes = option_and_then (message_of p ms) (cut 32 bytes)

-- ---- threads

-- a number of a node of the program
abbrev pub node_number : Program → ℕ → Option ℕ
node_number p n = if nat_lt n (length p.nodes) then Some n else None

abbrev pub read_node : Program → List ℕ → Option ℕ
read_node p bytes = option_and_then (node_number p) (read_number bytes)

-- the values of variables up to the closing bracket, and what stands behind it
abbrev pub bound_in : List ℕ × List ℕ → Option (Env × Option Cert)
bound_in r = option_and_then (λ env. option_map (λ c. (env, c)) (read_cert_end r.1)) (read_env r.0)

abbrev pub read_bound : List ℕ → Option (Env × Option Cert)
read_bound bytes = option_and_then (λ more. option_and_then bound_in (cut_outside 125 more)) (behind (123 ∷ []) bytes)

abbrev pub running_at : ℕ → Env × Option Cert → Control × Option Cert
running_at n r = (Running n r.0, r.1)

abbrev pub running_of : Program → List ℕ × List ℕ → Option (Control × Option Cert)
running_of p r = option_and_then (λ n. option_map (running_at n) (read_bound r.1)) (read_node p r.0)

-- behind `node `
abbrev pub read_running : Program → List ℕ → Option (Control × Option Cert)
read_running p bytes = option_and_then (running_of p) (cut 32 bytes)

abbrev pub returned_of : List ℕ × Option Cert → Option (Control × Option Cert)
returned_of r = option_map (λ v. (Returned v, r.1)) (read_value r.0)

-- behind `value `
abbrev pub read_returned : List ℕ → Option (Control × Option Cert)
read_returned bytes = option_and_then returned_of (with_cert bytes (cut_outside 32 bytes))

-- a node, or else a value
abbrev pub control_by : Program → List ℕ → Option (List ℕ) → Option (Control × Option Cert)
control_by p bytes (Some more) = read_running p more
control_by p bytes None = option_and_then read_returned (behind (codes "value ") bytes)

abbrev pub read_control : Program → List ℕ → Option (Control × Option Cert)
read_control p bytes = control_by p bytes (behind (codes "node ") bytes)

-- a thread without frames
abbrev pub thread_with : (number : ℕ) → Control × Option Cert → ThreadLine
thread_with n r = record { number = n; control = r.0; cert = r.1; frames = [] }

abbrev pub thread_of : Program → List ℕ × List ℕ → Option ThreadLine
thread_of p r = option_and_then (λ n. option_map (thread_with n) (read_control p r.1)) (read_number r.0)

-- behind `thread `
abbrev pub read_thread : Program → List ℕ → Option ThreadLine
read_thread p bytes = option_and_then (thread_of p) (cut 32 bytes)

-- ---- frames

-- a variable, or a dash for none
abbrev pub read_name : List ℕ → Option (Option ℕ)
read_name bytes =
    if bytes_eq bytes (codes "-") then Some None else option_and_then (λ more. option_map Some (read_number more)) (behind (118 ∷ []) bytes)

abbrev pub frame_at : (var : Option ℕ) → (body : ℕ) → Env × Option Cert → FrameLine
frame_at x n r = record { frame = record { var = x; body = n; env = r.0 }; cert = r.1 }

abbrev pub frame_in : Program → (var : Option ℕ) → List ℕ × List ℕ → Option FrameLine
frame_in p x r = option_and_then (λ n. option_map (frame_at x n) (read_bound r.1)) (read_node p r.0)

abbrev pub frame_of : Program → List ℕ × List ℕ → Option FrameLine
frame_of p r = option_and_then (λ x. option_and_then (frame_in p x) (cut 32 r.1)) (read_name r.0)

-- behind `frame `
abbrev pub read_frame : Program → List ℕ → Option FrameLine
read_frame p bytes = option_and_then (frame_of p) (cut 32 bytes)

-- ---- the lines so far, with one more

-- the number is above the last
abbrev pub is_next : List ℕ → ℕ → Bool
is_next [] n = true
is_next (k ∷ []) n = nat_lt k n
is_next (k ∷ l ∷ ks) n = is_next (l ∷ ks) n

abbrev pub is_none : {A : Type 0} → List A → Bool
is_none [] = true
is_none (a ∷ more) = false

-- a mailbox, as long as there is no message and no thread
abbrev pub add_mailbox : Lines → MailboxLine → Option Lines
add_mailbox x m = if is_next (map (λ k. k.number) x.mailboxes) m.number then Some (record x { mailboxes = x.mailboxes ++ m ∷ [] }) else None

abbrev pub with_mailbox : Program → Lines → List ℕ → Option Lines
with_mailbox p x bytes = if is_none x.messages && is_none x.threads then option_and_then (add_mailbox x) (read_mailbox p bytes) else None

-- a message, as long as there is no thread
abbrev pub add_message : Lines → Message → Option Lines
add_message x m = if is_next (map (λ k. k.number) x.messages) m.number then Some (record x { messages = x.messages ++ m ∷ [] }) else None

abbrev pub with_message : Program → Lines → List ℕ → Option Lines
with_message p x bytes = if is_none x.threads then option_and_then (add_message x) (read_message p x.mailboxes bytes) else None

abbrev pub add_thread : Lines → ThreadLine → Option Lines
add_thread x t = if is_next (map (λ k. k.number) x.threads) t.number then Some (record x { threads = x.threads ++ t ∷ [] }) else None

abbrev pub with_thread : Program → Lines → List ℕ → Option Lines
with_thread p x bytes = option_and_then (add_thread x) (read_thread p bytes)

-- a frame on top of those of the last thread, if there is one
abbrev pub framed : List ThreadLine → FrameLine → Option (List ThreadLine)
framed [] f = None
framed (t ∷ []) f = Some (record t { frames = f ∷ t.frames } ∷ [])
framed (t ∷ u ∷ us) f = option_map (λ ts. t ∷ ts) (framed (u ∷ us) f)

abbrev pub add_frame : Lines → FrameLine → Option Lines
add_frame x f = option_map (λ ts. record x { threads = ts }) (framed x.threads f)

abbrev pub with_frame : Program → Lines → List ℕ → Option Lines
with_frame p x bytes = option_and_then (add_frame x) (read_frame p bytes)

-- a mailbox, a message, a thread, or else a frame
abbrev pub thread_by : Program → Lines → List ℕ → Option (List ℕ) → Option Lines
thread_by p x bytes (Some more) = with_thread p x more
thread_by p x bytes None = option_and_then (with_frame p x) (behind (codes "frame ") bytes)

abbrev pub message_by : Program → Lines → List ℕ → Option (List ℕ) → Option Lines
message_by p x bytes (Some more) = with_message p x more
message_by p x bytes None = thread_by p x bytes (behind (codes "thread ") bytes)

abbrev pub mailbox_by : Program → Lines → List ℕ → Option (List ℕ) → Option Lines
mailbox_by p x bytes (Some more) = with_mailbox p x more
mailbox_by p x bytes None = message_by p x bytes (behind (codes "message ") bytes)

abbrev pub with_line : Program → Lines → List ℕ → Option Lines
with_line p x bytes = mailbox_by p x bytes (behind (codes "mailbox ") bytes)
