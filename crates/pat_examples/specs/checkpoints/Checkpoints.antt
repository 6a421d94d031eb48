-- Checkpoints of a program with one message, and forged ones.
use Rattle.std.specs.Prelude.{ℕ, true, List, [], ◌∷◌, Option, Some, None}
use Rattle.pat_semantics_spec.specs.Values.{Value, Const, Mailbox, UnitConst, BoolConst, Env}
use Rattle.pat_semantics_spec.specs.Configs.{Control, Running, Returned, Frame, Thread, Message, Config}
use Rattle.pat_semantics_spec.specs.Steps.{Act, ActReceive, ActFree, ActEnd}
use Rattle.pat_semantics_spec.specs.Runs.{Entry}
use Rattle.pat_inclusion_spec.specs.Certificates.{Cert}
use Rattle.pat_checkpoint_spec.specs.Checkpoints.{PartCerts, Checkpoint}

abbrev pub message : ℕ → ℕ → ℕ → List Value → Message
message number mailbox tag values = record { number = number; mailbox = mailbox; tag = tag; values = values }

abbrev pub frame : Option ℕ → ℕ → Env → Frame
frame var body env = record { var = var; body = body; env = env }

abbrev pub thread : Control → List Frame → Thread
thread control frames = record { control = control; frames = frames }

-- a configuration with thread 0, if it is given, and mailbox 0
abbrev pub config : List (ℕ × Thread) → List Message → List ℕ → ℕ → Config
config threads messages live next_mailbox =
    record { threads = threads; messages = messages; live = live; printed = []; next_thread = 1; next_mailbox = next_mailbox; next_message = 1 }

abbrev pub returned : Value → Thread
returned v = thread (Returned v) (frame None 4 ((0, Mailbox 0) ∷ []) ∷ [])

abbrev pub unit : Value
unit = Const UnitConst

abbrev pub no_cert : PartCerts
no_cert = record { control = None; frames = None ∷ [] }

-- thread 0 with these places for certificates, the messages, and mailbox 0 without a certificate
abbrev pub with_thread_0 : Thread → PartCerts → List Message → Checkpoint
with_thread_0 t certs messages =
    record { config = config ((0, t) ∷ []) messages (0 ∷ []) 1; interfaces = 0 ∷ []; mailbox_certs = None ∷ []; part_certs = certs ∷ [] }

-- after five steps of the program: the message is sent, and the guard is next
abbrev pub sent : Checkpoint
sent = with_thread_0 (returned unit) no_cert (message 0 0 0 [] ∷ [])

-- the next number of mailboxes is one that is in use
abbrev pub low_number : Checkpoint
low_number = record sent { config = config ((0, returned unit) ∷ []) (message 0 0 0 [] ∷ []) (0 ∷ []) 0 }

-- a truth value is returned
abbrev pub other_kind : Checkpoint
other_kind = with_thread_0 (returned (Const (BoolConst true))) no_cert (message 0 0 0 [] ∷ [])

-- a certificate on the frame, whose result is unit
abbrev pub left_over : Cert → Checkpoint
left_over k = with_thread_0 (returned unit) (record { control = None; frames = Some k ∷ [] }) (message 0 0 0 [] ∷ [])

-- one on the mailbox, whose inclusion is trivial
abbrev pub left_over_balance : Cert → Checkpoint
left_over_balance k = record sent { mailbox_certs = Some k ∷ [] }

-- the message brings the mailbox that it is in
abbrev pub in_itself : Checkpoint
in_itself = with_thread_0 (returned unit) no_cert (message 0 0 0 (Mailbox 0 ∷ []) ∷ [])

-- the guard is control and frame
abbrev pub twice_there : Checkpoint
twice_there =
    with_thread_0 (thread (Running 4 ((0, Mailbox 0) ∷ [])) (frame None 4 ((0, Mailbox 0) ∷ []) ∷ [])) no_cert (message 0 0 0 [] ∷ [])

-- nobody receives
abbrev pub no_receiver : Checkpoint
no_receiver = with_thread_0 (thread (Returned unit) []) (record { control = None; frames = [] }) (message 0 0 0 [] ∷ [])

-- the message has a tag that the interface doesn't have
abbrev pub foreign_tag : Checkpoint
foreign_tag = with_thread_0 (returned unit) no_cert (message 0 0 1 [] ∷ [])

-- the message isn't there
abbrev pub lost : Checkpoint
lost = with_thread_0 (returned unit) no_cert []

-- nothing is left of the program
abbrev pub ended : Checkpoint
ended = record { config = config [] [] [] 0; interfaces = []; mailbox_certs = []; part_certs = [] }

-- ---- what follows

abbrev pub entry : ℕ → Act → Entry
entry count act = record { worker = 0; thread = 0; local_steps = count; shared = Some act }

abbrev pub then_received : List Entry
then_received = entry 1 (ActReceive 0) ∷ entry 0 ActFree ∷ entry 0 ActEnd ∷ []
