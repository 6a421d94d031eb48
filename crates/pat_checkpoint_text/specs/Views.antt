-- What the code's lines are in the definitions.
use Rattle.std.specs.Prelude.{ℕ, List, [], Option}
use Rattle.std.specs.Borrow.{Bor}
use Rattle.pat_semantics_spec.specs.Values as values
use Rattle.pat_semantics_spec.specs.Configs as configs
use Rattle.pat_inclusion_spec.specs.Certificates as certificates
use Rattle.pat_derivations.specs.declared.data.Cert.{Cert}
use Rattle.pat_reduce_values.specs.declared.values.Value.{Value}
use Rattle.pat_reduce_values.specs.ValueViews.{env_view}
use Rattle.pat_reduce.specs.declared.threads.state.Control.{Control}
use Rattle.pat_reduce.specs.threads.ThreadViews as threads
use Rattle.pat_checkpoint_data.specs.Views.{end_view}
use Rattle.pat_checkpoint_spec.specs.text.Lines as lines
use Rattle.pat_checkpoint_spec.specs.text.LineReading.{lines_with}
use Rattle.pat_checkpoint_text.specs.declared.heads.NextNumbers.{NextNumbers}
use Rattle.pat_checkpoint_text.specs.declared.mailboxes.MailboxLine.{MailboxLine}
use Rattle.pat_checkpoint_text.specs.declared.threads.ThreadLine.{ThreadLine}
use Rattle.pat_checkpoint_text.specs.declared.threads.FrameLine.{FrameLine}

-- the next numbers, and nothing behind them
abbrev pub next_view : NextNumbers → lines.Lines
next_view n = lines_with n.thread n.mailbox n.message

abbrev pub split_view : Bor (List ℕ) × Option Cert → List ℕ × Option certificates.Cert
split_view r = (r.0.now, end_view r.1)

abbrev pub mailbox_view : MailboxLine → lines.MailboxLine
mailbox_view m = record { number = m.number; interface = m.interface; cert = end_view m.cert }

-- the values of variables, and a certificate
abbrev pub bound_view : List (ℕ × Value) × Option Cert → values.Env × Option certificates.Cert
bound_view r = (env_view r.0, end_view r.1)

abbrev pub held_view : Control × Option Cert → configs.Control × Option certificates.Cert
held_view r = (threads.control_view r.0, end_view r.1)

-- a thread without frames
abbrev pub thread_view : ThreadLine → lines.ThreadLine
thread_view t = record { number = t.number; control = threads.control_view t.control; cert = end_view t.cert; frames = [] }

abbrev pub frame_view : FrameLine → lines.FrameLine
frame_view f = record { frame = threads.frame_view f.frame; cert = end_view f.cert }
