-- Checkpoints whose numbers have 32 bits and whose integers have 64, as a text can have them.
use Rattle.std.specs.Prelude.{Bool, true, ◌&&◌, ℕ, List, IsTrue}
use Rattle.std.specs.List.{list_all}
use Rattle.pat_semantics_spec.specs.Values.{IntConst, Constant, Value, Const, Mailbox, Env}
use Rattle.pat_semantics_spec.specs.Configs.{Control, Running, Returned, Frame, Thread, Message}
use Rattle.pat_texts_spec.specs.Numbers.{is_number}
use Rattle.pat_checkpoint_spec.specs.Checkpoints.{Checkpoint}
use Rattle.pat_checkpoint_spec.specs.text.Integers.{is_integer}
use Rattle.pat_checkpoint_laws.specs.text.Readable.{is_cert, is_name, are_certs}

abbrev pub constant_in_range : Constant → Bool
constant_in_range (IntConst n) = is_integer n
constant_in_range _ = true

abbrev pub value_in_range : Value → Bool
value_in_range (Const c) = constant_in_range c
value_in_range (Mailbox a) = is_number a

abbrev pub values_in_range : List Value → Bool
values_in_range vs = list_all value_in_range vs

abbrev pub named_in_range : ℕ × Value → Bool
named_in_range e = is_number e.0 && value_in_range e.1

abbrev pub env_in_range : Env → Bool
env_in_range env = list_all named_in_range env

abbrev pub control_in_range : Control → Bool
control_in_range (Running n env) = is_number n && env_in_range env
control_in_range (Returned v) = value_in_range v

abbrev pub frame_in_range : Frame → Bool
frame_in_range f = is_name f.var && (is_number f.body && env_in_range f.env)

abbrev pub thread_in_range : ℕ × Thread → Bool
thread_in_range e = is_number e.0 && (control_in_range e.1.control && list_all frame_in_range e.1.frames)

abbrev pub message_in_range : Message → Bool
message_in_range m = is_number m.number && (is_number m.mailbox && values_in_range m.values)

pub record IsInRange (x : Checkpoint) : Type 0 where
  pub next_thread : IsTrue (is_number x.config.next_thread)
  pub next_mailbox : IsTrue (is_number x.config.next_mailbox)
  pub next_message : IsTrue (is_number x.config.next_message)
  pub live : IsTrue (list_all is_number x.config.live)
  pub mailbox_certs : IsTrue (list_all is_cert x.mailbox_certs)
  pub messages : IsTrue (list_all message_in_range x.config.messages)
  pub threads : IsTrue (list_all thread_in_range x.config.threads)
  pub part_certs : IsTrue (list_all are_certs x.part_certs)
