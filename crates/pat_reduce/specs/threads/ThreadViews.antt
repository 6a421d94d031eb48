-- What the code's threads and messages are in the definitions.
use Rattle.std.specs.Prelude.{map}
use Rattle.pat_semantics_spec.specs.Configs.{Control, Running, Returned, Frame, Thread, Message}
use Rattle.pat_reduce_values.specs.ValueViews.{value_view, env_view}
use Rattle.pat_reduce.specs.declared.threads.state.Control.{Control as CodeControl}
use Rattle.pat_reduce.specs.declared.threads.state.Control.TheVariants.{Node as CodeNode, Returned as CodeReturned}
use Rattle.pat_reduce.specs.declared.threads.state.Frame.{Frame as CodeFrame}
use Rattle.pat_reduce.specs.declared.threads.state.ThreadState.{ThreadState}
use Rattle.pat_reduce.specs.declared.threads.state.Message.{Message as CodeMessage}

abbrev pub control_view : CodeControl → Control
control_view (CodeNode n env) = Running n (env_view env)
control_view (CodeReturned v) = Returned (value_view v)

abbrev pub frame_view : CodeFrame → Frame
frame_view f = record { var = f.var; body = f.body; env = env_view f.env }

abbrev pub thread_view : ThreadState → Thread
thread_view s = record { control = control_view s.control; frames = map frame_view s.frames }

abbrev pub message_view : CodeMessage → Message
message_view m = record { number = m.number; mailbox = m.mailbox; tag = m.tag; values = map value_view m.values }
