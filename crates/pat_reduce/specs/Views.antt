-- What the code's configurations, steps and entries are in the definitions.
use Rattle.std.specs.Prelude.{ℕ, List, option_map, map}
use Rattle.pat_semantics_spec.specs.Configs.{Control, Thread, Config}
use Rattle.pat_semantics_spec.specs.Steps.{Act, ActLocal, ActNew, ActSend, ActSpawn, ActPrint, ActEnd, ActFree, ActReceive, Step}
use Rattle.pat_semantics_spec.specs.Runs.{Entry}
use Rattle.pat_reduce.specs.declared.threads.state.Control.{Control as CodeControl}
use Rattle.pat_reduce.specs.declared.threads.state.ThreadState.{ThreadState}
use Rattle.pat_reduce.specs.threads.ThreadViews.{control_view, thread_view, message_view}
use Rattle.pat_reduce.specs.declared.config.Config.{Config as CodeConfig}
use Rattle.pat_reduce.specs.declared.history.Act.{Act as CodeAct}
use Rattle.pat_reduce.specs.declared.history.Act.TheVariants as act
use Rattle.pat_reduce.specs.declared.history.Step.{Step as CodeStep}
use Rattle.pat_reduce.specs.declared.history.Entry.{Entry as CodeEntry}

-- a mailbox and a control
abbrev pub freed_view : ℕ × CodeControl → ℕ × Control
freed_view q = (q.0, control_view q.1)

abbrev pub threads_view : List (ℕ × ThreadState) → List (ℕ × Thread)
threads_view ts = map (λ e. (e.0, thread_view e.1)) ts

abbrev pub config_view : CodeConfig → Config
config_view c = record {
  threads = threads_view c.threads;
  messages = map message_view c.messages;
  live = c.live;
  printed = c.printed;
  next_thread = c.next_thread;
  next_mailbox = c.next_mailbox;
  next_message = c.next_message;
}

abbrev pub act_view : CodeAct → Act
act_view act.Local = ActLocal
act_view act.New = ActNew
act_view act.Send = ActSend
act_view act.Spawn = ActSpawn
act_view act.Print = ActPrint
act_view act.End = ActEnd
act_view act.Free = ActFree
act_view (act.Receive k) = ActReceive k

abbrev pub step_view : CodeStep → Step
step_view k = record { thread = k.thread; act = act_view k.act }

abbrev pub entry_view : CodeEntry → Entry
entry_view e = record { worker = e.worker; thread = e.thread; local_steps = e.local; shared = option_map act_view e.shared }
