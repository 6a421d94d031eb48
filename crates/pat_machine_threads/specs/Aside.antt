-- A thread's state that is set aside.
use Rattle.std.specs.Prelude.{map}
use Rattle.pat_semantics_spec.specs.Configs.{Thread}
use Rattle.pat_reduce.specs.threads.ThreadViews.{control_view, frame_view}
use Rattle.pat_machine_threads.specs.declared.asides.Aside.{Aside}

abbrev pub aside_view : Aside → Thread
aside_view kept = record { control = control_view kept.rest.control; frames = map frame_view kept.frames.0 }
