use Rattle.std.proofs.Common.{◌≡◌, drop}
use Rattle.std.specs.Prelude.{option_map, find}
use Rattle.std.specs.List.{list_any}
use Rattle.pat_semantics_spec.specs.Runs.{can_step, can_step_thread}
use Rattle.pat_reduce.specs.threads.Views.{program_view}
use Rattle.pat_reduce.specs.Views.{config_view, threads_view}
use Rattle.pat_reduce.proofs.config.Config.ready_thread.Given as goal

-- whether a thread from here on can step decides it, and the first from here on is the first
abbrev pub invariant-loop-entry : goal.invariant-loop-entry
invariant-loop-entry l = record {
  any :
      list_any (λ e. can_step_thread (program_view l.code.program) (config_view l.self) e.0) (threads_view (drop l.entry-index l.entry-items)) ≡ can_step (program_view l.code.program) (config_view l.self);
  first :
      option_map (λ e. e.0) (find (λ e. can_step_thread (program_view l.code.program) (config_view l.self) e.0) (threads_view (drop l.entry-index l.entry-items)))
      ≡ option_map (λ e. e.0) (find (λ e. can_step_thread (program_view l.code.program) (config_view l.self) e.0) (threads_view l.self.threads));
}
