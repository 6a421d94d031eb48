use Rattle.std.proofs.Common.{◌≡◌, true, drop}
use Rattle.std.specs.List.{list_all}
use Rattle.pat_reduce.specs.Views.{threads_view}
use Rattle.pat_checkpoint_spec.specs.Numbers.{thread_ascends}
use Rattle.pat_checkpoint_spec.specs.Kinds.{thread_fits}
use Rattle.pat_checkpoint_parts.specs.Typed.{program_in, typing_in}
use Rattle.pat_checkpoint_parts.specs.Shown.{interfaces_in}
use Rattle.pat_checkpoint_parts.proofs.parts.Parts.threads_fit.Given as goal

-- what is left decides it
abbrev pub invariant-loop-state : goal.invariant-loop-state
invariant-loop-state l = record {
  ascend : list_all (λ e. thread_ascends e.1) (threads_view (drop l.state-index l.threads)) ≡ true;
  same : list_all (λ e. thread_fits (program_in l.self.typing) (typing_in l.self.typing) (interfaces_in l.self) e.1) (threads_view (drop l.state-index l.threads)) ≡ list_all (λ e. thread_fits (program_in l.self.typing) (typing_in l.self.typing) (interfaces_in l.self) e.1) (threads_view l.threads);
}
