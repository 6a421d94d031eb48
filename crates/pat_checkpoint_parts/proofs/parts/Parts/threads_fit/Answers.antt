use Rattle.std.proofs.Common.{ℕ, sym, ◌∙◌}
use Rattle.pat_semantics_spec.specs.Configs.{Thread}
use Rattle.pat_reduce.specs.declared.threads.state.ThreadState.{ThreadState}
use Rattle.pat_reduce.specs.threads.ThreadViews.{thread_view}
use Rattle.pat_checkpoint_spec.specs.Numbers.{thread_ascends}
use Rattle.pat_checkpoint_spec.specs.Kinds.{thread_fits}
use Rattle.pat_checkpoint_parts.specs.Typed.{program_in, typing_in}
use Rattle.pat_checkpoint_parts.specs.Shown.{interfaces_in}
use Rattle.pat_checkpoint_parts.proofs.Turns.{one_passes, others_pass}
use Rattle.pat_checkpoint_parts.proofs.parts.Parts.threads_fit.Goals as goal

pub loop-state-preserved : goal.loop-state-preserved
loop-state-preserved c =
    let x = c.args.self.now in
    let threads = c.args.threads.now in
    let k = c.loop-state.state-index in
    let e = c.loop-state-item.result in
    record {
      ascend = others_pass (λ (s : ℕ × Thread). thread_ascends s.1) (λ (s : ℕ × ThreadState). (s.0, thread_view s.1)) threads k e c.loop-state-test.true c.loop-state-item.is c.loop-state.invariant.ascend;
      same =
          one_passes (λ (s : ℕ × Thread). thread_fits (program_in x.typing) (typing_in x.typing) (interfaces_in x) s.1) (λ (s : ℕ × ThreadState). (s.0, thread_view s.1)) threads k e c.loop-state-test.true c.loop-state-item.is _ c.loop-state.invariant.same
          (sym c.thread_fits.ensures ∙ c.if-not-thread_fits.false);
    }
