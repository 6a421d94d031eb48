use Rattle.std.proofs.Common.{arith}
use Rattle.pat_reduce.specs.threads.Views.{program_view}
use Rattle.pat_reduce.specs.threads.ThreadViews.{thread_view}
use Rattle.pat_machine_threads.proofs.Settlings.{locals_on}
use Rattle.pat_machine_threads.proofs.run.run_locally.Goals as goal

pub loop-steps-preserved : goal.loop-steps-preserved
loop-steps-preserved c =
    let more = c.in_ok-more.ensures in
    let taken = more.within in
    let so_far = c.loop-steps.invariant.within in
    record {
      taken = locals_on (program_view c.args.code.now.program) c.loop-steps.steps c.in_ok-more.more (thread_view c.args.state.now) (thread_view c.loop-steps.state) (thread_view c.advance.new.state) c.loop-steps.invariant.taken more.taken;
      within = omega arith;
    }
