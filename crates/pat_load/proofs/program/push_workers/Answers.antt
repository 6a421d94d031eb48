use Rattle.std.proofs.Common.{◌++◌}
use Rattle.pat_load.specs.LoadText.{each_from, worker_text}
use Rattle.pat_load.proofs.Split.{one_more}
use Rattle.pat_load.proofs.program.push_workers.Goals as goal

pub loop-number-preserved : goal.loop-number-preserved
loop-number-preserved c = one_more worker_text c.loop-number.text.items c.push_worker.new.text.items (c.args.text.now.items ++ each_from worker_text 1 c.args.workers) c.loop-number.number c.args.workers c.loop-number-test.true c.loop-number.invariant c.in_ok-push_worker.ensures
