use Rattle.std.proofs.Common.{false}
use Rattle.pat_workers.specs.declared.turns.machines.Taken.TheVariants as given
use Rattle.pat_workers.proofs.Rounds.{round_of}
use Rattle.pat_workers.proofs.working.work_once.Goals as goal

pub returns-in-Err-clause-round : goal.returns-in-Err-clause-round
returns-in-Err-clause-round g c =
    round_of c.args.worker.now.pass c.take.new.worker.pass c.serve.new.worker.pass.seen false (given.Job c.in-Job.job c.in-Job.state) c.take.ensures.pass c.in-Job.ensures.taken c.in-Err.ensures.back
