use Rattle.pat_machine.specs.Parted.{shown}
use Rattle.std.proofs.Common.{[], ◌∷◌, ◌++◌, refl}
use Rattle.pat_machine.proofs.Rounds.{round_less, all_back_go_on, round_more}
use Rattle.pat_machine.proofs.parts.Parts.run.Goals as goal

pub loop-job-init : goal.loop-job-init
loop-job-init c = record {
  kept = c.give_back_all.ensures.kept;
  goes_on = ([], all_back_go_on (shown c.args.self.now) (shown c.give_back_all.new.self) c.args.worker [] c.give_back_all.ensures.back refl);
}

pub serve-requires-clause-lent : goal.serve-requires-clause-lent
serve-requires-clause-lent c = c.in-Some.ensures.taken.1.out

pub loop-job-smaller : goal.loop-job-smaller
loop-job-smaller c =
    let g = c.loop-job.invariant.goes_on in
    round_less (shown c.loop-job.self) (shown c.take.new.self) (shown c.serve.new.self) c.args.worker c.in-Some.job c.in_ok-_receipt._receipt g.1.none_out c.in-Some.ensures.taken.1 c.in_ok-_receipt.ensures.ok

pub loop-job-preserved : goal.loop-job-preserved
loop-job-preserved c =
    let g = c.loop-job.invariant.goes_on in
    let r = c.in_ok-_receipt._receipt in
    record {
      kept = c.in_ok-_receipt.ensures.kept;
      goes_on = (
        g.0 ++ r ∷ [],
        round_more (shown c.args.self.now) (shown c.loop-job.self) (shown c.take.new.self) (shown c.serve.new.self) c.args.worker c.in-Some.job r g.0 g.1 c.in-Some.ensures.taken c.in_ok-_receipt.ensures.ok,
      );
    }
