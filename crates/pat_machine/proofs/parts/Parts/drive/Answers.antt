use Rattle.std.proofs.Common.{[], ◌∷◌, ◌++◌, ap, ◌∙◌, subst, sym}
use Rattle.pat_machine.specs.Parted.{shown}
use Rattle.pat_machine.specs.Driving.{GoesOn}
use Rattle.pat_machine.proofs.Rounds.{round_less, all_back_go_on, round_more}
use Rattle.pat_machine.proofs.parts.Parts.drive.Goals as goal

pub loop-job-init : goal.loop-job-init
loop-job-init c = record {
  kept = c.give_back_all.ensures.kept;
  goes_on = all_back_go_on (shown c.args.self.now) (shown c.give_back_all.new.self) c.args.worker c.new-receipts.result.items c.give_back_all.ensures.back c.new-receipts.ensures.items;
}

pub serve-requires-clause-lent : goal.serve-requires-clause-lent
serve-requires-clause-lent c = c.in-Some.ensures.taken.1.out

pub loop-job-smaller : goal.loop-job-smaller
loop-job-smaller c =
    round_less (shown c.loop-job.self) (shown c.take.new.self) (shown c.serve.new.self) c.args.worker c.in-Some.job c.in_ok-receipt.receipt c.loop-job.invariant.goes_on.none_out c.in-Some.ensures.taken.1 c.in_ok-receipt.ensures.ok

pub loop-job-preserved : goal.loop-job-preserved
loop-job-preserved c = record {
  kept = c.in_ok-receipt.ensures.kept;
  goes_on =
      subst (λ l. GoesOn (shown c.args.self.now) c.args.worker l (shown c.serve.new.self)) (sym (c.push_reserved.ensures.items ∙ ap (λ l. l ++ c.in_ok-receipt.receipt ∷ []) c.reserve.ensures.items))
      (round_more (shown c.args.self.now) (shown c.loop-job.self) (shown c.take.new.self) (shown c.serve.new.self) c.args.worker c.in-Some.job c.in_ok-receipt.receipt c.loop-job.receipts.items c.loop-job.invariant.goes_on c.in-Some.ensures.taken c.in_ok-receipt.ensures.ok);
}
