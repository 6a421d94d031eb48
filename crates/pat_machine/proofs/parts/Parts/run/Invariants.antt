use Rattle.std.specs.Prelude.{List}
use Rattle.pat_machine.specs.declared.job.Receipt.{Receipt}
use Rattle.pat_machine.specs.Parted.{shown, IsKept}
use Rattle.pat_machine.specs.Driving.{GoesOn}
use Rattle.pat_machine.proofs.parts.Parts.run.Given as goal

-- nobody is out, and some receipts are the further entries
abbrev pub invariant-loop-job : goal.invariant-loop-job
invariant-loop-job l = record {
  kept : IsKept l.self;
  goes_on : (rs : List Receipt) × GoesOn (shown l.fn.self) l.worker rs (shown l.self);
}

abbrev pub decreases-loop-job : goal.decreases-loop-job
decreases-loop-job l = l.self.left
