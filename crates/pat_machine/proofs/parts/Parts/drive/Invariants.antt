use Rattle.pat_machine.specs.Parted.{shown, IsKept}
use Rattle.pat_machine.specs.Driving.{GoesOn}
use Rattle.pat_machine.proofs.parts.Parts.drive.Given as goal

-- nobody is out, and the receipts so far are the further entries
abbrev pub invariant-loop-job : goal.invariant-loop-job
invariant-loop-job l = record {
  kept : IsKept l.self;
  goes_on : GoesOn (shown l.fn.self) l.worker l.receipts.items (shown l.self);
}

abbrev pub decreases-loop-job : goal.decreases-loop-job
decreases-loop-job l = l.self.left
