use Rattle.pat_core.specs.Views.{program_view}
use Rattle.pat_checkpoint_certificates.specs.Bounds.{IsListed}
use Rattle.pat_checkpoint_certificates.proofs.bounds.bounds_of.Given as goal

abbrev pub invariant-loop-interface : goal.invariant-loop-interface
invariant-loop-interface l = IsListed (program_view l.program) l.interface l.bounds
