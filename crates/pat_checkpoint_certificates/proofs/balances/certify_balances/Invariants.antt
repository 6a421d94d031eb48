use Rattle.std.proofs.Common.{take}
use Rattle.pat_checkpoint_certificates.specs.Balances.{BalancesFound}
use Rattle.pat_checkpoint_certificates.proofs.balances.certify_balances.Given as goal

abbrev pub invariant-loop-place : goal.invariant-loop-place
invariant-loop-place l = BalancesFound l.search l.bare (take l.place l.bare.config.live) l.certs
