use Rattle.std.proofs.Common.{◌≡◌, None, take, replicate}
use Rattle.pat_checkpoint_data.proofs.part_certs.are_none.Given as goal

-- those so far are none
abbrev pub invariant-loop-cert : goal.invariant-loop-cert
invariant-loop-cert l = take l.cert-index l.certs ≡ replicate l.cert-index None
