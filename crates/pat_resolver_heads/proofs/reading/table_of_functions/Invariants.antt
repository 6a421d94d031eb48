use Rattle.std.proofs.Common.{◌≡◌, map, take}
use Rattle.pat_resolver_heads.proofs.reading.table_of_functions.Given as goal

abbrev pub invariant-loop-signature : goal.invariant-loop-signature
invariant-loop-signature l = l.functions ≡ map (λ s. s.name.now) (take l.signature-index l.signatures)
