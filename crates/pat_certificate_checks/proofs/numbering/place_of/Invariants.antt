use Rattle.std.proofs.Common.{◌≡◌, ◌+◌, drop}
use Rattle.pat_certificate_checks.specs.Numbering.{place_of}
use Rattle.pat_certificate_checks.proofs.numbering.place_of.Given as goal

abbrev pub invariant-loop-own : goal.invariant-loop-own
invariant-loop-own l = l.place + place_of (drop l.own-index l.names) l.name ≡ place_of l.names l.name
