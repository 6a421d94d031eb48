use Rattle.std.proofs.Common.{◌≡◌, ◌++◌, drop}
use Rattle.pat_grid_certificates.specs.Views.{values_view}
use Rattle.pat_derivations.specs.Views.{vars_view}
use Rattle.pat_certificate_checks.specs.Numbering.{values_of}
use Rattle.pat_certificate_checks.proofs.numbering.values_of.Given as goal

abbrev pub invariant-loop-name : goal.invariant-loop-name
invariant-loop-name l = values_view l.values ++ values_of (vars_view l.vars) (drop l.name-index l.names) ≡ values_of (vars_view l.vars) l.names
