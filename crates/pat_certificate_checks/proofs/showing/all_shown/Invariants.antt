use Rattle.std.proofs.Common.{◌≡◌, drop}
use Rattle.std.specs.List.{flat_map}
use Rattle.pat_inclusion_spec.specs.Certificates.{are_shown}
use Rattle.pat_derivation_spec.specs.Derivations.{scope_of}
use Rattle.pat_derivation_spec.specs.Demands.{inclusions_of}
use Rattle.pat_core.specs.Views.{program_view}
use Rattle.pat_derivations.specs.Views.{certs_view, derivation_view}
use Rattle.pat_obligations.specs.Views.{demands_view}
use Rattle.pat_certificate_checks.specs.Notes.{IsNoted}
use Rattle.pat_certificate_checks.proofs.showing.all_shown.Given as goal

-- what is left is shown by the certificates that are left just where all is shown by all
abbrev pub invariant-loop-demand : goal.invariant-loop-demand
invariant-loop-demand l =
    (are_shown (scope_of (program_view l.program) (derivation_view l.derivation)) (flat_map inclusions_of (demands_view (drop l.demand-index l.demands))) (certs_view l.rest)
    ≡ are_shown (scope_of (program_view l.program) (derivation_view l.derivation)) (flat_map inclusions_of (demands_view l.demands)) (certs_view l.certs))
    × IsNoted (scope_of (program_view l.program) (derivation_view l.derivation)) l.noted
