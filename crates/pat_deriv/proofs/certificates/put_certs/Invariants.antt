use Rattle.std.proofs.Common.{◌≡◌, ◌∷◌, ◌++◌, drop, map}
use Rattle.std.specs.List.{flat_map}
use Rattle.pat_derivations.specs.Views.{certs_view}
use Rattle.pat_derivation_text_spec.specs.DerivationText.{certs_text}
use Rattle.pat_deriv.proofs.certificates.put_certs.Given as goal

abbrev pub invariant-loop-cert : goal.invariant-loop-cert
invariant-loop-cert l = l.out.items ++ certs_text (certs_view (drop l.cert-index l.certs)) ≡ l.initial.out.items ++ certs_text (certs_view l.certs)
