-- Derivations as the definitions see them.
use Rattle.std.specs.Prelude.{ℕ, List, map}
use Rattle.pat_bags.specs.declared.Bag.{Bag}
use Rattle.pat_patterns.specs.Views.{pattern_view}
use Rattle.pat_cover_certificates.specs.Values as values
use Rattle.pat_cover_certificates.specs.Certificates as certificates
use Rattle.pat_cover_certificates.specs.Views.{entries_view}
use Rattle.pat_types.specs.Views.{node_type_view}
use Rattle.pat_derivation_spec.specs.Derivations as derivations
use Rattle.pat_derivations.specs.declared.data.Cert.{Cert}
use Rattle.pat_derivations.specs.declared.data.Cert.TheVariants as cert
use Rattle.pat_derivations.specs.declared.data.VarValue.{VarValue}
use Rattle.pat_derivations.specs.declared.data.VarValue.TheVariants as value
use Rattle.pat_derivations.specs.declared.data.DerivedNode.{DerivedNode}
use Rattle.pat_derivations.specs.declared.data.Derivation.{Derivation}

-- a point, as the counts of all tags
abbrev pub counts_of : Bag → List ℕ
counts_of b = b.counts

abbrev pub cert_view : Cert → certificates.Cert
cert_view (cert.Cover entries) = certificates.CoverCert (entries_view entries)
cert_view (cert.Grid k) = certificates.GridCert k

abbrev pub certs_view : List Cert → List certificates.Cert
certs_view certs = map cert_view certs

abbrev pub value_view : VarValue → values.VarValue
value_view (value.Pattern e) = values.PatternForm (pattern_view e)
value_view (value.Grid k points) = values.GridForm k (map counts_of points)

abbrev pub var_view : ℕ × VarValue → values.VarLine
var_view v = record { interface = v.0; value = value_view v.1 }

abbrev pub vars_view : List (ℕ × VarValue) → List values.VarLine
vars_view vars = map var_view vars

abbrev pub line_view : DerivedNode → derivations.Line
line_view l = record { of = node_type_view l.of; certs = certs_view l.certs }

abbrev pub lines_view : List DerivedNode → List derivations.Line
lines_view lines = map line_view lines

abbrev pub derivation_view : Derivation → derivations.Derivation
derivation_view d = record { vars = vars_view d.vars; lines = lines_view d.nodes }
