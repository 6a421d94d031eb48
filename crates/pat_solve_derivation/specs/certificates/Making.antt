-- What certificates are made with, and what is made.
use Rattle.std.specs.Prelude.{◌≡◌, ℕ, ◌⊎◌, List, ◌++◌, Option, Some, None, IsTrue, IsFalse}
use Rattle.pat_words_spec.specs.Patterns.{Pat}
use Rattle.pat_semantics_spec.specs.WellFormed.{WellFormed}
use Rattle.pat_inclusion_spec.specs.Values.{Scope, values_fit}
use Rattle.pat_inclusion_spec.specs.Certificates.{Cert, Inclusion, is_trivial}
use Rattle.pat_derivation_spec.specs.Derivations.{scope_of}
use Rattle.pat_solve_spec.specs.Derived.{Form, IsCertOf, AreCertsFor, SidesShown}
use Rattle.pat_solve_spec.specs.Laws.{IsSound}
use Rattle.pat_patterns.specs.Views.{patterns_view}
use Rattle.pat_core.specs.Views.{program_view}
use Rattle.pat_derivations.specs.declared.data.Cert.{Cert as CodeCert}
use Rattle.pat_derivations.specs.Views.{certs_view, vars_view, derivation_view}
use Rattle.pat_certificate_checks.specs.Plain.{all_plain}
use Rattle.pat_solve_bounds.specs.results.Views.{forms_of}
use Rattle.pat_solve_derivation.specs.declared.certificates.context.Solved.{Solved}

-- what patterns may speak of, and the form of each interface's values
abbrev pub scope_in : Solved → Scope
scope_in s = scope_of (program_view s.program.now) (derivation_view s.derivation.now)

abbrev pub forms_in : Solved → ℕ → Form
forms_in s = forms_of s.bounds.now

-- the program is well formed, its values are ones that its variables may have, and the rest is made of them
pub record IsSolved (s : Solved) : Type 0 where
  pub well : WellFormed (program_view s.program.now)
  pub values : IsTrue (values_fit (scope_in s))
  pub plain : patterns_view s.plain.now ≡ all_plain (vars_view s.derivation.now.vars)

-- the inclusion is trivial, or shown by the values
abbrev pub IsMetIn : Scope → (ℕ → Form) → ℕ → Pat → Pat → Type 0
IsMetIn s forms i e f = IsTrue (is_trivial s e f) ⊎ SidesShown s i e f (forms i)

-- and both sides are patterns of its interface
abbrev pub IsMet : Scope → (ℕ → Form) → Inclusion → Type 0
IsMet s forms q = IsSound s (IsMetIn s forms) q

-- no certificate of an inclusion that is trivial, and otherwise one that it has
abbrev pub IsCertIf : Scope → ℕ → Pat → Pat → Form → Option Cert → Type 0
IsCertIf s i e f form None = IsTrue (is_trivial s e f)
IsCertIf s i e f form (Some cert) = IsFalse (is_trivial s e f) × IsCertOf s i e f form cert

-- certificates for the inclusions are added
pub record Adds (s : Scope) (forms : ℕ → Form) (qs : List Inclusion) (old new : List CodeCert) : Type 0 where
  pub certs : List Cert
  pub are : AreCertsFor s forms qs certs
  pub is : certs_view new ≡ certs_view old ++ certs
