-- The derivation that is made.
use Rattle.std.specs.Prelude.{◌≡◌, ℕ, ◌<◌, List, [], length, get_or, Some}
use Rattle.pat_semantics_spec.specs.Programs.{Function, Node, Program, node_at, function_at}
use Rattle.pat_inclusion_spec.specs.Values.{VarLine}
use Rattle.pat_inclusion_spec.specs.Certificates.{Cert}
use Rattle.pat_derivation_spec.specs.Derivations.{Derivation}
use Rattle.pat_infer_spec.specs.Walk.{inferred}
use Rattle.pat_solve_spec.specs.Derived.{Form, AreCertsFor, scope_by, no_certs, needed_at, CertsMade, derivation_with, ValuesShow}

-- certificates for what a node needs
abbrev pub HasCerts : Program → List VarLine → (ℕ → Form) → ℕ → List Cert → Type 0
HasCerts p vars forms n certs =
    (c : Node) (g : Function)
    → node_at p n ≡ Some c
    → function_at p c.function ≡ Some g
    → AreCertsFor (scope_by p vars) forms (needed_at p vars n c g) certs

-- those at a number, or none
abbrev pub certs_in : List (List Cert) → ℕ → List Cert
certs_in all n = get_or all n []

-- the first nodes have certificates
pub record AreMadeTo (p : Program) (vars : List VarLine) (forms : ℕ → Form) (k : ℕ) (all : List (List Cert)) : Type 0 where
  pub count : length all ≡ k
  pub certs : (n : ℕ) → n < k → HasCerts p vars forms n (certs_in all n)

-- all nodes have them
abbrev pub AreMade : Program → List VarLine → (ℕ → Form) → List (List Cert) → Type 0
AreMade p vars forms all = AreMadeTo p vars forms (length p.nodes) all

-- the derivation has all lines but no certificates, and its values show the constraints
pub record IsBare (p : Program) (forms : ℕ → Form) (d : Derivation) : Type 0 where
  pub clean : (inferred p).findings ≡ []
  pub show : ValuesShow p d.vars forms
  pub is : d ≡ derivation_with p d.vars no_certs

-- the derivation is made of what inference finds, of these values, and of certificates for what is needed
pub record IsDerived (p : Program) (vars : List VarLine) (forms : ℕ → Form) (d : Derivation) : Type 0 where
  pub certs : ℕ → List Cert
  pub made : CertsMade p vars forms certs
  pub is : d ≡ derivation_with p vars certs
