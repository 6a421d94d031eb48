-- The derivation that is made of what inference finds, of values for the variables, and of certificates.
use Rattle.std.specs.Prelude.{◌≡◌, ℕ, suc, nat_eq, List, [], ◌∷◌, map, Option, Some, None, IsTrue, IsFalse}
use Rattle.std.specs.Map.{lookup}
use Rattle.std.specs.List.{AllByRecursion}
use Rattle.pat_words_spec.specs.Patterns.{Pat, subst_of}
use Rattle.pat_semantics_spec.specs.Values.{BaseUnit}
use Rattle.pat_semantics_spec.specs.Programs.{Function, Node, Program, node_at, function_at}
use Rattle.pat_derivation_spec.specs.Types.{BaseTerm}
use Rattle.pat_inclusion_spec.specs.LinearSets.{LinearSet}
use Rattle.pat_inclusion_spec.specs.ClosedForms.{closed_form}
use Rattle.pat_inclusion_spec.specs.Covers.{IsDirectlyCovered}
use Rattle.pat_inclusion_spec.specs.Values.{VarValue, PatternForm, GridForm, VarLine, Scope, pattern_of, values_fit}
use Rattle.pat_inclusion_spec.specs.Certificates.{Cert, CoverCert, GridCert, Inclusion, is_trivial, cover_shows, grid_shows}
use Rattle.pat_derivation_spec.specs.Derivations.{Line, Derivation, scope_of}
use Rattle.pat_derivation_spec.specs.Conditions.{Place}
use Rattle.pat_derivation_spec.specs.Rules.{needed}
use Rattle.pat_infer_spec.specs.NodeTypes.{NodeType}
use Rattle.pat_infer_spec.specs.Signatures.{signature_vars}
use Rattle.pat_infer_spec.specs.Constraints.{Constraint}
use Rattle.pat_infer_spec.specs.Walk.{inferred, all_vars}
use Rattle.pat_infer_spec.specs.Solutions.{SendersHaveWords}

-- ---- the lines

-- the type of a node that was found, and otherwise unit
abbrev pub type_or_unit : Option NodeType → NodeType
type_or_unit None = record { result = BaseTerm BaseUnit; needs = [] }
type_or_unit (Some t) = t

-- what was found of a node
abbrev pub found_of : Program → ℕ → Option NodeType
found_of p n = lookup (nat_eq n) (inferred p).nodes

-- the line of a node: the type that was found, and certificates
abbrev pub found_line : Program → ℕ → List Cert → Line
found_line p n certs = record { of = type_or_unit (found_of p n); certs = certs }

-- the lines of so many nodes, from n on
abbrev pub lines_from : Program → (ℕ → List Cert) → ℕ → List Node → List Line
lines_from p certs n [] = []
lines_from p certs n (d ∷ ds) = found_line p n (certs n) ∷ lines_from p certs (suc n) ds

-- the derivation with these values and these certificates at each node
abbrev pub derivation_with : Program → List VarLine → (ℕ → List Cert) → Derivation
derivation_with p vars certs = record { vars = vars; lines = lines_from p certs 0 p.nodes }

-- ---- the certificates

-- the values of an interface's variables are patterns, or grids with one bound
pub data Form : Type 0 where
  Patterns : Form
  Grids : (bound : ℕ) → Form

-- no certificates
abbrev pub no_certs : ℕ → List Cert
no_certs n = []

-- the variables and their values; certificates don't matter to them
abbrev pub scope_by : Program → List VarLine → Scope
scope_by p vars = scope_of p (derivation_with p vars no_certs)

-- the certificate is one of an inclusion of interface i, which has this form: a cover of closed forms that aren't too large, or the bound
abbrev pub IsCertOf : Scope → ℕ → Pat → Pat → Form → Cert → Type 0
IsCertOf s i e f Patterns (CoverCert entries) = IsTrue (cover_shows (s.tags i) entries (subst_of (pattern_of s) e) (subst_of (pattern_of s) f))
IsCertOf s i e f (Grids k) (GridCert b) = b ≡ k
IsCertOf s i e f _ _ = ⊥

-- certificates for those of the inclusions that aren't trivial, in order
pub data AreCertsFor (s : Scope) (forms : ℕ → Form) : List Inclusion → List Cert → Type 0 where
  all_made : AreCertsFor s forms [] []
  made_none : {q : Inclusion} {qs : List Inclusion} {certs : List Cert} → IsTrue (is_trivial s q.left q.right) → AreCertsFor s forms qs certs → AreCertsFor s forms (q ∷ qs) certs
  made_next : {q : Inclusion} {qs : List Inclusion} {cert : Cert} {certs : List Cert} (i : ℕ) → IsFalse (is_trivial s q.left q.right) → q.interface ≡ Some i → IsCertOf s i q.left q.right (forms i) cert → AreCertsFor s forms qs certs → AreCertsFor s forms (q ∷ qs) (cert ∷ certs)

-- a node of a function, with the types that were found and certificates
abbrev pub found_place : Program → ℕ → Node → Function → List Cert → Place
found_place p n c g certs = record { number = n; node = c; function = g; line = found_line p n certs }

-- what a node needs; certificates don't matter to that
abbrev pub needed_at : Program → List VarLine → ℕ → Node → Function → List Inclusion
needed_at p vars n c g = needed p (derivation_with p vars no_certs) (found_place p n c g [])

-- the certificates of each node are those for what it needs
abbrev pub CertsMade : Program → List VarLine → (ℕ → Form) → (ℕ → List Cert) → Type 0
CertsMade p vars forms certs =
    (n : ℕ) (c : Node) (g : Function)
    → node_at p n ≡ Some c
    → function_at p c.function ≡ Some g
    → AreCertsFor (scope_by p vars) forms (needed_at p vars n c g) (certs n)

-- ---- what is asked of the values

-- the value has the form
abbrev pub HasForm : VarValue → Form → Type 0
HasForm (PatternForm e) Patterns = Unit {0}
HasForm (GridForm b points) (Grids k) = b ≡ k
HasForm _ _ = ⊥

-- the closed forms of both sides aren't too large, and the left one is directly covered
pub record IsCovered (n : ℕ) (e f : Pat) : Type 0 where
  pub left : List LinearSet
  pub right : List LinearSet
  pub left_is : closed_form n e ≡ Some left
  pub right_is : closed_form n f ≡ Some right
  pub covered : IsDirectlyCovered left right

-- the constraint is directly covered, or shown by the grid
abbrev pub SidesShown : Scope → ℕ → Pat → Pat → Form → Type 0
SidesShown s i e f Patterns = IsCovered (s.tags i) (subst_of (pattern_of s) e) (subst_of (pattern_of s) f)
SidesShown s i e f (Grids k) = IsTrue (grid_shows s k (s.tags i) e f)

abbrev pub ConstraintShown : Scope → (ℕ → Form) → Constraint → Type 0
ConstraintShown s forms c = SidesShown s c.interface c.left c.right (forms c.interface)

-- the values are those of the program's variables, and show all constraints
pub record ValuesShow (p : Program) (vars : List VarLine) (forms : ℕ → Form) : Type 0 where
  pub interfaces : map (λ v. v.interface) vars ≡ map (λ v. v.interface) (all_vars p)
  pub fit : IsTrue (values_fit (scope_by p vars))
  pub formed : AllByRecursion (λ v. HasForm v.value (forms v.interface)) vars
  pub shown : AllByRecursion (ConstraintShown (scope_by p vars) forms) (inferred p).constraints
  pub senders : SendersHaveWords (pattern_of (scope_by p vars)) 1 (signature_vars p)
