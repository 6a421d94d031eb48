-- Why a program is accepted, and why not.
use Rattle.std.specs.Prelude.{◌≡◌, ℕ, List, [], ◌++◌, codes, Some}
use Rattle.pat_words_spec.specs.Words.{Word}
use Rattle.pat_semantics_spec.specs.Programs.{Program}
use Rattle.pat_type_system_spec.specs.Typings.{IsTypable}
use Rattle.pat_inclusion_spec.specs.bounds.Trees.{Bound}
use Rattle.pat_inclusion_spec.specs.Certificates.{Cert}
use Rattle.pat_derivation_spec.specs.Derivations.{Derivation}
use Rattle.pat_derivation_spec.specs.Validity.{IsValid}
use Rattle.pat_type_schemes_spec.specs.Signatures.{Variable}
use Rattle.pat_infer_spec.specs.Constraints.{Constraint, Finding}
use Rattle.pat_infer_spec.specs.Shapes.{IsNumber}
use Rattle.pat_infer_spec.specs.Walk.{inferred, all_vars}
use Rattle.pat_types.specs.Views.{right_form}
use Rattle.pat_derivation_text_spec.specs.DerivationText.{interface_name, tag_names}
use Rattle.pat_resolver_spec.specs.Places.{Places}
use Rattle.pat_syntax.specs.declared.span.Span.{Span}
use Rattle.pat_tree.specs.Views.{span_view}
use Rattle.pat_infer_problems.specs.declared.error.Rule.{Rule}
use Rattle.pat_infer_problems.specs.Views.{rule_view}
use Rattle.pat_infer_problems.specs.Results.{first_of}
use Rattle.pat_solve_spec.specs.Derived.{Form, derivation_with, CertsMade}
use Rattle.pat_solve_spec.specs.Answers as answers
use Rattle.pat_solve_spec.specs.Answers.{IsRight, IsConstraint, IsInBounds, AllUsable, solution}
use Rattle.pat_solve_bounds.specs.results.Views.{AllInBounds}
use Rattle.pat_solve.specs.Smallest.{IsLeastRefutation}
use Rattle.pat_front.specs.declared.reason.Reason.{Reason}
use Rattle.pat_front.specs.declared.reason.Reason.TheVariants.{Untypable, Unusable, TooLarge, Refuted, Undecided}
use Rattle.pat_typecheck.specs.Places.{place_in, origin_in}
use Rattle.pat_typecheck.specs.Words.{refuted_words}

-- ---- accepted

-- no rule of inference is broken, the right answer is that the problem is solved, and the derivation is made of what was found, of the
-- values, and of certificates; it is valid
pub record IsMade (p : Program) (d : Derivation) : Type 0 where
  pub clean : (inferred p).findings ≡ []
  pub forms : ℕ → Form
  pub points : ℕ → ℕ → List (List ℕ)
  pub solved : IsRight p (answers.Solved forms points)
  pub certs : ℕ → List Cert
  pub certified : CertsMade p (solution p forms points) forms certs
  pub made : d ≡ derivation_with p (solution p forms points) certs
  pub valid : IsValid p d

-- ---- not accepted

module _ (p : Program) (q : Places) where
  -- the first rule of inference that is broken, and where
  pub record BreaksRule (s : Span) (r : Rule) : Type 0 where
    pub finding : Finding
    pub first : first_of (inferred p).findings ≡ Some finding
    pub rule : rule_view r ≡ finding.rule
    pub span : span_view s ≡ place_in q finding.at
    pub untypable : IsTypable p → ⊥

  -- the first sending variable of a signature that no word is derivable for, by where it comes from
  pub record HasUnusable (s : Span) : Type 0 where
    pub number : ℕ
    pub variable : Variable
    pub right : IsRight p (answers.Unusable number)
    pub declared : IsNumber (all_vars p) number variable
    pub span : span_view s ≡ origin_in q variable.origin

  -- the first interface that is too large
  pub record HasTooLarge (i : ℕ) : Type 0 where
    pub right : IsRight p (answers.TooLarge i)
    pub untypable : IsInBounds p i → IsTypable p → ⊥

  -- the first constraint that is refuted or undecided is refuted, by this word; no tree of a word that refutes it is smaller than this
  -- word's
  pub record HasRefuted (s : Span) (more : List ℕ) : Type 0 where
    pub number : ℕ
    pub word : Word
    pub tree : Bound
    pub constraint : Constraint
    pub right : IsRight p (answers.Refuted number word tree)
    pub least : IsLeastRefutation p number tree
    pub at : IsConstraint p number constraint
    pub span : span_view s ≡ place_in q constraint.at
    pub words : more ≡ refuted_words (tag_names p constraint.interface) word (right_form constraint.right)
    pub untypable : IsTypable p → ⊥

  -- the first constraint that is refuted or undecided is undecided
  pub record HasUndecided (s : Span) : Type 0 where
    pub number : ℕ
    pub constraint : Constraint
    pub right : IsRight p (answers.Undecided number)
    pub at : IsConstraint p number constraint
    pub span : span_view s ≡ place_in q constraint.at

  -- the first reason, and what its line says behind it
  abbrev pub IsReason : Reason → List ℕ → Type 0
  IsReason (Untypable s r) more = BreaksRule s r × (more ≡ [])
  IsReason (Unusable s) more = ((inferred p).findings ≡ []) × HasUnusable s × (more ≡ [])
  IsReason (TooLarge i) more = ((inferred p).findings ≡ []) × HasTooLarge i × (more ≡ codes ": " ++ interface_name p i)
  IsReason (Refuted s) more = ((inferred p).findings ≡ []) × HasRefuted s more
  IsReason (Undecided s) more = ((inferred p).findings ≡ []) × HasUndecided s × (more ≡ [])

  -- nor does it come where all interfaces are in bounds, each sending variable of a signature has a derivable word, and the program can
  -- be typed
  pub record IsUnaccepted (r : Reason) (more : List ℕ) : Type 0 where
    pub reason : IsReason r more
    pub complete : AllInBounds p → AllUsable p → IsTypable p → ⊥
