-- What the derivation that is made is worth, and what the answers say.
use Rattle.std.specs.Prelude.{◌≡◌, ℕ, ◌<◌, ◌↔◌, Bool, true, false, List, [], length, Some, None, ◌⊎◌, IsTrue}
use Rattle.std.specs.List.{AllByRecursion}
use Rattle.pat_words_spec.specs.Words.{Word}
use Rattle.pat_words_spec.specs.Patterns.{Pat, prod_of}
use Rattle.pat_semantics_spec.specs.Programs.{Sending, Program, Function, Node, node_at, function_at}
use Rattle.pat_semantics_spec.specs.WellFormed.{WellFormed}
use Rattle.pat_derivation_spec.specs.Typings.{IsTypable}
use Rattle.pat_inclusion_spec.specs.Values.{VarLine, Scope, var_at, plain_or_var, is_formed}
use Rattle.pat_inclusion_spec.specs.Certificates.{Cert, Inclusion, is_trivial}
use Rattle.pat_inclusion_spec.specs.bounds.Trees.{Bound, Shows}
use Rattle.pat_infer_spec.specs.Signatures.{Variable}
use Rattle.pat_derivation_spec.specs.Demands.{Demand, Divide}
use Rattle.pat_derivation_spec.specs.Conditions.{demands}
use Rattle.pat_derivation_spec.specs.Validity.{IsValid}
use Rattle.pat_infer_spec.specs.Constraints.{Constraint}
use Rattle.pat_infer_spec.specs.Walk.{inferred, all_vars}
use Rattle.pat_infer_spec.specs.Shapes.{PatternFits, IsNumber}
use Rattle.pat_infer_spec.specs.Inclusions.{Shows as Showing, IsShown}
use Rattle.pat_solve_spec.specs.LowerBounds.{lowers_of, lowers_in}
use Rattle.pat_solve_spec.specs.Derived.{Form, derivation_with, no_certs, found_place, scope_by, SidesShown, ValuesShow, needed_at, CertsMade}
use Rattle.pat_solve_spec.specs.Answers.{Answer, Unusable, TooLarge, Refuted, Undecided, Solved, IsInBounds, IsSmall, IsCoveredUnder, IsConstraint, AllUsable, IsRight, solution}

-- ---- derivations

-- the inclusion is of an interface, both sides are patterns of it, and it is shown
abbrev pub IsSound : Scope → Showing → Inclusion → Type 0
IsSound s R q =
    (i : ℕ) × (q.interface ≡ Some i) × IsTrue (is_formed s i q.left) × IsTrue (is_formed s i q.right) × R i q.left q.right

-- each inclusion that a node needs is trivial, or one of the constraints of its interface
abbrev pub NeededListed : Type 0
NeededListed =
    (p : Program) (vars : List VarLine) (forms : ℕ → Form) (n : ℕ) (c : Node) (g : Function)
    → WellFormed p
    → (inferred p).findings ≡ []
    → ValuesShow p vars forms
    → node_at p n ≡ Some c
    → function_at p c.function ≡ Some g
    → AllByRecursion (IsSound (scope_by p vars) (IsShown (inferred p).constraints (λ k. plain_or_var k (var_at vars k)))) (needed_at p vars n c g)

-- so it is trivial, or its sides are shown by the values as those of the constraint are: it has a certificate
abbrev pub NeededShown : Type 0
NeededShown =
    (p : Program) (vars : List VarLine) (forms : ℕ → Form) (n : ℕ) (c : Node) (g : Function)
    → WellFormed p
    → (inferred p).findings ≡ []
    → ValuesShow p vars forms
    → node_at p n ≡ Some c
    → function_at p c.function ≡ Some g
    → AllByRecursion (IsSound (scope_by p vars) (λ i e f. IsTrue (is_trivial (scope_by p vars) e f) ⊎ SidesShown (scope_by p vars) i e f (forms i))) (needed_at p vars n c g)

-- how a let's use of a variable is written: as that of the one part that has it, or as the product where both send
abbrev pub IsWritten : Demand → Type 0
IsWritten (Divide (Some a) (Some b) None) = a.pattern ≡ b.pattern
IsWritten (Divide (Some a) None (Some c)) = a.pattern ≡ c.pattern
IsWritten (Divide (Some a) (Some b) (Some c)) = b.polarity ≡ Sending → c.polarity ≡ Sending → a.pattern ≡ prod_of b.pattern c.pattern
IsWritten _ = Unit {0}

-- the demands of a node are written so
abbrev pub DemandsWritten : Type 0
DemandsWritten =
    (p : Program) (vars : List VarLine) (forms : ℕ → Form) (n : ℕ) (c : Node) (g : Function)
    → WellFormed p
    → (inferred p).findings ≡ []
    → ValuesShow p vars forms
    → node_at p n ≡ Some c
    → function_at p c.function ≡ Some g
    → AllByRecursion IsWritten (demands p (derivation_with p vars no_certs) (found_place p n c g []))

-- the derivation that is made is valid
abbrev pub DerivedIsValid : Type 0
DerivedIsValid =
    (p : Program) (vars : List VarLine) (forms : ℕ → Form) (certs : ℕ → List Cert)
    → WellFormed p
    → (inferred p).findings ≡ []
    → ValuesShow p vars forms
    → CertsMade p vars forms certs
    → IsValid p (derivation_with p vars certs)

-- where there are such values the program is typable
abbrev pub ShownIsTypable : Type 0
ShownIsTypable =
    (p : Program) (vars : List VarLine) (forms : ℕ → Form)
    → WellFormed p
    → (inferred p).findings ≡ []
    → ValuesShow p vars forms
    → IsTypable p

-- ---- interfaces

-- what trees show of a pattern of an interface rests on the constraints of that interface alone
abbrev pub InterfacesApart : Type 0
InterfacesApart =
    (p : Program) (i : ℕ) (e : Pat) (b : Bound) (w : Word)
    → WellFormed p
    → (inferred p).findings ≡ []
    → PatternFits p (all_vars p) i e
    → Shows (lowers_of p) b e w ↔ Shows (lowers_in p i) b e w

-- the interface of each constraint and of each variable is one of the program's
pub record AreThere (p : Program) : Type 0 where
  pub constraints : (n : ℕ) (c : Constraint) → IsConstraint p n c → c.interface < length p.interfaces
  pub variables : (k : ℕ) (v : Variable) → IsNumber (all_vars p) k v → v.interface < length p.interfaces

abbrev pub InterfacesThere : Type 0
InterfacesThere = (p : Program) → WellFormed p → AreThere p

-- ---- answers

-- a program of which a constraint is refuted can't be typed
abbrev pub RefutedIsUntypable : Type 0
RefutedIsUntypable =
    (p : Program) (n : ℕ) (w : Word) (b : Bound) → WellFormed p → IsRight p (Refuted n w b) → IsTypable p → ⊥

-- nor one of which an interface in bounds is too large
abbrev pub LargeIsUntypable : Type 0
LargeIsUntypable =
    (p : Program) (i : ℕ) → WellFormed p → IsRight p (TooLarge i) → IsInBounds p i → IsTypable p → ⊥

-- what the answer Undecided tells: the closed forms could be made, but don't cover this constraint, and its interface is past the
-- bounds within which a search would settle it
abbrev pub UndecidedSays : Type 0
UndecidedSays =
    (p : Program) (n : ℕ)
    → WellFormed p
    → IsRight p (Undecided n)
    → (c : Constraint) × IsConstraint p n c × (IsInBounds p c.interface → ⊥) × IsSmall p c.interface × (IsCoveredUnder p c → ⊥)

-- the values of what is solved show all constraints
abbrev pub SolvedShows : Type 0
SolvedShows =
    (p : Program) (forms : ℕ → Form) (points : ℕ → ℕ → List (List ℕ))
    → WellFormed p
    → (inferred p).findings ≡ []
    → IsRight p (Solved forms points)
    → ValuesShow p (solution p forms points) forms

-- so with certificates it is a valid derivation
abbrev pub SolvedIsValid : Type 0
SolvedIsValid =
    (p : Program) (forms : ℕ → Form) (points : ℕ → ℕ → List (List ℕ)) (certs : ℕ → List Cert)
    → WellFormed p
    → (inferred p).findings ≡ []
    → IsRight p (Solved forms points)
    → CertsMade p (solution p forms points) forms certs
    → IsValid p (derivation_with p (solution p forms points) certs)

abbrev pub is_solved : Answer → Bool
is_solved (Solved forms points) = true
is_solved _ = false

-- if no interface is out of bounds, and no sending variable of a signature lacks a derivable word, solved means typable
abbrev pub SolvedExactly : Type 0
SolvedExactly =
    (p : Program) (a : Answer)
    → WellFormed p
    → (inferred p).findings ≡ []
    → ((i : ℕ) → i < length p.interfaces → IsInBounds p i)
    → AllUsable p
    → IsRight p a
    → IsTrue (is_solved a) ↔ IsTypable p

-- two answers are of one kind, and of the same variable, interface or constraint
abbrev pub IsSame : Answer → Answer → Type 0
IsSame (Unusable k) (Unusable j) = k ≡ j
IsSame (TooLarge i) (TooLarge j) = i ≡ j
IsSame (Refuted n v a) (Refuted m w b) = n ≡ m
IsSame (Undecided n) (Undecided m) = n ≡ m
IsSame (Solved f g) (Solved h k) = Unit {0}
IsSame _ _ = ⊥

-- two that are both right are so: an answer comes just where it is right
abbrev pub OneAnswer : Type 0
OneAnswer = (p : Program) (a b : Answer) → WellFormed p → IsRight p a → IsRight p b → IsSame a b
