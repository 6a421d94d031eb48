-- What the patterns of constraints and of found nodes are made of.
use Rattle.std.specs.Prelude.{◌≡◌, ◌≤◌, ◌+◌, nat_eq, ℕ, suc, Bool, true, List, [], ◌∷◌, ◌++◌, length, Option, Some, slice_get}
use Rattle.std.specs.Map.{lookup}
use Rattle.std.specs.List.{AllByRecursion}
use Rattle.pat_words_spec.specs.Patterns.{Pat, Zero, One, Tag, Sum, Prod, Star, Var, is_closed}
use Rattle.pat_semantics_spec.specs.Programs.{Receiving, TagDecl, Node, Program, node_at, tag_at}
use Rattle.pat_semantics_spec.specs.WellFormed.{WellFormed}
use Rattle.pat_type_system_spec.specs.Types.{MailboxType, TypeOf, BaseTerm, MailboxTerm}
use Rattle.pat_type_schemes_spec.specs.Signatures.{Variable}
use Rattle.pat_type_schemes_spec.specs.NodeTypes.{Needs, need_of, NodeType}
use Rattle.pat_infer_spec.specs.Constraints.{Constraint}
use Rattle.pat_infer_spec.specs.Walk.{let_gathered, inferred, all_vars}
use Rattle.pat_infer_spec.specs.Needs.{Combined, just, vars_with, constraints_with, need_before, Gathered}
use Rattle.pat_infer_spec.specs.BothParts.{both_parts}

-- whether the pattern is one variable or has none
abbrev pub is_simple : Pat → Bool
is_simple (Var k) = true
is_simple e = is_closed e

-- the variable of this number, counted from 1
abbrev pub IsNumber : List Variable → ℕ → Variable → Type 0
IsNumber vars k v = (j : ℕ) × (k ≡ suc j) × (slice_get vars j ≡ Some v)

-- the pattern has tags and variables of interface i alone
abbrev pub PatternFits : Program → List Variable → ℕ → Pat → Type 0
PatternFits p vars i Zero = Unit {0}
PatternFits p vars i One = Unit {0}
PatternFits p vars i (Tag m) = (decl : TagDecl) × (tag_at p i m ≡ Some decl)
PatternFits p vars i (Sum e f) = PatternFits p vars i e × PatternFits p vars i f
PatternFits p vars i (Prod e f) = PatternFits p vars i e × PatternFits p vars i f
PatternFits p vars i (Star e) = PatternFits p vars i e
PatternFits p vars i (Var k) = (v : Variable) × IsNumber vars k v × (v.interface ≡ i)

-- a type's pattern is of its interface, and a receiving one is one variable or has none
pub record ShapeFits (p : Program) (vars : List Variable) (a : MailboxType) : Type 0 where
  pub pattern : PatternFits p vars a.interface a.pattern
  pub simple : a.polarity ≡ Receiving → is_simple a.pattern ≡ true

-- both sides of a constraint are of its interface, and the right one is one variable or has none
pub record ConstraintFits (p : Program) (vars : List Variable) (c : Constraint) : Type 0 where
  pub left : PatternFits p vars c.interface c.left
  pub right : PatternFits p vars c.interface c.right
  pub simple : is_simple c.right ≡ true

-- the pattern of a term's type is of its interface
abbrev pub ResultFits : Program → List Variable → TypeOf → Type 0
ResultFits p vars (BaseTerm b) = Unit {0}
ResultFits p vars (MailboxTerm i q e) = PatternFits p vars i e

-- the patterns of a found node are of their interfaces
pub record NodeTypeFits (p : Program) (vars : List Variable) (t : NodeType) : Type 0 where
  pub result : ResultFits p vars t.result
  pub needs : (x : ℕ) (a : MailboxType) → need_of t.needs x ≡ Some a → ShapeFits p vars a

-- where no rule is broken all constraints and found nodes are so
abbrev pub FoundFits : Type 0
FoundFits =
    (p : Program) → WellFormed p → (inferred p).findings ≡ [] → AllByRecursion (ConstraintFits p (all_vars p)) (inferred p).constraints × AllByRecursion (λ e. NodeTypeFits p (all_vars p) e.1) (inferred p).nodes

-- each node of the program is found, and no number is found with two types
abbrev pub EachNodeOnce : Type 0
EachNodeOnce =
    (p : Program) → WellFormed p → ((n : ℕ) (d : Node) → node_at p n ≡ Some d → (t : NodeType) × (lookup (nat_eq n) (inferred p).nodes ≡ Some t)) × AllByRecursion (λ e. lookup (nat_eq e.0) (inferred p).nodes ≡ Some e.1) (inferred p).nodes

-- the variables ascend, from k on
abbrev pub NeedsAscend : ℕ → Needs → Type 0
NeedsAscend k [] = Unit {0}
NeedsAscend k (e ∷ needs) = (k ≤ e.0) × NeedsAscend (suc e.0) needs

-- the variables of each found node's needs ascend
abbrev pub NeedsOrdered : Type 0
NeedsOrdered = (p : Program) → AllByRecursion (λ e. NeedsAscend 0 e.1.needs) (inferred p).nodes

-- what is gathered of one variable, before the rest
abbrev pub gathered_before : ℕ → Option Combined → Gathered → Gathered
gathered_before x o rest = record {
  needs = need_before x o rest.needs;
  vars = vars_with o ++ rest.vars;
  constraints = constraints_with o ++ rest.constraints;
}

-- what a let needs is found by one pass over what its parts need, which ascends: of the two first variables the lesser
-- comes next, and where they are the same both are taken
pub record PartsMerge (n : ℕ) : Type 0 where
  pub ended : (k : ℕ) → let_gathered n k [] [] ≡ record { needs = []; vars = []; constraints = [] }
  pub bound_first : (k x : ℕ) (b : MailboxType) (bound body : Needs) → NeedsAscend (suc x) bound → NeedsAscend (suc x) body → let_gathered n k ((x, b) ∷ bound) body ≡ gathered_before x (just b) (let_gathered n k bound body)
  pub body_first : (k x : ℕ) (c : MailboxType) (bound body : Needs) → NeedsAscend (suc x) bound → NeedsAscend (suc x) body → let_gathered n k bound ((x, c) ∷ body) ≡ gathered_before x (just c) (let_gathered n k bound body)
  pub both : (k x : ℕ) (b c : MailboxType) (bound body : Needs) → NeedsAscend (suc x) bound → NeedsAscend (suc x) body → let_gathered n k ((x, b) ∷ bound) ((x, c) ∷ body) ≡ gathered_before x (both_parts n k x (Some b) (Some c)) (let_gathered n (k + length (vars_with (both_parts n k x (Some b) (Some c)))) bound body)

-- for each let
abbrev pub LetsMerge : Type 0
LetsMerge = (n : ℕ) → PartsMerge n
