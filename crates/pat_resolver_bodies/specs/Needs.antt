-- A kind that is needed, or one that is not known yet.
use Rattle.std.specs.Prelude.{ℕ, Bool, true, false, Option, Some, None}
use Rattle.pat_semantics_spec.specs.Values.{Kind}
use Rattle.pat_parser_spec.specs.Trees as tree
use Rattle.pat_resolver_spec.specs.Scopes.{Scope, unit_kind}
use Rattle.pat_resolver_spec.specs.Heads.{Heads}
use Rattle.pat_resolver_spec.specs.Findings.{kind_of_term, kind_of_clauses}
use Rattle.pat_resolver_bodies.specs.Steps.{clause_kind}

-- the kind that is needed; where none is, the one that is there
abbrev pub needed : Option Kind → Kind → Kind
needed None own = own
needed (Some k) own = k

-- the kind that a term has to have
abbrev pub term_need : Heads → Scope → ℕ → Option Kind → tree.Term → Kind
term_need h scope v need t = needed need (kind_of_term h scope v t)

-- the kind that the bodies of clauses have to have
abbrev pub clauses_need : Heads → ℕ → Scope → ℕ → Option Kind → tree.Clauses → Kind
clauses_need h i scope v need cs = needed need (kind_of_clauses h i scope v cs)

-- the kind of bodies, if there is one
abbrev pub of_bodies : Bool → Kind → Option Kind
of_bodies true k = Some k
of_bodies false k = None

-- a kind that may be there; where it isn't, that of ()
abbrev pub or_unit : Option Kind → Kind
or_unit None = unit_kind
or_unit (Some k) = k

-- the kind that the body of a clause has to have, if there is one
abbrev pub clause_need : Heads → ℕ → Scope → ℕ → Option Kind → tree.Clause → Kind
clause_need h i scope v need c = needed need (or_unit (clause_kind h i scope v c))

-- what is known, or else what was known before
abbrev pub first_known : Option Kind → Option Kind → Option Kind
first_known None before = before
first_known (Some k) before = Some k

abbrev pub is_let : tree.Term → Bool
is_let (tree.LetTerm x m n at) = true
is_let _ = false
