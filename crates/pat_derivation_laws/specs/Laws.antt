-- What a valid derivation gives, and what the first bad number says.
use Rattle.std.specs.Prelude.{◌≡◌, ℕ, ◌<◌, ◌||◌, ◌&&◌, nat_lt, length, Some, None, ◌↔◌, IsTrue}
use Rattle.pat_words_spec.specs.Patterns.{Pat, is_nullable, is_inhabited}
use Rattle.pat_semantics_spec.specs.Programs.{Program, Sending, Function, Node, node_at, function_at, parts, is_among}
use Rattle.pat_semantics_spec.specs.WellFormed.{WellFormed}
use Rattle.pat_type_system_spec.specs.Typings.{IsTyping, IsTypable}
use Rattle.pat_inclusion_spec.specs.Values.{Scope, pattern_of, is_formed}
use Rattle.pat_inclusion_spec.specs.Under.{nullable_under, inhabited_under}
use Rattle.pat_derivation_spec.specs.Derivations.{Derivation, scope_of, typing_of}
use Rattle.pat_derivation_spec.specs.Scopes.{bound_in, is_in_scope}
use Rattle.pat_derivation_spec.specs.Conditions.{Place}
use Rattle.pat_derivation_spec.specs.Demands.{drops_as}
use Rattle.pat_derivation_spec.specs.Rules.{has_a_word, has_words, has_no_alias, payloads_stand_apart, guard_covers, needed, certs_show}
use Rattle.pat_derivation_spec.specs.Truth.{HoldsThroughout}
use Rattle.pat_derivation_spec.specs.Readings.{HasWords, HasNoAlias, PayloadsStandApart, GuardCovers, AreTaken}
use Rattle.pat_derivation_spec.specs.Validity.{Rule, broken_rule, first_bad, IsValid}

-- a valid derivation of a well-formed program gives a typing of it
abbrev pub ValidGivesTyping : Type 0
ValidGivesTyping = (p : Program) (d : Derivation) → WellFormed p → IsValid p d → IsTyping p (typing_of p d)

-- what certificates show is true
abbrev pub ValidHolds : Type 0
ValidHolds = (p : Program) (d : Derivation) → WellFormed p → IsValid p d → HoldsThroughout p d

-- true inclusions are enough for a typing
abbrev pub TrueGivesTyping : Type 0
TrueGivesTyping = (p : Program) (d : Derivation) → WellFormed p → HoldsThroughout p d → IsTyping p (typing_of p d)

-- so the program is typable
abbrev pub ValidGivesTypable : Type 0
ValidGivesTypable = (p : Program) (d : Derivation) → WellFormed p → IsValid p d → IsTypable p

-- a derivation is valid just where there is no first bad number
abbrev pub ValidIsNoneBad : Type 0
ValidIsNoneBad = (p : Program) (d : Derivation) → (first_bad p d ≡ None) ↔ IsValid p d

-- the first bad number is the least at which a rule is broken, and the rule is the first that is broken there
abbrev pub FirstBadIs : Type 0
FirstBadIs =
    (p : Program) (d : Derivation) (n : ℕ) (rule : Rule)
    → (first_bad p d ≡ Some (n, rule)) ↔ ((broken_rule p d n ≡ Some rule) × ((k : ℕ) → k < n → broken_rule p d k ≡ None))

-- at the body of a function just the parameters are in scope
abbrev pub ScopeOfBody : Type 0
ScopeOfBody =
    (p : Program) (f : ℕ) (g : Function) (x : ℕ)
    → WellFormed p
    → function_at p f ≡ Some g
    → is_in_scope p g.body x ≡ nat_lt x (length g.params)

-- at a part of a node just what is so at the node, and what the node binds in the part
abbrev pub ScopeOfPart : Type 0
ScopeOfPart =
    (p : Program) (n m : ℕ) (c : Node) (x : ℕ)
    → WellFormed p
    → node_at p n ≡ Some c
    → IsTrue (is_among m (parts c.core))
    → is_in_scope p m x ≡ (is_among x (bound_in m (Some c.core)) || is_in_scope p n x)

-- ---- what the tests of the rules say

abbrev pub EmptyReads : Type 0
EmptyReads = (p : Program) (d : Derivation) (h : Place) → IsTrue (has_words p d h) ↔ HasWords p d h

abbrev pub AliasReads : Type 0
AliasReads = (p : Program) (d : Derivation) (h : Place) → IsTrue (has_no_alias p d h) ↔ HasNoAlias p d h h.node.core

abbrev pub PayloadReads : Type 0
PayloadReads = (p : Program) (d : Derivation) (h : Place) → IsTrue (payloads_stand_apart p d h) ↔ PayloadsStandApart p d h h.node.core

abbrev pub CoversReads : Type 0
CoversReads = (h : Place) → IsTrue (guard_covers h) ↔ GuardCovers h.node.core

abbrev pub CertReads : Type 0
CertReads = (p : Program) (d : Derivation) (h : Place) → IsTrue (certs_show p d h) ↔ AreTaken (scope_of p d) (needed p d h) h.line.certs

-- ---- tests without replacing

-- whether a sending pattern has a word, and whether it may be dropped, by tests of the values of its variables
abbrev pub TestedLaw : Type 0
TestedLaw =
    (s : Scope) (i : ℕ) (e : Pat)
    → (has_a_word s Sending e ≡ inhabited_under (λ k. is_inhabited (pattern_of s k)) e)
    × (drops_as s i Sending e ≡ (is_formed s i e && nullable_under (λ k. is_nullable (pattern_of s k)) e))
