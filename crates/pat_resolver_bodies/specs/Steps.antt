-- What a let and a clause of a guard give by themselves, so that the rest is examined behind them.
use Rattle.std.specs.Prelude.{ℕ, zero, suc, ◌+◌, true, not, List, [], ◌∷◌, ◌++◌, length, map, Option, Some, None}
use Rattle.pat_semantics_spec.specs.Values.{Kind, MailboxOf}
use Rattle.pat_parser_spec.specs.Trees as tree
use Rattle.pat_resolver_spec.specs.Scopes.{Scope, variable, is_one_of, unit_kind}
use Rattle.pat_resolver_spec.specs.Heads.{Heads, tag_named, payload_kinds, clause_scope}
use Rattle.pat_resolver_spec.specs.Findings.{Finding, Twice, unless, Earlier, tag_findings, names_findings, binders_in, kind_of_term, term_findings}
use Rattle.pat_resolver_spec.specs.Numbering.{kinds_for, vars_of}
use Rattle.pat_resolver_spec.specs.Places.{var_places}

-- ---- lets

-- what is found in the bound term
abbrev pub bound_findings : Heads → Scope → ℕ → Option tree.Name → tree.Term → List Finding
bound_findings h scope v None m = term_findings h scope v unit_kind m
bound_findings h scope v (Some x) m = term_findings h scope (suc v) (kind_of_term h scope (suc v) m) m

-- the scope of the body
abbrev pub bound_scope : Heads → Scope → ℕ → Option tree.Name → tree.Term → Scope
bound_scope h scope v None m = scope
bound_scope h scope v (Some x) m = variable x.text v (kind_of_term h scope (suc v) m) ∷ scope

-- how many variables are bound before the body
abbrev pub bound_binders : Option tree.Name → tree.Term → ℕ
bound_binders None m = binders_in m
bound_binders (Some x) m = suc (binders_in m)

-- their kinds
abbrev pub bound_vars : Heads → Scope → ℕ → Option tree.Name → tree.Term → List Kind
bound_vars h scope v None m = vars_of h scope v m
bound_vars h scope v (Some x) m = kind_of_term h scope (suc v) m ∷ vars_of h scope (suc v) m

-- the places of their names
abbrev pub bound_places : Option tree.Name → tree.Term → List tree.Span
bound_places None m = var_places m
bound_places (Some x) m = x.span ∷ var_places m

-- ---- clauses

-- a second clause of the same kind
abbrev pub twice_findings : Earlier → tree.Clause → List Finding
twice_findings earlier (tree.FailClause w) = unless (not earlier.fail) Twice w
twice_findings earlier (tree.FreeClause w m) = unless (not earlier.free) Twice w
twice_findings earlier (tree.ReceiveClause w t xs y m) = unless (not (is_one_of t.text earlier.tags)) Twice w

-- the clauses so far, with this one
abbrev pub with_earlier : Earlier → tree.Clause → Earlier
with_earlier earlier (tree.FailClause w) = record earlier { fail = true }
with_earlier earlier (tree.FreeClause w m) = record earlier { free = true }
with_earlier earlier (tree.ReceiveClause w t xs y m) = record earlier { tags = t.text ∷ earlier.tags }

-- what else is found in a clause, of whose body a kind is needed
abbrev pub clause_findings : Heads → ℕ → Scope → ℕ → Kind → tree.Clause → List Finding
clause_findings h i scope v k (tree.FailClause w) = []
clause_findings h i scope v k (tree.FreeClause w m) = term_findings h scope v k m
clause_findings h i scope v k (tree.ReceiveClause w t xs y m) =
    tag_findings t (length xs) (tag_named h i t.text)
    ++ names_findings [] (xs ++ y ∷ [])
    ++ term_findings h (clause_scope h i scope v t xs y) (suc (v + length xs)) k m

-- the kind of its body, if it has one
abbrev pub clause_kind : Heads → ℕ → Scope → ℕ → tree.Clause → Option Kind
clause_kind h i scope v (tree.FailClause w) = None
clause_kind h i scope v (tree.FreeClause w m) = Some (kind_of_term h scope v m)
clause_kind h i scope v (tree.ReceiveClause w t xs y m) = Some (kind_of_term h (clause_scope h i scope v t xs y) (suc (v + length xs)) m)

-- how many variables it binds
abbrev pub clause_binders : tree.Clause → ℕ
clause_binders (tree.FailClause w) = zero
clause_binders (tree.FreeClause w m) = binders_in m
clause_binders (tree.ReceiveClause w t xs y m) = suc (length xs) + binders_in m

-- their kinds
abbrev pub clause_vars : Heads → ℕ → Scope → ℕ → tree.Clause → List Kind
clause_vars h i scope v (tree.FailClause w) = []
clause_vars h i scope v (tree.FreeClause w m) = vars_of h scope v m
clause_vars h i scope v (tree.ReceiveClause w t xs y m) =
    kinds_for xs (payload_kinds (tag_named h i t.text))
    ++ MailboxOf i
    ∷ vars_of h (clause_scope h i scope v t xs y) (suc (v + length xs)) m

-- the places of their names
abbrev pub clause_places : tree.Clause → List tree.Span
clause_places (tree.FailClause w) = []
clause_places (tree.FreeClause w m) = var_places m
clause_places (tree.ReceiveClause w t xs y m) = map (λ x. x.span) xs ++ y.span ∷ var_places m
