-- A term of which a kind is needed, and that breaks no rule, has that kind.
use Rattle.std.proofs.Common.{◌≡◌, ◌+◌, ℕ, suc, true, List, [], ◌∷◌, ◌++◌, length, Option, Some, None, ap, sym, ◌∙◌}
use Rattle.std.specs.Prelude.{not}
use Rattle.pat_semantics_spec.specs.Values.{BaseBool, Kind, Plain, MailboxOf}
use Rattle.pat_parser_spec.specs.Trees as tree
use Rattle.pat_resolver_spec.specs.Scopes.{Variable, variable, Scope, variable_of, unit_kind, known_kind, kind_of_expr, is_one_of}
use Rattle.pat_resolver_spec.specs.Heads.{Heads, function_named, tag_names, tag_named, interface_of_kind, clause_scope}
use Rattle.pat_resolver_spec.specs.Findings.{Finding, Twice, unless, own_kind, parts_findings, expr_findings, shown_findings, pattern_findings, binders_in, interface_called, new_kind, call_kind, guarded, kind_of_term, kind_of_clauses, on_kind, on_mailbox, tag_findings, names_findings, Earlier, no_earlier, has_body, bodiless, term_findings, clauses_findings, args_findings}
use Rattle.pat_resolver_spec.specs.Heads.{payload_kinds}
use Rattle.pat_resolver_laws.proofs.Counting.{none_first, none_second}
use Rattle.pat_resolver_laws.proofs.Expressions.{own_same}
use Rattle.pat_resolver_laws.proofs.Terms.{new_found, call_found}

-- what is examined of a mailbox's interface
examined : (at : tree.Span) (x : tree.Name) (o : Option Variable) (then : ℕ → List Finding) → on_mailbox at x o then ≡ [] → then (interface_of_kind (known_kind o)) ≡ []
examined at x None then none = cc
examined at x (Some v) then none = kinds v.kind none
  where
    kinds : (k : Kind) → on_kind at k then ≡ [] → then (interface_of_kind k) ≡ []
    kinds (Plain b) n = cc
    kinds (MailboxOf i) n = n

module _ (h : Heads) where
  mutual
    pub kind_given : (t : tree.Term) (scope : Scope) (v : ℕ) (k : Kind) → term_findings h scope v k t ≡ [] → kind_of_term h scope v t ≡ k
    kind_given (tree.LetTerm None m b at) scope v k none = kind_given b scope (v + binders_in m) k (none_second (term_findings h scope v unit_kind m) (term_findings h scope (v + binders_in m) k b) none)
    kind_given (tree.LetTerm (Some x) m b at) scope v k none =
        let j = kind_of_term h scope (suc v) m in
        let inner = variable x.text v j ∷ scope in
        kind_given b inner (suc v + binders_in m) k (none_second (term_findings h scope (suc v) j m) (term_findings h inner (suc v + binders_in m) k b) none)
    kind_given (tree.IfTerm e m b at) scope v k none =
        let test = expr_findings scope (Plain BaseBool) e in
        kind_given m scope v k (none_second test (term_findings h scope v k m) (none_first (test ++ term_findings h scope v k m) (term_findings h scope (v + binders_in m) k b) none))
    kind_given (tree.PrintTerm e at) scope v k none = sym (own_same k unit_kind at (none_second (shown_findings scope e) (own_kind k unit_kind at) none))
    kind_given (tree.NewTerm x at) scope v k none = let i = new_found k x at (interface_called h x.text) none in ap new_kind i.1 ∙ sym i.2
    kind_given (tree.SpawnTerm m at) scope v k none = sym (own_same k unit_kind at (none_second (term_findings h scope v unit_kind m) (own_kind k unit_kind at) none))
    kind_given (tree.FreeTerm x at) scope v k none = sym (own_same k unit_kind at (none_second (on_mailbox at x (variable_of scope x.text) (λ i. [])) (own_kind k unit_kind at) none))
    kind_given (tree.GuardTerm x p cs at) scope v k none =
        let then : ℕ → List Finding = λ i. pattern_findings (tag_names h i) p ++ clauses_findings h i scope v k no_earlier cs in
        let i = guarded scope x.text in
        let rest = examined at x (variable_of scope x.text) then (none_first (on_mailbox at x (variable_of scope x.text) then) (bodiless (has_body cs) k at) none) in
        clauses_given cs i scope v k no_earlier at
        (none_second (pattern_findings (tag_names h i) p) (clauses_findings h i scope v k no_earlier cs) rest)
        (none_second (on_mailbox at x (variable_of scope x.text) then) (bodiless (has_body cs) k at) none)
    kind_given (tree.SendTerm x t es at) scope v k none =
        let then : ℕ → List Finding = λ i. tag_findings t (length es) (tag_named h i t.text) ++ args_findings scope (payload_kinds (tag_named h i t.text)) es in
        sym (own_same k unit_kind at (none_second (on_mailbox at x (variable_of scope x.text) then) (own_kind k unit_kind at) none))
    kind_given (tree.CallTerm g es at) scope v k none = let c = call_found scope k g es at (function_named h g.text) none in ap call_kind c.1 ∙ sym c.4
    kind_given (tree.ValueTerm e at) scope v k none = sym (own_same k (kind_of_expr scope e) at (none_second (parts_findings scope e) (own_kind k (kind_of_expr scope e) at) none))

    clauses_given : (cs : tree.Clauses) (i : ℕ) (scope : Scope) (v : ℕ) (k : Kind) (earlier : Earlier) (at : tree.Span) → clauses_findings h i scope v k earlier cs ≡ [] → bodiless (has_body cs) k at ≡ [] → kind_of_clauses h i scope v cs ≡ k
    clauses_given tree.no_clauses i scope v k earlier at none empty = sym (own_same k unit_kind at empty)
    clauses_given (tree.with_clause (tree.FailClause w) cs) i scope v k earlier at none empty =
        clauses_given cs i scope v k (record earlier { fail = true }) at (none_second (unless (not earlier.fail) Twice w) (clauses_findings h i scope v k (record earlier { fail = true }) cs) none) empty
    clauses_given (tree.with_clause (tree.FreeClause w m) cs) i scope v k earlier at none empty =
        let twice = unless (not earlier.free) Twice w in
        let own = term_findings h scope v k m in
        kind_given m scope v k (none_second twice own (none_first (twice ++ own) (clauses_findings h i scope (v + binders_in m) k (record earlier { free = true }) cs) none))
    clauses_given (tree.with_clause (tree.ReceiveClause w t xs y m) cs) i scope v k earlier at none empty =
        let inner = clause_scope h i scope v t xs y in
        let start = suc (v + length xs) in
        let head = unless (not (is_one_of t.text earlier.tags)) Twice w ++ tag_findings t (length xs) (tag_named h i t.text) ++ names_findings [] (xs ++ y ∷ []) in
        let own = term_findings h inner start k m in
        kind_given m inner start k (none_second head own (none_first (head ++ own) (clauses_findings h i scope (start + binders_in m) k (record earlier { tags = t.text ∷ earlier.tags }) cs) none))
