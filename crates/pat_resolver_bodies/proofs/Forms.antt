-- Terms that are no lets, by their parts.
use Rattle.std.proofs.Common.{◌≡◌, ℕ, suc, ◌+◌, Bool, true, false, List, [], ◌∷◌, ◌++◌, length, map, slice_set, Option, Some, None, option_map, Ok, Err, OnOk, IfOk, IfNone, IfSome, Vec, Box, Global, rules, refl, ap, sym, ◌∙◌, subst}
use Rattle.std.specs.Prelude.{Result}
use Rattle.pat_semantics_spec.specs.Values.{Kind, Plain, BaseBool}
use Rattle.pat_parser_spec.specs.Trees as tree
use Rattle.pat_parser_spec.specs.Trees.{listed}
use Rattle.pat_tree.specs.declared.pattern.Name.{Name}
use Rattle.pat_tree.specs.declared.pattern.TreePattern.{TreePattern}
use Rattle.pat_tree.specs.declared.term.Form.{Form, Guard, Let, Let', If', Print, New, Spawn', Free, Guard', Send, Call, Value}
use Rattle.pat_tree.specs.declared.term.Form.TheViews.{the_lemmas}
use Rattle.pat_tree.specs.declared.term.Term.{Term}
use Rattle.pat_tree.specs.declared.term.TreeClause.{TreeClause}
use Rattle.pat_tree.specs.Views.{name_view, pattern_view, term_at, clause_view}
use Rattle.pat_tree.proofs.Rows.{rows_are}
use Rattle.pat_resolver_spec.specs.Scopes.{Scope, variable_of, unit_kind}
use Rattle.pat_resolver_spec.specs.Heads.{Heads, tag_names, tag_named, clause_scope}
use Rattle.pat_resolver_spec.specs.Findings.{Finding, own_kind, pattern_findings, tag_findings, names_findings, expr_findings, term_findings, binders_in, kind_of_clauses, clauses_findings, no_earlier, has_body, bodiless, guarded, on_mailbox}
use Rattle.pat_resolver_heads.specs.results.Results.{first_of, Refuses, Meets}
use Rattle.pat_resolver_heads.specs.declared.results.error.ResolveError.{ResolveError}
use Rattle.pat_resolver_heads.proofs.Firsts.{nothing_found, refuses_front, refuses_behind, meets_behind}
use Rattle.pat_core.specs.declared.program.Kind.{Kind as CodeKind}
use Rattle.pat_core.specs.Views.{kind_view}
use Rattle.pat_resolver_bodies.specs.Needs.{needed, term_need, clause_need, clauses_need, of_bodies, is_let}
use Rattle.pat_resolver_bodies.specs.Steps.{clause_findings}
use Rattle.pat_resolver_bodies.proofs.Order.{refuses_same}

-- what holds anyway holds where the call succeeds
pub always : {A E P : Type 0} (r : Result A E) → P → OnOk r P
always (Ok x) p = p
always (Err e) p = tt

-- ---- lets

pub not_let : (f : Form) (at : tree.Span) → ((x : Option Name) (b d : Box Term Global) → f ≡ Let x b d → ⊥) → is_let (term_at f at) ≡ false
not_let (Let' x p m s q n t) at h = absurd (h x (record { ptr = p.ptr; alloc = p.alloc; value = record { form = m; span = s } }) (record { ptr = q.ptr; alloc = q.alloc; value = record { form = n; span = t } }) refl)
not_let (If' e p m s q n t) at h = refl
not_let (Print e) at h = refl
not_let (New x) at h = refl
not_let (Spawn' p m s) at h = refl
not_let (Free x) at h = refl
not_let (Guard' x p shape cs) at h = refl
not_let (Send x t es) at h = refl
not_let (Call f es) at h = refl
not_let (Value e) at h = refl

-- ---- if

pub if_meets : {A : Type 0} (r : Result A ResolveError) (h : Heads) (sc sc' : Scope) (v v' : ℕ) (e : tree.Expr) (m n t : tree.Term) (at : tree.Span) (need : Option Kind) (k : Kind) → t ≡ tree.IfTerm e m n at → first_of (expr_findings sc (Plain BaseBool) e) ≡ None → first_of (term_findings h sc v (term_need h sc v need m) m) ≡ None → sc' ≡ sc → v' ≡ v + binders_in m → k ≡ term_need h sc v need m → Meets r (term_findings h sc' v' k n) → Meets r (term_findings h sc v (term_need h sc v need t) t)
if_meets r h sc sc' v v' e m n t at need k whole test first s w j second =
    rw whole (meets_behind r (expr_findings sc (Plain BaseBool) e ++ term_findings h sc v (term_need h sc v need m) m) (term_findings h sc (v + binders_in m) (term_need h sc v need m) n) (nothing_found _ _ test first) (rw (s, w, j) at second))

-- ---- guards

-- a guard of the code, by the list of its clauses
pub guard_view : (x : Name) (p : TreePattern) (cs : Vec TreeClause Global) (at : tree.Span) → term_at (Guard x p cs) at ≡ tree.GuardTerm (name_view x) (pattern_view p) (listed (map clause_view cs.items)) at
guard_view x p cs at = search (rules, the_lemmas, rows_are)

abbrev pub opened : Heads → tree.Span → tree.Name → Scope → tree.Pattern → (ℕ → List Finding) → List Finding
opened h at x sc p then = on_mailbox at x (variable_of sc x.text) (λ i. pattern_findings (tag_names h i) p ++ then i)

-- refused before the clauses
pub guard_opens : (e : ResolveError) (h : Heads) (sc : Scope) (v : ℕ) (x : tree.Name) (p : tree.Pattern) (cs : tree.Clauses) (at : tree.Span) (t : tree.Term) (need : Option Kind) → t ≡ tree.GuardTerm x p cs at → ((then : ℕ → List Finding) → Refuses e (opened h at x sc p then)) → Refuses e (term_findings h sc v (term_need h sc v need t) t)
guard_opens e h sc v x p cs at t need whole refused =
    rw whole (refuses_front e (opened h at x sc p (λ i. clauses_findings h i sc v (term_need h sc v need (tree.GuardTerm x p cs at)) no_earlier cs)) (bodiless (has_body cs) (term_need h sc v need (tree.GuardTerm x p cs at)) at) (refused (λ i. clauses_findings h i sc v (term_need h sc v need (tree.GuardTerm x p cs at)) no_earlier cs)))

-- the kind that is needed of a guard is the one that is needed of its clauses
pub guard_need : (h : Heads) (sc : Scope) (v : ℕ) (x : tree.Name) (p : tree.Pattern) (cs : tree.Clauses) (at : tree.Span) (need : Option Kind) (i : ℕ) → guarded sc x.text ≡ i → term_need h sc v need (tree.GuardTerm x p cs at) ≡ clauses_need h i sc v need cs
guard_need h sc v x p cs at need i g = ap (λ j. clauses_need h j sc v need cs) g

-- what is found in the clauses is found first
pub guard_clauses : (h : Heads) (sc : Scope) (v : ℕ) (x : tree.Name) (p : tree.Pattern) (cs : tree.Clauses) (at : tree.Span) (t : tree.Term) (need : Option Kind) (i : ℕ) → t ≡ tree.GuardTerm x p cs at → guarded sc x.text ≡ i → ((then : ℕ → List Finding) → first_of (opened h at x sc p then) ≡ first_of (then i)) → first_of (opened h at x sc p (λ j. clauses_findings h j sc v (term_need h sc v need t) no_earlier cs)) ≡ first_of (clauses_findings h i sc v (clauses_need h i sc v need cs) no_earlier cs)
guard_clauses h sc v x p cs at t need i whole g goes =
    goes (λ j. clauses_findings h j sc v (term_need h sc v need t) no_earlier cs)
    ∙ ap (λ k. first_of (clauses_findings h i sc v k no_earlier cs)) (ap (term_need h sc v need) whole ∙ guard_need h sc v x p cs at need i g)

pub guard_stops : (e : ResolveError) (h : Heads) (sc : Scope) (v : ℕ) (x : tree.Name) (p : tree.Pattern) (cs : tree.Clauses) (at : tree.Span) (t : tree.Term) (need : Option Kind) (i : ℕ) → t ≡ tree.GuardTerm x p cs at → guarded sc x.text ≡ i → ((then : ℕ → List Finding) → first_of (opened h at x sc p then) ≡ first_of (then i)) → Refuses e (clauses_findings h i sc v (clauses_need h i sc v need cs) no_earlier cs) → Refuses e (term_findings h sc v (term_need h sc v need t) t)
guard_stops e h sc v x p cs at t need i whole g goes refused =
    let front = opened h at x sc p (λ j. clauses_findings h j sc v (term_need h sc v need t) no_earlier cs) in
    let m : Refuses e front = refuses_same e _ _ (sym (guard_clauses h sc v x p cs at t need i whole g goes)) refused in
    let n : Refuses e (front ++ bodiless (has_body cs) (term_need h sc v need t) at) = refuses_front e front _ m in
    subst (λ u. Refuses e (term_findings h sc v (term_need h sc v need t) u)) (sym whole) n

no_body : (h : Heads) (i : ℕ) (sc : Scope) (v : ℕ) (cs : tree.Clauses) → has_body cs ≡ false → kind_of_clauses h i sc v cs ≡ unit_kind
no_body h i sc v tree.no_clauses e = refl
no_body h i sc v (tree.with_clause (tree.FailClause w) cs) e = no_body h i sc v cs e
no_body h i sc v (tree.with_clause (tree.FreeClause w m) cs) e = cc
no_body h i sc v (tree.with_clause (tree.ReceiveClause w t xs y m) cs) e = cc

-- what the end of a guard answers
pub record Closes (need : Option Kind) (at : tree.Span) (o : Option CodeKind) (r : Result CodeKind ResolveError) : Type 0 where
  pub found : IfNone o (Meets r (own_kind (needed need unit_kind) unit_kind at))
  pub none : IfNone o (IfOk r (λ k. kind_view k ≡ needed need unit_kind))
  pub some : IfSome o (λ k. r ≡ Ok k)

ends : (need : Option Kind) (at : tree.Span) (o : Option CodeKind) (r : Result CodeKind ResolveError) (b : Bool) (k own : Kind) → Closes need at o r → option_map kind_view o ≡ of_bodies b k → k ≡ needed need own → (b ≡ false → own ≡ unit_kind) → Meets r (bodiless b k at)
ends need at None r true k own closes e n u = cc
ends need at None r false k own closes e n u = rw (n, u refl) closes.found
ends need at (Some j) r true k own closes e n u = rw closes.some refl
ends need at (Some j) r false k own closes e n u = cc

gives : (need : Option Kind) (at : tree.Span) (o : Option CodeKind) (r : Result CodeKind ResolveError) (b : Bool) (k own : Kind) → Closes need at o r → option_map kind_view o ≡ of_bodies b k → k ≡ needed need own → (b ≡ false → own ≡ unit_kind) → IfOk r (λ j. kind_view j ≡ k)
gives need at None r true k own closes e n u = cc
gives need at None r false k own closes e n u = rw (n, u refl) closes.none
gives need at (Some j) r true k own closes e n u = rw closes.some (ap (λ w. w) cc)
gives need at (Some j) r false k own closes e n u = cc

pub guard_meets : (r : Result CodeKind ResolveError) (o : Option CodeKind) (h : Heads) (sc : Scope) (v : ℕ) (x : tree.Name) (p : tree.Pattern) (cs : tree.Clauses) (at : tree.Span) (t : tree.Term) (need : Option Kind) (i : ℕ) → t ≡ tree.GuardTerm x p cs at → guarded sc x.text ≡ i → ((then : ℕ → List Finding) → first_of (opened h at x sc p then) ≡ first_of (then i)) → first_of (clauses_findings h i sc v (clauses_need h i sc v need cs) no_earlier cs) ≡ None → option_map kind_view o ≡ of_bodies (has_body cs) (clauses_need h i sc v need cs) → Closes need at o r → Meets r (term_findings h sc v (term_need h sc v need t) t)
guard_meets r o h sc v x p cs at t need i whole g goes none kind closes =
    let front = opened h at x sc p (λ j. clauses_findings h j sc v (term_need h sc v need t) no_earlier cs) in
    let clear : first_of front ≡ None = guard_clauses h sc v x p cs at t need i whole g goes ∙ none in
    let k : term_need h sc v need t ≡ clauses_need h i sc v need cs = ap (term_need h sc v need) whole ∙ guard_need h sc v x p cs at need i g in
    let last : Meets r (bodiless (has_body cs) (clauses_need h i sc v need cs) at) = ends need at o r (has_body cs) _ (kind_of_clauses h i sc v cs) closes kind refl (no_body h i sc v cs) in
    let end : Meets r (bodiless (has_body cs) (term_need h sc v need t) at) = subst (λ j. Meets r (bodiless (has_body cs) j at)) (sym k) last in
    subst (λ u. Meets r (term_findings h sc v (term_need h sc v need t) u)) (sym whole) (meets_behind r front _ clear end)

pub guard_kind : (r : Result CodeKind ResolveError) (o : Option CodeKind) (h : Heads) (sc : Scope) (v : ℕ) (x : tree.Name) (p : tree.Pattern) (cs : tree.Clauses) (at : tree.Span) (t : tree.Term) (need : Option Kind) (i : ℕ) → t ≡ tree.GuardTerm x p cs at → guarded sc x.text ≡ i → option_map kind_view o ≡ of_bodies (has_body cs) (clauses_need h i sc v need cs) → Closes need at o r → IfOk r (λ j. kind_view j ≡ term_need h sc v need t)
guard_kind r o h sc v x p cs at t need i whole g kind closes =
    let k : term_need h sc v need t ≡ clauses_need h i sc v need cs = ap (term_need h sc v need) whole ∙ guard_need h sc v x p cs at need i g in
    subst (λ w. IfOk r (λ j. kind_view j ≡ w)) (sym k) (gives need at o r (has_body cs) _ (kind_of_clauses h i sc v cs) closes kind refl (no_body h i sc v cs))

-- ---- receive clauses

pub receive_refuses : (e : ResolveError) (h : Heads) (i : ℕ) (sc sc' : Scope) (v v' : ℕ) (w : tree.Span) (t : tree.Name) (xs : List tree.Name) (y : tree.Name) (m : tree.Term) (c : tree.Clause) (need : Option Kind) → c ≡ tree.ReceiveClause w t xs y m → first_of (tag_findings t (length xs) (tag_named h i t.text) ++ names_findings [] (xs ++ y ∷ [])) ≡ None → sc' ≡ clause_scope h i sc v t xs y → v' ≡ suc (v + length xs) → Refuses e (term_findings h sc' v' (term_need h sc' v' need m) m) → Refuses e (clause_findings h i sc v (clause_need h i sc v need c) c)
receive_refuses e h i sc sc' v v' w t xs y m c need whole none s l refused =
    rw whole (refuses_behind e (tag_findings t (length xs) (tag_named h i t.text) ++ names_findings [] (xs ++ y ∷ [])) _ none (rw (s, l) at refused))

pub receive_clear : (h : Heads) (i : ℕ) (sc sc' : Scope) (v v' : ℕ) (w : tree.Span) (t : tree.Name) (xs : List tree.Name) (y : tree.Name) (m : tree.Term) (c : tree.Clause) (need : Option Kind) → c ≡ tree.ReceiveClause w t xs y m → first_of (tag_findings t (length xs) (tag_named h i t.text) ++ names_findings [] (xs ++ y ∷ [])) ≡ None → sc' ≡ clause_scope h i sc v t xs y → v' ≡ suc (v + length xs) → first_of (term_findings h sc' v' (term_need h sc' v' need m) m) ≡ None → first_of (clause_findings h i sc v (clause_need h i sc v need c) c) ≡ None
receive_clear h i sc sc' v v' w t xs y m c need whole none s l clear =
    rw whole (nothing_found (tag_findings t (length xs) (tag_named h i t.text) ++ names_findings [] (xs ++ y ∷ [])) _ none (rw (s, l) at clear))

-- ---- named lets

-- the kind of a variable is put before those that were bound behind it
pub named_kinds : (old now : List CodeKind) (u k : CodeKind) (j : Kind) (vs : List Kind) → map kind_view now ≡ map kind_view (old ++ u ∷ []) ++ vs → kind_view k ≡ j → map kind_view (slice_set now (length old) k) ≡ map kind_view old ++ j ∷ vs
named_kinds [] [] u k j vs e f = cc
named_kinds [] (x ∷ now) u k j vs e f = rw f (let rest : map kind_view now ≡ vs = cc in ap (λ ws. j ∷ ws) rest)
named_kinds (o ∷ old) [] u k j vs e f = cc
named_kinds (o ∷ old) (x ∷ now) u k j vs e f =
    let first : kind_view x ≡ kind_view o = cc in
    let rest : map kind_view now ≡ map kind_view (old ++ u ∷ []) ++ vs = cc in
    rw first (ap (λ ws. kind_view o ∷ ws) (named_kinds old now u k j vs rest f))
