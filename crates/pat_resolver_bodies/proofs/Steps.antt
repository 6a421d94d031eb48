-- A let before its body, and a clause before those behind it.
use Rattle.std.proofs.Common.{◌≡◌, ℕ, suc, ◌+◌, Bool, ◌||◌, ◌++◌, length, Option, Some, None, is_some, option_map, refl, append_assoc, append-nil, add-zero, arith}
use Rattle.pat_semantics_spec.specs.Values.{Kind}
use Rattle.pat_parser_spec.specs.Trees as tree
use Rattle.pat_resolver_spec.specs.Scopes.{Scope}
use Rattle.pat_resolver_spec.specs.Heads.{Heads}
use Rattle.pat_resolver_spec.specs.Findings.{Earlier, term_findings, binders_in, kind_of_term, clauses_findings, clauses_binders_in, kind_of_clauses, has_body}
use Rattle.pat_resolver_spec.specs.Numbering.{vars_of, clauses_vars_of}
use Rattle.pat_resolver_spec.specs.Places.{var_places, clauses_var_places}
use Rattle.pat_resolver_bodies.specs.Needs.{needed, first_known, clause_need, clauses_need}
use Rattle.pat_resolver_bodies.specs.Steps.{bound_findings, bound_scope, bound_binders, bound_vars, bound_places, twice_findings, with_earlier, clause_findings, clause_kind, clause_binders, clause_vars, clause_places}

one_later : (v b : ℕ) → v + suc b ≡ suc v + b
one_later v b = omega arith

-- ---- lets

pub let_found : (h : Heads) (sc : Scope) (v : ℕ) (k : Kind) (x : Option tree.Name) (m n : tree.Term) (at : tree.Span) → term_findings h sc v k (tree.LetTerm x m n at) ≡ bound_findings h sc v x m ++ term_findings h (bound_scope h sc v x m) (v + bound_binders x m) k n
let_found h sc v k None m n at = refl
let_found h sc v k (Some x) m n at = rw (one_later v (binders_in m)) refl

pub let_kind : (h : Heads) (sc : Scope) (v : ℕ) (x : Option tree.Name) (m n : tree.Term) (at : tree.Span) → kind_of_term h sc v (tree.LetTerm x m n at) ≡ kind_of_term h (bound_scope h sc v x m) (v + bound_binders x m) n
let_kind h sc v None m n at = refl
let_kind h sc v (Some x) m n at = rw (one_later v (binders_in m)) refl

pub let_vars : (h : Heads) (sc : Scope) (v : ℕ) (x : Option tree.Name) (m n : tree.Term) (at : tree.Span) → vars_of h sc v (tree.LetTerm x m n at) ≡ bound_vars h sc v x m ++ vars_of h (bound_scope h sc v x m) (v + bound_binders x m) n
let_vars h sc v None m n at = refl
let_vars h sc v (Some x) m n at = rw (one_later v (binders_in m)) refl

pub let_places : (x : Option tree.Name) (m n : tree.Term) (at : tree.Span) → var_places (tree.LetTerm x m n at) ≡ bound_places x m ++ var_places n
let_places None m n at = refl
let_places (Some x) m n at = refl

pub let_binders : (x : Option tree.Name) (m n : tree.Term) (at : tree.Span) → binders_in (tree.LetTerm x m n at) ≡ bound_binders x m + binders_in n
let_binders None m n at = refl
let_binders (Some x) m n at = omega arith

-- ---- clauses

further : (v l b : ℕ) → suc (v + l) + b ≡ v + (suc l + b)
further v l b = omega arith

pub clauses_found : (h : Heads) (i : ℕ) (sc : Scope) (v : ℕ) (k : Kind) (earlier : Earlier) (c : tree.Clause) (cs : tree.Clauses) → clauses_findings h i sc v k earlier (tree.with_clause c cs) ≡ (twice_findings earlier c ++ clause_findings h i sc v k c) ++ clauses_findings h i sc (v + clause_binders c) k (with_earlier earlier c) cs
clauses_found h i sc v k earlier (tree.FailClause w) cs = rw (append-nil (twice_findings earlier (tree.FailClause w)), add-zero v) refl
clauses_found h i sc v k earlier (tree.FreeClause w m) cs = refl
clauses_found h i sc v k earlier (tree.ReceiveClause w t xs y m) cs = rw (further v (length xs) (binders_in m)) (simp append_assoc)

-- the kind of the first body
abbrev pub known_or : Option Kind → Kind → Kind
known_or None k = k
known_or (Some j) k = j

pub clauses_kind : (h : Heads) (i : ℕ) (sc : Scope) (v : ℕ) (c : tree.Clause) (cs : tree.Clauses) → kind_of_clauses h i sc v (tree.with_clause c cs) ≡ known_or (clause_kind h i sc v c) (kind_of_clauses h i sc (v + clause_binders c) cs)
clauses_kind h i sc v (tree.FailClause w) cs = rw (add-zero v) refl
clauses_kind h i sc v (tree.FreeClause w m) cs = refl
clauses_kind h i sc v (tree.ReceiveClause w t xs y m) cs = refl

pub clauses_vars : (h : Heads) (i : ℕ) (sc : Scope) (v : ℕ) (c : tree.Clause) (cs : tree.Clauses) → clauses_vars_of h i sc v (tree.with_clause c cs) ≡ clause_vars h i sc v c ++ clauses_vars_of h i sc (v + clause_binders c) cs
clauses_vars h i sc v (tree.FailClause w) cs = rw (add-zero v) refl
clauses_vars h i sc v (tree.FreeClause w m) cs = refl
clauses_vars h i sc v (tree.ReceiveClause w t xs y m) cs = rw (further v (length xs) (binders_in m)) refl

pub clauses_places : (c : tree.Clause) (cs : tree.Clauses) → clauses_var_places (tree.with_clause c cs) ≡ clause_places c ++ clauses_var_places cs
clauses_places (tree.FailClause w) cs = refl
clauses_places (tree.FreeClause w m) cs = refl
clauses_places (tree.ReceiveClause w t xs y m) cs = refl

pub clauses_binders : (c : tree.Clause) (cs : tree.Clauses) → clauses_binders_in (tree.with_clause c cs) ≡ clause_binders c + clauses_binders_in cs
clauses_binders (tree.FailClause w) cs = omega arith
clauses_binders (tree.FreeClause w m) cs = refl
clauses_binders (tree.ReceiveClause w t xs y m) cs = refl

pub clauses_body : (h : Heads) (i : ℕ) (sc : Scope) (v : ℕ) (c : tree.Clause) (cs : tree.Clauses) → has_body (tree.with_clause c cs) ≡ (is_some (clause_kind h i sc v c) || has_body cs)
clauses_body h i sc v (tree.FailClause w) cs = refl
clauses_body h i sc v (tree.FreeClause w m) cs = refl
clauses_body h i sc v (tree.ReceiveClause w t xs y m) cs = refl

-- the kind that is needed of all bodies is the one that is needed of this one
pub clause_same : (h : Heads) (i : ℕ) (sc : Scope) (v : ℕ) (need : Option Kind) (c : tree.Clause) (cs : tree.Clauses) → clause_findings h i sc v (clause_need h i sc v need c) c ≡ clause_findings h i sc v (clauses_need h i sc v need (tree.with_clause c cs)) c
clause_same h i sc v need (tree.FailClause w) cs = refl
clause_same h i sc v need (tree.FreeClause w m) cs = refl
clause_same h i sc v need (tree.ReceiveClause w t xs y m) cs = refl

-- once the kind of a body is known, it is needed of those behind it
pub needs_more : (found need own got : Option Kind) (k : Kind) → got ≡ option_map (needed (first_known found need)) own → needed (first_known (first_known got found) need) k ≡ needed (first_known found need) (known_or own k)
needs_more found need None got k e = rw e refl
needs_more found need (Some j) got k e = rw e refl

pub bodies_more : (found own got : Option Kind) (w : Kind → Kind) (b : Bool) → got ≡ option_map w own → (is_some (first_known got found) || b) ≡ (is_some found || (is_some own || b))
bodies_more found None got w b e = rw e refl
bodies_more None (Some j) got w b e = rw e refl
bodies_more (Some f) (Some j) got w b e = rw e refl
