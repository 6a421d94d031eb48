-- What is left of the clauses of a guard.
use Rattle.std.proofs.Common.{◌≡◌, ℕ, ◌+◌, Bool, ◌||◌, List, ◌++◌, Option, None, is_some, option_map, ap, sym, ◌∙◌, append_assoc, arith}
use Rattle.pat_semantics_spec.specs.Values.{Kind}
use Rattle.pat_parser_spec.specs.Trees as tree
use Rattle.pat_resolver_spec.specs.Scopes.{Scope}
use Rattle.pat_resolver_spec.specs.Heads.{Heads}
use Rattle.pat_resolver_spec.specs.Findings.{Finding, Earlier, clauses_findings, clauses_binders_in, has_body}
use Rattle.pat_resolver_spec.specs.Numbering.{clauses_vars_of}
use Rattle.pat_resolver_spec.specs.Places.{clauses_var_places}
use Rattle.pat_resolver_heads.specs.results.Results.{first_of}
use Rattle.pat_resolver_heads.proofs.Firsts.{first_behind}
use Rattle.pat_resolver_bodies.specs.Needs.{needed, first_known, clause_need, clauses_need}
use Rattle.pat_resolver_bodies.specs.Steps.{twice_findings, with_earlier, clause_findings, clause_kind, clause_binders, clause_vars, clause_places}
use Rattle.pat_resolver_bodies.proofs.Steps.{clauses_found, clauses_kind, clauses_vars, clauses_places, clauses_binders, clauses_body, clause_same, needs_more, bodies_more}

pub rest_binders : (v : ℕ) (c : tree.Clause) (cs r : tree.Clauses) (b : ℕ) → r ≡ tree.with_clause c cs → v + clauses_binders_in r ≡ b → (v + clause_binders c) + clauses_binders_in cs ≡ b
rest_binders v c cs r b rows e = let f = ap clauses_binders_in rows ∙ clauses_binders c cs in omega (arith, f, e)

pub rest_whole : (h : Heads) (i : ℕ) (sc : Scope) (v : ℕ) (k : Kind) (earlier : Earlier) (c : tree.Clause) (cs r : tree.Clauses) (f : Option Finding) → r ≡ tree.with_clause c cs → first_of (clauses_findings h i sc v k earlier r) ≡ f → first_of (twice_findings earlier c ++ (clause_findings h i sc v k c ++ clauses_findings h i sc (v + clause_binders c) k (with_earlier earlier c) cs)) ≡ f
rest_whole h i sc v k earlier c cs r f rows e =
    ap first_of (sym (append_assoc (twice_findings earlier c) (clause_findings h i sc v k c) (clauses_findings h i sc (v + clause_binders c) k (with_earlier earlier c) cs)) ∙ sym (clauses_found h i sc v k earlier c cs))
    ∙ sym (ap (λ u. first_of (clauses_findings h i sc v k earlier u)) rows)
    ∙ e

-- behind the test for a second clause of its kind; of the body the kind is needed that is needed of all
pub rest_clause : (h : Heads) (i : ℕ) (sc : Scope) (v : ℕ) (k : Kind) (need : Option Kind) (earlier : Earlier) (c : tree.Clause) (cs r : tree.Clauses) (f : Option Finding) → r ≡ tree.with_clause c cs → clauses_need h i sc v need r ≡ k → first_of (twice_findings earlier c) ≡ None → first_of (clauses_findings h i sc v k earlier r) ≡ f → first_of (clause_findings h i sc v (clause_need h i sc v need c) c ++ clauses_findings h i sc (v + clause_binders c) k (with_earlier earlier c) cs) ≡ f
rest_clause h i sc v k need earlier c cs r f rows n none e =
    let same = clause_same h i sc v need c cs ∙ ap (λ j. clause_findings h i sc v j c) (sym (ap (clauses_need h i sc v need) rows) ∙ n) in
    ap (λ fs. first_of (fs ++ clauses_findings h i sc (v + clause_binders c) k (with_earlier earlier c) cs)) same
    ∙ sym (first_behind (twice_findings earlier c) (clause_findings h i sc v k c ++ clauses_findings h i sc (v + clause_binders c) k (with_earlier earlier c) cs) none)
    ∙ rest_whole h i sc v k earlier c cs r f rows e

pub rest_found : (h : Heads) (i : ℕ) (sc : Scope) (v v' : ℕ) (k : Kind) (need : Option Kind) (earlier earlier' : Earlier) (c : tree.Clause) (cs r : tree.Clauses) (f : Option Finding) → r ≡ tree.with_clause c cs → clauses_need h i sc v need r ≡ k → first_of (twice_findings earlier c) ≡ None → first_of (clause_findings h i sc v (clause_need h i sc v need c) c) ≡ None → v' ≡ v + clause_binders c → earlier' ≡ with_earlier earlier c → first_of (clauses_findings h i sc v k earlier r) ≡ f → first_of (clauses_findings h i sc v' k earlier' cs) ≡ f
rest_found h i sc v v' k need earlier earlier' c cs r f rows n none clear e w found =
    rw (e, w) (sym (first_behind (clause_findings h i sc v (clause_need h i sc v need c) c) (clauses_findings h i sc (v + clause_binders c) k (with_earlier earlier c) cs) clear) ∙ rest_clause h i sc v k need earlier c cs r f rows n none found)

pub rest_needs : (h : Heads) (i : ℕ) (sc : Scope) (v v' : ℕ) (k : Kind) (found need got : Option Kind) (c : tree.Clause) (cs r : tree.Clauses) → r ≡ tree.with_clause c cs → v' ≡ v + clause_binders c → got ≡ option_map (needed (first_known found need)) (clause_kind h i sc v c) → clauses_need h i sc v (first_known found need) r ≡ k → clauses_need h i sc v' (first_known (first_known got found) need) cs ≡ k
rest_needs h i sc v v' k found need got c cs r rows e g n =
    rw e (needs_more found need (clause_kind h i sc v c) got _ g ∙ ap (needed (first_known found need)) (sym (clauses_kind h i sc v c cs)) ∙ sym (ap (clauses_need h i sc v (first_known found need)) rows) ∙ n)

pub rest_bodies : (h : Heads) (i : ℕ) (sc : Scope) (v : ℕ) (found got : Option Kind) (w : Kind → Kind) (c : tree.Clause) (cs r : tree.Clauses) (b : Bool) → r ≡ tree.with_clause c cs → got ≡ option_map w (clause_kind h i sc v c) → (is_some found || has_body r) ≡ b → (is_some (first_known got found) || has_body cs) ≡ b
rest_bodies h i sc v found got w c cs r b rows g e =
    bodies_more found (clause_kind h i sc v c) got w (has_body cs) g ∙ ap (λ x. is_some found || x) (sym (clauses_body h i sc v c cs) ∙ sym (ap has_body rows)) ∙ e

pub rest_vars : (h : Heads) (i : ℕ) (sc : Scope) (v v' : ℕ) (c : tree.Clause) (cs r : tree.Clauses) (ks ks' all : List Kind) → r ≡ tree.with_clause c cs → v' ≡ v + clause_binders c → ks' ≡ ks ++ clause_vars h i sc v c → ks ++ clauses_vars_of h i sc v r ≡ all → ks' ++ clauses_vars_of h i sc v' cs ≡ all
rest_vars h i sc v v' c cs r ks ks' all rows e k is =
    rw (e, k) (append_assoc ks (clause_vars h i sc v c) (clauses_vars_of h i sc (v + clause_binders c) cs) ∙ ap (λ vs. ks ++ vs) (sym (clauses_vars h i sc v c cs) ∙ sym (ap (clauses_vars_of h i sc v) rows)) ∙ is)

pub rest_places : (c : tree.Clause) (cs r : tree.Clauses) (ps ps' all : List tree.Span) → r ≡ tree.with_clause c cs → ps' ≡ ps ++ clause_places c → ps ++ clauses_var_places r ≡ all → ps' ++ clauses_var_places cs ≡ all
rest_places c cs r ps ps' all rows p is =
    rw p (append_assoc ps (clause_places c) (clauses_var_places cs) ∙ ap (λ vs. ps ++ vs) (sym (clauses_places c cs) ∙ sym (ap clauses_var_places rows)) ∙ is)
