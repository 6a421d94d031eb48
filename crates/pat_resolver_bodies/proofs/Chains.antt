-- What is left of a chain of lets.
use Rattle.std.proofs.Common.{◌≡◌, ℕ, ◌+◌, List, ◌++◌, Option, None, ap, sym, ◌∙◌, append_assoc, arith}
use Rattle.pat_semantics_spec.specs.Values.{Kind}
use Rattle.pat_parser_spec.specs.Trees as tree
use Rattle.pat_resolver_spec.specs.Scopes.{Scope}
use Rattle.pat_resolver_spec.specs.Heads.{Heads}
use Rattle.pat_resolver_spec.specs.Findings.{Finding, term_findings, binders_in, kind_of_term}
use Rattle.pat_resolver_spec.specs.Numbering.{vars_of}
use Rattle.pat_resolver_spec.specs.Places.{var_places}
use Rattle.pat_resolver_heads.specs.results.Results.{first_of}
use Rattle.pat_resolver_heads.proofs.Firsts.{first_behind}
use Rattle.pat_resolver_bodies.specs.Steps.{bound_findings, bound_scope, bound_binders, bound_vars, bound_places}
use Rattle.pat_resolver_bodies.proofs.Steps.{let_found, let_kind, let_vars, let_places, let_binders}

pub chain_binders : (v : ℕ) (x : Option tree.Name) (m n t : tree.Term) (at : tree.Span) (b : ℕ) → t ≡ tree.LetTerm x m n at → v + binders_in t ≡ b → (v + bound_binders x m) + binders_in n ≡ b
chain_binders v x m n t at b whole e = let f = ap binders_in whole ∙ let_binders x m n at in omega (arith, f, e)

pub chain_kind : (h : Heads) (sc sc' : Scope) (v v' : ℕ) (x : Option tree.Name) (m n t : tree.Term) (at : tree.Span) (k : Kind) → t ≡ tree.LetTerm x m n at → sc' ≡ bound_scope h sc v x m → v' ≡ v + bound_binders x m → kind_of_term h sc v t ≡ k → kind_of_term h sc' v' n ≡ k
chain_kind h sc sc' v v' x m n t at k whole s e own = rw (s, e) (sym (let_kind h sc v x m n at) ∙ sym (ap (kind_of_term h sc v) whole) ∙ own)

pub chain_whole : (h : Heads) (sc : Scope) (v : ℕ) (k : Kind) (x : Option tree.Name) (m n t : tree.Term) (at : tree.Span) (f : Option Finding) → t ≡ tree.LetTerm x m n at → first_of (term_findings h sc v k t) ≡ f → first_of (bound_findings h sc v x m ++ term_findings h (bound_scope h sc v x m) (v + bound_binders x m) k n) ≡ f
chain_whole h sc v k x m n t at f whole e = ap first_of (sym (let_found h sc v k x m n at)) ∙ sym (ap (λ u. first_of (term_findings h sc v k u)) whole) ∙ e

pub chain_found : (h : Heads) (sc sc' : Scope) (v v' : ℕ) (k : Kind) (x : Option tree.Name) (m n t : tree.Term) (at : tree.Span) (f : Option Finding) → t ≡ tree.LetTerm x m n at → sc' ≡ bound_scope h sc v x m → v' ≡ v + bound_binders x m → first_of (bound_findings h sc v x m) ≡ None → first_of (term_findings h sc v k t) ≡ f → first_of (term_findings h sc' v' k n) ≡ f
chain_found h sc sc' v v' k x m n t at f whole s e none found =
    rw (s, e) (sym (first_behind (bound_findings h sc v x m) (term_findings h (bound_scope h sc v x m) (v + bound_binders x m) k n) none) ∙ chain_whole h sc v k x m n t at f whole found)

pub chain_vars : (h : Heads) (sc sc' : Scope) (v v' : ℕ) (x : Option tree.Name) (m n t : tree.Term) (at : tree.Span) (ks ks' all : List Kind) → t ≡ tree.LetTerm x m n at → sc' ≡ bound_scope h sc v x m → v' ≡ v + bound_binders x m → ks' ≡ ks ++ bound_vars h sc v x m → ks ++ vars_of h sc v t ≡ all → ks' ++ vars_of h sc' v' n ≡ all
chain_vars h sc sc' v v' x m n t at ks ks' all whole s e k is =
    rw (s, e, k) (append_assoc ks (bound_vars h sc v x m) (vars_of h (bound_scope h sc v x m) (v + bound_binders x m) n) ∙ ap (λ vs. ks ++ vs) (sym (let_vars h sc v x m n at) ∙ sym (ap (vars_of h sc v) whole)) ∙ is)

pub chain_places : (x : Option tree.Name) (m n t : tree.Term) (at : tree.Span) (ps ps' all : List tree.Span) → t ≡ tree.LetTerm x m n at → ps' ≡ ps ++ bound_places x m → ps ++ var_places t ≡ all → ps' ++ var_places n ≡ all
chain_places x m n t at ps ps' all whole p is =
    rw p (append_assoc ps (bound_places x m) (var_places n) ∙ ap (λ vs. ps ++ vs) (sym (let_places x m n at) ∙ sym (ap var_places whole)) ∙ is)
