-- The variables that a term binds: their numbers, their kinds, and the scopes that they make.
use Rattle.std.proofs.Common.{◌≡◌, ◌+◌, ◌<◌, ℕ, zero, suc, Bool, true, false, ◌||◌, nat_eq, List, [], ◌∷◌, ◌++◌, length, Option, Some, None, refl, ap, sym, ◌∙◌, arith, ⊎_elim, ◌⊎◌, inl, inr, length-append}
use Rattle.std.specs.Prelude.{option_and_then, slice_get, bytes_eq, if◌then◌else◌}
use Rattle.std.specs.List.{AllByRecursion}
use Rattle.std.proofs.lemmas.Bool.{or_cases}
use Rattle.pat_semantics_spec.specs.Values.{Kind, Plain, MailboxOf}
use Rattle.pat_semantics_spec.specs.Programs.{TagDecl, Interface, Program, is_among}
use Rattle.pat_semantics_spec.specs.WellFormed.{count_if, count_among, VarsHaveKinds}
use Rattle.pat_parser_spec.specs.Trees as tree
use Rattle.pat_resolver_spec.specs.Scopes.{variable, Scope, variable_of, unit_kind, known_kind, bind_names, kind_of_expr}
use Rattle.pat_resolver_spec.specs.Heads.{Heads, tags_of, tag_named, payload_kinds, clause_scope}
use Rattle.pat_resolver_spec.specs.Findings.{binders_in, clauses_binders_in, kind_of_term, guarded}
use Rattle.pat_resolver_spec.specs.Numbering.{numbers_from, nodes_in, clauses_nodes_in, nodes_of, clauses_nodes_of, kinds_for, vars_of, clauses_vars_of}
use Rattle.pat_resolver_laws.proofs.Counting.{Counts, counts_none, counts_one, counts_both, counts_as, get_front, get_behind}
use Rattle.pat_resolver_laws.proofs.Expressions.{numbers, ScopeFits}

-- ---- kinds from a number on

-- the kinds are those from number v on
abbrev pub HasAt : List Kind → ℕ → List Kind → Type 0
HasAt vars v ks = (i : ℕ) (k : Kind) → slice_get ks i ≡ Some k → slice_get vars (v + i) ≡ Some k

pub has_first : (vars : List Kind) (v : ℕ) (xs ys : List Kind) → HasAt vars v (xs ++ ys) → HasAt vars v xs
has_first vars v xs ys has i k e = has i k (get_front xs ys i k e)

pub has_second : (vars : List Kind) (v u : ℕ) (xs ys : List Kind) → v + length xs ≡ u → HasAt vars v (xs ++ ys) → HasAt vars u ys
has_second vars v u xs ys same has i k e =
    let number : v + (length xs + i) ≡ u + i = omega (arith, same) in
    sym (ap (slice_get vars) number) ∙ has (length xs + i) k (get_behind xs ys i ∙ e)

pub has_here : (vars : List Kind) (v : ℕ) (k : Kind) (ks : List Kind) → HasAt vars v (k ∷ ks) → slice_get vars v ≡ Some k
has_here vars v k ks has = let number : v ≡ v + 0 = omega arith in ap (slice_get vars) number ∙ has 0 k refl

pub has_next : (vars : List Kind) (v : ℕ) (k : Kind) (ks : List Kind) → HasAt vars v (k ∷ ks) → HasAt vars (suc v) ks
has_next vars v k ks has i j e = let number : suc v + i ≡ v + suc i = omega arith in ap (slice_get vars) number ∙ has (suc i) j e

-- ---- lengths

pub kinds_for_length : (xs : List tree.Name) (ks : List Kind) → length (kinds_for xs ks) ≡ length xs
kinds_for_length [] [] = refl
kinds_for_length [] (k ∷ ks) = refl
kinds_for_length (x ∷ xs) [] = ap suc (kinds_for_length xs [])
kinds_for_length (x ∷ xs) (k ∷ ks) = ap suc (kinds_for_length xs ks)

module _ (h : Heads) where
  mutual
    pub vars_length : (t : tree.Term) (scope : Scope) (v : ℕ) → length (vars_of h scope v t) ≡ binders_in t
    vars_length (tree.LetTerm None m b at) scope v =
        let l = vars_length m scope v in
        let r = vars_length b scope (v + binders_in m) in
        let both = length-append (vars_of h scope v m) (vars_of h scope (v + binders_in m) b) in
        omega (arith, l, r, both)
    vars_length (tree.LetTerm (Some x) m b at) scope v =
        let inner = variable x.text v (kind_of_term h scope (suc v) m) ∷ scope in
        let l = vars_length m scope (suc v) in
        let r = vars_length b inner (suc v + binders_in m) in
        let both = length-append (vars_of h scope (suc v) m) (vars_of h inner (suc v + binders_in m) b) in
        omega (arith, l, r, both)
    vars_length (tree.IfTerm e m b at) scope v =
        let l = vars_length m scope v in
        let r = vars_length b scope (v + binders_in m) in
        let both = length-append (vars_of h scope v m) (vars_of h scope (v + binders_in m) b) in
        omega (arith, l, r, both)
    vars_length (tree.PrintTerm e at) scope v = refl
    vars_length (tree.NewTerm x at) scope v = refl
    vars_length (tree.SpawnTerm m at) scope v = vars_length m scope v
    vars_length (tree.FreeTerm x at) scope v = refl
    vars_length (tree.GuardTerm x p cs at) scope v = clauses_vars_length cs (guarded scope x.text) scope v
    vars_length (tree.SendTerm x t es at) scope v = refl
    vars_length (tree.CallTerm f es at) scope v = refl
    vars_length (tree.ValueTerm e at) scope v = refl

    pub clauses_vars_length : (cs : tree.Clauses) (i : ℕ) (scope : Scope) (v : ℕ) → length (clauses_vars_of h i scope v cs) ≡ clauses_binders_in cs
    clauses_vars_length tree.no_clauses i scope v = refl
    clauses_vars_length (tree.with_clause (tree.FailClause w) cs) i scope v = clauses_vars_length cs i scope v
    clauses_vars_length (tree.with_clause (tree.FreeClause w m) cs) i scope v =
        let l = vars_length m scope v in
        let r = clauses_vars_length cs i scope (v + binders_in m) in
        let both = length-append (vars_of h scope v m) (clauses_vars_of h i scope (v + binders_in m) cs) in
        omega (arith, l, r, both)
    clauses_vars_length (tree.with_clause (tree.ReceiveClause w t xs y m) cs) i scope v =
        let ks = payload_kinds (tag_named h i t.text) in
        let inner = clause_scope h i scope v t xs y in
        let own = vars_of h inner (suc (v + length xs)) m in
        let others = clauses_vars_of h i scope (suc (v + length xs) + binders_in m) cs in
        let l = vars_length m inner (suc (v + length xs)) in
        let r = clauses_vars_length cs i scope (suc (v + length xs) + binders_in m) in
        let names = kinds_for_length xs ks in
        let two = length-append (kinds_for xs ks) (MailboxOf i ∷ own) in
        let all = length-append (kinds_for xs ks ++ MailboxOf i ∷ own) others in
        omega (arith, l, r, names, two, all)

  module _ (f : ℕ) where
    mutual
      pub nodes_length : (t : tree.Term) (scope : Scope) (n v : ℕ) (k : Kind) → length (nodes_of h f scope n v k t) ≡ nodes_in t
      nodes_length (tree.LetTerm None m b at) scope n v k =
          let l = nodes_length m scope (suc n) v unit_kind in
          let r = nodes_length b scope (suc n + nodes_in m) (v + binders_in m) k in
          let both = length-append (nodes_of h f scope (suc n) v unit_kind m) (nodes_of h f scope (suc n + nodes_in m) (v + binders_in m) k b) in
          omega (arith, l, r, both)
      nodes_length (tree.LetTerm (Some x) m b at) scope n v k =
          let j = kind_of_term h scope (suc v) m in
          let inner = variable x.text v j ∷ scope in
          let l = nodes_length m scope (suc n) (suc v) j in
          let r = nodes_length b inner (suc n + nodes_in m) (suc v + binders_in m) k in
          let both = length-append (nodes_of h f scope (suc n) (suc v) j m) (nodes_of h f inner (suc n + nodes_in m) (suc v + binders_in m) k b) in
          omega (arith, l, r, both)
      nodes_length (tree.IfTerm e m b at) scope n v k =
          let l = nodes_length m scope (suc n) v k in
          let r = nodes_length b scope (suc n + nodes_in m) (v + binders_in m) k in
          let both = length-append (nodes_of h f scope (suc n) v k m) (nodes_of h f scope (suc n + nodes_in m) (v + binders_in m) k b) in
          omega (arith, l, r, both)
      nodes_length (tree.PrintTerm e at) scope n v k = refl
      nodes_length (tree.NewTerm x at) scope n v k = refl
      nodes_length (tree.SpawnTerm m at) scope n v k = ap suc (nodes_length m scope (suc n) v unit_kind)
      nodes_length (tree.FreeTerm x at) scope n v k = refl
      nodes_length (tree.GuardTerm x p cs at) scope n v k = ap suc (clauses_nodes_length cs (guarded scope x.text) scope (suc n) v k)
      nodes_length (tree.SendTerm x t es at) scope n v k = refl
      nodes_length (tree.CallTerm g es at) scope n v k = refl
      nodes_length (tree.ValueTerm e at) scope n v k = refl

      pub clauses_nodes_length : (cs : tree.Clauses) (i : ℕ) (scope : Scope) (n v : ℕ) (k : Kind) → length (clauses_nodes_of h f i scope n v k cs) ≡ clauses_nodes_in cs
      clauses_nodes_length tree.no_clauses i scope n v k = refl
      clauses_nodes_length (tree.with_clause (tree.FailClause w) cs) i scope n v k = clauses_nodes_length cs i scope n v k
      clauses_nodes_length (tree.with_clause (tree.FreeClause w m) cs) i scope n v k =
          let l = nodes_length m scope n v k in
          let r = clauses_nodes_length cs i scope (n + nodes_in m) (v + binders_in m) k in
          let both = length-append (nodes_of h f scope n v k m) (clauses_nodes_of h f i scope (n + nodes_in m) (v + binders_in m) k cs) in
          omega (arith, l, r, both)
      clauses_nodes_length (tree.with_clause (tree.ReceiveClause w t xs y m) cs) i scope n v k =
          let inner = clause_scope h i scope v t xs y in
          let u = suc (v + length xs) in
          let l = nodes_length m inner n u k in
          let r = clauses_nodes_length cs i scope (n + nodes_in m) (u + binders_in m) k in
          let both = length-append (nodes_of h f inner n u k m) (clauses_nodes_of h f i scope (n + nodes_in m) (u + binders_in m) k cs) in
          omega (arith, l, r, both)

-- ---- numbers in a row

pub numbers_count : (x v : ℕ) (xs : List tree.Name) → Counts (count_among x (numbers_from v xs)) x v (v + length xs)
numbers_count x v [] = counts_as 0 0 x v v (v + 0) refl (omega arith) (counts_none x v)
numbers_count x v (y ∷ ys) =
    counts_both (count_if (nat_eq x v)) (count_among x (numbers_from (suc v) ys)) (count_among x (v ∷ numbers_from (suc v) ys)) x v (suc v) (v + suc (length ys)) (omega arith) (omega arith)
    (counts_one x v)
    (counts_as (count_among x (numbers_from (suc v) ys)) (count_among x (numbers_from (suc v) ys)) x (suc v) (suc v + length ys) (v + suc (length ys)) refl (omega arith) (numbers_count x (suc v) ys))
    refl

-- ---- scopes

or_left : (a b : Bool) → a ≡ true → (a || b) ≡ true
or_left true b h = refl
or_left false b h = cc

pub or_right : (a b : Bool) → b ≡ true → (a || b) ≡ true
or_right true b h = refl
or_right false b h = h

pub among_front : (x : ℕ) (xs ys : List ℕ) → is_among x xs ≡ true → is_among x (xs ++ ys) ≡ true
among_front x [] ys h = cc
among_front x (y ∷ xs) ys h = ⊎_elim (λ l. or_left (nat_eq x y) (is_among x (xs ++ ys)) l) (λ r. or_right (nat_eq x y) (is_among x (xs ++ ys)) (among_front x xs ys r)) (or_cases (nat_eq x y) (is_among x xs) h)

pub among_end : (x y : ℕ) (xs : List ℕ) → nat_eq x y ≡ true → is_among x (xs ++ y ∷ []) ≡ true
among_end x y [] h = or_left (nat_eq x y) false h
among_end x y (z ∷ xs) h = or_right (nat_eq x z) (is_among x (xs ++ y ∷ [])) (among_end x y xs h)

-- a variable that is in scope within is one of those bound, or is in scope outside
pub bound_or_outer : (x v : ℕ) (xs : List tree.Name) (ks : List Kind) (scope : Scope) → is_among x (numbers (bind_names v xs ks scope)) ≡ true → (is_among x (numbers_from v xs) ≡ true) ⊎ (is_among x (numbers scope) ≡ true)
bound_or_outer x v [] [] scope h = inr h
bound_or_outer x v [] (k ∷ ks) scope h = inr h
bound_or_outer x v (y ∷ ys) [] scope h =
    ⊎_elim
    (λ l. inl (or_right (nat_eq x v) (is_among x (numbers_from (suc v) ys)) l))
    (λ r. ⊎_elim (λ l. inl (or_left (nat_eq x v) (is_among x (numbers_from (suc v) ys)) l)) (λ q. inr q) (or_cases (nat_eq x v) (is_among x (numbers scope)) r))
    (bound_or_outer x (suc v) ys [] (variable y.text v unit_kind ∷ scope) h)
bound_or_outer x v (y ∷ ys) (k ∷ ks) scope h =
    ⊎_elim
    (λ l. inl (or_right (nat_eq x v) (is_among x (numbers_from (suc v) ys)) l))
    (λ r. ⊎_elim (λ l. inl (or_left (nat_eq x v) (is_among x (numbers_from (suc v) ys)) l)) (λ q. inr q) (or_cases (nat_eq x v) (is_among x (numbers scope)) r))
    (bound_or_outer x (suc v) ys ks (variable y.text v k ∷ scope) h)

pub bind_fits : (vars : List Kind) (v : ℕ) (xs : List tree.Name) (ks : List Kind) (scope : Scope) → HasAt vars v (kinds_for xs ks) → ScopeFits vars scope → ScopeFits vars (bind_names v xs ks scope)
bind_fits vars v [] [] scope has fits = fits
bind_fits vars v [] (k ∷ ks) scope has fits = fits
bind_fits vars v (y ∷ ys) [] scope has fits = bind_fits vars (suc v) ys [] (variable y.text v unit_kind ∷ scope) (has_next vars v unit_kind (kinds_for ys []) has) (has_here vars v unit_kind (kinds_for ys []) has, fits)
bind_fits vars v (y ∷ ys) (k ∷ ks) scope has fits = bind_fits vars (suc v) ys ks (variable y.text v k ∷ scope) (has_next vars v k (kinds_for ys ks) has) (has_here vars v k (kinds_for ys ks) has, fits)

-- as many names as payloads get their kinds
pub payloads_have_kinds : (vars : List Kind) (v : ℕ) (xs : List tree.Name) (ks : List Kind) → length xs ≡ length ks → HasAt vars v (kinds_for xs ks) → VarsHaveKinds vars (numbers_from v xs) ks
payloads_have_kinds vars v [] [] l has = tt
payloads_have_kinds vars v [] (k ∷ ks) l has = absurd (omega (arith, l))
payloads_have_kinds vars v (x ∷ xs) [] l has = absurd (omega (arith, l))
payloads_have_kinds vars v (x ∷ xs) (k ∷ ks) l has = (has_here vars v k (kinds_for xs ks) has, payloads_have_kinds vars (suc v) xs ks (omega (arith, l)) (has_next vars v k (kinds_for xs ks) has))

-- ---- interfaces that are there

-- a mailbox's interface is one of the program's
abbrev pub KindIsThere : Program → Kind → Type 0
KindIsThere p (Plain b) = Unit {0}
KindIsThere p (MailboxOf i) = i < length p.interfaces

abbrev pub ScopeIsThere : Program → Scope → Type 0
ScopeIsThere p scope = AllByRecursion (λ y. KindIsThere p y.kind) scope

pub variable_is_there : (p : Program) (scope : Scope) (x : List ℕ) → ScopeIsThere p scope → KindIsThere p (known_kind (variable_of scope x))
variable_is_there p [] x all = tt
variable_is_there p (y ∷ scope) x all =
    (elim (bytes_eq y.name x) as (λ t. KindIsThere p (known_kind (if t then Some y else variable_of scope x))) [
      | true ↦ all.0
      | false ↦ variable_is_there p scope x all.1
    ])

pub expr_is_there : (p : Program) (scope : Scope) (e : tree.Expr) → ScopeIsThere p scope → KindIsThere p (kind_of_expr scope e)
expr_is_there p scope (tree.VarExpr x at) all = variable_is_there p scope x all
expr_is_there p scope (tree.UnitExpr at) all = tt
expr_is_there p scope (tree.BoolExpr b at) all = tt
expr_is_there p scope (tree.IntExpr n at) all = tt
expr_is_there p scope (tree.StrExpr s at) all = tt
expr_is_there p scope (tree.OpExpr op a b at) all = tt

pub bind_is_there : (p : Program) (v : ℕ) (xs : List tree.Name) (ks : List Kind) (scope : Scope) → AllByRecursion (KindIsThere p) ks → ScopeIsThere p scope → ScopeIsThere p (bind_names v xs ks scope)
bind_is_there p v [] [] scope each all = all
bind_is_there p v [] (k ∷ ks) scope each all = all
bind_is_there p v (y ∷ ys) [] scope each all = bind_is_there p (suc v) ys [] (variable y.text v unit_kind ∷ scope) tt (tt, all)
bind_is_there p v (y ∷ ys) (k ∷ ks) scope each all = bind_is_there p (suc v) ys ks (variable y.text v k ∷ scope) each.1 (each.0, all)

pub there_is : {A : Type 0} (xs : List A) (i : ℕ) → i < length xs → (x : A) × (slice_get xs i ≡ Some x)
there_is [] i l = absurd (omega (arith, l))
there_is (x ∷ xs) zero l = (x, refl)
there_is (x ∷ xs) (suc i) l = there_is xs i (omega (arith, l))

-- a tag of an interface that may be there
pub tag_there : (o : Option Interface) (m : ℕ) (d : TagDecl) → slice_get (tags_of o) m ≡ Some d → option_and_then (λ j. slice_get j.tags m) o ≡ Some d
tag_there None m d e = cc
tag_there (Some i) m d e = e
