-- What a term binds isn't in scope at the term, and clauses bind different variables: both follow from each variable being bound in one place, and each part being used once.
use Rattle.std.proofs.Common.{◌≡◌, ℕ, zero, suc, ◌+◌, ◌<◌, ◌≤◌, Bool, true, false, ◌||◌, ◌&&◌, not, nat_eq, if◌then◌else◌, List, [], ◌∷◌, ◌++◌, length, map, Option, Some, None, refl, sym, ap, ◌∙◌, subst, arith, ◌⊎◌, inl, inr, ⊎_elim}
use Rattle.std.specs.Prelude.{slice_get, option_map}
use Rattle.std.specs.List.{AllByRecursion, IsDistinct, list_any, flat_map}
use Rattle.std.proofs.lemmas.Bool.{or_cases, or_left, or_right, eq-eqb, eqb-true, and_from, cond-true, cases_Bool, false_from_ne_true}
use Rattle.std.proofs.lemmas.Option.{slice_get_within}
use Rattle.pat_semantics_spec.specs.Values.{Kind, occurs, MailboxOf}
use Rattle.pat_semantics_spec.specs.Programs.{Program, Function, Clause, Core, Val, Let, Call, If, Print, New, Send, Spawn, Guard, Node, node_at, core_at, function_at, parts, binders, option_list, clause_bodies, clause_binders, clause_uses, core_uses, is_among, is_free, kind_of}
use Rattle.pat_semantics_spec.specs.WellFormed.{WellFormed, CoreKinds, ClauseKinds, VarsHaveKinds, count_if, count_among, uses_as_body, uses_as_part, bindings_in, bindings_of}
use Rattle.pat_semantics_laws.proofs.FreeVars.{free_unfolds}
use Rattle.pat_semantics_laws.proofs.Lists.{clash, append_among, among_first, among_second, among_two, count_here, among_counted, count_append, counted_distinct}
use Rattle.pat_semantics_spec.specs.Patterns.{Pat}

-- ---- where a node is used

body_used : (k : ℕ) (fs : List Function) → 1 ≤ uses_as_body k fs → (f : ℕ) × (g : Function) × (slice_get fs f ≡ Some g) × (k ≡ g.body)
body_used k [] h = absurd (omega arith)
body_used k (g ∷ fs) h =
    (elim (nat_eq k g.body) as (λ t. nat_eq k g.body ≡ t → 1 ≤ count_if t + uses_as_body k fs → (f : ℕ) × (e : Function) × (slice_get (g ∷ fs) f ≡ Some e) × (k ≡ e.body)) [
      | true ↦ λ q w. (0, g, refl, eqb-true k g.body q)
      | false ↦ λ q w. let r = body_used k fs (omega arith) in (suc r.0, r.1, r.2, r.3)
    ]) refl h

part_used : (k : ℕ) (ds : List Node) → 1 ≤ uses_as_part k ds → (j : ℕ) × (d : Node) × (slice_get ds j ≡ Some d) × (is_among k (parts d.core) ≡ true)
part_used k [] h = absurd (omega arith)
part_used k (d ∷ ds) h =
    ⊎_elim
    (λ on. (0, d, refl, on))
    (λ off.
    let none : count_among k (parts d.core) ≡ 0 = none_counted (count_among k (parts d.core)) (λ l. clash (among_counted k (parts d.core) l) off) in
    let r = part_used k ds (omega arith) in
    (suc r.0, r.1, r.2, r.3))
    (cases_Bool (is_among k (parts d.core)))
  where
    none_counted : (n : ℕ) → (1 ≤ n → ⊥) → n ≡ 0
    none_counted zero h = refl
    none_counted (suc n) h = absurd (h (omega arith))

-- ---- where a variable is bound

binds_here : (f x : ℕ) (ds : List Node) (n : ℕ) (d : Node) → slice_get ds n ≡ Some d → nat_eq d.function f ≡ true → count_among x (binders d.core) ≤ bindings_in f x ds
binds_here f x [] n d h of = cc
binds_here f x (e ∷ es) zero d h of =
    let same : e ≡ d = cc in
    let is : (if nat_eq e.function f then count_among x (binders e.core) else 0) ≡ count_among x (binders d.core) =
    ap (λ (w : Node). if nat_eq w.function f then count_among x (binders w.core) else 0) same ∙ cond-true (nat_eq d.function f) (count_among x (binders d.core)) 0 of in
    omega arith
binds_here f x (e ∷ es) (suc n) d h of = let rest = binds_here f x es n d h of in omega arith

binds_twice : (f x : ℕ) (ds : List Node) (j n : ℕ) (d e : Node) → j < n → slice_get ds j ≡ Some d → slice_get ds n ≡ Some e → nat_eq d.function f ≡ true → nat_eq e.function f ≡ true → count_among x (binders d.core) + count_among x (binders e.core) ≤ bindings_in f x ds
binds_twice f x [] j n d e l h k of of' = cc
binds_twice f x (w ∷ ws) j zero d e l h k of of' = absurd (omega arith)
binds_twice f x (w ∷ ws) zero (suc n) d e l h k of of' =
    let same : w ≡ d = cc in
    let is : (if nat_eq w.function f then count_among x (binders w.core) else 0) ≡ count_among x (binders d.core) =
    ap (λ (u : Node). if nat_eq u.function f then count_among x (binders u.core) else 0) same ∙ cond-true (nat_eq d.function f) (count_among x (binders d.core)) 0 of in
    let rest = binds_here f x ws n e k of' in
    omega arith
binds_twice f x (w ∷ ws) (suc j) (suc n) d e l h k of of' = let rest = binds_twice f x ws j n d e (omega arith) h k of of' in omega arith

-- a variable that is bound has a kind
vars_below : (vars : List Kind) (x : ℕ) (xs : List ℕ) (ks : List Kind) → VarsHaveKinds vars xs ks → is_among x xs ≡ true → x < length vars
vars_below vars x [] ks h a = cc
vars_below vars x (z ∷ xs) [] h a = absurd h
vars_below vars x (z ∷ xs) (k ∷ ks) h a =
    ⊎_elim
    (λ l. slice_get_within vars x k (ap (slice_get vars) (eqb-true x z l) ∙ h.0))
    (λ r. vars_below vars x xs ks h.1 r)
    (or_cases (nat_eq x z) (is_among x xs) a)

clauses_below : (p : Program) (vars : List Kind) (i : ℕ) (k : Kind) (x : ℕ) (cs : List Clause) → AllByRecursion (ClauseKinds p vars i k) cs → is_among x (flat_map clause_binders cs) ≡ true → x < length vars
clauses_below p vars i k x [] h a = cc
clauses_below p vars i k x (r ∷ cs) h a =
    ⊎_elim
    (λ l. ⊎_elim
    (λ v. vars_below vars x r.vars (map kind_of h.0.decl.payloads) h.0.payloads v)
    (λ f. let same : nat_eq x r.from ≡ true = ⊎_elim (λ w. w) (λ w. cc) (or_cases (nat_eq x r.from) false f) in slice_get_within vars x (MailboxOf i) (ap (slice_get vars) (eqb-true x r.from same) ∙ h.0.from))
    (append_among x r.vars (r.from ∷ []) l))
    (λ rest. clauses_below p vars i k x cs h.1 rest)
    (append_among x (clause_binders r) (flat_map clause_binders cs) a)

binder_below : (p : Program) (vars : List Kind) (k : Kind) (x : ℕ) (core : Core) → CoreKinds p vars k core → is_among x (binders core) ≡ true → x < length vars
binder_below p vars k x (Let (Some z) m n) h a =
    let same : nat_eq x z ≡ true = ⊎_elim (λ w. w) (λ w. cc) (or_cases (nat_eq x z) false a) in
    slice_get_within vars x h.0 (ap (slice_get vars) (eqb-true x z same) ∙ h.1)
binder_below p vars k x (Let None m n) h a = cc
binder_below p vars k x (Guard z e f cs) h a = clauses_below p vars h.0 k x cs h.4 a
binder_below p vars k x (Val e) h a = cc
binder_below p vars k x (Call f args) h a = cc
binder_below p vars k x (If e m n) h a = cc
binder_below p vars k x (Print e) h a = cc
binder_below p vars k x (New i) h a = cc
binder_below p vars k x (Send z m args) h a = cc
binder_below p vars k x (Spawn m) h a = cc

-- what a node binds is bound at most once in its function
bound_at_most : (p : Program) (wf : WellFormed p) (x n : ℕ) (d : Node) → node_at p n ≡ Some d → is_among x (binders d.core) ≡ true → bindings_of p d.function x ≤ 1
bound_at_most p wf x n d at a =
    let fits = wf.nodes n d at in
    let below = binder_below p fits.function.vars d.kind x d.core fits.kinds a in
    let g = wf.functions d.function fits.function fits.of in
    ⊎_elim
    (λ param. let none = g.parameters x param in omega arith)
    (λ bound. let once = g.bound_once x below bound in omega arith)
    (below_or (length fits.function.params) x)
  where
    below_or : (n x : ℕ) → (x < n) ⊎ (n ≤ x)
    below_or zero x = inr (omega arith)
    below_or (suc n) zero = inl (omega arith)
    below_or (suc n) (suc x) = ⊎_elim (λ l. inl (omega arith)) (λ r. inr (omega arith)) (below_or n x)

-- ---- from a node up to the body of its function

-- where something that a node has of x is had by the node above, unless that one binds x, and by no body but for parameters
module _ (p : Program) (wf : WellFormed p) (x : ℕ) (has : ℕ → Bool) (at_body : (f : ℕ) (g : Function) → function_at p f ≡ Some g → has g.body ≡ true → x < length g.params) (at_part : (j : ℕ) (d : Node) → node_at p j ≡ Some d → (k : ℕ) → is_among k (parts d.core) ≡ true → has k ≡ true → (has j ≡ true) ⊎ (is_among x (binders d.core) ≡ true)) where
  climb : (fuel k : ℕ) (d : Node) → k < fuel → node_at p k ≡ Some d → has k ≡ true → (n : ℕ) (e : Node) → k ≤ n → node_at p n ≡ Some e → d.function ≡ e.function → is_among x (binders e.core) ≡ true → ⊥
  climb zero k d l at h n e below there same a = omega arith
  climb (suc fuel) k d l at h n e below there same a =
      let once : uses_as_body k p.functions + uses_as_part k p.nodes ≡ 1 = (wf.nodes k d at).once in
      ⊎_elim
      (λ (body : 1 ≤ uses_as_body k p.functions).
      let r = body_used k p.functions body in
      let fits = wf.functions r.0 r.1 r.2 in
      let again : Some fits.body.0 ≡ Some d = sym fits.body.1 ∙ ap (node_at p) (sym r.3) ∙ at in
      let node : fits.body.0 ≡ d = cc in
      let of : e.function ≡ r.0 = sym same ∙ ap (λ (w : Node). w.function) (sym node) ∙ fits.body.2 in
      let param = at_body r.0 r.1 r.2 (subst (λ w. has w ≡ true) r.3 h) in
      let none : bindings_in r.0 x p.nodes ≡ 0 = fits.parameters x param in
      let here = binds_here r.0 x p.nodes n e there (eq-eqb e.function r.0 of) in
      let some = count_here x (binders e.core) a in
      omega arith)
      (λ (part : 1 ≤ uses_as_part k p.nodes).
      let r = part_used k p.nodes part in
      let after = (wf.nodes r.0 r.1 r.2).parts_after k r.3 in
      let above : r.0 < k = after.0 in
      let again : Some after.1.0 ≡ Some d = sym after.1.1 ∙ at in
      let node : after.1.0 ≡ d = cc in
      let of : r.1.function ≡ e.function = sym after.1.2 ∙ ap (λ (w : Node). w.function) node ∙ same in
      ⊎_elim
      (λ up. climb fuel r.0 r.1 (omega arith) r.2 up n e (omega arith) there of a)
      (λ binds.
      let both = binds_twice e.function x p.nodes r.0 n r.1 e (omega arith) r.2 there (eq-eqb r.1.function e.function of) (eq-eqb e.function e.function refl) in
      let one = count_here x (binders r.1.core) binds in
      let two = count_here x (binders e.core) a in
      let most : bindings_in e.function x p.nodes ≤ 1 = bound_at_most p wf x n e there a in
      omega arith)
      (at_part r.0 r.1 r.2 k r.3 h))
      (one_of (uses_as_body k p.functions) (uses_as_part k p.nodes) once)
    where
      one_of : (a b : ℕ) → a + b ≡ 1 → (1 ≤ a) ⊎ (1 ≤ b)
      one_of zero b h = inr (omega arith)
      one_of (suc a) b h = inl (omega arith)

  -- so a node that has it doesn't bind x
  pub not_bound_here : (n : ℕ) (d : Node) → node_at p n ≡ Some d → has n ≡ true → is_among x (binders d.core) ≡ false
  not_bound_here n d at h =
      false_from_ne_true (is_among x (binders d.core)) (λ a. climb (suc n) n d (omega arith) at h n d (omega arith) at refl a)

-- ---- free variables

clause_free : (free : ℕ → Bool) (x k : ℕ) (cs : List Clause) → is_among k (clause_bodies cs) ≡ true → free k ≡ true → (list_any (clause_uses free x) cs ≡ true) ⊎ (is_among x (flat_map clause_binders cs) ≡ true)
clause_free free x k [] a h = cc
clause_free free x k (r ∷ cs) a h =
    let rest = list_any (clause_uses free x) cs in
    ⊎_elim
    (λ here.
    let body : free r.body ≡ true = ap free (sym (eqb-true k r.body here)) ∙ h in
    ⊎_elim
    (λ in_r. inr (among_first x (clause_binders r) (flat_map clause_binders cs) in_r))
    (λ out. inl (or_left (clause_uses free x r) rest (and_from (free r.body) (not (is_among x (clause_binders r))) body (ap not out))))
    (cases_Bool (is_among x (clause_binders r))))
    (λ later. ⊎_elim (λ l. inl (or_right (clause_uses free x r) rest l)) (λ w. inr (among_second x (clause_binders r) (flat_map clause_binders cs) w)) (clause_free free x k cs later h))
    (or_cases (nat_eq k r.body) (is_among k (clause_bodies cs)) a)

option_free : (free : ℕ → Bool) (o : Option ℕ) (k : ℕ) → is_among k (option_list o) ≡ true → free k ≡ true → list_any free (option_list o) ≡ true
option_free free None k a h = cc
option_free free (Some m) k a h =
    let same : nat_eq k m ≡ true = ⊎_elim (λ w. w) (λ w. cc) (or_cases (nat_eq k m) false a) in
    or_left (free m) false (ap free (sym (eqb-true k m same)) ∙ h)

-- what is free in a part is free in the term, or bound by it
part_free : (free : ℕ → Bool) (x : ℕ) (core : Core) (k : ℕ) → is_among k (parts core) ≡ true → free k ≡ true → (core_uses free x core ≡ true) ⊎ (is_among x (binders core) ≡ true)
part_free free x (Let y m n) k a h =
    ⊎_elim
    (λ same. inl (or_left (free m) (free n && not (is_among x (option_list y))) (ap free (sym same) ∙ h)))
    (λ same. ⊎_elim (λ bound. inr bound)
    (λ out. inl (or_right (free m) (free n && not (is_among x (option_list y))) (and_from (free n) (not (is_among x (option_list y))) (ap free (sym same) ∙ h) (ap not out))))
    (cases_Bool (is_among x (option_list y))))
    (among_two k m n a)
part_free free x (If e m n) k a h =
    inl (or_right (occurs x e) (free m || free n)
    (⊎_elim (λ same. or_left (free m) (free n) (ap free (sym same) ∙ h)) (λ same. or_right (free m) (free n) (ap free (sym same) ∙ h)) (among_two k m n a)))
part_free free x (Spawn m) k a h = inl (ap free (sym (eqb-true k m (⊎_elim (λ w. w) (λ w. cc) (or_cases (nat_eq k m) false a)))) ∙ h)
part_free free x (Guard y e f cs) k a h =
    let opts = list_any free (option_list f) in
    let clauses = list_any (clause_uses free x) cs in
    ⊎_elim
    (λ l. inl (or_right (nat_eq x y) (opts || clauses) (or_left opts clauses (option_free free f k l h))))
    (λ r. ⊎_elim (λ u. inl (or_right (nat_eq x y) (opts || clauses) (or_right opts clauses u))) (λ b. inr b) (clause_free free x k cs r h))
    (append_among k (option_list f) (clause_bodies cs) a)
part_free free x (Val e) k a h = cc
part_free free x (Call g args) k a h = cc
part_free free x (Print e) k a h = cc
part_free free x (New i) k a h = cc
part_free free x (Send y m args) k a h = cc

-- a term binds no variable that is free in it
pub free_fresh : (p : Program) (wf : WellFormed p) (x n : ℕ) (d : Node) → node_at p n ≡ Some d → is_free p x n ≡ true → is_among x (binders d.core) ≡ false
free_fresh p wf x n d at h =
    not_bound_here p wf x (λ k. is_free p x k)
    (λ f g there free. (wf.functions f g there).in_scope x free)
    (λ j e there k a free.
    let core : core_at p j ≡ Some e.core = ap (λ o. option_map (λ (w : Node). w.core) o) there in
    ⊎_elim (λ u. inl (free_unfolds p x j e.core wf core ∙ u)) (λ b. inr b) (part_free (λ k. is_free p x k) x e.core k a free))
    n d at h

-- ---- a clause binds different variables

-- each clause of a guard binds different variables
clauses_differ : (cs : List Clause) → ((x : ℕ) → is_among x (flat_map clause_binders cs) ≡ true → count_among x (flat_map clause_binders cs) ≤ 1) → AllByRecursion (λ r. IsDistinct nat_eq (clause_binders r)) cs
clauses_differ [] h = tt
clauses_differ (r ∷ cs) h = (
  counted_distinct (clause_binders r) (λ x on.
      let all : count_among x (clause_binders r ++ flat_map clause_binders cs) ≤ 1 = h x (among_first x (clause_binders r) (flat_map clause_binders cs) on) in
      let sum = count_append x (clause_binders r) (flat_map clause_binders cs) in
      omega arith),
  clauses_differ cs (λ x on.
      let all : count_among x (clause_binders r ++ flat_map clause_binders cs) ≤ 1 = h x (among_second x (clause_binders r) (flat_map clause_binders cs) on) in
      let sum = count_append x (clause_binders r) (flat_map clause_binders cs) in
      omega arith),
)

pub guard_apart : (p : Program) (wf : WellFormed p) (n : ℕ) (d : Node) (y : ℕ) (e : Pat) (f : Option ℕ) (cs : List Clause) → node_at p n ≡ Some d → d.core ≡ Guard y e f cs → AllByRecursion (λ r. IsDistinct nat_eq (clause_binders r)) cs
guard_apart p wf n d y e f cs at is =
    clauses_differ cs (λ x on.
    let here : is_among x (binders d.core) ≡ true = ap (λ c. is_among x (binders c)) is ∙ on in
    let most : bindings_in d.function x p.nodes ≤ 1 = bound_at_most p wf x n d at here in
    let some = binds_here d.function x p.nodes n d at (eq-eqb d.function d.function refl) in
    let same : count_among x (binders d.core) ≡ count_among x (flat_map clause_binders cs) = ap (λ c. count_among x (binders c)) is in
    omega arith)
