-- What is in scope at a function's body, and at a part of a node.
use Rattle.pat_semantics_laws.proofs.Lists.{clash, among_first, among_second, among_head, count_here}
use Rattle.pat_semantics_laws.proofs.Scopes.{not_bound_here}
use Rattle.std.proofs.Common.{◌⊎◌, inl, inr, ◌≡◌, ℕ, zero, suc, ◌+◌, ◌<◌, ◌≤◌, Bool, true, false, ◌||◌, nat_eq, List, [], ◌∷◌, length, Option, Some, None, ⊎_elim, refl, sym, ap, ◌∙◌, subst, arith}
use Rattle.std.specs.List.{flat_map}
use Rattle.std.specs.Prelude.{slice_get, option_map, option_and_then, nat_lt, if◌then◌else◌}
use Rattle.std.proofs.lemmas.Bool.{ltb-true, or_cases, or_left, eq-eqb, cases_Bool, cond-true, cond-false}
use Rattle.std.proofs.lemmas.Option.{slice_get_within}
use Rattle.pat_semantics_spec.specs.Values.{Kind}
use Rattle.pat_semantics_spec.specs.Programs.{Program, Function, Node, node_at, core_at, function_at, parts, is_among, kind_of, Clause, Core, binders, Let, option_list, clause_binders, Guard, Val, Call, If, Print, New, Send, Spawn}
use Rattle.pat_semantics_spec.specs.WellFormed.{WellFormed, IsPartOf, count_if, count_among, uses_as_body, uses_as_part, NodeFits}
use Rattle.pat_derivation_spec.specs.Scopes.{function_of, bound_in, above_from, node_above, is_param, is_from_above, is_in_scope_within, is_in_scope, bound_by_clauses}

-- ---- the node above

used_here : (b : ℕ) (ds : List Node) (n : ℕ) (d : Node) → slice_get ds n ≡ Some d → is_among b (parts d.core) ≡ true → 1 ≤ uses_as_part b ds
used_here b [] n d h a = cc
used_here b (x ∷ xs) zero d h a =
    let same : x ≡ d = cc in
    let here = count_here b (parts x.core) (subst (λ (w : Node). is_among b (parts w.core) ≡ true) (sym same) a) in
    omega arith
used_here b (x ∷ xs) (suc n) d h a = let rest = used_here b xs n d h a in omega arith

-- the node above is one that the number is a part of
above_found : (j : ℕ) (ds : List Node) (m k : ℕ) → above_from j ds m ≡ Some k → (i : ℕ) × (c : Node) × (slice_get ds i ≡ Some c) × (k ≡ j + i) × (is_among m (parts c.core) ≡ true)
above_found j [] m k h = cc
above_found j (d ∷ ds) m k h =
    (elim (is_among m (parts d.core)) as (λ b. is_among m (parts d.core) ≡ b → (if b then Some j else above_from (suc j) ds m) ≡ Some k → (i : ℕ) × (c : Node) × (slice_get (d ∷ ds) i ≡ Some c) × (k ≡ j + i) × (is_among m (parts c.core) ≡ true)) [
      | true ↦ λ e q. (0, d, refl, here j k q, e)
      | false ↦ λ e q. let r = above_found (suc j) ds m k q in let l = r.3 in (suc r.0, r.1, r.2, omega arith, r.4)
    ]) refl h
  where
    here : (j k : ℕ) → Some j ≡ Some k → k ≡ j + 0
    here j k q = let same : j ≡ k = cc in omega arith

used_often : (b : ℕ) (ds : List Node) (n : ℕ) (d : Node) → slice_get ds n ≡ Some d → count_among b (parts d.core) ≤ uses_as_part b ds
used_often b [] n d h = cc
used_often b (x ∷ xs) zero d h =
    let same : x ≡ d = cc in
    let here : count_among b (parts x.core) ≡ count_among b (parts d.core) = ap (λ (w : Node). count_among b (parts w.core)) same in
    omega arith
used_often b (x ∷ xs) (suc n) d h = let rest = used_often b xs n d h in omega arith

-- ---- what a term binds in one of its parts, it binds

by_clauses : (x m : ℕ) (cs : List Clause) → is_among x (bound_by_clauses m cs) ≡ true → is_among x (flat_map clause_binders cs) ≡ true
by_clauses x m [] h = cc
by_clauses x m (c ∷ cs) h =
    (elim (nat_eq m c.body) as (λ b. is_among x (if b then clause_binders c else bound_by_clauses m cs) ≡ true → is_among x (flat_map clause_binders (c ∷ cs)) ≡ true) [
      | true ↦ λ q. among_first x (clause_binders c) (flat_map clause_binders cs) q
      | false ↦ λ q. among_second x (clause_binders c) (flat_map clause_binders cs) (by_clauses x m cs q)
    ]) h

bound_is : (x m : ℕ) (core : Core) → is_among x (bound_in m (Some core)) ≡ true → is_among x (binders core) ≡ true
bound_is x m (Let y k n) h =
    (elim (nat_eq m n) as (λ b. is_among x (if b then option_list y else []) ≡ true → is_among x (option_list y) ≡ true) [ true ↦ λ q. q | false ↦ λ q. cc ]) h
bound_is x m (Guard y e free cs) h = by_clauses x m cs h
bound_is x m (Val e) h = cc
bound_is x m (Call f args) h = cc
bound_is x m (If e k n) h = cc
bound_is x m (Print e) h = cc
bound_is x m (New i) h = cc
bound_is x m (Send y t args) h = cc
bound_is x m (Spawn k) h = cc

-- a part that is used once has the node above it
above_is : (j : ℕ) (ds : List Node) (m n : ℕ) (c : Node) → slice_get ds n ≡ Some c → is_among m (parts c.core) ≡ true → uses_as_part m ds ≤ 1 → above_from j ds m ≡ Some (j + n)
above_is j [] m n c at a u = cc
above_is j (d ∷ ds) m zero c at a u =
    let same : d ≡ c = cc in
    let plus_none : j ≡ j + 0 = omega arith in
    cond-true (is_among m (parts d.core)) (Some j) (above_from (suc j) ds m) (subst (λ (w : Node). is_among m (parts w.core) ≡ true) (sym same) a)
    ∙ ap (λ k. Some k) plus_none
above_is j (d ∷ ds) m (suc n) c at a u =
    let later = used_here m ds n c at a in
    let number : suc j + n ≡ j + suc n = omega arith in
    ⊎_elim
    (λ t. let here = count_here m (parts d.core) t in absurd (omega arith))
    (λ f. cond-false (is_among m (parts d.core)) (Some j) (above_from (suc j) ds m) f
    ∙ above_is (suc j) ds m n c at a (omega arith)
    ∙ ap (λ k. Some k) number)
    (cases_Bool (is_among m (parts d.core)))

above_none : (j : ℕ) (ds : List Node) (m : ℕ) → uses_as_part m ds ≡ 0 → above_from j ds m ≡ None
above_none j [] m u = refl
above_none j (d ∷ ds) m u =
    ⊎_elim
    (λ t. let here = count_here m (parts d.core) t in absurd (omega arith))
    (λ f. cond-false (is_among m (parts d.core)) (Some j) (above_from (suc j) ds m) f ∙ above_none (suc j) ds m (omega arith))
    (cases_Bool (is_among m (parts d.core)))

body_used : (f : ℕ) (fs : List Function) (g : Function) → slice_get fs f ≡ Some g → 1 ≤ uses_as_body g.body fs
body_used f [] g h = cc
body_used zero (e ∷ fs) g h =
    let same : e ≡ g = cc in
    let one : count_if (nat_eq g.body e.body) ≡ 1 = ap count_if (eq-eqb g.body e.body (ap (λ (k : Function). k.body) (sym same))) in
    omega arith
body_used (suc f) (e ∷ fs) g h = let rest = body_used f fs g h in omega arith

module _ (p : Program) (w : WellFormed p) (x : ℕ) where
  -- the node above comes before
  above_before : (n k : ℕ) → node_above p n ≡ Some k → k < n
  above_before n k h =
      let r = above_found 0 p.nodes n k h in
      let same : k ≡ r.0 = let e = r.3 in omega arith in
      let part = (w.nodes r.0 r.1 r.2).parts_after n r.4 in
      let l = part.0 in
      omega arith

  or_none : (b : Bool) → (b || false) ≡ b
  or_none true = refl
  or_none false = refl

  -- at node 0 only parameters are in scope, however far one looks
  at_first : (a n : ℕ) → n ≡ 0 → is_in_scope_within a p n x ≡ is_param x (function_of p n)
  at_first zero n z = refl
  at_first (suc a) n z = go (node_above p n) refl
    where
      go : (o : Option ℕ) → node_above p n ≡ o → (is_param x (function_of p n) || is_from_above p (λ k. is_in_scope_within a p k x) n x (node_above p n)) ≡ is_param x (function_of p n)
      go None e = ap (λ q. is_param x (function_of p n) || is_from_above p (λ k. is_in_scope_within a p k x) n x q) e ∙ or_none (is_param x (function_of p n))
      go (Some k) e = let l = above_before n k e in absurd (omega arith)

  -- looking further up than there are nodes changes nothing
  stable : (a b n : ℕ) → n ≤ a → n ≤ b → is_in_scope_within a p n x ≡ is_in_scope_within b p n x
  stable zero b n l m = let z : n ≡ 0 = omega arith in sym (at_first b n z)
  stable (suc a) zero n l m = let z : n ≡ 0 = omega arith in at_first (suc a) n z
  stable (suc a) (suc b) n l m = ap (λ t. is_param x (function_of p n) || t) (go (node_above p n) refl (λ k q. stable a b k q))
    where
      go : (o : Option ℕ) → node_above p n ≡ o → ((k : ℕ) → k ≤ a → k ≤ b → is_in_scope_within a p k x ≡ is_in_scope_within b p k x) → is_from_above p (λ k. is_in_scope_within a p k x) n x o ≡ is_from_above p (λ k. is_in_scope_within b p k x) n x o
      go None e deeper = refl
      go (Some k) e deeper = let q = above_before n k e in ap (λ t. is_among x (bound_in n (core_at p k)) || t) (deeper k (omega arith) (omega arith))

  params_alike : (m : ℕ) (c e : Node) → node_at p m ≡ Some e → e.function ≡ c.function → is_param x (function_of p m) ≡ is_param x (function_at p c.function)
  params_alike m c e at same =
      ap (λ o. is_param x (option_and_then (λ (d : Node). function_at p d.function) o)) at ∙ ap (λ f. is_param x (function_at p f)) same

  param_in_scope : (a n : ℕ) → is_param x (function_of p n) ≡ true → is_in_scope_within a p n x ≡ true
  param_in_scope zero n h = h
  param_in_scope (suc a) n h = or_left (is_param x (function_of p n)) (is_from_above p (λ k. is_in_scope_within a p k x) n x (node_above p n)) h

  -- at a function's body the parameters are in scope
  pub scope_of_body : (f : ℕ) (g : Function) → function_at p f ≡ Some g → is_in_scope p g.body x ≡ nat_lt x (length g.params)
  unfolding is_in_scope
  scope_of_body f g at = go (length p.nodes)
    where
      body : (d : Node) × (node_at p g.body ≡ Some d) × (d.function ≡ f) × (d.kind ≡ kind_of g.result)
      body = (w.functions f g at).body

      none : node_above p g.body ≡ None
      none =
          let once = (w.nodes g.body body.0 body.1).once in
          let used = body_used f p.functions g at in
          above_none 0 p.nodes g.body (omega arith)

      params : is_param x (function_of p g.body) ≡ nat_lt x (length g.params)
      params =
          ap (λ o. is_param x (option_and_then (λ (d : Node). function_at p d.function) o)) body.1
          ∙ ap (λ k. is_param x (function_at p k)) body.2
          ∙ ap (is_param x) at

      go : (a : ℕ) → is_in_scope_within a p g.body x ≡ nat_lt x (length g.params)
      go zero = params
      go (suc a) =
          ap (λ q. is_param x (function_of p g.body) || is_from_above p (λ k. is_in_scope_within a p k x) g.body x q) none
          ∙ or_none (is_param x (function_of p g.body))
          ∙ params

  -- at a part of a node that is in scope which is so at the node, and what the node binds in the part
  pub scope_of_part : (n m : ℕ) (c : Node) → node_at p n ≡ Some c → is_among m (parts c.core) ≡ true → is_in_scope p m x ≡ (is_among x (bound_in m (Some c.core)) || is_in_scope p n x)
  unfolding is_in_scope
  scope_of_part n m c at a = go (length p.nodes) (within)
    where
      part : IsPartOf p n c m
      part = (w.nodes n c at).parts_after m a

      within : m < length p.nodes
      within = slice_get_within p.nodes m part.1.0 part.1.1

      above : node_above p m ≡ Some n
      above =
          let once = (w.nodes m part.1.0 part.1.1).once in
          let number : 0 + n ≡ n = omega arith in
          above_is 0 p.nodes m n c at a (omega arith) ∙ ap (λ k. Some k) number

      core : core_at p n ≡ Some c.core
      core = ap (option_map (λ (d : Node). d.core)) at

      alike : is_param x (function_of p m) ≡ is_param x (function_of p n)
      alike =
          params_alike m c part.1.0 part.1.1 part.1.2
          ∙ sym (ap (λ o. is_param x (option_and_then (λ (d : Node). function_at p d.function) o)) at)

      merged : (i b q : Bool) → (i ≡ true → q ≡ true) → (i || (b || q)) ≡ (b || q)
      merged true true q h = refl
      merged true false q h = sym (h refl)
      merged false b q h = refl

      go : (a : ℕ) → m < a → is_in_scope_within a p m x ≡ (is_among x (bound_in m (Some c.core)) || is_in_scope_within a p n x)
      go zero l = absurd (omega arith)
      go (suc b) l =
          let before = part.0 in
          ap (λ q. is_param x (function_of p m) || is_from_above p (λ k. is_in_scope_within b p k x) m x q) above
          ∙ ap (λ o. is_param x (function_of p m) || (is_among x (bound_in m o) || is_in_scope_within b p n x)) core
          ∙ ap (λ q. is_param x (function_of p m) || (is_among x (bound_in m (Some c.core)) || q)) (stable b (suc b) n (omega arith) (omega arith))
          ∙ merged (is_param x (function_of p m)) (is_among x (bound_in m (Some c.core))) (is_in_scope_within (suc b) p n x)
          (λ i. param_in_scope (suc b) n (sym alike ∙ i))

-- what a node binds isn't in scope there
pub not_in_own_scope : (p : Program) → WellFormed p → (x n : ℕ) (c : Node) → node_at p n ≡ Some c → is_among x (binders c.core) ≡ true → is_in_scope p n x ≡ false
not_in_own_scope p w x n c at binds =
    ⊎_elim (λ t. absurd (clash binds (not_bound_here p w x (λ k. is_in_scope p k x) at_body at_part n c at t))) (λ f. f) (cases_Bool (is_in_scope p n x))
  where
    at_body : (f : ℕ) (g : Function) → function_at p f ≡ Some g → is_in_scope p g.body x ≡ true → x < length g.params
    at_body f g there h = ltb-true x (length g.params) (sym (scope_of_body p w x f g there) ∙ h)

    at_part : (j : ℕ) (d : Node) → node_at p j ≡ Some d → (k : ℕ) → is_among k (parts d.core) ≡ true → is_in_scope p k x ≡ true → (is_in_scope p j x ≡ true) ⊎ (is_among x (binders d.core) ≡ true)
    at_part j d there k inside h =
        ⊎_elim
        (λ l. inr (bound_is x k d.core l))
        (λ r. inl r)
        (or_cases (is_among x (bound_in k (Some d.core))) (is_in_scope p j x) (sym (scope_of_part p w x j k d there inside) ∙ h))

-- the name of a let isn't in scope in its bound part
pub name_outside : (p : Program) → WellFormed p → (y n m b : ℕ) (k : Kind) (f : ℕ) → node_at p n ≡ Some (record { core = Let (Some y) m b; kind = k; function = f }) → is_in_scope p m y ≡ false
name_outside p w y n m b k f at =
    scope_of_part p w y n m c at (among_head m (b ∷ []))
    ∙ ap (λ t. is_among y (if t then y ∷ [] else []) || is_in_scope p n y) differ
    ∙ not_in_own_scope p w y n c at (among_head y [])
  where
    c : Node
    c = record { core = Let (Some y) m b; kind = k; function = f }

    fits : NodeFits p n c
    fits = w.nodes n c at

    differ : nat_eq m b ≡ false
    differ =
        ⊎_elim
        (λ t.
        let part = fits.parts_after m (among_head m (b ∷ [])) in
        let once : uses_as_body m p.functions + uses_as_part m p.nodes ≡ 1 = (w.nodes m part.1.0 part.1.1).once in
        let often : count_among m (m ∷ b ∷ []) ≤ uses_as_part m p.nodes = used_often m p.nodes n c at in
        let one : count_if (nat_eq m m) ≡ 1 = ap count_if (eq-eqb m m refl) in
        let two : count_if (nat_eq m b) ≡ 1 = ap count_if t in
        absurd (omega arith))
        (λ f. f)
        (cases_Bool (nat_eq m b))
