-- The variables that a typing names at a node are in scope there.
use Rattle.std.proofs.Common.{◌≡◌, ℕ, zero, suc, ◌<◌, ◌≤◌, true, false, nat_eq, if◌then◌else◌, List, [], ◌∷◌, ◌++◌, length, Option, Some, None, ◌⊎◌, inl, inr, ⊎_elim, refl, sym, ap, ◌∙◌, subst, arith}
use Rattle.std.specs.Prelude.{slice_get, option_and_then, nat_lt}
use Rattle.std.specs.List.{AllByRecursion}
use Rattle.std.proofs.lemmas.Bool.{or_cases, or_left, or_right, eqb-true, eq-eqb, cases_Bool, cond-true, lt-ltb}
use Rattle.std.proofs.lemmas.Option.{slice_get_within}
use Rattle.pat_words_spec.specs.Patterns.{Pat, residual}
use Rattle.pat_semantics_spec.specs.Programs.{Receiving, Program, Sort, TagDecl, Function, Clause, Core, Val, Let, Call, If, Print, New, Send, Spawn, Guard, Node, node_at, parts, option_list, clause_bodies, clause_binders, is_among}
use Rattle.pat_semantics_spec.specs.WellFormed.{WellFormed, count_if, count_among, uses_as_body, uses_as_part, uses_of}
use Rattle.pat_type_system_spec.specs.Types.{Returnable, MailboxType, TypeOf, mailbox_type, PassesTo, SplitsTo, TypeEnv, EnvPasses, without, returnable}
use Rattle.pat_type_system_spec.specs.Typings.{Typing, sort_type, param_type, payload_type, with_option, with_payloads, clause_env, without_name, ClauseTyped, CoreTyped, IsTyping}
use Rattle.pat_derivation_spec.specs.Scopes.{bound_in, bound_by_clauses, is_in_scope}
use Rattle.pat_derivation_laws.specs.Laws.{ScopeOfBody, ScopeOfPart}

-- the environment names x
abbrev pub Named : Option MailboxType → Type 0
Named o = (a : MailboxType) × (o ≡ Some a)

-- ---- where a node stands

body_found : (n : ℕ) (fs : List Function) → 1 ≤ uses_as_body n fs → (f : ℕ) × (g : Function) × (slice_get fs f ≡ Some g) × (nat_eq n g.body ≡ true)
body_found n [] h = absurd (omega arith)
body_found n (g ∷ fs) h =
    ⊎_elim
    (λ t. (0, g, refl, t))
    (λ e.
    let none : count_if (nat_eq n g.body) ≡ 0 = ap count_if e in
    let r = body_found n fs (omega arith) in
    (suc r.0, r.1, r.2, r.3))
    (cases_Bool (nat_eq n g.body))

among_found : (n : ℕ) (ks : List ℕ) → 1 ≤ count_among n ks → is_among n ks ≡ true
among_found n [] h = absurd (omega arith)
among_found n (k ∷ ks) h =
    ⊎_elim
    (λ t. or_left (nat_eq n k) (is_among n ks) t)
    (λ e.
    let none : count_if (nat_eq n k) ≡ 0 = ap count_if e in
    or_right (nat_eq n k) (is_among n ks) (among_found n ks (omega arith)))
    (cases_Bool (nat_eq n k))

none_among : (n : ℕ) (ks : List ℕ) → is_among n ks ≡ false → count_among n ks ≡ 0
none_among n ks h = go (count_among n ks) refl
  where
    go : (c : ℕ) → count_among n ks ≡ c → c ≡ 0
    go zero e = refl
    go (suc c) e = let t = among_found n ks (omega arith) in let x : true ≡ false = sym t ∙ h in cc

part_found : (n : ℕ) (ds : List Node) → 1 ≤ uses_as_part n ds → (k : ℕ) × (c : Node) × (slice_get ds k ≡ Some c) × (is_among n (parts c.core) ≡ true)
part_found n [] h = absurd (omega arith)
part_found n (c ∷ ds) h =
    ⊎_elim
    (λ t. (0, c, refl, t))
    (λ e.
    let none = none_among n (parts c.core) e in
    let r = part_found n ds (omega arith) in
    (suc r.0, r.1, r.2, r.3))
    (cases_Bool (is_among n (parts c.core)))

-- ---- what is named in a part is named at the node, or bound for the part

passes_named : (o : Option MailboxType) (a : MailboxType) → PassesTo o (Some a) → Named o
passes_named None a h = absurd h
passes_named (Some b) a h = (b, refl)

splits_bound : (o c : Option MailboxType) (a : MailboxType) → SplitsTo o (Some a) c → Named o
splits_bound None c a h = absurd h
splits_bound (Some b) c a h = (b, refl)

splits_body : (o b : Option MailboxType) (a : MailboxType) → SplitsTo o b (Some a) → Named o
splits_body None None a h = absurd h
splits_body None (Some b) a h = absurd h
splits_body (Some c) b a h = (c, refl)

returned_named : (o : Option MailboxType) → Named (returnable o) → Named o
returned_named None h = let e = h.1 in cc
returned_named (Some b) h = (b, refl)

without_named : (x z : ℕ) (g : TypeEnv) → Named (without x g z) → Named (g z)
without_named x z g h =
    (elim (nat_eq x z) as (λ b. Named (if b then None else g z) → Named (g z)) [
      | true ↦ λ k. let e = k.1 in cc
      | false ↦ λ k. k
    ]) h

among_left : (z : ℕ) (xs ys : List ℕ) → is_among z xs ≡ true → is_among z (xs ++ ys) ≡ true
among_left z [] ys h = cc
among_left z (x ∷ xs) ys h =
    ⊎_elim
    (λ l. or_left (nat_eq z x) (is_among z (xs ++ ys)) l)
    (λ r. or_right (nat_eq z x) (is_among z (xs ++ ys)) (among_left z xs ys r))
    (or_cases (nat_eq z x) (is_among z xs) h)

among_last : (z : ℕ) (xs : List ℕ) (y : ℕ) → nat_eq z y ≡ true → is_among z (xs ++ y ∷ []) ≡ true
among_last z [] y h = or_left (nat_eq z y) false h
among_last z (x ∷ xs) y h = or_right (nat_eq z x) (is_among z (xs ++ y ∷ [])) (among_last z xs y h)

among_parts : (z : ℕ) (xs ys : List ℕ) → is_among z (xs ++ ys) ≡ true → (is_among z xs ≡ true) ⊎ (is_among z ys ≡ true)
among_parts z [] ys h = inr h
among_parts z (x ∷ xs) ys h =
    ⊎_elim
    (λ l. inl (or_left (nat_eq z x) (is_among z xs) l))
    (λ r. ⊎_elim (λ a. inl (or_right (nat_eq z x) (is_among z xs) a)) (λ b. inr b) (among_parts z xs ys r))
    (or_cases (nat_eq z x) (is_among z (xs ++ ys)) h)

turn : (a b : ℕ) → nat_eq a b ≡ true → nat_eq b a ≡ true
turn a b h = eq-eqb b a (sym (eqb-true a b h))

payloads_named : (types : TypeEnv) (k : ℕ) (xs : List ℕ) (g : TypeEnv) (z : ℕ) → Named (with_payloads types k xs g z) → (is_among z xs ≡ true) ⊎ Named (g z)
payloads_named types k [] g z h = inr h
payloads_named types k (x ∷ xs) g z h = go (types k) (λ d. payloads_named types (suc k) xs g z d) h
  where
    go : (o : Option MailboxType) → (Named (with_payloads types (suc k) xs g z) → (is_among z xs ≡ true) ⊎ Named (g z)) → Named (with_option x o (with_payloads types (suc k) xs g) z) → (is_among z (x ∷ xs) ≡ true) ⊎ Named (g z)
    go None deeper h = ⊎_elim (λ a. inl (or_right (nat_eq z x) (is_among z xs) a)) (λ b. inr b) (deeper h)
    go (Some a) deeper h =
        (elim (nat_eq x z) as (λ b. nat_eq x z ≡ b → Named (if b then Some a else with_payloads types (suc k) xs g z) → (is_among z (x ∷ xs) ≡ true) ⊎ Named (g z)) [
          | true ↦ λ e n. inl (or_left (nat_eq z x) (is_among z xs) (turn x z e))
          | false ↦ λ e n. ⊎_elim (λ a. inl (or_right (nat_eq z x) (is_among z xs) a)) (λ b. inr b) (deeper n)
        ]) refl h

clause_named : (g : TypeEnv) (x i : ℕ) (e : Pat) (decl : TagDecl) (r : Clause) (z : ℕ) → Named (clause_env g x i e decl r z) → (is_among z (clause_binders r) ≡ true) ⊎ Named (g z)
clause_named g x i e decl r z h =
    let base : TypeEnv = with_payloads (payload_type decl) 0 r.vars (without x g) in
    let a : MailboxType = mailbox_type i Receiving (residual e r.tag) Returnable in
    (elim (nat_eq r.from z) as (λ b. nat_eq r.from z ≡ b → Named (if b then Some a else base z) → (is_among z (clause_binders r) ≡ true) ⊎ Named (g z)) [
      | true ↦ λ q n. inl (among_last z r.vars r.from (turn r.from z q))
      | false ↦ λ q n.
          ⊎_elim (λ l. inl (among_left z r.vars (r.from ∷ []) l)) (λ k. inr (without_named x z g k))
          (payloads_named (payload_type decl) 0 r.vars (without x g) z n)
    ]) refl h

module _ (of_body : ScopeOfBody) (of_part : ScopeOfPart) (p : Program) (w : WellFormed p) (y : Typing) (typing : IsTyping p y) where
  clauses_named : (g : TypeEnv) (t : TypeOf) (x i : ℕ) (e : Pat) (m z : ℕ) (a : MailboxType) (rs : List Clause) → AllByRecursion (ClauseTyped p y g t x i e) rs → is_among m (clause_bodies rs) ≡ true → y.envs m z ≡ Some a → (is_among z (bound_by_clauses m rs) ≡ true) ⊎ Named (g z)
  clauses_named g t x i e m z a [] h k q = cc
  clauses_named g t x i e m z a (r ∷ rs) h k q =
      (elim (nat_eq m r.body) as (λ b. nat_eq m r.body ≡ b → (is_among z (if b then clause_binders r else bound_by_clauses m rs) ≡ true) ⊎ Named (g z)) [
        | true ↦ λ same.
            let there : y.envs r.body z ≡ Some a = subst (λ n. y.envs n z ≡ Some a) (eqb-true m r.body same) q in
            clause_named g x i e h.0.decl r z
            (passes_named (clause_env g x i e h.0.decl r z) a (subst (λ o. PassesTo (clause_env g x i e h.0.decl r z) o) there (h.0.passes z)))
        | false ↦ λ other. clauses_named g t x i e m z a rs h.1 (⊎_elim (λ l. let c : true ≡ false = sym l ∙ other in cc) (λ r. r) (or_cases (nat_eq m r.body) (is_among m (clause_bodies rs)) k)) q
      ]) refl

  named_above : (g : TypeEnv) (t : TypeOf) (core : Core) (m z : ℕ) (a : MailboxType) → CoreTyped p y g t core → is_among m (parts core) ≡ true → y.envs m z ≡ Some a → (is_among z (bound_in m (Some core)) ≡ true) ⊎ Named (g z)
  named_above g t (Val e) m z a h k q = cc
  named_above g t (Print e) m z a h k q = cc
  named_above g t (Call f args) m z a h k q = cc
  named_above g t (New i) m z a h k q = cc
  named_above g t (Send x c args) m z a h k q = cc
  named_above g t (Spawn b) m z a h k q =
      let same : m ≡ b = ⊎_elim (λ l. eqb-true m b l) (λ r. let c : false ≡ true = r in cc) (or_cases (nat_eq m b) false k) in
      let there : y.envs b z ≡ Some a = subst (λ n. y.envs n z ≡ Some a) same q in
      inr (returned_named (g z) (passes_named (returnable (g z)) a (subst (λ o. PassesTo (returnable (g z)) o) there (h.1 z))))
  named_above g t (If e b c) m z a h k q =
      ⊎_elim
      (λ l. let there : y.envs b z ≡ Some a = subst (λ n. y.envs n z ≡ Some a) (eqb-true m b l) q in
      inr (passes_named (g z) a (subst (λ o. PassesTo (g z) o) there (h.2 z))))
      (λ r.
      let same : m ≡ c = ⊎_elim (λ l. eqb-true m c l) (λ r. let u : false ≡ true = r in cc) (or_cases (nat_eq m c) false r) in
      let there : y.envs c z ≡ Some a = subst (λ n. y.envs n z ≡ Some a) same q in
      inr (passes_named (g z) a (subst (λ o. PassesTo (g z) o) there (h.3 z))))
      (or_cases (nat_eq m b) (is_among m (c ∷ [])) k)
  named_above g t (Let x b c) m z a h k q =
      ⊎_elim
      (λ l. let there : y.envs b z ≡ Some a = subst (λ n. y.envs n z ≡ Some a) (eqb-true m b l) q in
      inr (splits_bound (g z) (without_name x (y.envs c) z) a (subst (λ o. SplitsTo (g z) o (without_name x (y.envs c) z)) there (h.1 z))))
      (λ r.
      let here : nat_eq m c ≡ true = ⊎_elim (λ l. l) (λ r. let u : false ≡ true = r in cc) (or_cases (nat_eq m c) false r) in
      let there : y.envs c z ≡ Some a = subst (λ n. y.envs n z ≡ Some a) (eqb-true m c here) q in
      by x here there (h.1 z))
      (or_cases (nat_eq m b) (is_among m (c ∷ [])) k)
    where
      by : (x : Option ℕ) → nat_eq m c ≡ true → y.envs c z ≡ Some a → SplitsTo (g z) (y.envs b z) (without_name x (y.envs c) z) → (is_among z (if nat_eq m c then option_list x else []) ≡ true) ⊎ Named (g z)
      by None here there s = inr (splits_body (g z) (y.envs b z) a (subst (λ o. SplitsTo (g z) (y.envs b z) o) there s))
      by (Some v) here there s =
          (elim (nat_eq v z) as (λ o. nat_eq v z ≡ o → SplitsTo (g z) (y.envs b z) (if o then None else y.envs c z) → (is_among z (if nat_eq m c then v ∷ [] else []) ≡ true) ⊎ Named (g z)) [
            | true ↦ λ e k. inl (ap (is_among z) (cond-true (nat_eq m c) (v ∷ []) [] here) ∙ or_left (nat_eq z v) false (turn v z e))
            | false ↦ λ e k. inr (splits_body (g z) (y.envs b z) a (subst (λ o. SplitsTo (g z) (y.envs b z) o) there k))
          ]) refl s
  named_above g t (Guard x e free rs) m z a h k q =
      ⊎_elim (λ l. by free l (λ n. h.free_passes n))
      (λ r. clauses_named g t x h.guarded.interface e m z a rs h.receives r q)
      (among_parts m (option_list free) (clause_bodies rs) k)
    where
      by : (o : Option ℕ) → is_among m (option_list o) ≡ true → ((n : ℕ) → o ≡ Some n → EnvPasses (without x g) (y.envs n)) → (is_among z (bound_by_clauses m rs) ≡ true) ⊎ Named (g z)
      by None l f = cc
      by (Some n) l f =
          let same : m ≡ n = ⊎_elim (λ l. eqb-true m n l) (λ r. let u : false ≡ true = r in cc) (or_cases (nat_eq m n) false l) in
          let there : y.envs n z ≡ Some a = subst (λ n. y.envs n z ≡ Some a) same q in
          inr (without_named x z g (passes_named (without x g z) a (subst (λ o. PassesTo (without x g z) o) there (f n refl z))))

  param_named : (f : ℕ) (g : Function) (x : ℕ) → Named (param_type y f g x) → nat_lt x (length g.params) ≡ true
  param_named f g x h = go (slice_get g.params x) refl h
    where
      go : (o : Option Sort) → slice_get g.params x ≡ o → Named (option_and_then (sort_type (y.param_patterns f x)) o) → nat_lt x (length g.params) ≡ true
      go None q n = let e = n.1 in cc
      go (Some a) q n = lt-ltb x (length g.params) (slice_get_within g.params x a q)

  scoped_below : (fuel n : ℕ) (c : Node) (x : ℕ) (a : MailboxType) → n < fuel → node_at p n ≡ Some c → y.envs n x ≡ Some a → is_in_scope p n x ≡ true
  scoped_below zero n c x a l at q = absurd (omega arith)
  scoped_below (suc fuel) n c x a l at q =
      go (uses_as_body n p.functions) refl (λ k d b l r m. scoped_below fuel k d x b l r m)
    where
      once : uses_of p n ≡ 1
      once = (w.nodes n c at).once

      go : (u : ℕ) → uses_as_body n p.functions ≡ u → ((k : ℕ) (d : Node) (b : MailboxType) → k < fuel → node_at p k ≡ Some d → y.envs k x ≡ Some b → is_in_scope p k x ≡ true) → is_in_scope p n x ≡ true
      go (suc u) e deeper =
          let r = body_found n p.functions (omega arith) in
          let f : ℕ = r.0 in
          let g : Function = r.1 in
          let same : n ≡ g.body = eqb-true n g.body r.3 in
          let typed = typing.functions f g r.2 in
          let there : y.envs g.body x ≡ Some a = subst (λ k. y.envs k x ≡ Some a) same q in
          subst (λ k. is_in_scope p k x ≡ true) (sym same)
          (of_body p f g x w r.2
          ∙ param_named f g x (passes_named (param_type y f g x) a (subst (λ o. PassesTo (param_type y f g x) o) there (typed.params x))))
      go zero e deeper =
          let o = once in
          let r = part_found n p.nodes (omega arith) in
          let k : ℕ = r.0 in
          let d : Node = r.1 in
          let before = ((w.nodes k d r.2).parts_after n r.3).0 in
          of_part p k n d x w r.2 r.3
          ∙ ⊎_elim
          (λ b. or_left (is_among x (bound_in n (Some d.core))) (is_in_scope p k x) b)
          (λ m. or_right (is_among x (bound_in n (Some d.core))) (is_in_scope p k x) (deeper k d m.0 (omega arith) r.2 m.1))
          (named_above (y.envs k) (y.results k) d.core n x a (typing.nodes k d r.2).term r.3 q)

  pub named_in_scope : (n : ℕ) (c : Node) (x : ℕ) (a : MailboxType) → node_at p n ≡ Some c → y.envs n x ≡ Some a → is_in_scope p n x ≡ true
  named_in_scope n c x a at q = scoped_below (suc n) n c x a (omega arith) at q
