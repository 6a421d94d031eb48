-- The interface of each node's kind is one of the program's.
use Rattle.std.proofs.Common.{◌≡◌, ℕ, zero, suc, ◌+◌, ◌<◌, ◌≤◌, true, false, not, ◌&&◌, ◌||◌, nat_eq, List, [], ◌∷◌, ◌++◌, length, Option, Some, None, ◌⊎◌, inl, inr, ⊎_elim, refl, sym, ap, ◌∙◌, subst, arith}
use Rattle.std.specs.Prelude.{map, take, slice_get, option_and_then}
use Rattle.std.specs.List.{AllByRecursion, list_any}
use Rattle.std.proofs.lemmas.Bool.{and_from, or_cases, or_left, or_right, eqb-true, eq-eqb, cases_Bool}
use Rattle.std.proofs.lemmas.Option.{slice_get_within}
use Rattle.pat_words_spec.specs.Patterns.{Pat}
use Rattle.pat_semantics_spec.specs.Values.{BaseUnit, Kind, Plain, MailboxOf, Expr, VarExpr, Literal, OpExpr, occurs, base_of}
use Rattle.pat_semantics_spec.specs.Programs.{Sending, Receiving, TagDecl, Interface, Sort, BaseSort, MailboxSort, Function, Clause, Core, Val, Let, Call, If, Print, New, Send, Spawn, Guard, Node, Program, node_at, function_at, tag_at, kind_of, is_among, is_free, option_list, parts, clause_bodies, clause_binders, clause_uses, core_uses, KindAt}
use Rattle.pat_semantics_spec.specs.WellFormed.{WellFormed, IsPatternOf, IsPayload, IsSignature, ClauseKinds, CoreKinds, HasKind, VarsHaveKinds, IsPartOf, expr_kind}
use Rattle.pat_infer_laws.proofs.Facts.{free_here, here_kind, kind_here, kind_up}
use Rattle.pat_infer_laws.proofs.SignatureLaws.{declared_payloads}
use Rattle.pat_infer_laws.proofs.TermTyped.{op_plain}

module _ (p : Program) (wf : WellFormed p) where
  abbrev pub There : ℕ → Type 0
  There i = i < length p.interfaces

  pub pattern_there : (i : ℕ) (e : Pat) → IsPatternOf p i e → There i
  pattern_there i e h = slice_get_within p.interfaces i h.interface h.there

  pub tag_there : (i m : ℕ) (decl : TagDecl) → tag_at p i m ≡ Some decl → There i
  tag_there i m decl h = go (slice_get p.interfaces i) refl h
    where
      go : (o : Option Interface) → slice_get p.interfaces i ≡ o → option_and_then (λ (j : Interface). slice_get j.tags m) o ≡ Some decl → There i
      go None q k = cc
      go (Some j) q k = slice_get_within p.interfaces i j q

  pub signature_there : (t : Sort) (i : ℕ) → IsSignature p t → kind_of t ≡ MailboxOf i → There i
  signature_there (BaseSort b) i h k = cc
  signature_there (MailboxSort j q None) i h k = let same : j ≡ i = cc in subst There same h
  signature_there (MailboxSort j Sending (Some e)) i h k = let same : j ≡ i = cc in subst There same (pattern_there j e h.0)
  signature_there (MailboxSort j Receiving (Some e)) i h k = let same : j ≡ i = cc in subst There same (pattern_there j e h)

  pub payload_there : (t : Sort) (i : ℕ) → IsPayload p t → kind_of t ≡ MailboxOf i → There i
  payload_there (BaseSort b) i h k = cc
  payload_there (MailboxSort j q None) i h k = absurd h
  payload_there (MailboxSort j Sending (Some e)) i h k = let same : j ≡ i = cc in subst There same (pattern_there j e h.0)
  payload_there (MailboxSort j Receiving (Some e)) i h k = let same : j ≡ i = cc in subst There same (pattern_there j e h)

  -- each mailbox variable that is free at the node has an interface that is there
  abbrev pub VarsThere : ℕ → Type 0
  VarsThere n = (x i : ℕ) → is_free p x n ≡ true → KindAt p n x (MailboxOf i) → There i

  -- names of payloads
  payload_names : (vars : List Kind) (x i : ℕ) (xs : List ℕ) (ss : List Sort) → VarsHaveKinds vars xs (map kind_of ss) → AllByRecursion (IsPayload p) ss → is_among x xs ≡ true → slice_get vars x ≡ Some (MailboxOf i) → There i
  payload_names vars x i [] [] h f on k = cc
  payload_names vars x i [] (s ∷ ss) h f on k = absurd h
  payload_names vars x i (y ∷ ys) [] h f on k = absurd h
  payload_names vars x i (y ∷ ys) (s ∷ ss) h f on k =
      ⊎_elim
      (λ l.
      let name : x ≡ y = eqb-true x y l in
      let kinds : Some (kind_of s) ≡ Some (MailboxOf i) = sym h.0 ∙ ap (slice_get vars) (sym name) ∙ k in
      let kind : kind_of s ≡ MailboxOf i = cc in
      payload_there s i f.0 kind)
      (λ r. payload_names vars x i ys ss h.1 f.1 r k)
      (or_cases (nat_eq x y) (is_among x ys) on)

  among_parts : (z : ℕ) (xs ys : List ℕ) → is_among z (xs ++ ys) ≡ true → (is_among z xs ≡ true) ⊎ (is_among z ys ≡ true)
  among_parts z [] ys h = inr h
  among_parts z (x ∷ xs) ys h =
      ⊎_elim
      (λ l. inl (or_left (nat_eq z x) (is_among z xs) l))
      (λ r. ⊎_elim (λ a. inl (or_right (nat_eq z x) (is_among z xs) a)) (λ b. inr b) (among_parts z xs ys r))
      (or_cases (nat_eq z x) (is_among z (xs ++ ys)) h)

  -- names of a clause of a guard on interface g
  clause_names : (vars : List Kind) (g : ℕ) (k : Kind) (r : Clause) → ClauseKinds p vars g k r → There g → (x i : ℕ) → is_among x (clause_binders r) ≡ true → slice_get vars x ≡ Some (MailboxOf i) → There i
  clause_names vars g k r c there x i on kind =
      ⊎_elim
      (λ l. payload_names vars x i r.vars c.decl.payloads c.payloads (declared_payloads p wf g r.tag c.decl c.declared) l kind)
      (λ e.
      let name : x ≡ r.from = ⊎_elim (λ l. eqb-true x r.from l) (λ z. let clash : false ≡ true = z in cc) (or_cases (nat_eq x r.from) false e) in
      let kinds : Some (MailboxOf g) ≡ Some (MailboxOf i) = sym c.from ∙ ap (slice_get vars) (sym name) ∙ kind in
      let same : g ≡ i = cc in
      subst There same there)
      (among_parts x r.vars (r.from ∷ []) on)

  -- ---- parts

  module _ (n : ℕ) (d : Node) (at : node_at p n ≡ Some d) (vars : VarsThere n) where
    abbrev kinds_here : List Kind
    kinds_here = (wf.nodes n d at).function.vars

    -- where each variable that is free in a part is free here, or has an interface that is there
    pub vars_down : (m : ℕ) → IsPartOf p n d m → ((x i : ℕ) → is_free p x m ≡ true → slice_get kinds_here x ≡ Some (MailboxOf i) → (is_free p x n ≡ true) ⊎ There i) → VarsThere m
    vars_down m part each x i free kind =
        let up = kind_up p n m x d at part (MailboxOf i) kind in
        ⊎_elim (λ f. vars x i f up) (λ t. t)
        (each x i free (kind_here p n x d at (MailboxOf i) (wf.nodes n d at) up))

    pub used : (core : Core) → d.core ≡ core → (x : ℕ) → core_uses (λ k. is_free p x k) x core ≡ true → is_free p x n ≡ true
    used core is x h = free_here p wf x n d at core is h

    pub first_down : (x : Option ℕ) (m b : ℕ) → d.core ≡ Let x m b → IsPartOf p n d m → VarsThere m
    first_down x m b is part =
        vars_down m part (λ z i f k. inl (used (Let x m b) is z (or_left (is_free p z m) (is_free p z b && not (is_among z (option_list x))) f)))

    pub body_down : (x : Option ℕ) (m b : ℕ) → d.core ≡ Let x m b → IsPartOf p n d b → ((z i : ℕ) → x ≡ Some z → slice_get kinds_here z ≡ Some (MailboxOf i) → There i) → VarsThere b
    body_down x m b is part name =
        vars_down b part (λ z i f k. by x is name z i f k)
      where
        by : (x : Option ℕ) → d.core ≡ Let x m b → ((z i : ℕ) → x ≡ Some z → slice_get kinds_here z ≡ Some (MailboxOf i) → There i) → (z i : ℕ) → is_free p z b ≡ true → slice_get kinds_here z ≡ Some (MailboxOf i) → (is_free p z n ≡ true) ⊎ There i
        by None is name z i f k =
            inl (used (Let None m b) is z (or_right (is_free p z m) (is_free p z b && true) (and_from (is_free p z b) true f refl)))
        by (Some y) is name z i f k =
            ⊎_elim
            (λ t. inr (name z i (ap (λ w. Some w) (sym (eqb-true z y t))) k))
            (λ e. inl (used (Let (Some y) m b) is z
            (or_right (is_free p z m) (is_free p z b && not (nat_eq z y || false))
            (and_from (is_free p z b) (not (nat_eq z y || false)) f (ap (λ w. not (w || false)) e)))))
            (cases_Bool (nat_eq z y))

    pub then_down : (e : Expr) (a b : ℕ) → d.core ≡ If e a b → IsPartOf p n d a → VarsThere a
    then_down e a b is part =
        vars_down a part (λ z i f k. inl (used (If e a b) is z (or_right (occurs z e) (is_free p z a || is_free p z b) (or_left (is_free p z a) (is_free p z b) f))))

    pub else_down : (e : Expr) (a b : ℕ) → d.core ≡ If e a b → IsPartOf p n d b → VarsThere b
    else_down e a b is part =
        vars_down b part (λ z i f k. inl (used (If e a b) is z (or_right (occurs z e) (is_free p z a || is_free p z b) (or_right (is_free p z a) (is_free p z b) f))))

    pub spawn_down : (m : ℕ) → d.core ≡ Spawn m → IsPartOf p n d m → VarsThere m
    spawn_down m is part = vars_down m part (λ z i f k. inl (used (Spawn m) is z f))

    pub free_down : (y : ℕ) (e : Pat) (m : ℕ) (cs : List Clause) → d.core ≡ Guard y e (Some m) cs → IsPartOf p n d m → VarsThere m
    free_down y e m cs is part =
        vars_down m part (λ z i f k. inl (used (Guard y e (Some m) cs) is z
        (or_right (nat_eq z y) ((is_free p z m || false) || list_any (clause_uses (λ w. is_free p z w) z) cs)
        (or_left (is_free p z m || false) (list_any (clause_uses (λ w. is_free p z w) z) cs) (or_left (is_free p z m) false f)))))

    pub clause_down : (y : ℕ) (e : Pat) (o : Option ℕ) (cs : List Clause) (g : ℕ) (k : Kind) (r : Clause) → d.core ≡ Guard y e o cs → IsPartOf p n d r.body → ClauseKinds p kinds_here g k r → There g → ((z : ℕ) → clause_uses (λ w. is_free p z w) z r ≡ true → list_any (clause_uses (λ w. is_free p z w) z) cs ≡ true) → VarsThere r.body
    clause_down y e o cs g k r is part c there one =
        vars_down r.body part (λ z i f kind.
        ⊎_elim
        (λ t. inr (clause_names kinds_here g k r c there z i t kind))
        (λ off. inl (used (Guard y e o cs) is z
        (or_right (nat_eq z y) (list_any (λ w. is_free p z w) (option_list o) || list_any (clause_uses (λ w. is_free p z w) z) cs)
        (or_right (list_any (λ w. is_free p z w) (option_list o)) (list_any (clause_uses (λ w. is_free p z w) z) cs)
        (one z (and_from (is_free p z r.body) (not (is_among z (clause_binders r))) f (ap not off)))))))
        (cases_Bool (is_among z (clause_binders r))))

  -- ---- kinds

  abbrev pub KindThere : Kind → Type 0
  KindThere k = (i : ℕ) → k ≡ MailboxOf i → There i

  pub kind_there : (fuel n : ℕ) (d : Node) → length p.nodes ≤ fuel + n → node_at p n ≡ Some d → VarsThere n → KindThere d.kind
  kind_there zero n d enough at vars = let within = slice_get_within p.nodes n d at in absurd (omega arith)
  kind_there (suc fuel) n d enough at vars =
      go d.core refl (wf.nodes n d at).kinds (λ m. (wf.nodes n d at).parts_after m)
      (λ m e l there down. kind_there fuel m e l there down)
    where
      by_part : ((m : ℕ) (e : Node) → length p.nodes ≤ fuel + m → node_at p m ≡ Some e → VarsThere m → KindThere e.kind) → (m : ℕ) (k : Kind) → IsPartOf p n d m → HasKind p m k → VarsThere m → KindThere k
      by_part inner m k part has down i q =
          let after = part.0 in
          inner m has.0 (omega arith) has.1 down i (has.2 ∙ q)

      go : (core : Core) → d.core ≡ core → CoreKinds p (wf.nodes n d at).function.vars d.kind core → ((m : ℕ) → is_among m (parts d.core) ≡ true → IsPartOf p n d m) → ((m : ℕ) (e : Node) → length p.nodes ≤ fuel + m → node_at p m ≡ Some e → VarsThere m → KindThere e.kind) → KindThere d.kind
      go (Val (VarExpr x)) is k part inner i q =
          vars x i (used n d at vars (Val (VarExpr x)) is x (eq-eqb x x refl)) (here_kind p n x d at (MailboxOf i) (wf.nodes n d at) (k ∙ ap (λ j. Some j) q))
      go (Val (Literal c)) is k part inner i q =
          let clash : Some (Plain (base_of c)) ≡ Some (MailboxOf i) = k ∙ ap (λ j. Some j) q in cc
      go (Val (OpExpr op a b)) is k part inner i q =
          absurd (op_plain op (expr_kind (wf.nodes n d at).function.vars a) (expr_kind (wf.nodes n d at).function.vars b) i (k ∙ ap (λ j. Some j) q))
      go (Let None m b) is k part inner i q =
          let after = part b (ap (λ c. is_among b (parts c)) is ∙ or_right (nat_eq b m) (is_among b (b ∷ [])) (or_left (nat_eq b b) false (eq-eqb b b refl))) in
          by_part inner b d.kind after k.1 (body_down n d at vars None m b is after (λ z j e s. cc)) i q
      go (Let (Some y) m b) is k part inner i q =
          let first = part m (ap (λ c. is_among m (parts c)) is ∙ or_left (nat_eq m m) (is_among m (b ∷ [])) (eq-eqb m m refl)) in
          let after = part b (ap (λ c. is_among b (parts c)) is ∙ or_right (nat_eq b m) (is_among b (b ∷ [])) (or_left (nat_eq b b) false (eq-eqb b b refl))) in
          by_part inner b d.kind after k.3
          (body_down n d at vars (Some y) m b is after
          (λ z j e s.
          let name : y ≡ z = cc in
          let kinds : Some k.0 ≡ Some (MailboxOf j) = sym k.1 ∙ ap (slice_get (wf.nodes n d at).function.vars) name ∙ s in
          let kind : k.0 ≡ MailboxOf j = cc in
          by_part inner m k.0 first k.2 (first_down n d at vars (Some y) m b is first) j kind))
          i q
      go (Call f args) is k part inner i q = signature_there k.0.result i (wf.functions f k.0 k.1).signature.1 (k.3 ∙ q)
      go (If e a b) is k part inner i q =
          let first = part a (ap (λ c. is_among a (parts c)) is ∙ or_left (nat_eq a a) (is_among a (b ∷ [])) (eq-eqb a a refl)) in
          by_part inner a d.kind first k.1 (then_down n d at vars e a b is first) i q
      go (Print e) is k part inner i q = let clash : Plain BaseUnit ≡ MailboxOf i = sym k.0 ∙ q in cc
      go (New j) is k part inner i q = let kinds : MailboxOf j ≡ MailboxOf i = sym k.0 ∙ q in let same : j ≡ i = cc in subst There same k.1
      go (Send x m args) is k part inner i q = let clash : Plain BaseUnit ≡ MailboxOf i = sym k.0 ∙ q in cc
      go (Spawn m) is k part inner i q = let clash : Plain BaseUnit ≡ MailboxOf i = sym k.0 ∙ q in cc
      go (Guard y e (Some m) cs) is k part inner i q =
          let after = part m (ap (λ c. is_among m (parts c)) is ∙ or_left (nat_eq m m) (is_among m (clause_bodies cs)) (eq-eqb m m refl)) in
          by_part inner m d.kind after (k.3 m refl) (free_down n d at vars y e m cs is after) i q
      go (Guard y e None []) is k part inner i q = let clash : Plain BaseUnit ≡ MailboxOf i = sym (k.6 refl refl) ∙ q in cc
      go (Guard y e None (r ∷ cs)) is k part inner i q =
          let after = part r.body (ap (λ c. is_among r.body (parts c)) is ∙ or_left (nat_eq r.body r.body) (is_among r.body (clause_bodies cs)) (eq-eqb r.body r.body refl)) in
          by_part inner r.body d.kind after k.4.0.body
          (clause_down n d at vars y e None (r ∷ cs) k.0 d.kind r is after k.4.0 (pattern_there k.0 e k.2)
          (λ z h. or_left (clause_uses (λ w. is_free p z w) z r) (list_any (clause_uses (λ w. is_free p z w) z) cs) h))
          i q

  -- ---- functions

  take_at : (c : ℕ) (ks : List Kind) (x : ℕ) → x < c → slice_get (take c ks) x ≡ slice_get ks x
  take_at zero ks x l = absurd (omega arith)
  take_at (suc c) [] x l = refl
  take_at (suc c) (k ∷ ks) zero l = refl
  take_at (suc c) (k ∷ ks) (suc x) l = take_at c ks x (omega arith)

  param_there : (ss : List Sort) (x i : ℕ) → AllByRecursion (IsSignature p) ss → slice_get (map kind_of ss) x ≡ Some (MailboxOf i) → There i
  param_there [] x i h k = cc
  param_there (s ∷ ss) zero i h k = let kind : kind_of s ≡ MailboxOf i = cc in signature_there s i h.0 kind
  param_there (s ∷ ss) (suc x) i h k = param_there ss x i h.1 k

  pub body_vars : (f : ℕ) (g : Function) → function_at p f ≡ Some g → VarsThere g.body
  body_vars f g at x i free (d, h, there, of, kind) =
      let fits = wf.functions f g at in
      let same : Some fits.body.0 ≡ Some d = sym fits.body.1 ∙ there in
      let node : fits.body.0 ≡ d = cc in
      let number : d.function ≡ f = ap (λ (e : Node). e.function) (sym node) ∙ fits.body.2 in
      let functions : Some g ≡ Some h = sym at ∙ ap (function_at p) (sym number) ∙ of in
      let function : g ≡ h = cc in
      let own : slice_get g.vars x ≡ Some (MailboxOf i) = ap (λ (e : Function). slice_get e.vars x) function ∙ kind in
      param_there g.params x i fits.signature.0
      (ap (λ ks. slice_get ks x) (sym fits.params) ∙ take_at (length g.params) g.vars x (fits.in_scope x free) ∙ own)
