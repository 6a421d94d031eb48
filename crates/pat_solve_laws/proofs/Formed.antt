-- Patterns of found nodes, of signatures and of what is there for parts are patterns of their interfaces, and their variables have values.
use Rattle.std.proofs.Common.{◌≡◌, ℕ, zero, suc, true, ◌||◌, nat_eq, if◌then◌else◌, List, [], ◌∷◌, length, Option, Some, None, refl, sym, ap, ◌∙◌, subst}
use Rattle.std.specs.Prelude.{option_and_then, slice_get, nat_lt, map}
use Rattle.std.proofs.lemmas.Bool.{and_parts, and_from, cond_both, eq-eqb, lt-ltb}
use Rattle.std.proofs.lemmas.Option.{slice_get_within}
use Rattle.pat_words_spec.specs.Patterns.{Pat, Zero, One, Tag, Sum, Prod, Star, Var, is_closed, is_zero, is_one, pat_eq, sum_of, prod_of, residual}
use Rattle.pat_words_spec.specs.Tags.{tags_below}
use Rattle.pat_semantics_spec.specs.Values.{Expr, VarExpr, Literal, OpExpr}
use Rattle.pat_semantics_spec.specs.Programs.{Program, Polarity, Sending, Receiving, Sort, BaseSort, MailboxSort, TagDecl, Interface, Function, Clause, function_at, tag_at}
use Rattle.pat_semantics_spec.specs.WellFormed.{WellFormed, IsPatternOf, IsPayload, IsSignature}
use Rattle.pat_type_system_spec.specs.Types.{Usage, Second, Returnable, MailboxType, TypeOf, BaseTerm, MailboxTerm, mailbox_type, TypeEnv, with_type, without, returnable}
use Rattle.pat_type_system_spec.specs.Typings.{param_usage, sort_type, result_of, param_type, result_type, payload_sort, payload_type, with_option, args_need, with_payloads, clause_env, without_name}
use Rattle.pat_inclusion_spec.specs.Values.{VarLine, Scope, var_at, has_interface, is_formed}
use Rattle.pat_type_schemes_spec.specs.Signatures.{Origin, OfParameter, OfResult, Variable, signature_vars, omitted, number_at, result_number, first_number}
use Rattle.pat_type_schemes_spec.specs.Typings.{param_pattern_open, result_pattern_open}
use Rattle.pat_derivation_spec.specs.Derivations.{Derivation, tag_count, scope_of, written_typing}
use Rattle.pat_semantics_laws.proofs.Lists.{all_at}
use Rattle.pat_infer_spec.specs.Walk.{inferred, all_vars}
use Rattle.pat_infer_spec.specs.Shapes as shapes
use Rattle.pat_infer_spec.specs.Shapes.{IsNumber}
use Rattle.pat_infer_laws.proofs.SignatureLaws.{declared_payloads}
use Rattle.pat_infer_laws.proofs.Numbering.{Numbered, all_numbers, numbered_parts, SignatureNumbered, signature_numbered}
use Rattle.pat_solve_laws.proofs.Good.{Formed, EnvFormed}

abbrev pub FormedType : Scope → TypeOf → Type 0
FormedType s (BaseTerm b) = Unit {0}
FormedType s (MailboxTerm i q e) = is_formed s i e ≡ true

module _ (s : Scope) where
  formed_sum : (i : ℕ) (e f : Pat) → is_formed s i e ≡ true → is_formed s i f ≡ true → is_formed s i (sum_of e f) ≡ true
  formed_sum i e f a b =
      let P : Pat → Type 0 = λ x. is_formed s i x ≡ true in
      cond_both (is_zero e) f (if is_zero f then e else if pat_eq e f then e else Sum e f) P
      (λ _. b)
      (λ _. cond_both (is_zero f) e (if pat_eq e f then e else Sum e f) P
      (λ _. a)
      (λ _. cond_both (pat_eq e f) e (Sum e f) P (λ _. a) (λ _. and_from (is_formed s i e) (is_formed s i f) a b)))

  pub formed_prod : (i : ℕ) (e f : Pat) → is_formed s i e ≡ true → is_formed s i f ≡ true → is_formed s i (prod_of e f) ≡ true
  formed_prod i e f a b =
      let P : Pat → Type 0 = λ x. is_formed s i x ≡ true in
      cond_both (is_zero e || is_zero f) Zero (if is_one e then f else if is_one f then e else Prod e f) P
      (λ _. refl)
      (λ _. cond_both (is_one e) f (if is_one f then e else Prod e f) P
      (λ _. b)
      (λ _. cond_both (is_one f) e (Prod e f) P (λ _. a) (λ _. and_from (is_formed s i e) (is_formed s i f) a b)))

  pub formed_residual : (i : ℕ) (e : Pat) (m : ℕ) → is_formed s i e ≡ true → is_formed s i (residual e m) ≡ true
  formed_residual i Zero m h = refl
  formed_residual i One m h = refl
  formed_residual i (Tag n) m h = cond_both (nat_eq n m) One Zero (λ x. is_formed s i x ≡ true) (λ _. refl) (λ _. refl)
  formed_residual i (Sum e f) m h =
      let q = and_parts (is_formed s i e) (is_formed s i f) h in
      formed_sum i (residual e m) (residual f m) (formed_residual i e m q.0) (formed_residual i f m q.1)
  formed_residual i (Prod e f) m h =
      let q = and_parts (is_formed s i e) (is_formed s i f) h in
      formed_sum i (prod_of (residual e m) f) (prod_of e (residual f m))
      (formed_prod i (residual e m) f (formed_residual i e m q.0) q.1)
      (formed_prod i e (residual f m) q.0 (formed_residual i f m q.1))
  formed_residual i (Star e) m h = formed_prod i (residual e m) (Star e) (formed_residual i e m h) h
  formed_residual i (Var k) m h = refl

  formed_closed : (i : ℕ) (e : Pat) → tags_below (s.tags i) e ≡ true → is_closed e ≡ true → is_formed s i e ≡ true
  formed_closed i Zero t c = refl
  formed_closed i One t c = refl
  formed_closed i (Tag m) t c = t
  formed_closed i (Sum e f) t c =
      let a = and_parts (tags_below (s.tags i) e) (tags_below (s.tags i) f) t in
      let b = and_parts (is_closed e) (is_closed f) c in
      and_from (is_formed s i e) (is_formed s i f) (formed_closed i e a.0 b.0) (formed_closed i f a.1 b.1)
  formed_closed i (Prod e f) t c =
      let a = and_parts (tags_below (s.tags i) e) (tags_below (s.tags i) f) t in
      let b = and_parts (is_closed e) (is_closed f) c in
      and_from (is_formed s i e) (is_formed s i f) (formed_closed i e a.0 b.0) (formed_closed i f a.1 b.1)
  formed_closed i (Star e) t c = formed_closed i e t c
  formed_closed i (Var k) t c = cc

  -- ---- types and environments

  pub formed_none : Formed s None
  formed_none a e = cc

  pub formed_some : (i : ℕ) (q : Polarity) (e : Pat) (u : Usage) → is_formed s i e ≡ true → Formed s (Some (mailbox_type i q e u))
  formed_some i q e u h a same =
      let is : mailbox_type i q e u ≡ a = cc in subst (λ (b : MailboxType). is_formed s b.interface b.pattern ≡ true) is h

  pub formed_type : (x : ℕ) (a : MailboxType) (g : TypeEnv) → Formed s (Some a) → EnvFormed s g → EnvFormed s (with_type x a g)
  formed_type x a g h k z = cond_both (nat_eq x z) (Some a) (g z) (Formed s) (λ _. h) (λ _. k z)

  pub formed_without : (x : ℕ) (g : TypeEnv) → EnvFormed s g → EnvFormed s (without x g)
  formed_without x g k z = cond_both (nat_eq x z) None (g z) (Formed s) (λ _. formed_none) (λ _. k z)

  pub formed_without_name : (x : Option ℕ) (g : TypeEnv) → EnvFormed s g → EnvFormed s (without_name x g)
  formed_without_name None g k = k
  formed_without_name (Some x) g k = formed_without x g k

  formed_option : (x : ℕ) (o : Option MailboxType) (g : TypeEnv) → Formed s o → EnvFormed s g → EnvFormed s (with_option x o g)
  formed_option x None g h k = k
  formed_option x (Some a) g h k = formed_type x a g h k

  pub formed_args : (types : TypeEnv) (k : ℕ) (es : List Expr) → EnvFormed s types → EnvFormed s (args_need types k es)
  formed_args types k [] h = λ z. formed_none
  formed_args types k (VarExpr x ∷ es) h =
      formed_option x (types k) (args_need types (suc k) es) (h k) (formed_args types (suc k) es h)
  formed_args types k (Literal c ∷ es) h = formed_args types (suc k) es h
  formed_args types k (OpExpr op a b ∷ es) h = formed_args types (suc k) es h

  formed_payloads : (types : TypeEnv) (k : ℕ) (xs : List ℕ) (g : TypeEnv) → EnvFormed s types → EnvFormed s g → EnvFormed s (with_payloads types k xs g)
  formed_payloads types k [] g h f = f
  formed_payloads types k (x ∷ xs) g h f =
      formed_option x (types k) (with_payloads types (suc k) xs g) (h k) (formed_payloads types (suc k) xs g h f)

  pub formed_clause : (g : TypeEnv) (x i : ℕ) (e : Pat) (decl : TagDecl) (r : Clause) → EnvFormed s g → EnvFormed s (payload_type decl) → is_formed s i e ≡ true → EnvFormed s (clause_env g x i e decl r)
  formed_clause g x i e decl r f h k =
      formed_type r.from (mailbox_type i Receiving (residual e r.tag) Returnable) (with_payloads (payload_type decl) 0 r.vars (without x g))
      (formed_some i Receiving (residual e r.tag) Returnable (formed_residual i e r.tag k))
      (formed_payloads (payload_type decl) 0 r.vars (without x g) h (formed_without x g f))

  pub formed_returnable : (o : Option MailboxType) → Formed s o → Formed s (returnable o)
  formed_returnable None h = formed_none
  formed_returnable (Some a) h = formed_some a.interface a.polarity a.pattern Returnable (h a refl)

-- ---- written patterns

module _ (p : Program) (w : WellFormed p) (d : Derivation) where
  pub formed_written : (i : ℕ) (e : Pat) → IsPatternOf p i e → is_formed (scope_of p d) i e ≡ true
  formed_written i e h =
      formed_closed (scope_of p d) i e (subst (λ o. tags_below (tag_count o) e ≡ true) (sym h.there) h.tags) h.closed

  formed_payload : (a : Sort) → IsPayload p a → Formed (scope_of p d) (payload_sort a)
  formed_payload (BaseSort b) h = formed_none (scope_of p d)
  formed_payload (MailboxSort i q None) h = formed_none (scope_of p d)
  formed_payload (MailboxSort i Sending (Some e)) h = formed_some (scope_of p d) i Sending e Second (formed_written i e h.0)
  formed_payload (MailboxSort i Receiving (Some e)) h = formed_some (scope_of p d) i Receiving e Second (formed_written i e h)

  pub formed_declared : (i m : ℕ) (decl : TagDecl) → tag_at p i m ≡ Some decl → EnvFormed (scope_of p d) (payload_type decl)
  formed_declared i m decl at k = go (slice_get decl.payloads k) refl
    where
      go : (o : Option Sort) → slice_get decl.payloads k ≡ o → Formed (scope_of p d) (option_and_then payload_sort o)
      go None q = formed_none (scope_of p d)
      go (Some a) q = formed_payload a (all_at (IsPayload p) decl.payloads k a (declared_payloads p w i m decl at) q)

  -- ---- variables

  module _ (interfaces : map (λ (v : VarLine). v.interface) d.vars ≡ map (λ (v : Variable). v.interface) (all_vars p)) where
    at_map : {A : Type 0} (f : A → ℕ) (xs : List A) (j : ℕ) (a : A) → slice_get xs j ≡ Some a → slice_get (map f xs) j ≡ Some (f a)
    at_map f [] j a h = cc
    at_map f (x ∷ xs) zero a h = let q : x ≡ a = cc in ap (λ b. Some (f b)) q
    at_map f (x ∷ xs) (suc j) a h = at_map f xs j a h

    from_map : (vs : List VarLine) (j i : ℕ) → slice_get (map (λ (v : VarLine). v.interface) vs) j ≡ Some i → has_interface i (slice_get vs j) ≡ true
    from_map [] j i h = cc
    from_map (v ∷ vs) zero i h = let q : v.interface ≡ i = cc in eq-eqb v.interface i q
    from_map (v ∷ vs) (suc j) i h = from_map vs j i h

    pub formed_var : (i k : ℕ) (v : Variable) → IsNumber (all_vars p) k v → v.interface ≡ i → is_formed (scope_of p d) i (Var k) ≡ true
    formed_var i k v h same =
        subst (λ j. has_interface i (var_at d.vars j) ≡ true) (sym h.1)
        (from_map d.vars h.0 i
        (ap (λ xs. slice_get xs h.0) interfaces ∙ at_map (λ (u : Variable). u.interface) (all_vars p) h.0 v h.2 ∙ ap (λ j. Some j) same))

    pub tag_below : (i m : ℕ) (decl : TagDecl) → tag_at p i m ≡ Some decl → nat_lt m (tag_count (slice_get p.interfaces i)) ≡ true
    tag_below i m decl = go (slice_get p.interfaces i)
      where
        go : (o : Option Interface) → option_and_then (λ (j : Interface). slice_get j.tags m) o ≡ Some decl → nat_lt m (tag_count o) ≡ true
        go None h = cc
        go (Some j) h = lt-ltb m (length j.tags) (slice_get_within j.tags m decl h)

    pub formed_fits : (i : ℕ) (e : Pat) → shapes.PatternFits p (all_vars p) i e → is_formed (scope_of p d) i e ≡ true
    formed_fits i Zero h = refl
    formed_fits i One h = refl
    formed_fits i (Tag m) h = tag_below i m h.0 h.1
    formed_fits i (Sum e f) h = and_from (is_formed (scope_of p d) i e) (is_formed (scope_of p d) i f) (formed_fits i e h.0) (formed_fits i f h.1)
    formed_fits i (Prod e f) h = and_from (is_formed (scope_of p d) i e) (is_formed (scope_of p d) i f) (formed_fits i e h.0) (formed_fits i f h.1)
    formed_fits i (Star e) h = formed_fits i e h
    formed_fits i (Var k) h = formed_var i k h.0 h.1 h.2

    -- ---- signatures

    formed_sort : (k i : ℕ) (q : Polarity) (o : Origin) → Numbered (IsNumber (all_vars p)) k (omitted o (MailboxSort i q None)) → is_formed (scope_of p d) i (Var k) ≡ true
    formed_sort k i q o h = formed_var i k (record { interface = i; polarity = q; origin = o }) h.0 refl

    sort_formed : (k : ℕ) (a : Sort) (o : Origin) → IsSignature p a → Numbered (IsNumber (all_vars p)) k (omitted o a) → Formed (scope_of p d) (sort_type (Var k) a)
    sort_formed k (BaseSort b) o h n = formed_none (scope_of p d)
    sort_formed k (MailboxSort i q None) o h n = formed_some (scope_of p d) i q (Var k) (param_usage q) (formed_sort k i q o n)
    sort_formed k (MailboxSort i Sending (Some e)) o h n = formed_some (scope_of p d) i Sending e (param_usage Sending) (formed_written i e h.0)
    sort_formed k (MailboxSort i Receiving (Some e)) o h n = formed_some (scope_of p d) i Receiving e (param_usage Receiving) (formed_written i e h)

    gives_formed : (k : ℕ) (a : Sort) (o : Origin) → IsSignature p a → Numbered (IsNumber (all_vars p)) k (omitted o a) → FormedType (scope_of p d) (result_of (Var k) a)
    gives_formed k (BaseSort b) o h n = tt
    gives_formed k (MailboxSort i q None) o h n = formed_sort k i q o n
    gives_formed k (MailboxSort i Sending (Some e)) o h n = formed_written i e h.0
    gives_formed k (MailboxSort i Receiving (Some e)) o h n = formed_written i e h

    module _ (f : ℕ) (g : Function) (at : function_at p f ≡ Some g) where
      numbers : SignatureNumbered (IsNumber (all_vars p)) p f g
      numbers = signature_numbered (IsNumber (all_vars p)) p (numbered_parts (IsNumber (all_vars p)) 1 (signature_vars p) (inferred p).vars (all_numbers (all_vars p))).0 f g at

      pub formed_params : EnvFormed (scope_of p d) (param_type (written_typing p d) f g)
      formed_params k = go (slice_get g.params k) refl
        where
          number : ℕ
          number = number_at (first_number p f) g.params k

          by : (o : Option Sort) → slice_get g.params k ≡ o → Formed (scope_of p d) (option_and_then (sort_type (Var number)) o)
          by None q = formed_none (scope_of p d)
          by (Some a) q =
              sort_formed number a (OfParameter f k) (all_at (IsSignature p) g.params k a (w.functions f g at).signature.0 q) (numbers.params k a q)

          go : (o : Option Sort) → slice_get g.params k ≡ o → Formed (scope_of p d) (option_and_then (sort_type (param_pattern_open p f k (function_at p f))) o)
          go o q = subst (λ h. Formed (scope_of p d) (option_and_then (sort_type (param_pattern_open p f k h)) o)) (sym at) (by o q)

      pub formed_gives : FormedType (scope_of p d) (result_type (written_typing p d) f g)
      formed_gives =
          subst (λ h. FormedType (scope_of p d) (result_of (result_pattern_open p f h) g.result)) (sym at)
          (gives_formed (result_number (first_number p f) g) g.result (OfResult f) (w.functions f g at).signature.1 numbers.result)
