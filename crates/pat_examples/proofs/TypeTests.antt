-- A test of typings that computes: where it passes, they type the program. It finds inclusions by residuals.
use Rattle.std.proofs.Common.{◌≡◌, ℕ, zero, suc, ◌<◌, ◌≤◌, Bool, true, false, not, ◌||◌, ◌&&◌, nat_eq, if◌then◌else◌, List, [], ◌∷◌, length, Option, Some, None, refl, sym, ap, ◌∙◌, subst, arith, ◌⊎◌, inl, inr, ⊎_elim}
use Rattle.std.specs.Prelude.{slice_get, nat_lt, is_some, option_and_then}
use Rattle.std.specs.List.{list_any}
use Rattle.std.proofs.lemmas.Bool.{and_parts, or_cases, or_parts, eqb-true, ne_eqb, cond-false, cases_Bool}
use Rattle.std.proofs.lemmas.Option.{slice_get_past}
use Rattle.pat_words_spec.specs.Patterns.{Pat, Tag, Prod, In, pat_eq, covers, residual, is_nullable, is_inhabited}
use Rattle.pat_words_laws.proofs.PatternLaws.{pat_eq_same, nullable_to, inhabited_to}
use Rattle.pat_words_laws.proofs.CoverLaws.{covers_to}
use Rattle.pat_semantics_spec.specs.Values.{BaseUnit, Kind, MailboxOf, Expr, VarExpr, Literal, OpExpr}
use Rattle.pat_semantics_spec.specs.Programs.{Program, Polarity, Sending, Receiving, Sort, TagDecl, Function, Clause, Core, Val, Let, Call, If, Print, New, Send, Spawn, Guard, Node, node_at, function_at, tag_at, is_among, clause_binders}
use Rattle.pat_type_system_spec.specs.Types.{Usage, Second, Returnable, MailboxType, TypeOf, BaseTerm, MailboxTerm, kind_of_type, mailbox_type, UsageFits, PatternFits, Fits, TypeFits, MayDrop, TypeEnv, PassesTo, EnvPasses, PatternJoins, Joins, SplitsTo, EnvSplits, no_types, with_type, without, returnable}
use Rattle.pat_type_system_spec.specs.Typings.{Typing, param_type, result_type, payload_sort, payload_type, with_option, args_need, mailbox_args, with_payloads, clause_env, HasMailboxPayload, ClauseTyped, is_received, NamePasses, ValueTyped, without_name, name_type, NewTyped, CoreTyped, HasWord, TypeHasWord, NodeTyped, FunctionTyped, IsTyping, IsTypable, sort_type}
use Rattle.pat_semantics_laws.proofs.Lists.{clash}
use Rattle.pat_examples.specs.safety.Unsafe.{TypedBut}
use Rattle.pat_examples.proofs.Tests.{all_upto, upto, all_of, all_true, all_from, at_each, all_differ, differ, below_true, asked}
use Rattle.pat_examples.proofs.Inclusion.{includes, includes_to}
use Rattle.pat_examples.proofs.KindTests.{base_eq, base_same, kind_eq, kind_same, is_kind, kind_is}

-- ---- a typing from lists

-- the type of a variable in a list of types
abbrev pub types_in : List (ℕ × MailboxType) → TypeEnv
types_in [] x = None
types_in (e ∷ es) x = if nat_eq e.0 x then Some e.1 else types_in es x

-- what stands at a place of a list, if there is one
abbrev pub result_in : List (TypeOf × List (ℕ × MailboxType)) → ℕ → TypeOf
result_in [] n = BaseTerm BaseUnit
result_in (l ∷ ls) zero = l.0
result_in (l ∷ ls) (suc n) = result_in ls n

-- the environment of a node, by its line
abbrev pub env_in : List (TypeOf × List (ℕ × MailboxType)) → ℕ → TypeEnv
env_in [] n = no_types
env_in (l ∷ ls) zero = types_in l.1
env_in (l ∷ ls) (suc n) = env_in ls n

-- the typing with these lines, one a node, and with these patterns of parameters and results
abbrev pub typing_of : List (TypeOf × List (ℕ × MailboxType)) → (ℕ → ℕ → Pat) → (ℕ → Pat) → Typing
typing_of lines params results = record {
  results = result_in lines;
  envs = env_in lines;
  param_patterns = params;
  result_patterns = results;
}

-- ---- environments that name no variable from m on

-- g names no variable from m on
abbrev pub Bounded : ℕ → TypeEnv → Type 0
Bounded m g = (x : ℕ) → m ≤ x → g x ≡ None

pub none_bounded : (m : ℕ) → Bounded m no_types
none_bounded m x l = refl

pub with_bounded : (m x : ℕ) (a : MailboxType) (g : TypeEnv) → x < m → Bounded m g → Bounded m (with_type x a g)
with_bounded m x a g below b z l =
    cond-false (nat_eq x z) (Some a) (g z) (ne_eqb x z (λ e. omega arith)) ∙ b z l

pub without_bounded : (m x : ℕ) (g : TypeEnv) → Bounded m g → Bounded m (without x g)
without_bounded m x g b z l =
    elim (nat_eq x z) as (λ t. (if t then None else g z) ≡ None) [ true ↦ refl | false ↦ b z l ]

option_bounded : (m x : ℕ) (o : Option MailboxType) (g : TypeEnv) → x < m → Bounded m g → Bounded m (with_option x o g)
option_bounded m x None g below b = b
option_bounded m x (Some a) g below b = with_bounded m x a g below b

-- the variables that are arguments by themselves are below m
abbrev pub arg_below : ℕ → Expr → Bool
arg_below m (VarExpr x) = nat_lt x m
arg_below m _ = true

pub args_bounded : (m : ℕ) (types : TypeEnv) (k : ℕ) (es : List Expr) → all_of (arg_below m) es ≡ true → Bounded m (args_need types k es)
args_bounded m types k [] h = none_bounded m
args_bounded m types k (VarExpr x ∷ es) h =
    let both = and_parts (nat_lt x m) (all_of (arg_below m) es) h in
    option_bounded m x (types k) (args_need types (suc k) es) (below_true x m both.0) (args_bounded m types (suc k) es both.1)
args_bounded m types k (Literal c ∷ es) h = args_bounded m types (suc k) es (and_parts true (all_of (arg_below m) es) h).1
args_bounded m types k (OpExpr op a b ∷ es) h = args_bounded m types (suc k) es (and_parts true (all_of (arg_below m) es) h).1

pub payloads_bounded : (m : ℕ) (types : TypeEnv) (k : ℕ) (xs : List ℕ) (g : TypeEnv) → all_of (λ x. nat_lt x m) xs ≡ true → Bounded m g → Bounded m (with_payloads types k xs g)
payloads_bounded m types k [] g h b = b
payloads_bounded m types k (x ∷ xs) g h b =
    let both = and_parts (nat_lt x m) (all_of (λ x. nat_lt x m) xs) h in
    option_bounded m x (types k) (with_payloads types (suc k) xs g) (below_true x m both.0) (payloads_bounded m types (suc k) xs g both.1 b)

name_bounded : (m : ℕ) (x : Option ℕ) (g : TypeEnv) → Bounded m g → Bounded m (without_name x g)
name_bounded m None g b = b
name_bounded m (Some x) g b = without_bounded m x g b

returnable_bounded : (m : ℕ) (g : TypeEnv) → Bounded m g → Bounded m (λ x. returnable (g x))
returnable_bounded m g b x l = ap returnable (b x l)

pub list_bounded : (m : ℕ) (es : List (ℕ × MailboxType)) → all_of (λ e. nat_lt e.0 m) es ≡ true → Bounded m (types_in es)
list_bounded m [] h x l = refl
list_bounded m (e ∷ es) h x l =
    let both = and_parts (nat_lt e.0 m) (all_of (λ e. nat_lt e.0 m) es) h in
    let below = below_true e.0 m both.0 in
    cond-false (nat_eq e.0 x) (Some e.1) (types_in es x) (ne_eqb e.0 x (λ q. omega arith)) ∙ list_bounded m es both.1 x l

pub lines_bounded : (m : ℕ) (ls : List (TypeOf × List (ℕ × MailboxType))) → all_of (λ l. all_of (λ e. nat_lt e.0 m) l.1) ls ≡ true → (n : ℕ) → Bounded m (env_in ls n)
lines_bounded m [] h n = none_bounded m
lines_bounded m (l ∷ ls) h zero = list_bounded m l.1 (and_parts (all_of (λ e. nat_lt e.0 m) l.1) (all_of (λ l. all_of (λ e. nat_lt e.0 m) l.1) ls) h).0
lines_bounded m (l ∷ ls) h (suc n) = lines_bounded m ls (and_parts (all_of (λ e. nat_lt e.0 m) l.1) (all_of (λ l. all_of (λ e. nat_lt e.0 m) l.1) ls) h).1 n

-- ---- types

-- the same polarity
abbrev pub pole_eq : Polarity → Polarity → Bool
pole_eq Sending Sending = true
pole_eq Receiving Receiving = true
pole_eq _ _ = false

pole_same : (p q : Polarity) → pole_eq p q ≡ true → p ≡ q
pole_same Sending Sending h = refl
pole_same Receiving Receiving h = refl
pole_same Sending Receiving h = cc
pole_same Receiving Sending h = cc

-- the same type
abbrev pub type_eq : TypeOf → TypeOf → Bool
type_eq (BaseTerm a) (BaseTerm b) = base_eq a b
type_eq (MailboxTerm i q e) (MailboxTerm j r f) = nat_eq i j && (pole_eq q r && pat_eq e f)
type_eq _ _ = false

type_same : (s t : TypeOf) → type_eq s t ≡ true → s ≡ t
type_same (BaseTerm a) (BaseTerm b) h = ap (λ x. BaseTerm x) (base_same a b h)
type_same (MailboxTerm i q e) (MailboxTerm j r f) h =
    let a = and_parts (nat_eq i j) (pole_eq q r && pat_eq e f) h in
    let b = and_parts (pole_eq q r) (pat_eq e f) a.1 in
    ap (λ x. MailboxTerm x q e) (eqb-true i j a.0) ∙ ap (λ x. MailboxTerm j x e) (pole_same q r b.0) ∙ ap (λ x. MailboxTerm j r x) (pat_eq_same e f b.1)
type_same (BaseTerm a) (MailboxTerm j r f) h = cc
type_same (MailboxTerm i q e) (BaseTerm b) h = cc

-- a returnable mailbox may stand for a second-class one
abbrev pub usage_fits : Usage → Usage → Bool
usage_fits Second Returnable = false
usage_fits _ _ = true

fits_usage : (a b : Usage) → usage_fits a b ≡ true → UsageFits a b
fits_usage Second Second h = tt
fits_usage Second Returnable h = cc
fits_usage Returnable Second h = tt
fits_usage Returnable Returnable h = tt

-- inclusions are looked for so many messages deep, among so many tags
module _ (depth tags : ℕ) where
  abbrev pub pattern_fits : Polarity → Pat → Pat → Bool
  pattern_fits Sending e f = includes depth tags f e
  pattern_fits Receiving e f = includes depth tags e f

  fits_pattern : (q : Polarity) (e f : Pat) → pattern_fits q e f ≡ true → PatternFits q e f
  fits_pattern Sending e f h = includes_to depth tags f e h
  fits_pattern Receiving e f h = includes_to depth tags e f h

  abbrev pub fits_test : MailboxType → MailboxType → Bool
  fits_test a b =
      nat_eq a.interface b.interface && (pole_eq a.polarity b.polarity && (usage_fits a.usage b.usage && pattern_fits b.polarity a.pattern b.pattern))

  pub fits : (a b : MailboxType) → fits_test a b ≡ true → Fits a b
  fits a b h =
      let t1 = nat_eq a.interface b.interface in
      let t2 = pole_eq a.polarity b.polarity in
      let t3 = usage_fits a.usage b.usage in
      let t4 = pattern_fits b.polarity a.pattern b.pattern in
      let x = and_parts t1 (t2 && (t3 && t4)) h in
      let y = and_parts t2 (t3 && t4) x.1 in
      let z = and_parts t3 t4 y.1 in
      record {
        interface = eqb-true a.interface b.interface x.0;
        polarity = pole_same a.polarity b.polarity y.0;
        usage = fits_usage a.usage b.usage z.0;
        pattern = fits_pattern b.polarity a.pattern b.pattern z.1;
      }

  abbrev pub type_fits : TypeOf → TypeOf → Bool
  type_fits (BaseTerm a) (BaseTerm b) = base_eq a b
  type_fits (MailboxTerm i q e) (MailboxTerm j r f) = fits_test (mailbox_type i q e Returnable) (mailbox_type j r f Returnable)
  type_fits _ _ = false

  fits_type : (s t : TypeOf) → type_fits s t ≡ true → TypeFits s t
  fits_type (BaseTerm a) (BaseTerm b) h = base_same a b h
  fits_type (MailboxTerm i q e) (MailboxTerm j r f) h = fits (mailbox_type i q e Returnable) (mailbox_type j r f Returnable) h
  fits_type (BaseTerm a) (MailboxTerm j r f) h = cc
  fits_type (MailboxTerm i q e) (BaseTerm b) h = cc

  abbrev pub drops : Polarity → Pat → Bool
  drops Sending e = is_nullable e
  drops Receiving e = false

  may_drop : (i : ℕ) (q : Polarity) (e : Pat) (u : Usage) → drops q e ≡ true → MayDrop (mailbox_type i q e u)
  may_drop i Sending e u h = nullable_to e h
  may_drop i Receiving e u h = cc

  abbrev pub passes : Option MailboxType → Option MailboxType → Bool
  passes None None = true
  passes None (Some b) = false
  passes (Some a) None = drops a.polarity a.pattern
  passes (Some a) (Some b) = fits_test a b

  passes_to : (a b : Option MailboxType) → passes a b ≡ true → PassesTo a b
  passes_to None None h = tt
  passes_to None (Some b) h = cc
  passes_to (Some a) None h = may_drop a.interface a.polarity a.pattern a.usage h
  passes_to (Some a) (Some b) h = fits a b h

  abbrev pub joins_by : Polarity → Polarity → Polarity → Pat → Pat → Pat → Bool
  joins_by Sending Sending Sending e1 e2 e = includes depth tags (Prod e1 e2) e
  joins_by Sending Receiving Receiving e1 e2 e = includes depth tags (Prod e1 e) e2
  joins_by Receiving Sending Receiving e1 e2 e = includes depth tags (Prod e2 e) e1
  joins_by _ _ _ e1 e2 e = false

  by_joins : (q r s : Polarity) (e1 e2 e : Pat) → joins_by q r s e1 e2 e ≡ true → PatternJoins q r s e1 e2 e
  by_joins Sending Sending Sending e1 e2 e h = includes_to depth tags (Prod e1 e2) e h
  by_joins Sending Receiving Receiving e1 e2 e h = includes_to depth tags (Prod e1 e) e2 h
  by_joins Receiving Sending Receiving e1 e2 e h = includes_to depth tags (Prod e2 e) e1 h
  by_joins Sending Sending Receiving e1 e2 e h = cc
  by_joins Sending Receiving Sending e1 e2 e h = cc
  by_joins Receiving Sending Sending e1 e2 e h = cc
  by_joins Receiving Receiving Sending e1 e2 e h = cc
  by_joins Receiving Receiving Receiving e1 e2 e h = cc

  abbrev pub is_second : Usage → Bool
  is_second Second = true
  is_second Returnable = false

  second : (u : Usage) → is_second u ≡ true → u ≡ Second
  second Second h = refl
  second Returnable h = cc

  abbrev pub joins_test : MailboxType → MailboxType → MailboxType → Bool
  joins_test b c a =
      nat_eq b.interface a.interface && (nat_eq c.interface a.interface && (is_second b.usage && (usage_fits a.usage c.usage && joins_by b.polarity c.polarity a.polarity b.pattern c.pattern a.pattern)))

  joins : (b c a : MailboxType) → joins_test b c a ≡ true → Joins b c a
  joins b c a h =
      let t1 = nat_eq b.interface a.interface in
      let t2 = nat_eq c.interface a.interface in
      let t3 = is_second b.usage in
      let t4 = usage_fits a.usage c.usage in
      let t5 = joins_by b.polarity c.polarity a.polarity b.pattern c.pattern a.pattern in
      let x = and_parts t1 (t2 && (t3 && (t4 && t5))) h in
      let y = and_parts t2 (t3 && (t4 && t5)) x.1 in
      let z = and_parts t3 (t4 && t5) y.1 in
      let w = and_parts t4 t5 z.1 in
      record {
        bound_interface = eqb-true b.interface a.interface x.0;
        body_interface = eqb-true c.interface a.interface y.0;
        bound_usage = second b.usage z.0;
        usage = fits_usage a.usage c.usage w.0;
        pattern = by_joins b.polarity c.polarity a.polarity b.pattern c.pattern a.pattern w.1;
      }

  abbrev pub splits : Option MailboxType → Option MailboxType → Option MailboxType → Bool
  splits None None None = true
  splits (Some a) None None = drops a.polarity a.pattern
  splits (Some a) (Some b) None = fits_test a b
  splits (Some a) None (Some c) = fits_test a c
  splits (Some a) (Some b) (Some c) = joins_test b c a
  splits None _ _ = false

  splits_to : (a b c : Option MailboxType) → splits a b c ≡ true → SplitsTo a b c
  splits_to None None None h = tt
  splits_to (Some a) None None h = may_drop a.interface a.polarity a.pattern a.usage h
  splits_to (Some a) (Some b) None h = fits a b h
  splits_to (Some a) None (Some c) h = fits a c h
  splits_to (Some a) (Some b) (Some c) h = joins b c a h
  splits_to None (Some b) None h = cc
  splits_to None None (Some c) h = cc
  splits_to None (Some b) (Some c) h = cc

  -- ---- environments; m is above all variables

  module _ (m : ℕ) where
    below_or : (x n : ℕ) → (x < n) ⊎ (n ≤ x)
    below_or x zero = inr (omega arith)
    below_or zero (suc n) = inl (omega arith)
    below_or (suc x) (suc n) = ⊎_elim (λ l. inl (omega arith)) (λ r. inr (omega arith)) (below_or x n)

    abbrev pub env_passes : TypeEnv → TypeEnv → Bool
    env_passes g h = all_upto m (λ x. passes (g x) (h x))

    pub passes_env : (g h : TypeEnv) → Bounded m g → Bounded m h → env_passes g h ≡ true → EnvPasses g h
    passes_env g h bg bh t x =
        ⊎_elim
        (λ l. passes_to (g x) (h x) (upto m (λ x. passes (g x) (h x)) t x l))
        (λ r. subst (λ o. PassesTo (g x) o) (sym (bh x r)) (subst (λ o. PassesTo o None) (sym (bg x r)) tt))
        (below_or x m)

    abbrev pub env_splits : TypeEnv → TypeEnv → TypeEnv → Bool
    env_splits g b c = all_upto m (λ x. splits (g x) (b x) (c x))

    splits_env : (g b c : TypeEnv) → Bounded m g → Bounded m b → Bounded m c → env_splits g b c ≡ true → EnvSplits g b c
    splits_env g b c bg bb bc t x =
        ⊎_elim
        (λ l. splits_to (g x) (b x) (c x) (upto m (λ x. splits (g x) (b x) (c x)) t x l))
        (λ r. subst (λ o. SplitsTo (g x) (b x) o) (sym (bc x r)) (subst (λ o. SplitsTo (g x) o None) (sym (bb x r)) (subst (λ o. SplitsTo o None None) (sym (bg x r)) tt)))
        (below_or x m)

    -- ---- terms

    module _ (p : Program) (y : Typing) where
      abbrev pub value_typed : TypeOf → Expr → TypeEnv → Bool
      value_typed (BaseTerm b) e g = env_passes g no_types
      value_typed (MailboxTerm i q f) (VarExpr x) g = nat_lt x m && env_passes g (with_type x (mailbox_type i q f Returnable) no_types)
      value_typed (MailboxTerm i q f) _ g = false

      is_value : (t : TypeOf) (e : Expr) (g : TypeEnv) → Bounded m g → value_typed t e g ≡ true → ValueTyped t e g
      is_value (BaseTerm b) e g bg h = passes_env g no_types bg (none_bounded m) h
      is_value (MailboxTerm i q f) (VarExpr x) g bg h =
          let both = and_parts (nat_lt x m) (env_passes g (with_type x (mailbox_type i q f Returnable) no_types)) h in
          passes_env g (with_type x (mailbox_type i q f Returnable) no_types) bg (with_bounded m x (mailbox_type i q f Returnable) no_types (below_true x m both.0) (none_bounded m)) both.1
      is_value (MailboxTerm i q f) (Literal c) g bg h = cc
      is_value (MailboxTerm i q f) (OpExpr op a b) g bg h = cc

      abbrev pub name_passes : TypeOf → Option MailboxType → Bool
      name_passes (BaseTerm b) o = not (is_some o)
      name_passes (MailboxTerm i q e) (Some a) = nat_eq a.interface i && (pole_eq a.polarity q && pat_eq a.pattern e)
      name_passes (MailboxTerm i q e) None = drops q e

      is_mailbox_passed : (t : TypeOf) (o : Option MailboxType) → name_passes t o ≡ true → NamePasses t o
      is_mailbox_passed (BaseTerm b) None h = refl
      is_mailbox_passed (BaseTerm b) (Some a) h = cc
      is_mailbox_passed (MailboxTerm i q e) (Some a) h =
          let x = and_parts (nat_eq a.interface i) (pole_eq a.polarity q && pat_eq a.pattern e) h in
          let z = and_parts (pole_eq a.polarity q) (pat_eq a.pattern e) x.1 in
          (eqb-true a.interface i x.0, pole_same a.polarity q z.0, pat_eq_same a.pattern e z.1)
      is_mailbox_passed (MailboxTerm i q e) None h = may_drop i q e Returnable h

      abbrev pub new_typed : ℕ → TypeOf → Bool
      new_typed i (MailboxTerm j Receiving e) = nat_eq i j && is_nullable e
      new_typed i _ = false

      is_new : (i : ℕ) (t : TypeOf) → new_typed i t ≡ true → NewTyped i t
      is_new i (MailboxTerm j Receiving e) h =
          let both = and_parts (nat_eq i j) (is_nullable e) h in
          (eqb-true i j both.0, λ w e'. subst (In e) (sym e') (nullable_to e both.1))
      is_new i (MailboxTerm j Sending e) h = cc
      is_new i (BaseTerm b) h = cc

      abbrev pub call_typed : TypeEnv → TypeOf → ℕ → List Expr → Option Function → Bool
      call_typed g t f args None = false
      call_typed g t f args (Some h) =
          all_of (arg_below m) args && (all_differ nat_eq (mailbox_args (param_type y f h) 0 args) && (env_passes g (args_need (param_type y f h) 0 args) && type_fits (result_type y f h) t))

      abbrev pub payload_typed : TypeEnv → ℕ → ℕ → ℕ → List Expr → Option TagDecl → Bool
      payload_typed g i x t args None = false
      payload_typed g i x t args (Some decl) =
          all_of (arg_below m) args && (all_differ nat_eq (x ∷ mailbox_args (payload_type decl) 0 args) && env_passes g (with_type x (mailbox_type i Sending (Tag t) Second) (args_need (payload_type decl) 0 args)))

      abbrev pub send_typed : TypeEnv → ℕ → ℕ → List Expr → Option MailboxType → Bool
      send_typed g x t args None = false
      send_typed g x t args (Some a) = nat_lt x m && payload_typed g a.interface x t args (tag_at p a.interface t)

      -- ---- guards

      abbrev pub has_payload : TagDecl → Bool
      has_payload decl = list_any (λ s. is_some (payload_sort s)) decl.payloads

      none_at : (ss : List Sort) (k : ℕ) → list_any (λ s. is_some (payload_sort s)) ss ≡ false → is_some (option_and_then payload_sort (slice_get ss k)) ≡ false
      none_at [] k off = refl
      none_at (s ∷ ss) zero off = (or_parts (is_some (payload_sort s)) (list_any (λ s. is_some (payload_sort s)) ss) off).0
      none_at (s ∷ ss) (suc k) off = none_at ss k (or_parts (is_some (payload_sort s)) (list_any (λ s. is_some (payload_sort s)) ss) off).1

      abbrev pub own_alone : TagDecl → Clause → Bool
      own_alone decl r = not (has_payload decl) || all_upto m (λ z. not (is_some (y.envs r.body z)) || is_among z (clause_binders r))

      is_own : (bounded : (n : ℕ) → Bounded m (y.envs n)) → (decl : TagDecl) (r : Clause) → own_alone decl r ≡ true → HasMailboxPayload decl → (z : ℕ) → is_some (y.envs r.body z) ≡ true → is_among z (clause_binders r) ≡ true
      is_own bounded decl r h has z some =
          let test : ℕ → Bool = λ z. not (is_some (y.envs r.body z)) || is_among z (clause_binders r) in
          let payload : has_payload decl ≡ true = ⊎_elim (λ on. on) (λ off. absurd (clash has.1 (none_at decl.payloads has.0 off))) (cases_Bool (has_payload decl)) in
          let below : z < m = ⊎_elim (λ l. l) (λ r'. absurd (clash some (ap is_some (bounded r.body z r')))) (below_or z m) in
          asked (is_some (y.envs r.body z)) (is_among z (clause_binders r)) (upto m test (asked (has_payload decl) (all_upto m test) h payload) z below) some

      abbrev pub clause_with : TypeEnv → TypeOf → ℕ → ℕ → Pat → Clause → Option TagDecl → Bool
      clause_with g t x i e r None = false
      clause_with g t x i e r (Some decl) =
          nat_lt r.from m && (all_of (λ x. nat_lt x m) r.vars && (type_eq (y.results r.body) t && (env_passes (clause_env g x i e decl r) (y.envs r.body) && own_alone decl r)))

      abbrev pub clause_typed : TypeEnv → TypeOf → ℕ → ℕ → Pat → Clause → Bool
      clause_typed g t x i e r = clause_with g t x i e r (tag_at p i r.tag)

      pub is_clause : (bounded : (n : ℕ) → Bounded m (y.envs n)) → (g : TypeEnv) (t : TypeOf) (x i : ℕ) (e : Pat) → Bounded m g → (r : Clause) → clause_typed g t x i e r ≡ true → ClauseTyped p y g t x i e r
      is_clause bounded g t x i e bg r h = go (tag_at p i r.tag) refl h
        where
          go : (o : Option TagDecl) → tag_at p i r.tag ≡ o → clause_with g t x i e r o ≡ true → ClauseTyped p y g t x i e r
          go None q w = cc
          go (Some decl) q w =
              let t1 = nat_lt r.from m in
              let t2 = all_of (λ x. nat_lt x m) r.vars in
              let t3 = type_eq (y.results r.body) t in
              let t4 = env_passes (clause_env g x i e decl r) (y.envs r.body) in
              let t5 = own_alone decl r in
              let a = and_parts t1 (t2 && (t3 && (t4 && t5))) w in
              let b = and_parts t2 (t3 && (t4 && t5)) a.1 in
              let c = and_parts t3 (t4 && t5) b.1 in
              let d = and_parts t4 t5 c.1 in
              let inner = payloads_bounded m (payload_type decl) 0 r.vars (without x g) b.0 (without_bounded m x g bg) in
              record {
                decl = decl;
                declared = q;
                result = type_same (y.results r.body) t c.0;
                passes = passes_env (clause_env g x i e decl r) (y.envs r.body)
                    (with_bounded m r.from (mailbox_type i Receiving (residual e r.tag) Returnable) (with_payloads (payload_type decl) 0 r.vars (without x g)) (below_true r.from m a.0) inner) (bounded r.body) d.0;
                own_names = is_own bounded decl r d.1;
              }

      abbrev pub free_typed : TypeEnv → TypeOf → Option ℕ → Bool
      free_typed g t None = true
      free_typed g t (Some n) = type_eq (y.results n) t && env_passes g (y.envs n)

      free_result : (g : TypeEnv) (t : TypeOf) (o : Option ℕ) → free_typed g t o ≡ true → (n : ℕ) → o ≡ Some n → y.results n ≡ t
      free_result g t None h n e = cc
      free_result g t (Some k) h n e =
          let same : k ≡ n = cc in
          subst (λ z. y.results z ≡ t) same (type_same (y.results k) t (and_parts (type_eq (y.results k) t) (env_passes g (y.envs k)) h).0)

      free_passes : (bounded : (n : ℕ) → Bounded m (y.envs n)) → (g : TypeEnv) (t : TypeOf) (o : Option ℕ) → Bounded m g → free_typed g t o ≡ true → (n : ℕ) → o ≡ Some n → EnvPasses g (y.envs n)
      free_passes bounded g t None bg h n e = cc
      free_passes bounded g t (Some k) bg h n e =
          let same : k ≡ n = cc in
          subst (λ z. EnvPasses g (y.envs z)) same (passes_env g (y.envs k) bg (bounded k) (and_parts (type_eq (y.results k) t) (env_passes g (y.envs k)) h).1)

      abbrev pub bare_typed : TypeEnv → Option ℕ → List Clause → Bool
      bare_typed g None [] = env_passes g no_types
      bare_typed g _ _ = true

      is_bare : (g : TypeEnv) (o : Option ℕ) (cs : List Clause) → Bounded m g → bare_typed g o cs ≡ true → o ≡ None → cs ≡ [] → EnvPasses g no_types
      is_bare g None [] bg h e f = passes_env g no_types bg (none_bounded m) h
      is_bare g None (c ∷ cs) bg h e f = cc
      is_bare g (Some n) [] bg h e f = cc
      is_bare g (Some n) (c ∷ cs) bg h e f = cc

      abbrev pub guard_typed : TypeEnv → TypeOf → ℕ → Pat → Option ℕ → List Clause → Option MailboxType → Bool
      guard_typed g t x e free cs None = false
      guard_typed g t x e free cs (Some a) =
          fits_test a (mailbox_type a.interface Receiving e Returnable)
          && (free_typed (without x g) t free
          && (all_of (clause_typed g t x a.interface e) cs
          && (bare_typed (without x g) free cs
          && covers e (is_received cs) (is_some free))))

      abbrev pub core_typed : TypeEnv → TypeOf → Core → Bool
      core_typed g t (Val e) = value_typed t e g
      core_typed g t (Print e) = env_passes g no_types
      core_typed g t (Let x a b) =
          type_eq (y.results b) t && (env_splits g (y.envs a) (without_name x (y.envs b)) && name_passes (y.results a) (name_type x (y.envs b)))
      core_typed g t (Call f args) = call_typed g t f args (function_at p f)
      core_typed g t (If e a b) =
          type_eq (y.results a) t && (type_eq (y.results b) t && (env_passes g (y.envs a) && env_passes g (y.envs b)))
      core_typed g t (New i) = new_typed i t && env_passes g no_types
      core_typed g t (Send x n args) = send_typed g x n args (g x)
      core_typed g t (Spawn a) = type_eq (y.results a) (BaseTerm BaseUnit) && env_passes (λ x. returnable (g x)) (y.envs a)
      core_typed g t (Guard x e free cs) = guard_typed g t x e free cs (g x)

      is_core : (bounded : (n : ℕ) → Bounded m (y.envs n)) → (g : TypeEnv) (t : TypeOf) → Bounded m g → (core : Core) → core_typed g t core ≡ true → CoreTyped p y g t core
      is_core bounded g t bg (Val e) h = is_value t e g bg h
      is_core bounded g t bg (Print e) h = passes_env g no_types bg (none_bounded m) h
      is_core bounded g t bg (Let x a b) h =
          let t1 = type_eq (y.results b) t in
          let t2 = env_splits g (y.envs a) (without_name x (y.envs b)) in
          let t3 = name_passes (y.results a) (name_type x (y.envs b)) in
          let u = and_parts t1 (t2 && t3) h in
          let v = and_parts t2 t3 u.1 in (
            type_same (y.results b) t u.0,
            splits_env g (y.envs a) (without_name x (y.envs b)) bg (bounded a) (name_bounded m x (y.envs b) (bounded b)) v.0,
            is_mailbox_passed (y.results a) (name_type x (y.envs b)) v.1,
          )
      is_core bounded g t bg (Call f args) h = go (function_at p f) refl h
        where
          go : (o : Option Function) → function_at p f ≡ o → call_typed g t f args o ≡ true → CoreTyped p y g t (Call f args)
          go None q w = cc
          go (Some k) q w =
              let t1 = all_of (arg_below m) args in
              let t2 = all_differ nat_eq (mailbox_args (param_type y f k) 0 args) in
              let t3 = env_passes g (args_need (param_type y f k) 0 args) in
              let t4 = type_fits (result_type y f k) t in
              let a = and_parts t1 (t2 && (t3 && t4)) w in
              let b = and_parts t2 (t3 && t4) a.1 in
              let c = and_parts t3 t4 b.1 in (
                k,
                q,
                differ nat_eq (mailbox_args (param_type y f k) 0 args) b.0,
                passes_env g (args_need (param_type y f k) 0 args) bg (args_bounded m (param_type y f k) 0 args a.0) c.0,
                fits_type (result_type y f k) t c.1,
              )
      is_core bounded g t bg (If e a b) h =
          let t1 = type_eq (y.results a) t in
          let t2 = type_eq (y.results b) t in
          let t3 = env_passes g (y.envs a) in
          let t4 = env_passes g (y.envs b) in
          let u = and_parts t1 (t2 && (t3 && t4)) h in
          let v = and_parts t2 (t3 && t4) u.1 in
          let w = and_parts t3 t4 v.1 in
          (type_same (y.results a) t u.0, type_same (y.results b) t v.0, passes_env g (y.envs a) bg (bounded a) w.0, passes_env g (y.envs b) bg (bounded b) w.1)
      is_core bounded g t bg (New i) h =
          let both = and_parts (new_typed i t) (env_passes g no_types) h in
          (is_new i t both.0, passes_env g no_types bg (none_bounded m) both.1)
      is_core bounded g t bg (Send x n args) h = go (g x) h
        where
          on : (i : ℕ) → x < m → (o : Option TagDecl) → tag_at p i n ≡ o → payload_typed g i x n args o ≡ true → CoreTyped p y g t (Send x n args)
          on i below None q w = cc
          on i below (Some decl) q w =
              let target = mailbox_type i Sending (Tag n) Second in
              let need = args_need (payload_type decl) 0 args in
              let t1 = all_of (arg_below m) args in
              let t2 = all_differ nat_eq (x ∷ mailbox_args (payload_type decl) 0 args) in
              let t3 = env_passes g (with_type x target need) in
              let a = and_parts t1 (t2 && t3) w in
              let b = and_parts t2 t3 a.1 in (
                i,
                decl,
                q,
                differ nat_eq (x ∷ mailbox_args (payload_type decl) 0 args) b.0,
                passes_env g (with_type x target need) bg (with_bounded m x target need below (args_bounded m (payload_type decl) 0 args a.0)) b.1,
              )

          go : (o : Option MailboxType) → send_typed g x n args o ≡ true → CoreTyped p y g t (Send x n args)
          go None w = cc
          go (Some a) w =
              let both = and_parts (nat_lt x m) (payload_typed g a.interface x n args (tag_at p a.interface n)) w in
              on a.interface (below_true x m both.0) (tag_at p a.interface n) refl both.1
      is_core bounded g t bg (Spawn a) h =
          let both = and_parts (type_eq (y.results a) (BaseTerm BaseUnit)) (env_passes (λ x. returnable (g x)) (y.envs a)) h in
          (type_same (y.results a) (BaseTerm BaseUnit) both.0, passes_env (λ x. returnable (g x)) (y.envs a) (returnable_bounded m g bg) (bounded a) both.1)
      is_core bounded g t bg (Guard x e free cs) h = go (g x) refl h
        where
          go : (o : Option MailboxType) → g x ≡ o → guard_typed g t x e free cs o ≡ true → CoreTyped p y g t (Guard x e free cs)
          go None q w = cc
          go (Some a) q w =
              let t1 = fits_test a (mailbox_type a.interface Receiving e Returnable) in
              let t2 = free_typed (without x g) t free in
              let t3 = all_of (clause_typed g t x a.interface e) cs in
              let t4 = bare_typed (without x g) free cs in
              let t5 = covers e (is_received cs) (is_some free) in
              let k1 = and_parts t1 (t2 && (t3 && (t4 && t5))) w in
              let k2 = and_parts t2 (t3 && (t4 && t5)) k1.1 in
              let k3 = and_parts t3 (t4 && t5) k2.1 in
              let k4 = and_parts t4 t5 k3.1 in
              let bx = without_bounded m x g bg in
              record {
                guarded = a;
                named = q;
                fits = fits a (mailbox_type a.interface Receiving e Returnable) k1.0;
                free_result = free_result (without x g) t free k2.0;
                free_passes = free_passes bounded (without x g) t free bx k2.0;
                receives = all_true (clause_typed g t x a.interface e) (ClauseTyped p y g t x a.interface e) (is_clause bounded g t x a.interface e bg) cs k3.0;
                none_passes = is_bare (without x g) free cs bx k4.0;
                covers = covers_to e (is_received cs) (is_some free) k4.1;
              }

      -- ---- nodes

      abbrev pub has_word : Polarity → Pat → Bool
      has_word Sending e = is_inhabited e
      has_word Receiving e = true

      word_of : (q : Polarity) (e : Pat) → has_word q e ≡ true → HasWord q e
      word_of Sending e h = inhabited_to e h
      word_of Receiving e h = tt

      abbrev pub type_has_word : TypeOf → Bool
      type_has_word (BaseTerm b) = true
      type_has_word (MailboxTerm i q e) = has_word q e

      word_of_type : (t : TypeOf) → type_has_word t ≡ true → TypeHasWord t
      word_of_type (BaseTerm b) h = tt
      word_of_type (MailboxTerm i q e) h = word_of q e h

      abbrev pub words_at : Option MailboxType → Bool
      words_at None = true
      words_at (Some a) = has_word a.polarity a.pattern

      at_words : (g : TypeEnv) → Bounded m g → all_upto m (λ x. words_at (g x)) ≡ true → (x : ℕ) (a : MailboxType) → g x ≡ Some a → HasWord a.polarity a.pattern
      at_words g bg h x a at =
          ⊎_elim
          (λ l. word_of a.polarity a.pattern (ap words_at (sym at) ∙ upto m (λ x. words_at (g x)) h x l))
          (λ r. absurd (none_some (sym (bg x r) ∙ at)))
          (below_or x m)
        where
          none_some : None ≡ Some a → ⊥
          none_some h = cc

      abbrev pub kind_at : List Kind → ℕ → Option MailboxType → Bool
      kind_at vars x None = true
      kind_at vars x (Some a) = is_kind (slice_get vars x) (MailboxOf a.interface)

      at_kind : (vars : List Kind) (g : TypeEnv) → Bounded m g → all_upto m (λ x. kind_at vars x (g x)) ≡ true → (x : ℕ) (a : MailboxType) → g x ≡ Some a → slice_get vars x ≡ Some (MailboxOf a.interface)
      at_kind vars g bg h x a at =
          ⊎_elim
          (λ l. kind_is (slice_get vars x) (MailboxOf a.interface) (ap (kind_at vars x) (sym at) ∙ upto m (λ x. kind_at vars x (g x)) h x l))
          (λ r. absurd (none_some (sym (bg x r) ∙ at)))
          (below_or x m)
        where
          none_some : None ≡ Some a → ⊥
          none_some h = cc

      abbrev pub node_with : ℕ → Node → Option Function → Bool
      node_with n d None = false
      node_with n d (Some f) =
          kind_eq (kind_of_type (y.results n)) d.kind
          && (all_upto m (λ x. kind_at f.vars x (y.envs n x))
          && (all_upto m (λ x. words_at (y.envs n x))
          && (type_has_word (y.results n)
          && core_typed (y.envs n) (y.results n) d.core)))

      abbrev pub node_typed : ℕ → Node → Bool
      node_typed n d = node_with n d (function_at p d.function)

      is_node : (bounded : (n : ℕ) → Bounded m (y.envs n)) → (n : ℕ) (d : Node) → node_at p n ≡ Some d → node_typed n d ≡ true → NodeTyped p y n d
      is_node bounded n d at h = go (function_at p d.function) refl h
        where
          go : (o : Option Function) → function_at p d.function ≡ o → node_with n d o ≡ true → NodeTyped p y n d
          go None q w = cc
          go (Some f) q w =
              let t1 = kind_eq (kind_of_type (y.results n)) d.kind in
              let t2 = all_upto m (λ x. kind_at f.vars x (y.envs n x)) in
              let t3 = all_upto m (λ x. words_at (y.envs n x)) in
              let t4 = type_has_word (y.results n) in
              let t5 = core_typed (y.envs n) (y.results n) d.core in
              let k1 = and_parts t1 (t2 && (t3 && (t4 && t5))) w in
              let k2 = and_parts t2 (t3 && (t4 && t5)) k1.1 in
              let k3 = and_parts t3 (t4 && t5) k2.1 in
              let k4 = and_parts t4 t5 k3.1 in
              record {
                kind = kind_same (kind_of_type (y.results n)) d.kind k1.0;
                kinds = λ x a is. (d, f, at, q, at_kind f.vars (y.envs n) (bounded n) k2.0 x a is);
                words = at_words (y.envs n) (bounded n) k3.0;
                result_word = word_of_type (y.results n) k4.0;
                term = is_core bounded (y.envs n) (y.results n) (bounded n) d.core k4.1;
              }

      -- ---- functions

      abbrev pub function_typed : ℕ → Function → Bool
      function_typed f g =
          nat_lt (length g.params) (suc m)
          && (type_eq (y.results g.body) (result_type y f g)
          && (env_passes (param_type y f g) (y.envs g.body) && all_upto m (λ x. words_at (param_type y f g x))))

      is_function : (bounded : (n : ℕ) → Bounded m (y.envs n)) → (f : ℕ) (g : Function) → function_typed f g ≡ true → FunctionTyped p y f g
      is_function bounded f g h =
          let t1 = nat_lt (length g.params) (suc m) in
          let t2 = type_eq (y.results g.body) (result_type y f g) in
          let t3 = env_passes (param_type y f g) (y.envs g.body) in
          let t4 = all_upto m (λ x. words_at (param_type y f g x)) in
          let k1 = and_parts t1 (t2 && (t3 && t4)) h in
          let k2 = and_parts t2 (t3 && t4) k1.1 in
          let k3 = and_parts t3 t4 k2.1 in
          let few = below_true (length g.params) (suc m) k1.0 in
          let bp : Bounded m (param_type y f g) = λ x l. ap (option_and_then (sort_type (y.param_patterns f x))) (slice_get_past g.params x (omega arith)) in
          record {
            result = type_same (y.results g.body) (result_type y f g) k2.0;
            params = passes_env (param_type y f g) (y.envs g.body) bp (bounded g.body) k3.0;
            param_words = at_words (param_type y f g) bp k3.1;
          }

      pub is_typing : (bounded : (n : ℕ) → Bounded m (y.envs n)) → all_from 0 function_typed p.functions ≡ true → all_from 0 node_typed p.nodes ≡ true → IsTyping p y
      is_typing bounded hf hn = record {
        functions = λ f g at. is_function bounded f g (at_each function_typed p.functions hf f g at);
        nodes = λ n d at. is_node bounded n d at (at_each node_typed p.nodes hn n d at);
      }

      -- ---- all but the term of one node

      abbrev pub node_but : ℕ → Node → Option Function → Bool
      node_but n d None = false
      node_but n d (Some f) =
          kind_eq (kind_of_type (y.results n)) d.kind
          && (all_upto m (λ x. kind_at f.vars x (y.envs n x)) && (all_upto m (λ x. words_at (y.envs n x)) && type_has_word (y.results n)))

      pub typed_but : (bounded : (n : ℕ) → Bounded m (y.envs n)) → (k : ℕ) (rest : Type 0) (d : Node) → node_at p k ≡ Some d → all_from 0 function_typed p.functions ≡ true → all_from 0 (λ n d. nat_eq n k || node_typed n d) p.nodes ≡ true → node_but k d (function_at p d.function) ≡ true → rest → TypedBut p y k rest
      typed_but bounded k rest d at hf hn hk term = go (function_at p d.function) refl hk
        where
          same : (e : Node) → node_at p k ≡ Some e → d ≡ e
          same e at' = let q : Some d ≡ Some e = sym at ∙ at' in cc

          go : (o : Option Function) → function_at p d.function ≡ o → node_but k d o ≡ true → TypedBut p y k rest
          go None q w = cc
          go (Some f) q w =
              let t1 = kind_eq (kind_of_type (y.results k)) d.kind in
              let t2 = all_upto m (λ x. kind_at f.vars x (y.envs k x)) in
              let t3 = all_upto m (λ x. words_at (y.envs k x)) in
              let t4 = type_has_word (y.results k) in
              let k1 = and_parts t1 (t2 && (t3 && t4)) w in
              let k2 = and_parts t2 (t3 && t4) k1.1 in
              let k3 = and_parts t3 t4 k2.1 in
              record {
                functions = λ f g at. is_function bounded f g (at_each function_typed p.functions hf f g at);
                nodes = λ n e at off. is_node bounded n e at (⊎_elim (λ l. absurd (off (eqb-true n k l))) (λ r. r) (or_cases (nat_eq n k) (node_typed n e) (at_each (λ n d. nat_eq n k || node_typed n d) p.nodes hn n e at)));
                kind = λ e at'. kind_same (kind_of_type (y.results k)) d.kind k1.0 ∙ ap (λ (x : Node). x.kind) (same e at');
                kinds = λ x a is. (d, f, at, q, at_kind f.vars (y.envs k) (bounded k) k2.0 x a is);
                words = at_words (y.envs k) (bounded k) k3.0;
                result_word = word_of_type (y.results k) k3.1;
                term = term;
              }

-- the lines type the program; m is above all variables, and inclusions are looked for so many messages deep, among so many tags
abbrev pub lines_type : (depth tags m : ℕ) → Program → List (TypeOf × List (ℕ × MailboxType)) → (ℕ → ℕ → Pat) → (ℕ → Pat) → Bool
lines_type depth tags m p lines params results =
    all_of (λ l. all_of (λ e. nat_lt e.0 m) l.1) lines
    && (all_from 0 (function_typed depth tags m p (typing_of lines params results)) p.functions
    && all_from 0 (node_typed depth tags m p (typing_of lines params results)) p.nodes)

pub typable : (depth tags m : ℕ) (p : Program) (lines : List (TypeOf × List (ℕ × MailboxType))) (params : ℕ → ℕ → Pat) (results : ℕ → Pat) → lines_type depth tags m p lines params results ≡ true → IsTypable p
typable depth tags m p lines params results h =
    let y = typing_of lines params results in
    let t1 = all_of (λ l. all_of (λ e. nat_lt e.0 m) l.1) lines in
    let t2 = all_from 0 (function_typed depth tags m p y) p.functions in
    let t3 = all_from 0 (node_typed depth tags m p y) p.nodes in
    let a = and_parts t1 (t2 && t3) h in
    let b = and_parts t2 t3 a.1 in
    (y, is_typing depth tags m p y (lines_bounded m lines a.0) b.0 b.1)
