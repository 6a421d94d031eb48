-- A valid derivation gives a typing.
use Rattle.std.proofs.Common.{◌≡◌, ℕ, zero, suc, ◌+◌, ◌<◌, ◌≤◌, Bool, true, false, not, ◌&&◌, ◌||◌, nat_eq, List, [], ◌∷◌, length, Option, Some, None, ⊎_elim, refl, sym, ap, ◌∙◌, subst, arith}
use Rattle.std.specs.Prelude.{option_and_then}
use Rattle.std.specs.List.{AllByRecursion, list_all, range_with_len}
use Rattle.std.proofs.lemmas.Bool.{and_parts, or_cases, or_parts, eq-eqb, cond-true, cases_lt}
use Rattle.std.proofs.lemmas.Option.{slice_get_past}
use Rattle.pat_words_spec.specs.Patterns.{Pat}
use Rattle.pat_semantics_spec.specs.Values.{MailboxOf}
use Rattle.pat_semantics_spec.specs.Programs.{Program, Polarity, Sending, Receiving, Sort, Function, Node, node_at, function_at, is_among, KindAt}
use Rattle.pat_semantics_spec.specs.WellFormed.{WellFormed}
use Rattle.pat_type_system_spec.specs.Types.{MailboxType, TypeOf, BaseTerm, MailboxTerm, kind_of_type, EnvPasses, TypeEnv}
use Rattle.pat_type_system_spec.specs.Typings.{Typing, sort_type, param_type, result_type, CoreTyped, HasWord, TypeHasWord, NodeTyped, FunctionTyped, IsTyping}
use Rattle.pat_inclusion_spec.specs.Values.{Scope, filled, pattern_of}
use Rattle.pat_derivation_spec.specs.Same.{is_same_type}
use Rattle.pat_derivation_spec.specs.Derivations.{Derivation, scope_of, written_typing, typing_of}
use Rattle.pat_derivation_spec.specs.Conditions.{then_others, passes, is_first, first_demands, term_demands}
use Rattle.pat_derivation_spec.specs.Rules.{has_a_word, type_has_word, param_has_word, params_have_words, signature_has_words}
use Rattle.pat_derivation_spec.specs.Truth.{place, HoldsAt, HoldsThroughout}
use Rattle.pat_derivation_laws.proofs.Filled.{filled_inhabited}
use Rattle.pat_derivation_laws.proofs.DemandsMet.{type_same, put_in, Met, all_first}
use Rattle.pat_derivation_laws.proofs.Unbroken.{shaped}
use Rattle.pat_derivation_laws.proofs.Names.{in_neither, not_named, each_named, pass_all, put_all}
use Rattle.pat_derivation_laws.proofs.Signatures.{put_params, put_results}
use Rattle.pat_derivation_laws.proofs.Terms.{own, envs_at, result_at, demands_met, kind_is, named_kind}
use Rattle.pat_derivation_laws.proofs.Guards.{term_typed}
use Rattle.pat_type_schemes_spec.specs.NodeTypes.{need_of, type_under, result_under}
use Rattle.std.specs.Map.{keys_of}

-- ---- words of sending patterns

word_of : (s : Scope) (q : Polarity) (e : Pat) → has_a_word s q e ≡ true → HasWord q (filled s e)
word_of s Sending e h = filled_inhabited s e h
word_of s Receiving e h = tt

type_word : (s : Scope) (t : TypeOf) → type_has_word s t ≡ true → TypeHasWord (result_under (pattern_of s) t)
type_word s (BaseTerm b) h = tt
type_word s (MailboxTerm i q e) h = word_of s q e h

param_words : (s : Scope) (types : TypeEnv) (k : ℕ) (sorts : List Sort) → params_have_words s types k sorts ≡ true → (j : ℕ) → j < length sorts → param_has_word s (types (k + j)) ≡ true
param_words s types k [] h j l = absurd (omega arith)
param_words s types k (a ∷ more) h zero l =
    let e : k + 0 ≡ k = omega arith in
    subst (λ n. param_has_word s (types n) ≡ true) (sym e) (and_parts (param_has_word s (types k)) (params_have_words s types (suc k) more) h).0
param_words s types k (a ∷ more) h (suc j) l =
    let e : suc k + j ≡ k + suc j = omega arith in
    subst (λ n. param_has_word s (types n) ≡ true) e
    (param_words s types (suc k) more (and_parts (param_has_word s (types k)) (params_have_words s types (suc k) more) h).1 j (omega arith))

-- a name that passes the test, with values put in
put_some : (s : Scope) (o : Option MailboxType) (a : MailboxType) → put_in s o ≡ Some a → (b : MailboxType) × (o ≡ Some b) × (type_under (pattern_of s) b ≡ a)
put_some s None a h = cc
put_some s (Some b) a h = (b, refl, cc)

-- places of parameters
in_range : (a n x : ℕ) → is_among x (range_with_len a n) ≡ false → a ≤ x → x < a + n → ⊥
in_range a zero x h l m = absurd (omega arith)
in_range a (suc n) x h l m =
    let both = or_parts (nat_eq x a) (is_among x (range_with_len (a + 1) n)) h in
    ⊎_elim
    (λ g. in_range (a + 1) n x both.1 (omega arith) (omega arith))
    (λ e. let same : x ≡ a = omega arith in clash (eq-eqb x a same) both.0)
    (cases_lt a x)
  where
    clash : {b : Bool} → b ≡ true → b ≡ false → ⊥
    clash p q = cc

module _ (p : Program) (d : Derivation) (w : WellFormed p) (v : HoldsThroughout p d) where
  abbrev s : Scope
  s = scope_of p d

  abbrev y : Typing
  y = typing_of p d

  node_typed : (n : ℕ) (c : Node) → node_at p n ≡ Some c → NodeTyped p y n c
  node_typed n c at =
      let u = v n c at in
      let l = u.line in
      let result = result_at p d w v n l u.there in
      let envs = envs_at p d w v n l u.there in
      let b1 = type_has_word s l.of.result in
      let b2 = list_all (λ (e : ℕ × MailboxType). has_a_word s e.1.polarity e.1.pattern) l.of.needs in
      let b3 = not (is_first (place n c u.function l)) || signature_has_words p d (place n c u.function l) in
      let a1 = and_parts b1 (b2 && b3) u.words in
      let a2 = and_parts b2 b3 a1.1 in
      record {
        kind = ap kind_of_type result ∙ same_kind l.of.result ∙ kind_is p d w v n c u;
        kinds = λ x a h. kinds u x a (sym (ap (λ (g : TypeEnv). g x) envs) ∙ h);
        words = λ x a h. words u a2.0 x a (sym (ap (λ (g : TypeEnv). g x) envs) ∙ h);
        result_word = subst TypeHasWord (sym result) (type_word s l.of.result a1.0);
        term = subst (λ g. CoreTyped p y g (y.results n) c.core) (sym envs)
            (subst (λ t. CoreTyped p y (own p d w v l) t c.core) (sym result) (term_typed p d w v n c.core c.kind c.function at u));
      }
    where
      same_kind : (t : TypeOf) → kind_of_type (result_under (pattern_of s) t) ≡ kind_of_type t
      same_kind (BaseTerm b) = refl
      same_kind (MailboxTerm i q e) = refl

      kinds : (u : HoldsAt p d n c) (x : ℕ) (a : MailboxType) → put_in s (need_of u.line.of.needs x) ≡ Some a → KindAt p n x (MailboxOf a.interface)
      kinds u x a h =
          let k = put_some s (need_of u.line.of.needs x) a h in
          let kind = named_kind p d w v n c at u x k.0 k.1 in
          let same : k.0.interface ≡ a.interface = ap (λ (b : MailboxType). b.interface) k.2 in
          (c, u.function, at, u.of, kind ∙ ap (λ i. Some (MailboxOf i)) same)

      words : (u : HoldsAt p d n c) → list_all (λ (e : ℕ × MailboxType). has_a_word s e.1.polarity e.1.pattern) u.line.of.needs ≡ true → (x : ℕ) (a : MailboxType) → put_in s (need_of u.line.of.needs x) ≡ Some a → HasWord a.polarity a.pattern
      words u all x a h =
          let k = put_some s (need_of u.line.of.needs x) a h in
          subst (λ (b : MailboxType). HasWord b.polarity b.pattern) k.2
          (word_of s k.0.polarity k.0.pattern (each_named (λ e. has_a_word s e.1.polarity e.1.pattern) u.line.of.needs x k.0 all k.1))

  function_typed : (f : ℕ) (g : Function) → function_at p f ≡ Some g → FunctionTyped p y f g
  function_typed f g at =
      let body = (w.functions f g at).body in
      let c = body.0 in
      let n = g.body in
      let u = v n c body.1 in
      let l = u.line in
      let own_function : u.function ≡ g = function_same u.function g (sym u.of ∙ ap (function_at p) body.2 ∙ at) in
      let y0 = written_typing p d in
      let k = place n c u.function l in
      let first : is_first k ≡ true = eq-eqb u.function.body g.body (ap (λ (h : Function). h.body) own_function) in
      let same_types : param_type y0 c.function u.function ≡ param_type y0 f g =
      ap (λ i. param_type y0 i u.function) body.2 ∙ ap (param_type y0 f) own_function in
      let types = param_type y0 f g in
      let agrees : is_same_type l.of.result (result_type y0 c.function u.function) ≡ true = asked (is_first k) (is_same_type l.of.result (result_type y0 c.function u.function)) first (shaped p d n c u.function u.line u.shape).first in
      let same_result : l.of.result ≡ result_type y0 f g =
      type_same l.of.result (result_type y0 c.function u.function) agrees
      ∙ ap (λ i. result_type y0 i u.function) body.2
      ∙ ap (result_type y0 f) own_function in
      let xs = then_others (range_with_len 0 (length u.function.params)) (keys_of l.of.needs) in
      let all = passes xs (param_type y0 c.function u.function) (need_of l.of.needs) in
      let met : AllByRecursion (Met s) all =
      subst (AllByRecursion (Met s)) (cond-true (is_first k) all [] first)
      (all_first (Met s) (first_demands p d k) (term_demands p d u.function.vars l c.core) (demands_met p d w v n c u)) in
      let b1 = type_has_word s l.of.result in
      let b2 = list_all (λ (e : ℕ × MailboxType). has_a_word s e.1.polarity e.1.pattern) l.of.needs in
      let b3 = signature_has_words p d k in
      let words : signature_has_words p d k ≡ true = asked (is_first k) b3 first (and_parts b2 (not (is_first k) || b3) (and_parts b1 (b2 && (not (is_first k) || b3)) u.words).1).1 in
      let param_test : params_have_words s types 0 g.params ≡ true =
      subst (λ t. params_have_words s t 0 g.params ≡ true) same_types
      (subst (λ (h : Function). params_have_words s (param_type y0 c.function u.function) 0 h.params ≡ true) own_function
      (and_parts (params_have_words s (param_type y0 c.function u.function) 0 u.function.params) (type_has_word s (result_type y0 c.function u.function)) words).0) in
      record {
        result = result_at p d w v n l u.there ∙ ap (result_under (pattern_of s)) same_result ∙ put_results p d f g w at;
        params = subst (EnvPasses (param_type y f g)) (sym (envs_at p d w v n l u.there))
            (subst (λ h. EnvPasses h (own p d w v l)) (put_params p d f g w at)
            (subst (λ t. EnvPasses (put_all s t) (own p d w v l)) same_types
            (pass_all s xs (param_type y0 c.function u.function) (need_of l.of.needs) met
            (λ x q. let both = in_neither x (range_with_len 0 (length u.function.params)) (keys_of l.of.needs) q in
            (past y0 c.function u.function x both.0, not_named l.of.needs x both.1)))));
        param_words = λ k a h. param_word types refl param_test k a (ap (λ (t : TypeEnv). t k) (put_params p d f g w at) ∙ h);
      }
    where
      function_same : (a b : Function) → Some a ≡ Some b → a ≡ b
      function_same a b q = cc

      asked : (a b : Bool) → a ≡ true → (not a || b) ≡ true → b ≡ true
      asked a b t h = ⊎_elim (λ n. let c : false ≡ true = sym (ap not t) ∙ n in cc) (λ k. k) (or_cases (not a) b h)

      -- past the last parameter there is none
      past : (t : Typing) (i : ℕ) (h : Function) (x : ℕ) → is_among x (range_with_len 0 (length h.params)) ≡ false → param_type t i h x ≡ None
      past t i h x q =
          ap (option_and_then (sort_type (t.param_patterns i x)))
          (slice_get_past h.params x (⊎_elim (λ l. absurd (in_range 0 (length h.params) x q (omega arith) (omega arith))) (λ m. m) (cases_lt x (length h.params))))

      param_word : (types : TypeEnv) → types ≡ param_type (written_typing p d) f g → params_have_words s types 0 g.params ≡ true → (k : ℕ) (a : MailboxType) → put_in s (types k) ≡ Some a → HasWord a.polarity a.pattern
      param_word types is h k a q =
          ⊎_elim
          (λ l.
          let b = put_some s (types k) a q in
          let e : 0 + k ≡ k = omega arith in
          let has = subst (λ o. param_has_word s o ≡ true) b.1 (subst (λ n. param_has_word s (types n) ≡ true) e (param_words s types 0 g.params h k l)) in
          subst (λ (z : MailboxType). HasWord z.polarity z.pattern) b.2 (word_of s b.0.polarity b.0.pattern has))
          (λ m.
          let none : types k ≡ None =
          ap (λ (t : TypeEnv). t k) is ∙ ap (option_and_then (sort_type ((written_typing p d).param_patterns f k))) (slice_get_past g.params k m) in
          let c : None ≡ Some a = sym (ap (put_in s) none) ∙ q in
          cc)
          (cases_lt k (length g.params))

  pub valid_typing : IsTyping p y
  valid_typing = record { functions = function_typed; nodes = node_typed }
