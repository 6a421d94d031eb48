-- A derivation that is made of what inference finds breaks no rule.
use Rattle.std.proofs.Common.{◌≡◌, ℕ, ◌<◌, ◌≤◌, Bool, true, false, not, ◌&&◌, nat_eq, List, [], ◌∷◌, ◌++◌, length, Option, Some, None, ◌⊎◌, ⊎_elim, refl, sym, ap, ◌∙◌, subst, arith}
use Rattle.std.specs.Prelude.{map, option_and_then, slice_get, nat_lt, nat_le, IsTrue, is_some}
use Rattle.std.specs.List.{AllByRecursion, IsDistinct, list_all, range_with_len}
use Rattle.std.specs.Map.{keys_of}
use Rattle.std.proofs.lemmas.Bool.{and_parts, and_from, or_left, or_right, cond_both, cond-true, eq-eqb, eqb-true, cases_Bool, ltb-true, lt-ltb, le-leb}
use Rattle.pat_words_spec.specs.Patterns.{Pat, Zero, One, Tag, Sum, Prod, Star, Var, prod_of}
use Rattle.pat_words_spec.specs.Tags.{tags_below}
use Rattle.pat_semantics_spec.specs.Values.{BaseUnit, MailboxOf}
use Rattle.pat_semantics_spec.specs.Programs.{Program, Polarity, Sending, Receiving, Sort, BaseSort, MailboxSort, TagDecl, Interface, Function, Clause, Core, Val, Let, Call, If, Print, New, Send, Spawn, Guard, Node, node_at, function_at, tag_at, is_among, clause_binders, binders, parts}
use Rattle.pat_semantics_spec.specs.WellFormed.{WellFormed, IsSignature, InterfaceFits, HasKind, CoreKinds, NodeFits}
use Rattle.pat_semantics_laws.proofs.Lists.{all_at}
use Rattle.pat_type_system_spec.specs.Types.{Second, MailboxType, TypeOf, BaseTerm, MailboxTerm, kind_of_type, mailbox_type, PassesTo, TypeEnv, EnvPasses}
use Rattle.pat_type_system_spec.specs.Typings.{Typing, result_of, param_type, result_type, payload_type, args_need, mailbox_args, HasWord, TypeHasWord, HasMailboxPayload, NamePasses, name_type, ClauseTyped, CoreTyped, NodeTyped, FunctionTyped, IsTyping}
use Rattle.pat_inclusion_spec.specs.Values.{VarLine, Scope, pattern_of, filled, replaced, is_formed, values_fit}
use Rattle.pat_inclusion_spec.specs.Certificates.{Cert}
use Rattle.pat_type_schemes_spec.specs.NodeTypes.{Needs, need_of, NodeType, type_under, need_under, result_under}
use Rattle.pat_type_schemes_spec.specs.Signatures.{Variable, signature_vars, result_number, first_number}
use Rattle.pat_type_schemes_spec.specs.Typings.{result_pattern_open}
use Rattle.pat_derivation_spec.specs.Same.{is_same_kind, is_same_type, is_mailbox_of}
use Rattle.pat_derivation_spec.specs.Derivations.{Line, Derivation, line_at, ascends_from, tag_count, written_typing}
use Rattle.pat_derivation_spec.specs.Scopes.{is_in_scope, kind_at}
use Rattle.pat_derivation_spec.specs.Demands.{Demand, as_term}
use Rattle.pat_derivation_spec.specs.Conditions.{Place, is_first, first_demands, term_demands, demands, then_others, passes}
use Rattle.pat_derivation_spec.specs.Rules.{type_is_formed, is_named_well, gives, gives_too, tails_agree, first_agrees, has_values, starts_well, has_shape, has_words, has_no_alias, tag_of_kind, uses_well, drops_well, payloads_stand_apart, guard_covers, needed, certs_show}
use Rattle.pat_derivation_spec.specs.Readings.{HasNoAlias, KeepsApart, PayloadsStandApart, GuardCovers}
use Rattle.pat_derivation_spec.specs.Validity.{Rule, ShapeRule, EmptyRule, AliasRule, UseRule, DropRule, PayloadRule, CoversRule, CertRule, broken_or, broken_at, broken_in, broken_for, broken_rule, IsValid}
use Rattle.pat_derivation_laws.proofs.DemandsMet.{put_in}
use Rattle.pat_derivation_laws.proofs.Names.{put_all, put_names}
use Rattle.pat_derivation_laws.proofs.Signatures.{put_params, put_results}
use Rattle.pat_infer_spec.specs.Constraints.{Constraint}
use Rattle.pat_infer_spec.specs.Walk.{interface_of, kinds_of, var_interface, inferred, all_vars}
use Rattle.pat_infer_spec.specs.Solutions.{IsPatternSolution, typing_open, typing_found}
use Rattle.pat_infer_spec.specs.Shapes.{ConstraintFits, NodeTypeFits, ResultFits, NeedsAscend}
use Rattle.pat_infer_spec.specs.Inclusions.{IsShown, EnvShown, CoreShown, AllShown}
use Rattle.pat_infer_laws.proofs.Facts.{kind_here}
use Rattle.pat_infer_laws.proofs.Blocks.{looked_up}
use Rattle.pat_infer_laws.proofs.Gathering.{all_map}
use Rattle.pat_inclusion_laws.proofs.Replaced.{closed_same}
use Rattle.pat_solve_spec.specs.Derived.{type_or_unit, found_of, found_line, found_place, derivation_with, scope_by, Form, AreCertsFor, ValuesShow}
use Rattle.pat_solve_spec.specs.Laws.{IsSound, IsWritten}
use Rattle.pat_solve_laws.proofs.Known.{Known}
use Rattle.pat_solve_laws.proofs.Good.{Good, EnvFormed, same_type, same_kind, all_used, all_dropped, all_sound, all_written, all_join}
use Rattle.pat_solve_laws.proofs.Ties.{line_there, line_none, line_is, env_under, type_under as type_found, env_is, type_is, open_env, open_type}
use Rattle.pat_solve_laws.proofs.Formed.{FormedType, formed_written, formed_fits, formed_params, formed_gives, tag_below}
use Rattle.pat_solve_laws.proofs.Terms.{LinesFormed, env_good, part_good, value_good, none_good, new_good, call_good, send_good, spawn_good, let_good, guard_good}
use Rattle.pat_solve_laws.proofs.Values.{plain, values_cover, values_solve}
use Rattle.pat_solve_laws.proofs.Marked.{marked, marked_solves, marked_senders, marked_same}
use Rattle.pat_solve_laws.proofs.Certs.{SidesFor, shown_prod, sides_all, certs_made}
use Rattle.pat_solve_laws.proofs.Scoped.{named_in_scope}
use Rattle.pat_solve_laws.proofs.Entries.{ascends, entries_found, all_true}

-- ---- types that are told apart by marks

abbrev interface_in : TypeOf → ℕ
interface_in (BaseTerm b) = 0
interface_in (MailboxTerm i q e) = i

abbrev polarity_in : TypeOf → Polarity
polarity_in (BaseTerm b) = Sending
polarity_in (MailboxTerm i q e) = q

abbrev pattern_in : TypeOf → Pat
pattern_in (BaseTerm b) = Zero
pattern_in (MailboxTerm i q e) = e

module _ (p : Program) (w : WellFormed p) (s : Scope) (tags_are : (i : ℕ) → s.tags i ≡ tag_count (slice_get p.interfaces i)) where
  tags_few : (i m : ℕ) → nat_lt m (s.tags i) ≡ true → m < 32
  tags_few i m h = go (slice_get p.interfaces i) refl (subst (λ n. nat_lt m n ≡ true) (tags_are i) h)
    where
      go : (o : Option Interface) → slice_get p.interfaces i ≡ o → nat_lt m (tag_count o) ≡ true → m < 32
      go None q k = let l = ltb-true m 0 k in absurd (omega arith)
      go (Some j) q k = let l = ltb-true m (length j.tags) k in let f = (all_at (InterfaceFits p) p.interfaces i j w.interfaces q).few in omega arith

  formed_few : (i : ℕ) (e : Pat) → is_formed s i e ≡ true → tags_below 32 e ≡ true
  formed_few i Zero h = refl
  formed_few i One h = refl
  formed_few i (Tag m) h = lt-ltb m 32 (tags_few i m h)
  formed_few i (Sum e f) h =
      let q = and_parts (is_formed s i e) (is_formed s i f) h in and_from (tags_below 32 e) (tags_below 32 f) (formed_few i e q.0) (formed_few i f q.1)
  formed_few i (Prod e f) h =
      let q = and_parts (is_formed s i e) (is_formed s i f) h in and_from (tags_below 32 e) (tags_below 32 f) (formed_few i e q.0) (formed_few i f q.1)
  formed_few i (Star e) h = formed_few i e h
  formed_few i (Var k) h = refl

  type_marked : (v : ℕ → Pat) (t u : TypeOf) → FormedType s t → FormedType s u → result_under (marked 32 v) t ≡ result_under (marked 32 v) u → t ≡ u
  type_marked v (BaseTerm a) (BaseTerm b) f k q = q
  type_marked v (BaseTerm a) (MailboxTerm j r g) f k q = cc
  type_marked v (MailboxTerm i q e) (BaseTerm b) f k h = cc
  type_marked v (MailboxTerm i q e) (MailboxTerm j r g) f k h =
      let a : i ≡ j = ap interface_in h in
      let b : q ≡ r = ap polarity_in h in
      let c : e ≡ g = marked_same 32 v e g (formed_few i e f) (formed_few j g k) (ap pattern_in h) in
      ap (λ x. MailboxTerm x q e) a ∙ ap (λ x. MailboxTerm j x e) b ∙ ap (λ x. MailboxTerm j r x) c

-- a written type stays as it is
result_put : (p : Program) (v : ℕ → Pat) (k : ℕ) (a : Sort) → IsSignature p a → result_under v (result_of (Var k) a) ≡ result_of (v k) a
result_put p v k (BaseSort b) h = refl
result_put p v k (MailboxSort i q None) h = refl
result_put p v k (MailboxSort i Sending (Some e)) h = ap (λ x. MailboxTerm i Sending x) (closed_same v e h.0.closed)
result_put p v k (MailboxSort i Receiving (Some e)) h = ap (λ x. MailboxTerm i Receiving x) (closed_same v e h.closed)

filled_kind : (s : Scope) (t : TypeOf) → kind_of_type (result_under (pattern_of s) t) ≡ kind_of_type t
filled_kind s (BaseTerm b) = refl
filled_kind s (MailboxTerm i q e) = refl

module _ (known : Known) (p : Program) (w : WellFormed p) (clean : (inferred p).findings ≡ []) (vars : List VarLine) (forms : ℕ → Form) (show : ValuesShow p vars forms) (certs : ℕ → List Cert) where
  abbrev s : Scope
  s = scope_by p vars

  abbrev d : Derivation
  d = derivation_with p vars certs

  abbrev sv : ℕ → Pat
  sv = pattern_of s

  abbrev y : Typing
  y = typing_found p sv

  abbrev mk : ℕ → Pat
  mk = marked 32 sv

  abbrev z : Typing
  z = typing_found p mk

  abbrev line : ℕ → Line
  line m = found_line p m (certs m)

  abbrev v : ℕ → Pat
  v = plain s show.fit

  abbrev R : ℕ → Pat → Pat → Type 0
  R = IsShown (inferred p).constraints v

  solved : IsPatternSolution p sv
  solved = values_solve p vars forms w (known.fits p w clean).0 show

  typing : IsTyping p y
  typing = known.types p sv w clean solved show.senders

  marked_typing : IsTyping p z
  marked_typing = known.types p mk w clean (marked_solves 32 sv p solved) (marked_senders 32 sv 1 (signature_vars p) show.senders)

  shown : AllShown R p
  shown = known.shown p sv v w clean solved show.senders (values_cover s show.fit)

  -- ---- the lines are of their interfaces

  types_formed : (t : TypeOf) → ResultFits p (all_vars p) t → FormedType s t
  types_formed (BaseTerm b) h = tt
  types_formed (MailboxTerm i q e) h = formed_fits p w d show.interfaces i e h

  line_formed : (o : Option NodeType) → ((t : NodeType) → o ≡ Some t → NodeTypeFits p (all_vars p) t) → EnvFormed s (need_of (type_or_unit o).needs) × FormedType s (type_or_unit o).result
  line_formed None f = (λ x a e. cc, tt)
  line_formed (Some t) f =
      (λ x a e. formed_fits p w d show.interfaces a.interface a.pattern ((f t refl).needs x a e).pattern, types_formed t.result (f t refl).result)

  found_fit : (n : ℕ) (t : NodeType) → found_of p n ≡ Some t → NodeTypeFits p (all_vars p) t
  found_fit n t q = looked_up (λ e. NodeTypeFits p (all_vars p) e.1) (inferred p).nodes n t (known.fits p w clean).1 q

  lines : LinesFormed p vars certs
  lines = record { envs = λ n. (line_formed (found_of p n) (found_fit n)).0; types = λ n. (line_formed (found_of p n) (found_fit n)).1 }

  line_ascends : (o : Option NodeType) → ((t : NodeType) → o ≡ Some t → NeedsAscend 0 t.needs) → NeedsAscend 0 (type_or_unit o).needs
  line_ascends None f = tt
  line_ascends (Some t) f = f t refl

  found_ascends : (n : ℕ) → NeedsAscend 0 (line n).of.needs
  found_ascends n =
      line_ascends (found_of p n) (λ t q. looked_up (λ e. NeedsAscend 0 e.1.needs) (inferred p).nodes n t (known.ordered p) q)

  entries : (n : ℕ) → AllByRecursion (λ (e : ℕ × MailboxType). need_of (line n).of.needs e.0 ≡ Some e.1) (line n).of.needs
  entries n = entries_found 0 (line n).of.needs (found_ascends n)

  -- ---- what marks tell

  apart : (t u : TypeOf) → FormedType s t → FormedType s u → result_under mk t ≡ result_under mk u → t ≡ u
  apart t u f k q = type_marked p w s (λ i. refl) sv t u f k q

  -- a part that has the type has it in its line
  tail_of : (m : ℕ) (t : TypeOf) → FormedType s t → z.results m ≡ result_under mk t → gives t (line_at d m) ≡ true
  tail_of m t f q = go (line_at d m) refl
    where
      go : (o : Option Line) → line_at d m ≡ o → gives t o ≡ true
      go None e = refl
      go (Some k) e =
          let is : (line m).of.result ≡ t = apart (line m).of.result t (lines.types m) f (sym (type_found p m mk) ∙ q) in
          subst (λ (u : Line). is_same_type u.of.result t ≡ true) (sym (line_is p vars certs m k e))
          (subst (λ r. is_same_type r t ≡ true) (sym is) (same_type t))

  -- ---- a node

  module _ (n : ℕ) (c : Node) (at : node_at p n ≡ Some c) (g : Function) (of : function_at p c.function ≡ Some g) where
    abbrev l : Line
    l = line n

    abbrev h : Place
    h = found_place p n c g (certs n)

    fits : NodeFits p n c
    fits = w.nodes n c at

    typed : NodeTyped p y n c
    typed = typing.nodes n c at

    same_function : fits.function ≡ g
    same_function = let e : Some fits.function ≡ Some g = sym fits.of ∙ of in cc

    env_there : (x : ℕ) (a : MailboxType) → need_of l.of.needs x ≡ Some a → y.envs n x ≡ Some (type_under (pattern_of s) a)
    env_there x a e = ap (λ (k : TypeEnv). k x) (env_is p n s) ∙ ap (put_in s) e

    var_kind : (x : ℕ) (a : MailboxType) → need_of l.of.needs x ≡ Some a → slice_get g.vars x ≡ Some (MailboxOf a.interface)
    var_kind x a e =
        subst (λ (k : Function). slice_get k.vars x ≡ Some (MailboxOf a.interface)) same_function
        (kind_here p n x c at (MailboxOf a.interface) fits (typed.kinds x (type_under (pattern_of s) a) (env_there x a e)))

    kinds : CoreKinds p g.vars c.kind c.core
    kinds = subst (λ (k : Function). CoreKinds p k.vars c.kind c.core) same_function fits.kinds

    core_typed : CoreTyped p y (put_all s (need_of l.of.needs)) (result_under (pattern_of s) l.of.result) c.core
    core_typed =
        subst (λ k. CoreTyped p y k (result_under (pattern_of s) l.of.result) c.core) (env_is p n s)
        (subst (λ t. CoreTyped p y (y.envs n) t c.core) (type_is p n s) typed.term)

    core_shown : CoreShown R p (typing_open p) c.function (need_of l.of.needs) l.of.result c.core
    core_shown =
        subst (λ k. CoreShown R p (typing_open p) c.function k l.of.result c.core) (open_env p n)
        (subst (λ t. CoreShown R p (typing_open p) c.function ((typing_open p).envs n) t c.core) (open_type p n) (shown.nodes n c at))

    core_marked : CoreTyped p z (z.envs n) (z.results n) c.core
    core_marked = (marked_typing.nodes n c at).term

    own_tail : (m : ℕ) → z.results m ≡ z.results n → gives l.of.result (line_at d m) ≡ true
    own_tail m q = tail_of m l.of.result (lines.types n) (q ∙ type_found p n mk)

    var_is : (x i : ℕ) → slice_get g.vars x ≡ Some (MailboxOf i) → var_interface p c.function x ≡ i
    var_is x i k = ap (λ o. interface_of (slice_get (kinds_of o) x)) of ∙ ap interface_of k

    -- the interface of a variable that is named
    interface_is : (x i j : ℕ) → slice_get g.vars x ≡ Some (MailboxOf i) → (o : Option MailboxType) → need_of l.of.needs x ≡ o → ((a : MailboxType) → o ≡ Some a → a.interface ≡ j) → ((o ≡ None) → ⊥) → j ≡ i
    interface_is x i j k None e f never = absurd (never refl)
    interface_is x i j k (Some a) e f never =
        let q : Some (MailboxOf a.interface) ≡ Some (MailboxOf i) = sym (var_kind x a e) ∙ k in
        let same : a.interface ≡ i = cc in
        sym (f a refl) ∙ same

    -- ---- demands

    prods : (i : ℕ) (e f k : Pat) → R i (Prod e f) k → R i (prod_of e f) k
    prods i e f k r = shown_prod (inferred p).constraints v i e f k r

    abbrev GoodAll : List Demand → Type 0
    GoodAll ds = AllByRecursion (Good s R) ds

    named_same : (m b : ℕ) (x : Option ℕ) → NamePasses (z.results m) (name_type x (z.envs b)) → (k : ℕ) (a : MailboxType) → x ≡ Some k → need_of (line b).of.needs k ≡ Some a → (line m).of.result ≡ as_term a
    named_same m b None t k a q e = cc
    named_same m b (Some j) t k a q e =
        let same : j ≡ k = cc in
        go (line m).of.result (lines.types m)
        (subst (λ r. NamePasses r (Some (type_under mk a))) (type_found p m mk)
        (subst (λ o. NamePasses (z.results m) o) (ap (z.envs b) same ∙ ap (λ (h : TypeEnv). h k) (env_under p b mk) ∙ ap (need_under mk) e) t))
      where
        formed : is_formed s a.interface a.pattern ≡ true
        formed = lines.envs b k a e

        go : (t : TypeOf) → FormedType s t → NamePasses (result_under mk t) (Some (type_under mk a)) → t ≡ as_term a
        go (BaseTerm u) f q = cc
        go (MailboxTerm i r u) f q =
            apart (MailboxTerm i r u) (as_term a) f formed
            (ap (λ j. MailboxTerm j r (replaced mk u)) (sym q.0)
            ∙ ap (λ j. MailboxTerm a.interface j (replaced mk u)) (sym q.1)
            ∙ ap (λ j. MailboxTerm a.interface a.polarity j) (sym q.2))

    named_kind : (x : Option ℕ) (m b : ℕ) → CoreKinds p g.vars c.kind (Let x m b) → (k i : ℕ) → x ≡ Some k → slice_get g.vars k ≡ Some (MailboxOf i) → kind_of_type (line m).of.result ≡ MailboxOf i
    named_kind None m b k j i q e = cc
    named_kind (Some u) m b k j i q e =
        let same : u ≡ j = cc in
        let there : slice_get g.vars u ≡ Some (MailboxOf i) = ap (slice_get g.vars) same ∙ e in
        let is : Some k.0 ≡ Some (MailboxOf i) = sym k.1 ∙ there in
        let kind : k.0 ≡ MailboxOf i = cc in
        let bound : HasKind p m k.0 = k.2 in
        sym (filled_kind s (line m).of.result)
        ∙ ap kind_of_type (sym (type_is p m s))
        ∙ (typing.nodes m bound.0 bound.1).kind
        ∙ bound.2
        ∙ kind

    term_good : (core : Core) → c.core ≡ core → CoreTyped p y (put_all s (need_of l.of.needs)) (result_under (pattern_of s) l.of.result) core → CoreShown R p (typing_open p) c.function (need_of l.of.needs) l.of.result core → CoreKinds p g.vars c.kind core → CoreTyped p z (z.envs n) (z.results n) core → GoodAll (term_demands p d g.vars l core)
    term_good (Val e) core_is t sh k m = value_good p w vars certs show.interfaces R prods lines l l.of.result e t sh (lines.envs n) (lines.types n)
    term_good (Print e) core_is t sh k m = none_good p w vars certs show.interfaces R prods lines (keys_of l.of.needs) (need_of l.of.needs) t (lines.envs n)
    term_good (New i) core_is t sh k m = new_good p w vars certs show.interfaces R prods lines l i l.of.result t sh (lines.envs n) (lines.types n)
    term_good (Call f args) core_is t sh k m = call_good p w vars certs show.interfaces R prods lines l f args t sh (lines.envs n) (lines.types n)
    term_good (Send x m args) core_is t sh k q =
        let i : ℕ = t.0 in
        let a = mailbox_type i Sending (Tag m) Second in
        let to : PassesTo (put_in s (need_of l.of.needs x)) (Some a) =
        subst (λ o. PassesTo (put_in s (need_of l.of.needs x)) o) (cond-true (nat_eq x x) (Some a) (args_need (payload_type t.1) 0 args x) (eq-eqb x x refl)) (t.4 x) in
        let same : i ≡ k.1.0 = interface_is x k.1.0 i k.1.2 (need_of l.of.needs x) refl (λ b e. is a b (subst (λ o. PassesTo (put_in s o) (Some a)) e to)) (λ e. none a (subst (λ o. PassesTo (put_in s o) (Some a)) e to)) in
        let kind : slice_get g.vars x ≡ Some (MailboxOf i) = k.1.2 ∙ ap (λ j. Some (MailboxOf j)) (sym same) in
        send_good p w vars certs show.interfaces R prods lines l g.vars c.function i x m args t.1 kind (var_is x i kind) t.2 t.4 sh (tag_below p w d show.interfaces i m t.1 t.2) (lines.envs n)
      where
        is : (a b : MailboxType) → PassesTo (put_in s (Some b)) (Some a) → b.interface ≡ a.interface
        is a b k = k.interface

        none : (a : MailboxType) → PassesTo (put_in s None) (Some a) → ⊥
        none a k = k
    term_good (Spawn m) core_is t sh k q = spawn_good p w vars certs show.interfaces R prods lines l m t.1 sh (lines.envs n)
    term_good (If e a b) core_is t sh k q =
        all_join s R (Good s R) _ _
        (part_good p w vars certs show.interfaces R prods lines (keys_of l.of.needs) (need_of l.of.needs) a t.2 sh.0 (lines.envs n))
        (part_good p w vars certs show.interfaces R prods lines (keys_of l.of.needs) (need_of l.of.needs) b t.3 sh.1 (lines.envs n))
    term_good (Let x m b) core_is t sh k q =
        let_good p w vars certs show.interfaces R prods lines g.vars n x m b free there t.1 t.2 sh (named_same m b x q.2) (named_kind x m b k)
      where
        free : (v : ℕ) (a : MailboxType) → x ≡ Some v → need_of l.of.needs v ≡ Some a → ⊥
        free v a is e =
            let unnamed = known.unbound p y w typing v n c (type_under (pattern_of s) a) at (env_there v a e) in
            let bound : is_among v (binders (Let (Some v) m b)) ≡ true = or_left (nat_eq v v) false (eq-eqb v v refl) in
            let named : is_among v (binders c.core) ≡ true = ap (λ k. is_among v (binders k)) (core_is ∙ ap (λ o. Let o m b) is) ∙ bound in
            let clash : true ≡ false = sym named ∙ unnamed in
            cc

        there : (j : ℕ) → (j ≡ m) ⊎ (j ≡ b) → line_at d j ≡ Some (line j)
        there j one =
            let among : is_among j (parts (Let x m b)) ≡ true =
            ⊎_elim (λ e. or_left (nat_eq j m) (is_among j (b ∷ [])) (eq-eqb j m e)) (λ e. or_right (nat_eq j m) (is_among j (b ∷ [])) (or_left (nat_eq j b) false (eq-eqb j b e))) one in
            let part = fits.parts_after j (ap (λ k. is_among j (parts k)) core_is ∙ among) in
            line_there p vars certs j part.1.0 part.1.1
    term_good (Guard x e free rs) core_is t sh k q =
        let same : t.guarded.interface ≡ k.0 = interface_is x k.0 t.guarded.interface k.1 (need_of l.of.needs x) refl (λ a e. is t.guarded a (sym (ap (put_in s) e) ∙ t.named)) (λ e. none t.guarded (sym (ap (put_in s) e) ∙ t.named)) in
        guard_good p w vars certs show.interfaces R prods lines l g.vars c.function x k.0 e free rs (result_under (pattern_of s) l.of.result) k.1 (var_is x k.0 k.1) k.2.closed (formed_written p w d k.0 e k.2) t same sh (lines.envs n)
      where
        is : (b a : MailboxType) → Some (type_under (pattern_of s) a) ≡ Some b → a.interface ≡ b.interface
        is b a q = let e : type_under (pattern_of s) a ≡ b = cc in ap (λ (k : MailboxType). k.interface) e

        none : (b : MailboxType) → put_in s None ≡ Some b → ⊥
        none b q = cc

    body_is : is_first h ≡ true → g.body ≡ n
    body_is t = eqb-true g.body n t

    function_typed : FunctionTyped p y c.function g
    function_typed = typing.functions c.function g of

    first_good : GoodAll (first_demands p d h)
    first_good =
        let types = param_type (written_typing p d) c.function g in
        let xs = then_others (range_with_len 0 (length g.params)) (keys_of l.of.needs) in
        cond_both (is_first h) (passes xs types (need_of l.of.needs)) [] GoodAll
        (λ t. env_good p w vars certs show.interfaces R prods lines xs types (need_of l.of.needs)
        (subst (EnvPasses (put_all s types)) (ap (λ m. y.envs m) (body_is t) ∙ env_is p n s)
        (subst (λ k. EnvPasses k (y.envs g.body)) (sym (put_params p d c.function g w of)) function_typed.params))
        (subst (EnvShown R types) (ap (λ m. (typing_open p).envs m) (body_is t) ∙ open_env p n) (shown.functions c.function g of))
        (formed_params p w d show.interfaces c.function g of)
        (lines.envs n))
        (λ _. tt)

    all_good : GoodAll (demands p d h)
    all_good = all_join s R (Good s R) (first_demands p d h) (term_demands p d g.vars l c.core) first_good (term_good c.core refl core_typed core_shown kinds core_marked)

    -- each inclusion that the node needs is trivial, or one of the constraints of its interface
    pub needed_sound : AllByRecursion (IsSound s R) (needed p d h)
    needed_sound = all_sound s R (demands p d h) all_good

    pub demands_written : AllByRecursion IsWritten (demands p d h)
    demands_written = all_written s R (demands p d h) all_good

    uses : uses_well p d h ≡ true
    uses = all_used s R (demands p d h) all_good

    drops : drops_well p d h ≡ true
    drops = all_dropped s R (demands p d h) all_good

    -- ---- Shape

    kind_fits : is_same_kind (kind_of_type l.of.result) c.kind ≡ true
    kind_fits =
        subst (λ k. is_same_kind (kind_of_type l.of.result) k ≡ true)
        (sym (filled_kind s l.of.result) ∙ ap kind_of_type (sym (type_is p n s)) ∙ typed.kind)
        (same_kind (kind_of_type l.of.result))

    entry_named : (e : ℕ × MailboxType) → need_of l.of.needs e.0 ≡ Some e.1 → is_named_well p d n e ≡ true
    entry_named e q =
        and_from (is_in_scope p n e.0) (is_mailbox_of e.1.interface (kind_at p n e.0) && is_formed s e.1.interface e.1.pattern)
        (named_in_scope known.body known.part p w y typing n c e.0 (type_under (pattern_of s) e.1) at (env_there e.0 e.1 q))
        (and_from (is_mailbox_of e.1.interface (kind_at p n e.0)) (is_formed s e.1.interface e.1.pattern)
        (ap (is_mailbox_of e.1.interface) kind ∙ same_kind (MailboxOf e.1.interface))
        (lines.envs n e.0 e.1 q))
      where
        kind : kind_at p n e.0 ≡ Some (MailboxOf e.1.interface)
        kind =
            ap (λ o. option_and_then (λ (k : Function). slice_get k.vars e.0) (option_and_then (λ (u : Node). function_at p u.function) o)) at
            ∙ ap (option_and_then (λ (k : Function). slice_get k.vars e.0)) of
            ∙ var_kind e.0 e.1 q

    type_formed : (t : TypeOf) → FormedType s t → type_is_formed s t ≡ true
    type_formed (BaseTerm b) f = refl
    type_formed (MailboxTerm i q e) f = f

    all_tails : (rs : List Clause) (x i : ℕ) (e : Pat) → AllByRecursion (ClauseTyped p z (z.envs n) (z.results n) x i e) rs → list_all (λ r. gives l.of.result (line_at d r.body)) rs ≡ true
    all_tails [] x i e t = refl
    all_tails (r ∷ rs) x i e t =
        and_from (gives l.of.result (line_at d r.body)) (list_all (λ r. gives l.of.result (line_at d r.body)) rs) (own_tail r.body t.0.result) (all_tails rs x i e t.1)

    tails : (core : Core) → CoreTyped p z (z.envs n) (z.results n) core → tails_agree d l.of.result core ≡ true
    tails (Val e) t = refl
    tails (Print e) t = refl
    tails (New i) t = refl
    tails (Call f args) t = refl
    tails (Send x m args) t = refl
    tails (Spawn m) t = tail_of m (BaseTerm BaseUnit) tt t.0
    tails (If e a b) t = and_from (gives l.of.result (line_at d a)) (gives l.of.result (line_at d b)) (own_tail a t.0) (own_tail b t.1)
    tails (Let x m b) t = own_tail b t.0
    tails (Guard x e free rs) t =
        and_from (gives_too d l.of.result free) (list_all (λ r. gives l.of.result (line_at d r.body)) rs)
        (by free (λ m q. t.free_result m q)) (all_tails rs x t.guarded.interface e t.receives)
      where
        by : (o : Option ℕ) → ((m : ℕ) → o ≡ Some m → z.results m ≡ z.results n) → gives_too d l.of.result o ≡ true
        by None f = refl
        by (Some m) f = own_tail m (f m refl)

    first : first_agrees p d h ≡ true
    first =
        let want = result_type (written_typing p d) c.function g in
        ⊎_elim
        (λ t. or_right (not (is_first h)) (is_same_type l.of.result want) (subst (λ r. is_same_type r want ≡ true) (sym (is t)) (same_type want)))
        (λ f. or_left (not (is_first h)) (is_same_type l.of.result want) (ap not f))
        (cases_Bool (is_first h))
      where
        put : result_under mk (result_type (written_typing p d) c.function g) ≡ result_type z c.function g
        put =
            subst (λ o. result_under mk (result_of (result_pattern_open p c.function o) g.result) ≡ result_of (replaced mk (result_pattern_open p c.function o)) g.result) (sym of)
            (result_put p mk (result_number (first_number p c.function) g) g.result (w.functions c.function g of).signature.1)

        is : is_first h ≡ true → l.of.result ≡ result_type (written_typing p d) c.function g
        is t =
            apart l.of.result (result_type (written_typing p d) c.function g) (lines.types n) (formed_gives p w d show.interfaces c.function g of)
            (sym (type_found p n mk) ∙ ap (λ m. z.results m) (sym (body_is t)) ∙ (marked_typing.functions c.function g of).result ∙ sym put)

    values_there : has_values p d ≡ true
    values_there =
        and_from (nat_le (length (signature_vars p)) (length vars)) (values_fit s)
        (le-leb (length (signature_vars p)) (length vars) many)
        show.fit
      where
        counted : {A : Type 0} (f : A → ℕ) (xs : List A) → length (map f xs) ≡ length xs
        counted f [] = refl
        counted f (x ∷ xs) = let deeper = counted f xs in omega arith

        joined : (xs ys : List Variable) → length xs ≤ length (xs ++ ys)
        joined [] ys = omega arith
        joined (x ∷ xs) ys = let deeper = joined xs ys in omega arith

        many : length (signature_vars p) ≤ length vars
        many =
            let a = counted (λ (v : VarLine). v.interface) vars in
            let b = counted (λ (v : Variable). v.interface) (all_vars p) in
            let c = ap (λ (xs : List ℕ). length xs) show.interfaces in
            let e = joined (signature_vars p) (inferred p).vars in
            omega arith

    shape : has_shape p d h ≡ true
    shape =
        let named = list_all (is_named_well p d n) l.of.needs in
        let formed = type_is_formed s l.of.result in
        let tail = tails_agree d l.of.result c.core in
        let start = starts_well p d n in
        and_from (is_same_kind (kind_of_type l.of.result) c.kind) (ascends_from 0 l.of.needs && (named && (formed && (tail && (first_agrees p d h && start))))) kind_fits
        (and_from (ascends_from 0 l.of.needs) (named && (formed && (tail && (first_agrees p d h && start)))) (ascends 0 l.of.needs (found_ascends n))
        (and_from named (formed && (tail && (first_agrees p d h && start)))
        (all_true (is_named_well p d n) l.of.needs (all_map (λ (e : ℕ × MailboxType). need_of l.of.needs e.0 ≡ Some e.1) (λ e. is_named_well p d n e ≡ true) entry_named l.of.needs (entries n)))
        (and_from formed (tail && (first_agrees p d h && start)) (type_formed l.of.result (lines.types n))
        (and_from tail (first_agrees p d h && start) (tails c.core core_marked)
        (and_from (first_agrees p d h) start first (or_right (not (nat_eq n 0)) (has_values p d) values_there))))))

    -- ---- Empty

    words : has_words p d h ≡ true
    words = (known.empty p d h).1 (record {
      result = subst TypeHasWord (type_is p n s) typed.result_word;
      env = all_map (λ (e : ℕ × MailboxType). need_of l.of.needs e.0 ≡ Some e.1) (λ e. HasWord e.1.polarity (filled s e.1.pattern))
          (λ e q. typed.words e.0 (type_under (pattern_of s) e.1) (env_there e.0 e.1 q)) l.of.needs (entries n);
      params = λ t k a q. function_typed.param_words k (type_under (pattern_of s) a) (ap (λ (u : TypeEnv). u k) (sym (put_params p d c.function g w of)) ∙ ap (put_in s) q);
      gives = λ t.
          subst TypeHasWord (sym (put_results p d c.function g w of))
          (subst TypeHasWord (ap (λ m. y.results m) (sym (body_is t)) ∙ function_typed.result) typed.result_word);
    })

    -- ---- Alias

    differ : (core : Core) → CoreTyped p y (put_all s (need_of l.of.needs)) (result_under (pattern_of s) l.of.result) core → CoreKinds p g.vars c.kind core → HasNoAlias p d h core
    differ (Val e) t k = tt
    differ (Print e) t k = tt
    differ (New i) t k = tt
    differ (Call f args) t k = λ q of_f.
        let same : t.0 ≡ q = let e : Some t.0 ≡ Some q = sym t.1 ∙ of_f in cc in
        subst (λ xs. IsDistinct nat_eq xs) (put_names s (param_type (written_typing p d) f q) 0 args)
        (subst (λ u. IsDistinct nat_eq (mailbox_args u 0 args)) (sym (put_params p d f q w of_f))
        (subst (λ (u : Function). IsDistinct nat_eq (mailbox_args (param_type y f u) 0 args)) same t.2))
    differ (Spawn m) t k = tt
    differ (If e a b) t k = tt
    differ (Let x m b) t k = tt
    differ (Guard x e free rs) t k = tt
    differ (Send x m args) t k = λ decl q.
        let i : ℕ = t.0 in
        let a = mailbox_type i Sending (Tag m) Second in
        let to : PassesTo (put_in s (need_of l.of.needs x)) (Some a) =
        subst (λ o. PassesTo (put_in s (need_of l.of.needs x)) o) (cond-true (nat_eq x x) (Some a) (args_need (payload_type t.1) 0 args x) (eq-eqb x x refl)) (t.4 x) in
        let same : i ≡ k.1.0 = interface_is x k.1.0 i k.1.2 (need_of l.of.needs x) refl (λ b e. is a b (subst (λ o. PassesTo (put_in s o) (Some a)) e to)) (λ e. none a (subst (λ o. PassesTo (put_in s o) (Some a)) e to)) in
        let there : Some t.1 ≡ Some decl = sym t.2 ∙ ap (λ j. tag_at p j m) same ∙ sym (ap (tag_of_kind p m) k.1.2) ∙ q in
        let decls : t.1 ≡ decl = cc in
        subst (λ (u : TagDecl). IsDistinct nat_eq (x ∷ mailbox_args (payload_type u) 0 args)) decls t.3
      where
        is : (a b : MailboxType) → PassesTo (put_in s (Some b)) (Some a) → b.interface ≡ a.interface
        is a b k = k.interface

        none : (a : MailboxType) → PassesTo (put_in s None) (Some a) → ⊥
        none a k = k

    alias : has_no_alias p d h ≡ true
    alias = (known.alias p d h).1 (differ c.core core_typed kinds)

    -- ---- Payload and Covers

    clause_apart : (x i : ℕ) (e : Pat) (t : TypeOf) → slice_get g.vars x ≡ Some (MailboxOf i) → (r : Clause) → ClauseTyped p y (put_all s (need_of l.of.needs)) t x i e r → KeepsApart p d h x r
    clause_apart x i e t kind r k decl u tag has there =
        let same : Some k.decl ≡ Some decl = sym k.declared ∙ sym (ap (tag_of_kind p r.tag) kind) ∙ tag in
        let decls : k.decl ≡ decl = cc in
        let own = k.own_names (subst HasMailboxPayload (sym decls) has) in
        subst (λ (v : Line). AllByRecursion (λ a. IsTrue (is_among a (clause_binders r))) (keys_of v.of.needs)) (sym (line_is p vars certs r.body u there))
        (over (line r.body).of.needs (all_map (λ (f : ℕ × MailboxType). need_of (line r.body).of.needs f.0 ≡ Some f.1) (λ f. is_among f.0 (clause_binders r) ≡ true)
        (λ f q. own f.0 (ap is_some (ap (λ (v : TypeEnv). v f.0) (env_is p r.body s) ∙ ap (put_in s) q))) (line r.body).of.needs (entries r.body)))
      where
        over : (es : Needs) → AllByRecursion (λ (f : ℕ × MailboxType). is_among f.0 (clause_binders r) ≡ true) es → AllByRecursion (λ a. IsTrue (is_among a (clause_binders r))) (keys_of es)
        over [] q = tt
        over (f ∷ es) q = (q.0, over es q.1)

    stand_apart : (core : Core) → CoreTyped p y (put_all s (need_of l.of.needs)) (result_under (pattern_of s) l.of.result) core → CoreKinds p g.vars c.kind core → PayloadsStandApart p d h core
    stand_apart (Val e) t k = tt
    stand_apart (Print e) t k = tt
    stand_apart (New i) t k = tt
    stand_apart (Call f args) t k = tt
    stand_apart (Spawn m) t k = tt
    stand_apart (If e a b) t k = tt
    stand_apart (Let x m b) t k = tt
    stand_apart (Send x m args) t k = tt
    stand_apart (Guard x e free rs) t k =
        let same : t.guarded.interface ≡ k.0 = interface_is x k.0 t.guarded.interface k.1 (need_of l.of.needs x) refl (λ a e. is t.guarded a (sym (ap (put_in s) e) ∙ t.named)) (λ e. none t.guarded (sym (ap (put_in s) e) ∙ t.named)) in
        all_map (ClauseTyped p y (put_all s (need_of l.of.needs)) (result_under (pattern_of s) l.of.result) x k.0 e) (KeepsApart p d h x)
        (clause_apart x k.0 e (result_under (pattern_of s) l.of.result) k.1) rs
        (subst (λ j. AllByRecursion (ClauseTyped p y (put_all s (need_of l.of.needs)) (result_under (pattern_of s) l.of.result) x j e) rs) same t.receives)
      where
        is : (b a : MailboxType) → Some (type_under (pattern_of s) a) ≡ Some b → a.interface ≡ b.interface
        is b a q = let e : type_under (pattern_of s) a ≡ b = cc in ap (λ (k : MailboxType). k.interface) e

        none : (b : MailboxType) → put_in s None ≡ Some b → ⊥
        none b q = cc

    payload : payloads_stand_apart p d h ≡ true
    payload = (known.payload p d h).1 (stand_apart c.core core_typed kinds)

    covering : (core : Core) → CoreTyped p y (put_all s (need_of l.of.needs)) (result_under (pattern_of s) l.of.result) core → GuardCovers core
    covering (Val e) t = tt
    covering (Print e) t = tt
    covering (New i) t = tt
    covering (Call f args) t = tt
    covering (Spawn m) t = tt
    covering (If e a b) t = tt
    covering (Let x m b) t = tt
    covering (Send x m args) t = tt
    covering (Guard x e free rs) t = t.covers

    covered : guard_covers h ≡ true
    covered = (known.covers h).1 (covering c.core core_typed)

    -- ---- Cert

    sides : AllByRecursion (λ (k : Constraint). is_formed s k.interface k.left ≡ true) (inferred p).constraints
    sides = all_map (ConstraintFits p (all_vars p)) (λ k. is_formed s k.interface k.left ≡ true) (λ k f. formed_fits p w d show.interfaces k.interface k.left f.left) (inferred p).constraints (known.fits p w clean).0

    -- so it is trivial, or its sides are shown
    pub needed_sides : AllByRecursion (IsSound s (SidesFor s forms)) (needed p d h)
    needed_sides = sides_all s forms show.formed show.fit (inferred p).constraints sides show.shown (needed p d h) needed_sound

    -- no rule is broken at the node
    pub unbroken_at : AreCertsFor s forms (needed p d h) (certs n) → broken_at p d h ≡ None
    unbroken_at made =
        over (has_shape p d h) ShapeRule _ shape
        (over (has_words p d h) EmptyRule _ words
        (over (has_no_alias p d h) AliasRule _ alias
        (over (uses_well p d h) UseRule _ uses
        (over (drops_well p d h) DropRule _ drops
        (over (payloads_stand_apart p d h) PayloadRule _ payload
        (over (guard_covers h) CoversRule _ covered
        (over (certs_show p d h) CertRule None (certs_made s forms (needed p d h) (certs n) needed_sides made) refl)))))))
      where
        over : (b : Bool) (r : Rule) (o : Option Rule) → b ≡ true → o ≡ None → broken_or b r o ≡ None
        over true r o t e = e
        over false r o t e = cc

  -- nor anywhere
  pub unbroken : ((n : ℕ) (c : Node) (g : Function) → node_at p n ≡ Some c → function_at p c.function ≡ Some g → AreCertsFor s forms (needed p d (found_place p n c g (certs n))) (certs n)) → IsValid p d
  unfolding broken_rule
  unbroken made n = go (node_at p n) refl
    where
      go : (o : Option Node) → node_at p n ≡ o → broken_for p d n o (line_at d n) ≡ None
      go None q = ap (broken_for p d n None) (line_none p vars certs n q)
      go (Some c) q =
          let f = w.nodes n c q in
          ap (broken_for p d n (Some c)) (line_there p vars certs n c q)
          ∙ ap (λ k. broken_in p d n c k (Some (line n))) f.of
          ∙ unbroken_at n c q f.function f.of (made n c f.function q f.of)
