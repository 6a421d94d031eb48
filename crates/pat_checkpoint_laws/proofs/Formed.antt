-- The sides of a balance are patterns of the mailbox's interface.
use Rattle.std.proofs.Common.{◌≡◌, ℕ, zero, suc, ◌+◌, ◌<◌, true, false, cond, ◌&&◌, ◌||◌, nat_eq, nat_lt, if◌then◌else◌, List, [], ◌∷◌, ◌++◌, length, map, Option, Some, None, refl, sym, ap, ◌∙◌, subst, arith}
use Rattle.std.specs.Prelude.{filter, slice_get, option_map, option_and_then}
use Rattle.std.specs.List.{AllByRecursion, list_all}
use Rattle.std.proofs.lemmas.Bool.{and_parts, and_from, eqb-true, cond_both, lt-ltb}
use Rattle.std.proofs.lemmas.Option.{slice_get_within}
use Rattle.pat_semantics_spec.specs.Values.{Value, Const, Mailbox, Kind, MailboxOf, Env, ValueFits, ValuesFit}
use Rattle.pat_semantics_spec.specs.Programs.{Polarity, Sending, Receiving, Sort, BaseSort, MailboxSort, TagDecl, Interface, Program, Node, node_at, tag_at, kind_of, option_list}
use Rattle.pat_semantics_spec.specs.WellFormed.{WellFormed, IsPatternOf, IsPayload, InterfaceFits}
use Rattle.pat_semantics_spec.specs.Configs.{Control, Running, Returned, Frame, Thread, Message, Config}
use Rattle.pat_semantics_laws.proofs.Lists.{all_at, all_join}
use Rattle.pat_inclusion_spec.specs.Patterns.{Pat, Zero, One, Tag, Sum, Prod, Star, Var, is_zero, is_one, is_closed, prod_of}
use Rattle.pat_words_spec.specs.Tags.{tags_below}
use Rattle.pat_inclusion_spec.specs.Values.{Scope, is_formed}
use Rattle.pat_type_system_spec.specs.Types.{Second, MailboxType, TypeOf, BaseTerm, MailboxTerm, TypeEnv, kind_of_type}
use Rattle.pat_type_system_spec.specs.Typings.{Typing, payload_sort, payload_type}
use Rattle.pat_type_system_spec.specs.Holdings.{type_at, bound_of, wanted, as_holding, declared_types, receives_by, receivers}
use Rattle.pat_type_schemes_spec.specs.NodeTypes.{need_of, result_open, env_open}
use Rattle.pat_derivation_spec.specs.Same.{is_mailbox_of}
use Rattle.pat_derivation_spec.specs.Scopes.{is_in_scope, kind_at}
use Rattle.pat_derivation_spec.specs.Derivations.{Line, Derivation, line_at, scope_of, tag_count, written_typing}
use Rattle.pat_derivation_spec.specs.Rules.{type_is_formed, is_named_well}
use Rattle.pat_derivation_spec.specs.Validity.{broken_for, broken_rule, IsValid}
use Rattle.pat_derivation_laws.proofs.DemandsMet.{kind_same}
use Rattle.pat_derivation_laws.proofs.Names.{each_named}
use Rattle.pat_checkpoint_spec.specs.HoldingsInOrder.{sends_by, lines_held, types_held, Held, held_as, env_holds, control_holds, frames_hold, threads_hold, payload_holds, messages_hold_types, all_held, types_of, sending, receiving}
use Rattle.pat_checkpoint_spec.specs.Kinds.{value_fits, value_fits_some, is_asked, entry_fits, part_fits, types_agree, control_fits, is_frame_of_let, frames_fit, thread_fits}
use Rattle.pat_checkpoint_spec.specs.Mailboxes.{fits_declared, message_fits, mailboxes_differ}
use Rattle.pat_checkpoint_spec.specs.Balances.{paired, chained, joined_within, pending_tags, senders, balance_left, first_or_zero, balance_right}
use Rattle.pat_checkpoint_laws.proofs.ValidParts.{line_shaped}
use Rattle.pat_checkpoint_laws.proofs.PartTests.{all_fit_so}
use Rattle.pat_checkpoint_laws.proofs.Gathers.{gathers, senders_are, receivers_are}

-- ---- products

prod_formed : (s : Scope) (i : ℕ) (e f : Pat) → is_formed s i e ≡ true → is_formed s i f ≡ true → is_formed s i (prod_of e f) ≡ true
prod_formed s i e f a b =
    let P : Pat → Type 0 = λ x. is_formed s i x ≡ true in
    cond_both (is_zero e || is_zero f) Zero (if is_one e then f else if is_one f then e else Prod e f) P
    (λ _. refl)
    (λ _. cond_both (is_one e) f (if is_one f then e else Prod e f) P
    (λ _. b)
    (λ _. cond_both (is_one f) e (Prod e f) P (λ _. a) (λ _. and_from (is_formed s i e) (is_formed s i f) a b)))

-- each pattern is one of the interface
abbrev pub AllFormed : Scope → ℕ → List Pat → Type 0
AllFormed s i es = AllByRecursion (λ e. is_formed s i e ≡ true) es

paired_formed : (s : Scope) (i : ℕ) (es : List Pat) → AllFormed s i es → AllFormed s i (paired es)
paired_formed s i [] a = tt
paired_formed s i (e ∷ []) a = a
paired_formed s i (e ∷ f ∷ rest) a = (prod_formed s i e f a.0 a.1.0, paired_formed s i rest a.1.1)

chained_formed : (s : Scope) (i : ℕ) (es : List Pat) → AllFormed s i es → is_formed s i (chained es) ≡ true
chained_formed s i [] a = refl
chained_formed s i (e ∷ es) a = prod_formed s i e (chained es) a.0 (chained_formed s i es a.1)

joined_formed : (s : Scope) (i n : ℕ) (es : List Pat) → AllFormed s i es → is_formed s i (joined_within n es) ≡ true
joined_formed s i zero [] a = refl
joined_formed s i (suc n) [] a = refl
joined_formed s i zero (e ∷ []) a = a.0
joined_formed s i (suc n) (e ∷ []) a = a.0
joined_formed s i zero (e ∷ f ∷ rest) a = chained_formed s i (e ∷ f ∷ rest) a
joined_formed s i (suc n) (e ∷ f ∷ rest) a = joined_formed s i n (paired (e ∷ f ∷ rest)) (paired_formed s i (e ∷ f ∷ rest) a)

-- ---- closed patterns

closed_formed : (s : Scope) (i n : ℕ) (e : Pat) → s.tags i ≡ n → is_closed e ≡ true → tags_below n e ≡ true → is_formed s i e ≡ true
closed_formed s i n Zero is c t = refl
closed_formed s i n One is c t = refl
closed_formed s i n (Tag m) is c t = ap (nat_lt m) is ∙ t
closed_formed s i n (Sum e f) is c t =
    let a = and_parts (is_closed e) (is_closed f) c in
    let b = and_parts (tags_below n e) (tags_below n f) t in
    and_from (is_formed s i e) (is_formed s i f) (closed_formed s i n e is a.0 b.0) (closed_formed s i n f is a.1 b.1)
closed_formed s i n (Prod e f) is c t =
    let a = and_parts (is_closed e) (is_closed f) c in
    let b = and_parts (tags_below n e) (tags_below n f) t in
    and_from (is_formed s i e) (is_formed s i f) (closed_formed s i n e is a.0 b.0) (closed_formed s i n f is a.1 b.1)
closed_formed s i n (Star e) is c t = closed_formed s i n e is c t
closed_formed s i n (Var k) is c t = cc

-- ---- what places hold

-- the type is of the mailbox's interface, and so is its pattern
abbrev pub HeldFormed : Scope → (ℕ → ℕ) → Held → Type 0
HeldFormed s f h = (h.1.interface ≡ f h.0) × (is_formed s h.1.interface h.1.pattern ≡ true)

abbrev pub AllHeldFormed : Scope → (ℕ → ℕ) → List Held → Type 0
AllHeldFormed s f hs = AllByRecursion (HeldFormed s f) hs

module _ (p : Program) (wf : WellFormed p) (d : Derivation) (valid : IsValid p d) (f : ℕ → ℕ) where
  abbrev s : Scope
  s = scope_of p d

  abbrev w : Typing
  w = written_typing p d

  -- a node has the type of its line, and that is formed; what is no node has no line
  no_line : (n : ℕ) → node_at p n ≡ None → line_at d n ≡ None
  unfolding broken_rule
  no_line n at = go (line_at d n) refl (subst (λ o. broken_for p d n o (line_at d n) ≡ None) at (valid n))
    where
      go : (o : Option Line) → line_at d n ≡ o → broken_for p d n None (line_at d n) ≡ None → line_at d n ≡ None
      go None is h = is
      go (Some l) is h = let some : broken_for p d n None (Some l) ≡ None = sym (ap (broken_for p d n None) is) ∙ h in cc

  pub result_formed : (n : ℕ) → type_is_formed s (w.results n) ≡ true
  result_formed n = go (node_at p n) refl
    where
      go : (o : Option Node) → node_at p n ≡ o → type_is_formed s (result_open (option_map (λ (l : Line). l.of) (line_at d n))) ≡ true
      go None is = ap (λ o. type_is_formed s (result_open (option_map (λ (l : Line). l.of) o))) (no_line n is)
      go (Some c) is =
          let l = line_shaped p d n c valid is in
          ap (λ o. type_is_formed s (result_open (option_map (λ (l : Line). l.of) o))) l.there ∙ l.formed

  pub wanted_formed : (fs : List Frame) → type_is_formed s (wanted p w fs) ≡ true
  wanted_formed [] = refl
  wanted_formed (g ∷ fs) = go (bound_of p.nodes g.body)
    where
      go : (o : Option ℕ) → type_is_formed s (type_at w o) ≡ true
      go None = refl
      go (Some m) = result_formed m

  -- a variable's type is of its kind's interface
  named_formed : (n x : ℕ) (t : MailboxType) → w.envs n x ≡ Some t → (kind_at p n x ≡ Some (MailboxOf t.interface)) × (is_formed s t.interface t.pattern ≡ true)
  named_formed n x t at = go (node_at p n) refl
    where
      some_none : {A : Type 0} {v : A} {o : Option A} → o ≡ Some v → o ≡ None → ⊥
      some_none h k = cc

      kind_is : (o : Option Kind) → is_mailbox_of t.interface o ≡ true → o ≡ Some (MailboxOf t.interface)
      kind_is None h = cc
      kind_is (Some k) h = ap Some (kind_same k (MailboxOf t.interface) h)

      go : (o : Option Node) → node_at p n ≡ o → (kind_at p n x ≡ Some (MailboxOf t.interface)) × (is_formed s t.interface t.pattern ≡ true)
      go None is = absurd (some_none at (ap (λ o. env_open (option_map (λ (l : Line). l.of) o) x) (no_line n is)))
      go (Some c) is =
          let l = line_shaped p d n c valid is in
          let need : need_of l.line.of.needs x ≡ Some t = sym (ap (λ o. env_open (option_map (λ (l : Line). l.of) o) x) l.there) ∙ at in
          let named = each_named (is_named_well p d n) l.line.of.needs x t l.named need in
          let a = and_parts (is_in_scope p n x) (is_mailbox_of t.interface (kind_at p n x) && is_formed s t.interface t.pattern) named in
          let b = and_parts (is_mailbox_of t.interface (kind_at p n x)) (is_formed s t.interface t.pattern) a.1 in
          (kind_is (kind_at p n x) b.0, b.1)

  -- ---- parts

  place_formed : (n x : ℕ) (v : Value) (o : Option MailboxType) → w.envs n x ≡ o → value_fits_some f v (kind_at p n x) ≡ true → AllHeldFormed s f (held_as v o)
  place_formed n x (Const c) o is h = tt
  place_formed n x (Mailbox a) None is h = tt
  place_formed n x (Mailbox a) (Some t) is h =
      let q = named_formed n x t is in
      let fits : value_fits_some f (Mailbox a) (Some (MailboxOf t.interface)) ≡ true = sym (ap (value_fits_some f (Mailbox a)) q.0) ∙ h in
      ((sym (eqb-true (f a) t.interface fits), q.1), tt)

  env_formed : (n : ℕ) (but : List ℕ) (env : Env) → list_all (entry_fits p f n but) env ≡ true → AllHeldFormed s f (env_holds (w.envs n) env)
  env_formed n but [] h = tt
  env_formed n but (e ∷ env) h =
      let q = and_parts (entry_fits p f n but e) (list_all (entry_fits p f n but) env) h in
      let k = and_parts (is_asked p n but e.0) (value_fits_some f e.1 (kind_at p n e.0)) q.0 in
      all_join (HeldFormed s f) (held_as e.1 (w.envs n e.0)) (env_holds (w.envs n) env) (place_formed n e.0 e.1 (w.envs n e.0) refl k.1) (env_formed n but env q.1)

  part_formed : (n : ℕ) (but : List ℕ) (env : Env) → part_fits p f n but env ≡ true → AllHeldFormed s f (env_holds (w.envs n) env)
  part_formed n but env h =
      env_formed n but env (and_parts _ (list_all (entry_fits p f n but) env) (and_parts _ _ h).1).1

  returned_formed : (v : Value) (t : TypeOf) → value_fits f v (kind_of_type t) ≡ true → type_is_formed s t ≡ true → AllHeldFormed s f (held_as v (as_holding t))
  returned_formed (Const c) (BaseTerm b) h k = tt
  returned_formed (Const c) (MailboxTerm i q e) h k = tt
  returned_formed (Mailbox a) (BaseTerm b) h k = tt
  returned_formed (Mailbox a) (MailboxTerm i q e) h k = ((sym (eqb-true (f a) i h), k), tt)

  control_formed : (k : Control) (fs : List Frame) → control_fits p w f k fs ≡ true → AllHeldFormed s f (control_holds p w k fs)
  control_formed (Running n env) fs h = part_formed n [] env (and_parts (part_fits p f n [] env) (types_agree (w.results n) (wanted p w fs)) h).0
  control_formed (Returned v) fs h = returned_formed v (wanted p w fs) h (wanted_formed fs)

  frames_formed : (fs : List Frame) → frames_fit p w f fs ≡ true → AllHeldFormed s f (frames_hold w fs)
  frames_formed [] h = tt
  frames_formed (g ∷ fs) h =
      let part = part_fits p f g.body (option_list g.var) g.env in
      let agree = types_agree (w.results g.body) (wanted p w fs) in
      let a1 = and_parts (is_frame_of_let p g) (part && (agree && frames_fit p w f fs)) h in
      let a2 = and_parts part (agree && frames_fit p w f fs) a1.1 in
      let a3 = and_parts agree (frames_fit p w f fs) a2.1 in
      all_join (HeldFormed s f) (frames_hold w fs) (env_holds (w.envs g.body) g.env) (frames_formed fs a3.1) (part_formed g.body (option_list g.var) g.env a2.0)

  threads_formed : (ts : List (ℕ × Thread)) → list_all (λ e. thread_fits p w f e.1) ts ≡ true → AllHeldFormed s f (threads_hold p w ts)
  threads_formed [] h = tt
  threads_formed (e ∷ es) h =
      let q = and_parts (thread_fits p w f e.1) (list_all (λ e. thread_fits p w f e.1) es) h in
      let k = and_parts (control_fits p w f e.1.control e.1.frames) (frames_fit p w f e.1.frames) q.0 in
      let ch = control_holds p w e.1.control e.1.frames in
      let fh = frames_hold w e.1.frames in
      all_join (HeldFormed s f) (ch ++ fh) (threads_hold p w es)
      (all_join (HeldFormed s f) ch fh (control_formed e.1.control e.1.frames k.0) (frames_formed e.1.frames k.1))
      (threads_formed es q.1)

  -- ---- messages

  pattern_formed : (i : ℕ) (e : Pat) → IsPatternOf p i e → is_formed s i e ≡ true
  pattern_formed i e h = closed_formed s i (length h.interface.tags) e (ap tag_count h.there) h.closed h.tags

  payload_formed : (a i : ℕ) (q : Polarity) (e : Pat) → IsPayload p (MailboxSort i q (Some e)) → f a ≡ i → HeldFormed s f (a, record { interface = i; polarity = q; pattern = e; usage = Second })
  payload_formed a i Sending e h is = (sym is, pattern_formed i e h.0)
  payload_formed a i Receiving e h is = (sym is, pattern_formed i e h)

  value_formed : (v : Value) (t : Sort) → IsPayload p t → ValueFits f v (kind_of t) → AllHeldFormed s f (held_as v (payload_sort t))
  value_formed (Const c) t h k = tt
  value_formed (Mailbox a) (BaseSort b) h k = tt
  value_formed (Mailbox a) (MailboxSort i q None) h k = tt
  value_formed (Mailbox a) (MailboxSort i q (Some e)) h k = (payload_formed a i q e h k, tt)

  declared_payloads : (i m : ℕ) (decl : TagDecl) → tag_at p i m ≡ Some decl → (m < tag_count (slice_get p.interfaces i)) × AllByRecursion (IsPayload p) decl.payloads
  declared_payloads i m decl at = go (slice_get p.interfaces i) refl at
    where
      go : (o : Option Interface) → slice_get p.interfaces i ≡ o → option_and_then (λ (j : Interface). slice_get j.tags m) o ≡ Some decl → (m < tag_count o) × AllByRecursion (IsPayload p) decl.payloads
      go None q h = cc
      go (Some j) q h =
          (slice_get_within j.tags m decl h, all_at (λ t. AllByRecursion (IsPayload p) t.payloads) j.tags m decl (all_at (InterfaceFits p) p.interfaces i j wf.interfaces q).payloads h)

  -- the values from place k on, where the sorts from there on are those that are left
  values_formed : (types : TypeEnv) (k : ℕ) (vs : List Value) (ts : List Sort) → ((j : ℕ) → types (k + j) ≡ option_and_then payload_sort (slice_get ts j)) → AllByRecursion (IsPayload p) ts → ValuesFit f vs (map kind_of ts) → AllHeldFormed s f (payload_holds types k vs)
  values_formed types k [] ts at ps fit = tt
  values_formed types k (v ∷ vs) [] at ps fit = absurd fit
  values_formed types k (v ∷ vs) (t ∷ ts) at ps fit =
      let here : types k ≡ payload_sort t = ap types (let z : k ≡ k + 0 = omega arith in z) ∙ at 0 in
      all_join (HeldFormed s f) (held_as v (types k)) (payload_holds types (suc k) vs)
      (subst (λ o. AllHeldFormed s f (held_as v o)) (sym here) (value_formed v t ps.0 fit.0))
      (values_formed types (suc k) vs ts (λ j. ap types (let z : suc k + j ≡ k + suc j = omega arith in z) ∙ at (suc j)) ps.1 fit.1)

  message_formed : (m : Message) → message_fits p f m ≡ true → AllHeldFormed s f (payload_holds (declared_types (tag_at p (f m.mailbox) m.tag)) 0 m.values) × (is_formed s (f m.mailbox) (Tag m.tag) ≡ true)
  message_formed m h = go (tag_at p (f m.mailbox) m.tag) refl h
    where
      go : (o : Option TagDecl) → tag_at p (f m.mailbox) m.tag ≡ o → fits_declared f m.values o ≡ true → AllHeldFormed s f (payload_holds (declared_types o) 0 m.values) × (is_formed s (f m.mailbox) (Tag m.tag) ≡ true)
      go None is k = cc
      go (Some decl) is k =
          let q = declared_payloads (f m.mailbox) m.tag decl is in (
            values_formed (payload_type decl) 0 m.values decl.payloads (λ j. ap (λ n. option_and_then payload_sort (slice_get decl.payloads n)) (let z : 0 + j ≡ j = omega arith in z)) q.1 (all_fit_so f m.values (map kind_of decl.payloads) k),
            lt-ltb m.tag (tag_count (slice_get p.interfaces (f m.mailbox))) q.0,
          )

  messages_formed : (ms : List Message) → list_all (message_fits p f) ms ≡ true → AllHeldFormed s f (messages_hold_types p f ms)
  messages_formed [] h = tt
  messages_formed (m ∷ ms) h =
      let q = and_parts (message_fits p f m) (list_all (message_fits p f) ms) h in
      all_join (HeldFormed s f) (payload_holds (declared_types (tag_at p (f m.mailbox) m.tag)) 0 m.values) (messages_hold_types p f ms) (message_formed m q.0).0 (messages_formed ms q.1)

  tags_formed : (a : ℕ) (ms : List Message) → list_all (message_fits p f) ms ≡ true → AllFormed s (f a) (pending_tags a ms)
  tags_formed a [] h = tt
  tags_formed a (m ∷ ms) h =
      let q = and_parts (message_fits p f m) (list_all (message_fits p f) ms) h in
      (elim (nat_eq m.mailbox a) as (λ t. nat_eq m.mailbox a ≡ t → AllFormed s (f a) (map (λ m. Tag m.tag) (cond t (m ∷ filter (λ m. nat_eq m.mailbox a) ms) (filter (λ m. nat_eq m.mailbox a) ms)))) [
        | true ↦ λ e. (subst (λ x. is_formed s (f x) (Tag m.tag) ≡ true) (eqb-true m.mailbox a e) (message_formed m q.0).1, tags_formed a ms q.1)
        | false ↦ λ e. tags_formed a ms q.1
      ]) refl

  -- ---- of one mailbox

  own_formed : (a : ℕ) (hs : List Held) → AllHeldFormed s f hs → AllByRecursion (λ t. is_formed s (f a) t.pattern ≡ true) (types_of a hs)
  own_formed a [] h = tt
  own_formed a (e ∷ hs) h =
      (elim (nat_eq a e.0) as (λ t. nat_eq a e.0 ≡ t → AllByRecursion (λ t. is_formed s (f a) t.pattern ≡ true) (map (λ h. h.1) (cond t (e ∷ filter (λ h. nat_eq a h.0) hs) (filter (λ h. nat_eq a h.0) hs)))) [
        | true ↦ λ q.
            let same : e.1.interface ≡ f a = h.0.0 ∙ ap f (sym (eqb-true a e.0 q)) in
            (subst (λ i. is_formed s i e.1.pattern ≡ true) same h.0.1, own_formed a hs h.1)
        | false ↦ λ q. own_formed a hs h.1
      ]) refl

sends_formed : (s : Scope) (i : ℕ) (q : Polarity) (e : Pat) → is_formed s i e ≡ true → AllFormed s i (sends_by q e)
sends_formed s i Sending e h = (h, tt)
sends_formed s i Receiving e h = tt

receives_formed : (s : Scope) (i : ℕ) (q : Polarity) (e : Pat) → is_formed s i e ≡ true → AllFormed s i (receives_by q e)
receives_formed s i Sending e h = tt
receives_formed s i Receiving e h = (h, tt)

sending_formed : (s : Scope) (i : ℕ) (ts : List MailboxType) → AllByRecursion (λ t. is_formed s i t.pattern ≡ true) ts → AllFormed s i (sending ts)
sending_formed s i [] h = tt
sending_formed s i (t ∷ ts) h =
    all_join (λ e. is_formed s i e ≡ true) (sends_by t.polarity t.pattern) (sending ts) (sends_formed s i t.polarity t.pattern h.0) (sending_formed s i ts h.1)

receiving_formed : (s : Scope) (i : ℕ) (ts : List MailboxType) → AllByRecursion (λ t. is_formed s i t.pattern ≡ true) ts → AllFormed s i (receiving ts)
receiving_formed s i [] h = tt
receiving_formed s i (t ∷ ts) h =
    all_join (λ e. is_formed s i e ≡ true) (receives_by t.polarity t.pattern) (receiving ts) (receives_formed s i t.polarity t.pattern h.0) (receiving_formed s i ts h.1)

first_formed : (s : Scope) (i : ℕ) (es : List Pat) → AllFormed s i es → is_formed s i (first_or_zero es) ≡ true
first_formed s i [] h = refl
first_formed s i (e ∷ es) h = h.0

-- both sides of a mailbox's balance are patterns of its interface
pub sides_formed : (p : Program) (d : Derivation) (f : ℕ → ℕ) (c : Config) (a : ℕ) → WellFormed p → IsValid p d → list_all (λ e. thread_fits p (written_typing p d) f e.1) c.threads ≡ true → mailboxes_differ c ≡ true → list_all (message_fits p f) c.messages ≡ true → (is_formed (scope_of p d) (f a) (balance_left p (written_typing p d) f c a) ≡ true) × (is_formed (scope_of p d) (f a) (balance_right p (written_typing p d) f c a) ≡ true)
sides_formed p d f c a wf valid threads differ messages =
    let s = scope_of p d in
    let w = written_typing p d in
    let all = all_join (HeldFormed s f) (messages_hold_types p f c.messages) (threads_hold p w c.threads) (messages_formed p wf d valid f c.messages messages) (threads_formed p wf d valid f c.threads threads) in
    let own = own_formed p wf d valid f a (all_held p w f c) all in
    let ls = lines_held p w f c a in
    let types : types_held ls ≡ types_of a (all_held p w f c) = gathers p w f c a differ in
    let left : AllFormed s (f a) (senders ls) = subst (AllFormed s (f a)) (sym (senders_are ls ∙ ap sending types)) (sending_formed s (f a) (types_of a (all_held p w f c)) own) in
    let right : AllFormed s (f a) (receivers ls) = subst (AllFormed s (f a)) (sym (receivers_are ls ∙ ap receiving types)) (receiving_formed s (f a) (types_of a (all_held p w f c)) own) in
    let tags = pending_tags a c.messages in (
      joined_formed s (f a) (length (tags ++ senders ls)) (tags ++ senders ls) (all_join (λ e. is_formed s (f a) e ≡ true) tags (senders ls) (tags_formed p wf d valid f a c.messages messages) left),
      first_formed s (f a) (receivers ls) right,
    )
