-- A receive keeps each mailbox balanced.
use Rattle.std.proofs.Common.{◌≡◌, ℕ, suc, true, false, nat_eq, if◌then◌else◌, List, [], ◌∷◌, length, Option, Some, None, refl, sym, ap, ◌∙◌, subst, arith, ◌⊎◌, inr, ⊎_elim}
use Rattle.std.specs.Prelude.{is_some}
use Rattle.std.specs.List.{IsDistinct, list_any}
use Rattle.std.proofs.lemmas.Bool.{eqb-true, eqb-false, eq-eqb, ne_eqb, cond-true, cond-false, cases_Bool, or_left, false_from_ne_true}
use Rattle.pat_words_spec.specs.Words.{Word, no_word, one, plus}
use Rattle.pat_words_spec.specs.Patterns.{Pat, In, Included, residual}
use Rattle.pat_words_laws.proofs.WordLaws.{word_ext}
use Rattle.pat_words_laws.proofs.PatternLaws.{residual_from}
use Rattle.pat_semantics_spec.specs.Values.{Value, Mailbox, Env, value_at, bind_all}
use Rattle.pat_semantics_spec.specs.Programs.{Program, Polarity, Sending, Receiving, Clause, is_among, clause_binders, is_free, keep}
use Rattle.pat_semantics_spec.specs.Configs.{Message, is_mailbox}
use Rattle.pat_semantics_spec.specs.Steps.{received}
use Rattle.pat_type_system_spec.specs.Types.{Usage, Returnable, mailbox_type, PatternFits, TypeEnv, PassesTo, without}
use Rattle.pat_type_system_spec.specs.Typings.{Typing, payload_type, with_payloads, clause_env, HasMailboxPayload, GuardTyped, ClauseTyped}
use Rattle.pat_type_system_spec.specs.Holdings.{Holding, held, payload_held, Balanced}
use Rattle.pat_type_system_spec.specs.Typed.{PartFits, mailboxes_of}
use Rattle.pat_safety_laws.proofs.Balance.{Refines, active, refine_balance, passes_refine, choice_one, choice_of_one, drop_second, drop_first}
use Rattle.pat_safety_laws.proofs.Refers.{payload_none}
use Rattle.pat_safety_laws.proofs.Envs.{value_at-bind, kept, held_cases, HeldCases, by_variable, by_none, value_at-keep}
use Rattle.pat_semantics_laws.proofs.Ascending.{ascends_bind, ascends_bind_all, ascends_filter}
use Rattle.pat_safety_laws.proofs.Payloads.{HaveTypes, value_off, PayloadCases, of_env, of_payload, payload_cases, PayloadPlace, payload_place, names_head}
use Rattle.pat_type_system_laws.proofs.Environments.{payloads_off}
use Rattle.pat_semantics_laws.proofs.Lists.{clash, ne_turn, any_first, any_last}
use Rattle.pat_type_system_laws.proofs.Passing.{drop_back, passes_drop}
use Rattle.pat_semantics_spec.specs.Orders.{AscendsFrom}
use Rattle.std.specs.Map.{keys_of}

-- ---- balance, where the first holdings are those of the control and of the message

-- a message is received: the receiving holding becomes one of the residual
receive_refine : (i j : ℕ) (u v : Usage) (q p : Polarity) (e0 e f : Pat) (m : ℕ) (s : Word) → q ≡ Receiving → Included e0 e → Receiving ≡ p → PatternFits p (residual e m) f → Refines (Some (mailbox_type i q e0 u) ∷ []) (plus (one m) s) (Some (mailbox_type j p f v) ∷ []) s
receive_refine i j u v Receiving Receiving e0 e f m s q0 fits p0 rest =
    active e0 f refl refl
    (λ x old w c.
    let n : w ≡ no_word = choice_of_one (Some (mailbox_type j Receiving f v)) w c in
    let whole : In e (plus (plus (plus (one m) s) no_word) x) =
    fits (plus (plus (plus (one m) s) no_word) x) (old no_word (choice_one (Some (mailbox_type i Receiving e0 u)) no_word refl)) in
    let turn : plus (plus (plus (one m) s) no_word) x ≡ plus (plus (plus s w) x) (one m) =
    ap (λ (z : Word). plus (plus (plus (one m) s) z) x) (sym n) ∙ word_ext (plus (plus (plus (one m) s) w) x) (plus (plus (plus s w) x) (one m)) (λ t. omega arith) in
    rest (plus (plus s w) x) (residual_from e m (plus (plus s w) x) (subst (In e) turn whole)))
receive_refine i j u v Sending p e0 e f m s q0 fits p0 rest = cc
receive_refine i j u v Receiving Sending e0 e f m s q0 fits p0 rest = cc

-- ---- the holdings of a received message's clause

-- what is known where message m is received by clause r of a guard x : e
pub record Receipt (p : Program) (y : Typing) (interfaces : ℕ → ℕ) (n : ℕ) (env : Env) (x : ℕ) (e : Pat) (free : Option ℕ) (cs : List Clause) (r : Clause) (m : Message) : Type 0 where
  pub guard : GuardTyped p y (y.envs n) (y.results n) x e free cs
  pub clause : ClauseTyped p y (y.envs n) (y.results n) x guard.guarded.interface e r
  pub guards : value_at env x ≡ Some (Mailbox m.mailbox)
  pub part : PartFits p interfaces n [] env
  pub different : IsDistinct nat_eq (mailboxes_of (Mailbox m.mailbox ∷ m.values))
  pub lengths : length r.vars ≡ length m.values
  pub tag : r.tag ≡ m.tag
  pub vars_distinct : IsDistinct nat_eq r.vars
  pub from_apart : is_among r.from r.vars ≡ false
  pub fresh : (z : ℕ) (v : Value) → value_at env z ≡ Some v → is_among z (clause_binders r) ≡ false
  pub have_types : HaveTypes (payload_type clause.decl) 0 m.values
  -- a mailbox variable that is free in the body is named there
  pub named : (z b : ℕ) → value_at (keep p r.body (received r m env)) z ≡ Some (Mailbox b) → is_some (y.envs r.body z) ≡ true
  -- a variable that isn't free in the body may be dropped there
  pub unused : (z : ℕ) → is_free p z r.body ≡ false → PassesTo (y.envs r.body z) None

module _ (p : Program) (y : Typing) (interfaces : ℕ → ℕ) (n : ℕ) (env : Env) (x : ℕ) (e : Pat) (free : Option ℕ) (cs : List Clause) (r : Clause) (m : Message) (known : Receipt p y interfaces n env x e free cs r m) where
  abbrev pub types : TypeEnv
  types = payload_type known.clause.decl

  abbrev pub body : TypeEnv
  body = y.envs r.body

  abbrev pub offered : TypeEnv
  offered = clause_env (y.envs n) x known.guard.guarded.interface e known.clause.decl r

  abbrev pub all_values : Env
  all_values = received r m env

  abbrev pub kept_values : Env
  kept_values = keep p r.body all_values

  none_some : {A : Type 0} {a : A} → None ≡ Some a → ⊥
  none_some h = cc

  names_distinct : IsDistinct nat_eq (mailboxes_of m.values)
  unfolding IsDistinct
  names_distinct = known.different.1

  -- the message's own mailbox isn't in its payload
  own_apart : list_any (is_mailbox m.mailbox) m.values ≡ false
  own_apart = names_head m.mailbox m.values known.different

  binders_parts : (z : ℕ) → is_among z (clause_binders r) ≡ false → (is_among z r.vars ≡ false) × (nat_eq z r.from ≡ false)
  binders_parts z h = (
    false_from_ne_true (is_among z r.vars) (λ k. clash (any_first (nat_eq z) r.vars (r.from ∷ []) k) h),
    false_from_ne_true (nat_eq z r.from) (λ k. clash (any_last (nat_eq z) r.vars (r.from ∷ []) (or_left (nat_eq z r.from) false k)) h),
  )

  offered_from : offered r.from ≡ Some (mailbox_type known.guard.guarded.interface Receiving (residual e r.tag) Returnable)
  offered_from = cond-true (nat_eq r.from r.from) (Some (mailbox_type known.guard.guarded.interface Receiving (residual e r.tag) Returnable)) (with_payloads types 0 r.vars (without x (y.envs n)) r.from) (eq-eqb r.from r.from refl)

  offered_off : (z : ℕ) → nat_eq z r.from ≡ false → offered z ≡ with_payloads types 0 r.vars (without x (y.envs n)) z
  offered_off z h = cond-false (nat_eq r.from z) (Some (mailbox_type known.guard.guarded.interface Receiving (residual e r.tag) Returnable)) (with_payloads types 0 r.vars (without x (y.envs n)) z) (ne_turn z r.from h)

  -- a variable of the guard's environment, other than the guarded one, is offered with its type
  offered_env : (z : ℕ) → is_among z (clause_binders r) ≡ false → nat_eq x z ≡ false → offered z ≡ y.envs n z
  offered_env z out apart =
      let q = binders_parts z out in
      offered_off z q.1 ∙ payloads_off types 0 r.vars (without x (y.envs n)) z q.0 ∙ cond-false (nat_eq x z) None (y.envs n z) apart

  -- the guarded variable isn't offered
  offered_guarded : offered x ≡ None
  offered_guarded =
      let q = binders_parts x (known.fresh x (Mailbox m.mailbox) known.guards) in
      offered_off x q.1 ∙ payloads_off types 0 r.vars (without x (y.envs n)) x q.0 ∙ cond-true (nat_eq x x) None (y.envs n x) (eq-eqb x x refl)

  -- so the body doesn't name it
  passes_none : (h : Holding) → PassesTo None h → h ≡ None
  passes_none None q = refl
  passes_none (Some b) q = absurd q

  body_guarded : body x ≡ None
  body_guarded = passes_none (body x) (subst (λ h. PassesTo h (body x)) offered_guarded (known.clause.passes x))

  -- ---- the variables of the body that name a mailbox

  -- what is left of the mailbox, a payload, or a variable that named it before
  pub data BodyCases (b z : ℕ) : Type 0 where
    is_from : z ≡ r.from → b ≡ m.mailbox → BodyCases b z
    is_payload : list_any (is_mailbox b) m.values ≡ true → offered z ≡ payload_held b types 0 m.values → is_among z (clause_binders r) ≡ true → BodyCases b z
    is_env : value_at env z ≡ Some (Mailbox b) → nat_eq x z ≡ false → BodyCases b z

  payload_case : (b z : ℕ) → body z ≡ None ⊎ (is_some (body z) ≡ true) → nat_eq z r.from ≡ false → is_some (body z) ≡ true → PayloadCases (without x (y.envs n)) types env b 0 r.vars m.values z → BodyCases b z
  payload_case b z o off some (of_payload among found is) =
      is_payload found (offered_off z off ∙ is) (any_first (nat_eq z) r.vars (r.from ∷ []) among)
  payload_case b z o off some (of_env out at) =
      is_env at (false_from_ne_true (nat_eq x z) (λ q.
      let same : x ≡ z = eqb-true x z q in
      let none : body z ≡ None = subst (λ w. body w ≡ None) same body_guarded in
      clash (sym (ap is_some none) ∙ some) refl))

  pub body_cases : (b z : ℕ) → value_at kept_values z ≡ Some (Mailbox b) → BodyCases b z
  body_cases b z at =
      let some = known.named z b at in
      let k = kept p r.body all_values z (Mailbox b) at in
      (elim (nat_eq z r.from) as (λ t. nat_eq z r.from ≡ t → (if t then Some (Mailbox m.mailbox) else value_at (bind_all env r.vars m.values) z) ≡ Some (Mailbox b) → BodyCases b z) [
        | true ↦ λ q v. is_from (eqb-true z r.from q) cc
        | false ↦ λ q v. payload_case b z (inr some) q some (payload_cases (without x (y.envs n)) types env b 0 r.vars m.values z known.lengths known.have_types names_distinct v)
      ]) refl (sym (value_at-bind (bind_all env r.vars m.values) r.from (Mailbox m.mailbox) z) ∙ k.1)

  pub kept_ascends : AscendsFrom 0 (keys_of kept_values)
  kept_ascends =
      ascends_filter (λ (e : ℕ × Value). e.0) (λ b. is_free p b.0 r.body) 0 all_values
      (ascends_bind 0 (bind_all env r.vars m.values) r.from (Mailbox m.mailbox) (omega arith) (ascends_bind_all env r.vars m.values known.part.keys))

  -- a variable that has a value before and isn't kept isn't free
  lost : (z : ℕ) (v : Value) → value_at all_values z ≡ Some v → (value_at kept_values z ≡ Some v → ⊥) → is_free p z r.body ≡ false
  lost z v at gone =
      false_from_ne_true (is_free p z r.body)
      (λ q. gone (value_at-keep p r.body all_values z ∙ cond-true (is_free p z r.body) (value_at all_values z) None q ∙ at))

  -- a variable that had a value keeps it
  pub still : (z : ℕ) (v : Value) → value_at env z ≡ Some v → value_at all_values z ≡ Some v
  still z v at =
      let q = binders_parts z (known.fresh z v at) in
      value_at-bind (bind_all env r.vars m.values) r.from (Mailbox m.mailbox) z
      ∙ cond-false (nat_eq z r.from) (Some (Mailbox m.mailbox)) (value_at (bind_all env r.vars m.values) z) q.1
      ∙ value_off env r.vars m.values z q.0
      ∙ at

  -- ---- another mailbox than the message's own, which isn't in the payload

  pub passes_env : (b z : ℕ) → value_at env z ≡ Some (Mailbox b) → nat_eq b m.mailbox ≡ false → PassesTo (y.envs n z) (body z)
  passes_env b z at off =
      let apart : nat_eq x z ≡ false = ne_eqb x z (λ q. let named = ap (value_at env) q in let same : Some (Mailbox m.mailbox) ≡ Some (Mailbox b) = sym known.guards ∙ named ∙ at in eqb-false b m.mailbox off cc) in
      subst (λ h. PassesTo h (body z)) (offered_env z (known.fresh z (Mailbox b) at) apart) (known.clause.passes z)

  other_new : (b z : ℕ) → nat_eq b m.mailbox ≡ false → list_any (is_mailbox b) m.values ≡ false → value_at env z ≡ Some (Mailbox b) → HeldCases body b kept_values → PassesTo (y.envs n z) (held body b kept_values)
  other_new b z off out at (by_variable w found is) = go (body_cases b w found)
    where
      go : BodyCases b w → PassesTo (y.envs n z) (held body b kept_values)
      go (is_from q own) = absurd (clash (eq-eqb b m.mailbox own) off)
      go (is_payload found' o among) = absurd (clash found' out)
      go (is_env at' apart) =
          let same : w ≡ z = known.part.different w z b at' at in
          subst (λ h. PassesTo (y.envs n z) h) (sym (is ∙ ap body same)) (passes_env b z at off)
  other_new b z off out at (by_none none is) =
      let gone = lost z (Mailbox b) (still z (Mailbox b) at) (none z) in
      subst (λ h. PassesTo (y.envs n z) h) (sym is) (passes_drop (y.envs n z) (body z) (passes_env b z at off) (known.unused z gone))

  other_none : (b : ℕ) → nat_eq b m.mailbox ≡ false → list_any (is_mailbox b) m.values ≡ false → ((z : ℕ) → value_at env z ≡ Some (Mailbox b) → ⊥) → HeldCases body b kept_values → held body b kept_values ≡ None
  other_none b off out none (by_none none' is) = is
  other_none b off out none (by_variable w found is) = go (body_cases b w found)
    where
      go : BodyCases b w → held body b kept_values ≡ None
      go (is_from q own) = absurd (clash (eq-eqb b m.mailbox own) off)
      go (is_payload found' o among) = absurd (clash found' out)
      go (is_env at' apart) = absurd (none w at')

  other_passes : (b : ℕ) → nat_eq b m.mailbox ≡ false → list_any (is_mailbox b) m.values ≡ false → HeldCases (y.envs n) b env → PassesTo (held (y.envs n) b env) (held body b kept_values)
  other_passes b off out (by_variable z at is) =
      subst (λ h. PassesTo h (held body b kept_values)) (sym is) (other_new b z off out at (held_cases body b 0 kept_values kept_ascends))
  other_passes b off out (by_none none is) =
      subst (λ h. PassesTo h (held body b kept_values)) (sym is)
      (subst (λ h. PassesTo None h) (sym (other_none b off out none (held_cases body b 0 kept_values kept_ascends))) tt)

  -- ---- a mailbox in the payload

  -- a variable of the guard that names it isn't named by the body, so it may be dropped
  beside_payload : (b : ℕ) → HasMailboxPayload known.clause.decl → nat_eq b m.mailbox ≡ false → HeldCases (y.envs n) b env → PassesTo (held (y.envs n) b env) None
  beside_payload b has off (by_none none is) = subst (λ h. PassesTo h None) (sym is) tt
  beside_payload b has off (by_variable z at is) =
      let out = known.fresh z (Mailbox b) at in
      let off_body : is_some (body z) ≡ false = false_from_ne_true (is_some (body z)) (λ q. clash (known.clause.own_names has z q) out) in
      let none : body z ≡ None = no_some (body z) off_body in
      subst (λ h. PassesTo h None) (sym is) (subst (λ h. PassesTo (y.envs n z) h) none (passes_env b z at off))
    where
      no_some : (h : Holding) → is_some h ≡ false → h ≡ None
      no_some None q = refl
      no_some (Some a) q = cc

  payload_new : (b : ℕ) → nat_eq b m.mailbox ≡ false → HasMailboxPayload known.clause.decl → PayloadPlace (without x (y.envs n)) types env b 0 r.vars m.values → HeldCases body b kept_values → PassesTo (payload_held b types 0 m.values) (held body b kept_values)
  payload_new b off has place (by_variable w found is) = go (body_cases b w found)
    where
      go : BodyCases b w → PassesTo (payload_held b types 0 m.values) (held body b kept_values)
      go (is_from q own) = absurd (clash (eq-eqb b m.mailbox own) off)
      go (is_payload found' o among) =
          subst (λ h. PassesTo (payload_held b types 0 m.values) h) (sym is) (subst (λ h. PassesTo h (body w)) o (known.clause.passes w))
      go (is_env at' apart) = absurd (clash (known.clause.own_names has w (known.named w b found)) (known.fresh w (Mailbox b) at'))
  payload_new b off has place (by_none none is) =
      let var_off : nat_eq place.var r.from ≡ false =
      false_from_ne_true (nat_eq place.var r.from) (λ q. clash (subst (λ v. is_among v r.vars ≡ true) (eqb-true place.var r.from q) place.among) known.from_apart) in
      let at : value_at all_values place.var ≡ Some (Mailbox b) =
      value_at-bind (bind_all env r.vars m.values) r.from (Mailbox m.mailbox) place.var
      ∙ cond-false (nat_eq place.var r.from) (Some (Mailbox m.mailbox)) (value_at (bind_all env r.vars m.values) place.var) var_off
      ∙ place.at in
      let gone = lost place.var (Mailbox b) at (none place.var) in
      let passes = subst (λ h. PassesTo h (body place.var)) (offered_off place.var var_off ∙ place.is) (known.clause.passes place.var) in
      subst (λ h. PassesTo (payload_held b types 0 m.values) h) (sym is) (passes_drop (payload_held b types 0 m.values) (body place.var) passes (known.unused place.var gone))

  pub has_payload : (b k : ℕ) (vs : List Value) → is_some (payload_held b types k vs) ≡ true → HasMailboxPayload known.clause.decl
  has_payload b k [] h = cc
  has_payload b k (v ∷ vs) h =
      (elim (is_mailbox b v) as (λ t. is_some (if t then types k else payload_held b types (suc k) vs) ≡ true → HasMailboxPayload known.clause.decl) [
        | true ↦ λ q. (k, q)
        | false ↦ λ q. has_payload b (suc k) vs q
      ]) h

  -- ---- the message's own mailbox

  pub own_old : HeldCases (y.envs n) m.mailbox env → held (y.envs n) m.mailbox env ≡ Some known.guard.guarded
  own_old (by_variable z at is) =
      let same : z ≡ x = known.part.different z x m.mailbox at known.guards in is ∙ ap (y.envs n) same ∙ known.guard.named
  own_old (by_none none is) = absurd (none x known.guards)

  -- what is left of the mailbox can't be dropped
  left_kept : (o : Holding) → PassesTo (Some (mailbox_type known.guard.guarded.interface Receiving (residual e r.tag) Returnable)) o → PassesTo o None → ⊥
  left_kept None q d = q
  left_kept (Some f) q d =
      drop_back known.guard.guarded.interface f.interface Returnable f.usage Receiving f.polarity (residual e r.tag) f.pattern q.polarity q.pattern d

  from_passes : PassesTo (Some (mailbox_type known.guard.guarded.interface Receiving (residual e r.tag) Returnable)) (body r.from)
  from_passes = subst (λ h. PassesTo h (body r.from)) offered_from (known.clause.passes r.from)

  own_new : HeldCases body m.mailbox kept_values → held body m.mailbox kept_values ≡ body r.from
  own_new (by_variable w found is) = go (body_cases m.mailbox w found)
    where
      go : BodyCases m.mailbox w → held body m.mailbox kept_values ≡ body r.from
      go (is_from q own) = is ∙ ap body q
      go (is_payload found' o among) = absurd (clash found' own_apart)
      go (is_env at' apart) = absurd (clash (eq-eqb x w (known.part.different x w m.mailbox known.guards at')) apart)
  own_new (by_none none is) =
      let at : value_at all_values r.from ≡ Some (Mailbox m.mailbox) =
      value_at-bind (bind_all env r.vars m.values) r.from (Mailbox m.mailbox) r.from
      ∙ cond-true (nat_eq r.from r.from) (Some (Mailbox m.mailbox)) (value_at (bind_all env r.vars m.values) r.from) (eq-eqb r.from r.from refl) in
      let gone = lost r.from (Mailbox m.mailbox) at (none r.from) in
      absurd (left_kept (body r.from) from_passes (known.unused r.from gone))

  own_refine : (o : Holding) (s : Word) → PassesTo (Some (mailbox_type known.guard.guarded.interface Receiving (residual e r.tag) Returnable)) o → Refines (Some known.guard.guarded ∷ []) (plus (one m.tag) s) (o ∷ []) s
  own_refine None s q = absurd q
  own_refine (Some f) s q =
      let g = known.guard.guarded in
      let fits = known.guard.fits in
      receive_refine g.interface f.interface g.usage f.usage g.polarity f.polarity g.pattern e f.pattern m.tag s
      fits.polarity
      fits.pattern
      q.polarity
      (subst (λ t. PatternFits f.polarity (residual e t) f.pattern) known.tag q.pattern)

  -- ---- all together: the control's holding and the message's give way to the body's

  pub other_balanced : (b : ℕ) (ks : List Holding) (s : Word) → nat_eq b m.mailbox ≡ false → Balanced (held (y.envs n) b env ∷ payload_held b types 0 m.values ∷ ks) s → Balanced (held body b kept_values ∷ ks) s
  other_balanced b ks s off bal =
      let o = held (y.envs n) b env in
      let h = payload_held b types 0 m.values in
      let k = held body b kept_values in
      ⊎_elim
      (λ found.
      let place = payload_place (without x (y.envs n)) types env b 0 r.vars m.values known.lengths known.vars_distinct known.have_types found in
      let has = has_payload b 0 m.values place.typed in
      let dropped = drop_first o (h ∷ ks) s (beside_payload b has off (held_cases (y.envs n) b 0 env known.part.keys)) bal in
      refine_balance (h ∷ []) (k ∷ []) ks s s (passes_refine h k s (payload_new b off has place (held_cases body b 0 kept_values kept_ascends))) dropped)
      (λ out.
      let none = payload_none b types 0 m.values out in
      let dropped = drop_second o h ks s (subst (λ w. PassesTo w None) (sym none) tt) bal in
      refine_balance (o ∷ []) (k ∷ []) ks s s (passes_refine o k s (other_passes b off out (held_cases (y.envs n) b 0 env known.part.keys))) dropped)
      (cases_Bool (list_any (is_mailbox b) m.values))

  pub own_balanced : (ks : List Holding) (s : Word) → Balanced (held (y.envs n) m.mailbox env ∷ payload_held m.mailbox types 0 m.values ∷ ks) (plus (one m.tag) s) → Balanced (held body m.mailbox kept_values ∷ ks) s
  own_balanced ks s bal =
      let b = m.mailbox in
      let o = held (y.envs n) b env in
      let h = payload_held b types 0 m.values in
      let none = payload_none b types 0 m.values own_apart in
      let dropped = drop_second o h ks (plus (one m.tag) s) (subst (λ w. PassesTo w None) (sym none) tt) bal in
      let old = subst (λ w. Balanced (w ∷ ks) (plus (one m.tag) s)) (own_old (held_cases (y.envs n) b 0 env known.part.keys)) dropped in
      let new = refine_balance (Some known.guard.guarded ∷ []) (body r.from ∷ []) ks (plus (one m.tag) s) s (own_refine (body r.from) s from_passes) old in
      subst (λ w. Balanced (w ∷ ks) s) (sym (own_new (held_cases body b 0 kept_values kept_ascends))) new
