-- The tests of a part say that it fits.
use Rattle.std.proofs.Common.{◌≡◌, ℕ, suc, ◌<◌, Bool, true, false, cond, not, ◌&&◌, ◌||◌, nat_eq, List, [], ◌∷◌, Option, Some, None, refl, sym, ap, ◌∙◌, subst, arith, ◌⊎◌, inl, inr, ⊎_elim}
use Rattle.std.specs.Prelude.{slice_get, option_map, option_and_then, is_some, IsTrue, IsFalse}
use Rattle.std.specs.List.{list_all, range_with_len}
use Rattle.std.specs.Map.{keys_of}
use Rattle.std.proofs.lemmas.Bool.{and_parts, and_from, or_cases, or_left, or_right, eqb-true, eq-eqb, ne_eqb, cond-true, cond-false, cases_Bool, false_from_ne_true}
use Rattle.pat_semantics_spec.specs.Values.{Value, Const, Mailbox, Base, BaseUnit, BaseBool, BaseInt, BaseText, Kind, Plain, MailboxOf, Env, value_at, base_of, ValueFits, ValuesFit}
use Rattle.pat_semantics_spec.specs.Programs.{Program, Function, Core, Let, Val, Call, If, Print, New, Send, Spawn, Guard, Node, node_at, core_at, function_at, is_among, is_free, KindAt}
use Rattle.pat_semantics_spec.specs.WellFormed.{WellFormed}
use Rattle.pat_semantics_spec.specs.Configs.{Frame}
use Rattle.pat_semantics_spec.specs.Orders.{AscendsFrom}
use Rattle.pat_semantics_spec.specs.Faults.{IsIn}
use Rattle.pat_semantics_laws.proofs.Lists.{clash, not_true}
use Rattle.pat_semantics_laws.proofs.Replays.{first_of}
use Rattle.pat_machine_laws.proofs.Opens.{some_of}
use Rattle.pat_type_system_spec.specs.Typed.{PartFits, IsFrameOfLet, mailboxes_of}
use Rattle.pat_derivation_spec.specs.Same.{is_same_base, all_differ}
use Rattle.pat_derivation_spec.specs.Scopes.{function_of, kind_at}
use Rattle.pat_derivation_laws.proofs.DemandsMet.{base_same}
use Rattle.pat_checkpoint_spec.specs.Kinds.{value_fits, value_fits_some, vars_of, var_count, is_asked, entry_fits, part_fits, is_same_name, is_let_of, is_frame_of_let}
use Rattle.pat_checkpoint_spec.specs.Mailboxes.{values_of, env_differs, values_fit}
use Rattle.pat_checkpoint_laws.proofs.Lists.{all_in, in_all, any_place, in_range, found_in, in_found, keys_above}
use Rattle.pat_semantics_laws.proofs.Lists.{any_at}
use Rattle.pat_checkpoint_laws.proofs.FreeBelow.{free_below}

-- ---- values

base_self : (b : Base) → is_same_base b b ≡ true
base_self BaseUnit = refl
base_self BaseBool = refl
base_self BaseInt = refl
base_self BaseText = refl

pub same_base : (a b : Base) → a ≡ b → is_same_base a b ≡ true
same_base a b h = subst (λ x. is_same_base a x ≡ true) h (base_self a)

pub fits_so : (interfaces : ℕ → ℕ) (v : Value) (k : Kind) → value_fits interfaces v k ≡ true → ValueFits interfaces v k
fits_so interfaces (Const c) (Plain b) h = base_same (base_of c) b h
fits_so interfaces (Mailbox a) (MailboxOf i) h = eqb-true (interfaces a) i h
fits_so interfaces (Const c) (MailboxOf i) h = cc
fits_so interfaces (Mailbox a) (Plain b) h = cc

pub so_fits : (interfaces : ℕ → ℕ) (v : Value) (k : Kind) → ValueFits interfaces v k → value_fits interfaces v k ≡ true
so_fits interfaces (Const c) (Plain b) h = same_base (base_of c) b h
so_fits interfaces (Mailbox a) (MailboxOf i) h = eq-eqb (interfaces a) i h
so_fits interfaces (Const c) (MailboxOf i) h = absurd h
so_fits interfaces (Mailbox a) (Plain b) h = absurd h

pub all_fit_so : (interfaces : ℕ → ℕ) (vs : List Value) (ks : List Kind) → values_fit interfaces vs ks ≡ true → ValuesFit interfaces vs ks
all_fit_so interfaces [] [] h = tt
all_fit_so interfaces (v ∷ vs) (k ∷ ks) h =
    let b = and_parts (value_fits interfaces v k) (values_fit interfaces vs ks) h in
    (fits_so interfaces v k b.0, all_fit_so interfaces vs ks b.1)
all_fit_so interfaces [] (k ∷ ks) h = cc
all_fit_so interfaces (v ∷ vs) [] h = cc

pub so_all_fit : (interfaces : ℕ → ℕ) (vs : List Value) (ks : List Kind) → ValuesFit interfaces vs ks → values_fit interfaces vs ks ≡ true
so_all_fit interfaces [] [] h = refl
so_all_fit interfaces (v ∷ vs) (k ∷ ks) h =
    and_from (value_fits interfaces v k) (values_fit interfaces vs ks) (so_fits interfaces v k h.0) (so_all_fit interfaces vs ks h.1)
so_all_fit interfaces [] (k ∷ ks) h = absurd h
so_all_fit interfaces (v ∷ vs) [] h = absurd h

-- ---- kinds of variables

-- the node's function, and the variable's kind in it
kind_so : (p : Program) (n x : ℕ) (k : Kind) → kind_at p n x ≡ Some k → KindAt p n x k
kind_so p n x k h =
    let g = first_of (λ g. slice_get g.vars x) k (function_of p n) h in
    let d = first_of (λ d. function_at p d.function) g.0 (node_at p n) g.1 in
    (d.0, g.0, d.1, d.2, g.2)

pub so_kind : (p : Program) (n x : ℕ) (k : Kind) → KindAt p n x k → kind_at p n x ≡ Some k
so_kind p n x k h =
    ap (option_and_then (λ (g : Function). slice_get g.vars x)) (ap (option_and_then (λ (d : Node). function_at p d.function)) h.2 ∙ h.3) ∙ h.4

some_fits_so : (p : Program) (interfaces : ℕ → ℕ) (n x : ℕ) (v : Value) → value_fits_some interfaces v (kind_at p n x) ≡ true → (k : Kind) × KindAt p n x k × ValueFits interfaces v k
some_fits_so p interfaces n x v h = go (kind_at p n x) refl h
  where
    go : (o : Option Kind) → kind_at p n x ≡ o → value_fits_some interfaces v o ≡ true → (k : Kind) × KindAt p n x k × ValueFits interfaces v k
    go None is t = cc
    go (Some k) is t = (k, kind_so p n x k is, fits_so interfaces v k t)

-- ---- different mailboxes of an environment

-- a variable's mailbox is among those of the values
env_mailbox : (env : Env) (x a : ℕ) → value_at env x ≡ Some (Mailbox a) → is_among a (mailboxes_of (values_of env)) ≡ true
env_mailbox env x a h = go env (found_in env x (Mailbox a) h)
  where
    go : (es : Env) → IsIn (x, Mailbox a) es → is_among a (mailboxes_of (values_of es)) ≡ true
    go [] i = absurd i
    go ((z, Const c) ∷ es) i = ⊎_elim (λ same. let value : Const c ≡ Mailbox a = ap (λ (e : ℕ × Value). e.1) same in cc) (λ rest. go es rest) i
    go ((z, Mailbox b) ∷ es) i =
        ⊎_elim
        (λ same.
        let value : Mailbox b ≡ Mailbox a = ap (λ (e : ℕ × Value). e.1) same in
        let number : b ≡ a = cc in
        or_left (nat_eq a b) (is_among a (mailboxes_of (values_of es))) (eq-eqb a b (sym number)))
        (λ rest. or_right (nat_eq a b) (is_among a (mailboxes_of (values_of es))) (go es rest))
        i

-- and the other way round
mailbox_env : (es : Env) (a : ℕ) → is_among a (mailboxes_of (values_of es)) ≡ true → (x : ℕ) × IsIn (x, Mailbox a) es
mailbox_env [] a h = cc
mailbox_env ((z, Const c) ∷ es) a h = let r = mailbox_env es a h in (r.0, inr r.1)
mailbox_env ((z, Mailbox b) ∷ es) a h =
    ⊎_elim
    (λ same. (z, inl (ap (λ n. (z, Mailbox n)) (sym (eqb-true a b same)))))
    (λ rest. let r = mailbox_env es a rest in (r.0, inr r.1))
    (or_cases (nat_eq a b) (is_among a (mailboxes_of (values_of es))) h)

-- where all mailboxes differ, a mailbox has one name
pub different_so : (env : Env) (x z a : ℕ) → env_differs env ≡ true → value_at env x ≡ Some (Mailbox a) → value_at env z ≡ Some (Mailbox a) → x ≡ z
different_so [] x z a d h k = cc
different_so ((y, Const c) ∷ env) x z a d h k = different_so env x z a d (past x h) (past z k)
  where
    past : (w : ℕ) → value_at ((y, Const c) ∷ env) w ≡ Some (Mailbox a) → value_at env w ≡ Some (Mailbox a)
    past w h = (elim (nat_eq w y) as (λ b. cond b (Some (Const c)) (value_at env w) ≡ Some (Mailbox a) → value_at env w ≡ Some (Mailbox a)) [ true ↦ λ q. cc | false ↦ λ q. q ]) h
different_so ((y, Mailbox b) ∷ env) x z a d h k =
    let both = and_parts (not (is_among b (mailboxes_of (values_of env)))) (all_differ (mailboxes_of (values_of env))) d in
    ⊎_elim
    (λ p. ⊎_elim
    (λ q. p.0 ∙ sym q.0)
    (λ q. absurd (twice z both.0 p.1 q))
    (first z k))
    (λ p. ⊎_elim
    (λ q. absurd (twice x both.0 q.1 p))
    (λ q. different_so env x z a both.1 p q)
    (first z k))
    (first x h)
  where
    first : (w : ℕ) → value_at ((y, Mailbox b) ∷ env) w ≡ Some (Mailbox a) → ((w ≡ y) × (b ≡ a)) ⊎ (value_at env w ≡ Some (Mailbox a))
    first w h =
        (elim (nat_eq w y) as (λ t. nat_eq w y ≡ t → cond t (Some (Mailbox b)) (value_at env w) ≡ Some (Mailbox a) → ((w ≡ y) × (b ≡ a)) ⊎ (value_at env w ≡ Some (Mailbox a))) [
          | true ↦ λ e q. inl (eqb-true w y e, cc)
          | false ↦ λ e q. inr q
        ]) refl h

    twice : (w : ℕ) → not (is_among b (mailboxes_of (values_of env))) ≡ true → b ≡ a → value_at env w ≡ Some (Mailbox a) → ⊥
    twice w off same h =
        clash (subst (λ n. is_among n (mailboxes_of (values_of env)) ≡ true) (sym same) (env_mailbox env w a h)) (not_true (is_among b (mailboxes_of (values_of env))) off)

-- and the other way round, for an environment in order
pub so_different : (n : ℕ) (env : Env) → AscendsFrom n (keys_of env) → ((x z a : ℕ) → value_at env x ≡ Some (Mailbox a) → value_at env z ≡ Some (Mailbox a) → x ≡ z) → env_differs env ≡ true
so_different n [] o d = refl
so_different n ((y, v) ∷ env) o d =
    let later : (x : ℕ) (w : Value) → value_at env x ≡ Some w → value_at ((y, v) ∷ env) x ≡ Some w =
    λ x w h.
    let above = keys_above (suc y) env (x, w) o.1 (found_in env x w h) in
    cond-false (nat_eq x y) (Some v) (value_at env x) (ne_eqb x y (λ e. omega arith)) ∙ h in
    let rest = so_different (suc y) env o.1 (λ x z a h k. d x z a (later x (Mailbox a) h) (later z (Mailbox a) k)) in
    go v refl rest (λ a x i same.
    let value = in_found (suc y) env (x, Mailbox a) o.1 i in
    let here : value_at ((y, v) ∷ env) y ≡ Some (Mailbox a) = cond-true (nat_eq y y) (Some v) (value_at env y) (eq-eqb y y refl) ∙ ap Some same in
    let name = d y x a here (later x (Mailbox a) value) in
    let above = keys_above (suc y) env (x, Mailbox a) o.1 i in
    omega arith)
  where
    go : (w : Value) → v ≡ w → env_differs env ≡ true → ((a x : ℕ) → IsIn (x, Mailbox a) env → v ≡ Mailbox a → ⊥) → all_differ (mailboxes_of (w ∷ values_of env)) ≡ true
    go (Const c) is rest never = rest
    go (Mailbox b) is rest never =
        and_from (not (is_among b (mailboxes_of (values_of env)))) (all_differ (mailboxes_of (values_of env)))
        (ap not (false_from_ne_true (is_among b (mailboxes_of (values_of env))) (λ on. let r = mailbox_env env b on in never b r.0 r.1 is)))
        rest

-- ---- a part

asked_so : (p : Program) (n : ℕ) (but : List ℕ) (x : ℕ) → is_asked p n but x ≡ true → IsTrue (is_free p x n) × IsFalse (is_among x but)
asked_so p n but x h =
    let b = and_parts (is_free p x n) (not (is_among x but)) h in (b.0, not_true (is_among x but) b.1)

module _ (p : Program) (wf : WellFormed p) (interfaces : ℕ → ℕ) (n : ℕ) (but : List ℕ) (env : Env) where
  abbrev has_all : Bool
  has_all = list_all (λ x. not (is_asked p n but x) || is_some (value_at env x)) (range_with_len 0 (var_count p n))

  abbrev has_just : Bool
  has_just = list_all (entry_fits p interfaces n but) env

  -- a free variable is one of those that are looked at
  is_looked_at : (core : Core) (x : ℕ) → core_at p n ≡ Some core → is_free p x n ≡ true → x < var_count p n
  is_looked_at core x at free = go (node_at p n) refl at
    where
      go : (o : Option Node) → node_at p n ≡ o → option_map (λ (d : Node). d.core) o ≡ Some core → x < var_count p n
      go None is h = cc
      go (Some d) is h =
          let fits = wf.nodes n d is in
          let function : function_of p n ≡ Some fits.function = ap (option_and_then (λ (c : Node). function_at p c.function)) is ∙ fits.of in
          subst (λ o. x < vars_of o) (sym function) (free_below p wf x n d fits.function is fits.of free)

  pub part_so : part_fits p interfaces n but env ≡ true → AscendsFrom 0 (keys_of env) → env_differs env ≡ true → PartFits p interfaces n but env
  part_so h keys differ =
      let a = and_parts (is_some (core_at p n)) (has_all && has_just) h in
      let b = and_parts has_all has_just a.1 in
      let core = some_of (core_at p n) a.0 in
      let entry : (x : ℕ) (v : Value) → value_at env x ≡ Some v → entry_fits p interfaces n but (x, v) ≡ true =
      λ x v at. in_all (entry_fits p interfaces n but) env (x, v) b.1 (found_in env x v at) in
      record {
        there = core;
        keys = keys;
        values = λ x free other.
            let asked : is_asked p n but x ≡ true = and_from (is_free p x n) (not (is_among x but)) free (ap not other) in
            let looked = in_all (λ x. not (is_asked p n but x) || is_some (value_at env x)) (range_with_len 0 (var_count p n)) x b.0
            (in_range 0 (var_count p n) x (omega arith) (let l = is_looked_at core.0 x core.1 free in omega arith)) in
            ⊎_elim
            (λ no. absurd (clash asked (not_true (is_asked p n but x) no)))
            (λ yes. some_of (value_at env x) yes)
            (or_cases (not (is_asked p n but x)) (is_some (value_at env x)) looked);
        free = λ x v at. asked_so p n but x (and_parts (is_asked p n but x) (value_fits_some interfaces v (kind_at p n x)) (entry x v at)).0;
        kinds = λ x v at. some_fits_so p interfaces n x v (and_parts (is_asked p n but x) (value_fits_some interfaces v (kind_at p n x)) (entry x v at)).1;
        different = λ x z a h k. different_so env x z a differ h k;
      }

  pub so_part : PartFits p interfaces n but env → part_fits p interfaces n but env ≡ true
  so_part f =
      and_from (is_some (core_at p n)) (has_all && has_just) (ap is_some f.there.1)
      (and_from has_all has_just
      (all_in (λ x. not (is_asked p n but x) || is_some (value_at env x)) (range_with_len 0 (var_count p n)) (λ x i.
      ⊎_elim
      (λ yes.
      let a = asked_so p n but x yes in
      or_right (not (is_asked p n but x)) (is_some (value_at env x)) (ap is_some (f.values x a.0 a.1).1))
      (λ no. or_left (not (is_asked p n but x)) (is_some (value_at env x)) (ap not no))
      (cases_Bool (is_asked p n but x))))
      (all_in (entry_fits p interfaces n but) env (λ e i.
      let at = in_found 0 env e f.keys i in
      let free = f.free e.0 e.1 at in
      let kind = f.kinds e.0 e.1 at in
      and_from (is_asked p n but e.0) (value_fits_some interfaces e.1 (kind_at p n e.0))
      (and_from (is_free p e.0 n) (not (is_among e.0 but)) free.0 (ap not free.1))
      (ap (value_fits_some interfaces e.1) (so_kind p n e.0 kind.0 kind.1) ∙ so_fits interfaces e.1 kind.0 kind.2))))

-- ---- the let of a frame

name_so : (a b : Option ℕ) → is_same_name a b ≡ true → a ≡ b
name_so None None h = refl
name_so (Some x) (Some y) h = ap Some (eqb-true x y h)
name_so None (Some y) h = cc
name_so (Some x) None h = cc

name_self : (a : Option ℕ) → is_same_name a a ≡ true
name_self None = refl
name_self (Some x) = eq-eqb x x refl

let_so : (f : Frame) (core : Core) → is_let_of f core ≡ true → (m : ℕ) × (core ≡ Let f.var m f.body)
let_so f (Let x m n) h =
    let b = and_parts (is_same_name x f.var) (nat_eq n f.body) h in
    (m, ap (λ y. Let y m n) (name_so x f.var b.0) ∙ ap (λ k. Let f.var m k) (eqb-true n f.body b.1))
let_so f (Val e) h = cc
let_so f (Call g args) h = cc
let_so f (If e m n) h = cc
let_so f (Print e) h = cc
let_so f (New i) h = cc
let_so f (Send x m args) h = cc
let_so f (Spawn m) h = cc
let_so f (Guard x e g cs) h = cc

pub frame_so : (p : Program) (f : Frame) → is_frame_of_let p f ≡ true → IsFrameOfLet p f
frame_so p f h =
    let q = any_place (λ d. is_let_of f d.core) p.nodes h in
    let l = let_so f q.1.core q.3 in
    (q.0, l.0, ap (option_map (λ (d : Node). d.core)) q.2 ∙ ap Some l.1)

pub so_frame : (p : Program) (f : Frame) → IsFrameOfLet p f → is_frame_of_let p f ≡ true
so_frame p f h = go (node_at p h.0) refl h.2
  where
    go : (o : Option Node) → node_at p h.0 ≡ o → option_map (λ (d : Node). d.core) o ≡ Some (Let f.var h.1 f.body) → is_frame_of_let p f ≡ true
    go None is k = cc
    go (Some d) is k =
        let same : d.core ≡ Let f.var h.1 f.body = cc in
        any_at (λ (d : Node). is_let_of f d.core) p.nodes h.0 d is
        (ap (is_let_of f) same ∙ and_from (is_same_name f.var f.var) (nat_eq f.body f.body) (name_self f.var) (eq-eqb f.body f.body refl))
