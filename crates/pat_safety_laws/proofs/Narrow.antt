-- A part of a thread goes on with some of its values, under the types of another node.
use Rattle.std.proofs.Common.{◌≡◌, ℕ, suc, Bool, true, false, ◌&&◌, not, nat_eq, if◌then◌else◌, List, [], ◌∷◌, Some, None, refl, sym, ap, ◌∙◌, subst, arith, ⊎_elim}
use Rattle.std.specs.Prelude.{is_some, filter}
use Rattle.std.specs.Map.{lookup}
use Rattle.std.proofs.lemmas.Bool.{eq-eqb, ne_eqb, cond-true, cond-false, or_cases, and_from, and_parts, false_from_ne_true}
use Rattle.pat_semantics_spec.specs.Values.{Value, Mailbox, Kind, Plain, MailboxOf, Env, value_at, ValueFits}
use Rattle.pat_semantics_spec.specs.Programs.{Program, Core, core_at, is_among, is_free, keep, KindAt}
use Rattle.pat_semantics_spec.specs.WellFormed.{WellFormed}
use Rattle.pat_semantics_spec.specs.Configs.{Frame, is_mailbox, env_refers}
use Rattle.pat_type_system_spec.specs.Types.{Usage, Second, Returnable, MailboxType, TypeEnv, PassesTo, UsageFits}
use Rattle.pat_type_system_spec.specs.Typings.{Typing, IsTyping}
use Rattle.pat_type_system_spec.specs.Holdings.{Holding, held}
use Rattle.pat_type_system_spec.specs.Typed.{PartFits, KeepsFrom}
use Rattle.pat_safety_laws.proofs.Refers.{is_mailbox_same, value_refers}
use Rattle.pat_safety_laws.proofs.Envs.{value_at-keep, kept, held_cases, HeldCases, by_variable, by_none, value_at-filter}
use Rattle.pat_semantics_laws.proofs.Ascending.{ascends_filter, value_above}
use Rattle.pat_type_system_laws.proofs.Named.{free_named}
use Rattle.pat_semantics_laws.proofs.Lists.{not_true}
use Rattle.pat_type_system_laws.proofs.Passing.{passes_drop}
use Rattle.pat_semantics_spec.specs.Orders.{AscendsFrom}
use Rattle.std.specs.Map.{keys_of}

-- the second environment has just those values of the first whose variable passes the test
pub record Narrowed (test : ℕ → Bool) (env env' : Env) : Type 0 where
  pub keys : AscendsFrom 0 (keys_of env')
  pub inside : (z : ℕ) (v : Value) → value_at env' z ≡ Some v → (test z ≡ true) × (value_at env z ≡ Some v)
  pub still : (z : ℕ) (v : Value) → value_at env z ≡ Some v → test z ≡ true → value_at env' z ≡ Some v

pub keep_narrows : (p : Program) (m : ℕ) (env : Env) → AscendsFrom 0 (keys_of env) → Narrowed (λ z. is_free p z m) env (keep p m env)
keep_narrows p m env a = record {
  keys = ascends_filter (λ (e : ℕ × Value). e.0) (λ b. is_free p b.0 m) 0 env a;
  inside = λ z v at. kept p m env z v at;
  still = λ z v at f. value_at-keep p m env z ∙ cond-true (is_free p z m) (value_at env z) None f ∙ at;
}

pub filter_narrows : (f : ℕ → Bool) (env : Env) → AscendsFrom 0 (keys_of env) → Narrowed f env (filter (λ b. f b.0) env)
filter_narrows f env a = record {
  keys = ascends_filter (λ (e : ℕ × Value). e.0) (λ b. f b.0) 0 env a;
  inside = λ z v at.
      (elim (f z) as (λ t. f z ≡ t → (if t then value_at env z else None) ≡ Some v → (f z ≡ true) × (value_at env z ≡ Some v)) [
        | true ↦ λ q k. (q, k)
        | false ↦ λ q k. cc
      ]) refl (sym (value_at-filter f env z) ∙ at);
  still = λ z v at q. value_at-filter f env z ∙ cond-true (f z) (value_at env z) None q ∙ at;
}

pub narrow_twice : (f g : ℕ → Bool) (e1 e2 e3 : Env) → Narrowed f e1 e2 → Narrowed g e2 e3 → Narrowed (λ z. f z && g z) e1 e3
narrow_twice f g e1 e2 e3 a b = record {
  keys = b.keys;
  inside = λ z v at.
      let q = b.inside z v at in
      let r = a.inside z v q.1 in
      (and_from (f z) (g z) r.0 q.0, r.1);
  still = λ z v at h. let q = and_parts (f z) (g z) h in b.still z v (a.still z v at q.0) q.1;
}

-- who is referred to, is so by a variable
pub refers_value : (b n : ℕ) (env : Env) → AscendsFrom n (keys_of env) → env_refers b env ≡ true → (z : ℕ) × (value_at env z ≡ Some (Mailbox b))
refers_value b n [] a h = cc
refers_value b n (e ∷ env) a h =
    ⊎_elim
    (λ here. (e.0, cond-true (nat_eq e.0 e.0) (Some e.1) (lookup (nat_eq e.0) env) (eq-eqb e.0 e.0 refl) ∙ ap (λ v. Some v) (is_mailbox_same b e.1 here)))
    (λ rest.
    let q = refers_value b (suc e.0) env a.1 rest in
    let above = value_above (suc e.0) env q.0 (Mailbox b) a.1 q.1 in
    let apart : nat_eq q.0 e.0 ≡ false = ne_eqb q.0 e.0 (λ w. omega arith) in
    (q.0, cond-false (nat_eq q.0 e.0) (Some e.1) (lookup (nat_eq q.0) env) apart ∙ q.1))
    (or_cases (is_mailbox b e.1) (env_refers b env) h)

-- the narrower environment refers to no more
pub narrow_refers : (f : ℕ → Bool) (env env' : Env) (b : ℕ) → Narrowed f env env' → env_refers b env' ≡ true → env_refers b env ≡ true
narrow_refers f env env' b w h =
    let q = refers_value b 0 env' w.keys h in value_refers env q.0 b (w.inside q.0 (Mailbox b) q.1).1

-- different variables name different mailboxes
abbrev pub NamesApart : Env → Type 0
NamesApart env = (x z a : ℕ) → value_at env x ≡ Some (Mailbox a) → value_at env z ≡ Some (Mailbox a) → x ≡ z

-- what is held of b before and after
pub data NarrowCases (f : ℕ → Bool) (g h : TypeEnv) (env env' : Env) (b : ℕ) : Type 0 where
  stays : (z : ℕ) → value_at env z ≡ Some (Mailbox b) → value_at env' z ≡ Some (Mailbox b) → held g b env ≡ g z → held h b env' ≡ h z → NarrowCases f g h env env' b
  goes : (z : ℕ) → value_at env z ≡ Some (Mailbox b) → f z ≡ false → held g b env ≡ g z → held h b env' ≡ None → NarrowCases f g h env env' b
  absent : ((z : ℕ) → value_at env z ≡ Some (Mailbox b) → ⊥) → held g b env ≡ None → held h b env' ≡ None → NarrowCases f g h env env' b

pub narrow_cases : (f : ℕ → Bool) (g h : TypeEnv) (env env' : Env) (b : ℕ) → AscendsFrom 0 (keys_of env) → NamesApart env → Narrowed f env env' → NarrowCases f g h env env' b
narrow_cases f g h env env' b a apart w = go (held_cases g b 0 env a) (held_cases h b 0 env' w.keys)
  where
    go : HeldCases g b env → HeldCases h b env' → NarrowCases f g h env env' b
    go (by_variable z at is) (by_variable z' at' is') =
        let same : z' ≡ z = apart z' z b (w.inside z' (Mailbox b) at').1 at in
        stays z at (subst (λ x. value_at env' x ≡ Some (Mailbox b)) same at') is (is' ∙ ap h same)
    go (by_variable z at is) (by_none none is') =
        goes z at (false_from_ne_true (f z) (λ q. none z (w.still z (Mailbox b) at q))) is is'
    go (by_none none is) (by_variable z' at' is') = absurd (none z' (w.inside z' (Mailbox b) at').1)
    go (by_none none is) (by_none none' is') = absent none is is'

-- what is there passes to what goes on, where each variable's type does
pub narrow_passes : (f : ℕ → Bool) (g h : TypeEnv) (env env' : Env) (b : ℕ) → AscendsFrom 0 (keys_of env) → NamesApart env → Narrowed f env env' → ((z : ℕ) → value_at env z ≡ Some (Mailbox b) → PassesTo (g z) (h z)) → ((z : ℕ) → f z ≡ false → PassesTo (h z) None) → PassesTo (held g b env) (held h b env')
narrow_passes f g h env env' b a apart w passes unused = go (narrow_cases f g h env env' b a apart w)
  where
    go : NarrowCases f g h env env' b → PassesTo (held g b env) (held h b env')
    go (stays z at at' is is') = subst (λ x. PassesTo x (held h b env')) (sym is) (subst (λ x. PassesTo (g z) x) (sym is') (passes z at))
    go (goes z at off is is') = subst (λ x. PassesTo x (held h b env')) (sym is) (subst (λ x. PassesTo (g z) x) (sym is') (passes_drop (g z) (h z) (passes z at) (unused z off)))
    go (absent none is is') = subst (λ x. PassesTo x (held h b env')) (sym is) (subst (λ x. PassesTo None x) (sym is') tt)

-- the part at another node of the same function, with just the values of its free variables
pub narrow_part : (p : Program) (interfaces : ℕ → ℕ) (n m : ℕ) (but : List ℕ) (env env' : Env) → PartFits p interfaces n [] env → Narrowed (λ z. is_free p z m && not (is_among z but)) env env' → ((z : ℕ) → is_free p z m ≡ true → is_among z but ≡ false → is_free p z n ≡ true) → ((z : ℕ) (k : Kind) → KindAt p n z k → KindAt p m z k) → (core : Core) → core_at p m ≡ Some core → PartFits p interfaces m but env'
narrow_part p f n m but env env' part w sub kind core there = record {
  there = (core, there);
  keys = w.keys;
  values = λ z free out.
      let h = part.values z (sub z free out) refl in
      (h.0, w.still z h.0 h.1 (and_from (is_free p z m) (not (is_among z but)) free (ap not out)));
  free = λ z v at.
      let q = and_parts (is_free p z m) (not (is_among z but)) (w.inside z v at).0 in
      (q.0, not_true (is_among z but) q.1);
  kinds = λ z v at. let k = part.kinds z v (w.inside z v at).1 in (k.0, kind z k.0 k.1, k.2);
  different = λ z x a at at'. part.different z x a (w.inside z (Mailbox a) at).1 (w.inside x (Mailbox a) at').1;
}

-- a mailbox variable of a part is named by its node's environment
pub part_named : (p : Program) (y : Typing) (interfaces : ℕ → ℕ) (n : ℕ) (but : List ℕ) (env : Env) → WellFormed p → IsTyping p y → (core : Core) → core_at p n ≡ Some core → PartFits p interfaces n but env → (z a : ℕ) → value_at env z ≡ Some (Mailbox a) → is_some (y.envs n z) ≡ true
part_named p y f n but env wf typing core there part z a at =
    let k = part.kinds z (Mailbox a) at in
    go k.0 k.1 k.2
  where
    go : (w : Kind) → KindAt p n z w → ValueFits f (Mailbox a) w → is_some (y.envs n z) ≡ true
    go (Plain b) kind fits = absurd fits
    go (MailboxOf i) kind fits = free_named p y wf typing z i n core there kind (part.free z (Mailbox a) at).0

-- ---- returnable

pub usage_back : (a b : Usage) → UsageFits a b → b ≡ Returnable → a ≡ Returnable
usage_back Second Second u e = e
usage_back Second Returnable u e = absurd u
usage_back Returnable b u e = refl

-- what is returnable after it passed was so before
pub passes_returnable : (h : Holding) (a : MailboxType) → PassesTo h (Some a) → a.usage ≡ Returnable → (c : MailboxType) × (h ≡ Some c) × (c.usage ≡ Returnable)
passes_returnable None a w u = absurd w
passes_returnable (Some c) a w u = (c, refl, usage_back c.usage a.usage w.usage u)

pub keeps_passes : (old new : ℕ → Holding) (fs : List Frame) → ((b : ℕ) → PassesTo (old b) (new b)) → KeepsFrom old fs → KeepsFrom new fs
keeps_passes old new fs passes keeps b a h u =
    let q = passes_returnable (old b) a (subst (λ x. PassesTo (old b) x) h (passes b)) u in keeps b q.0 q.1 q.2
