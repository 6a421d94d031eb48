-- A variable that isn't free in a node may be dropped there.
use Rattle.std.proofs.Common.{◌≡◌, ℕ, zero, suc, ◌+◌, ◌≤◌, true, false, ◌||◌, ◌&&◌, not, nat_eq, if◌then◌else◌, List, [], ◌∷◌, ◌++◌, length, Option, Some, None, refl, sym, ap, ◌∙◌, subst, arith, ⊎_elim}
use Rattle.std.specs.Prelude.{is_some, flat_map, option_map}
use Rattle.std.specs.List.{list_any}
use Rattle.std.proofs.lemmas.Bool.{eq-eqb, cond-false, or_parts, or_left, or_right, and_cases, false_from_ne_true}
use Rattle.std.proofs.lemmas.Option.{slice_get_past}
use Rattle.pat_words_spec.specs.Words.{no_word}
use Rattle.pat_words_spec.specs.Patterns.{Pat, Tag, residual}
use Rattle.pat_words_laws.proofs.WordLaws.{plus_none}
use Rattle.pat_semantics_spec.specs.Values.{Expr, VarExpr, Literal, OpExpr, occurs}
use Rattle.pat_semantics_spec.specs.Programs.{Program, Polarity, Sending, Receiving, TagDecl, Clause, Core, Val, Let, Call, If, Print, New, Send, Spawn, Guard, Node, node_at, core_at, parts, binders, option_list, clause_bodies, clause_binders, is_among, is_free, clause_uses, core_uses}
use Rattle.pat_semantics_spec.specs.WellFormed.{WellFormed}
use Rattle.pat_semantics_laws.proofs.FreeVars.{free_unfolds, part_after}
use Rattle.pat_type_system_spec.specs.Types.{Returnable, Second, MailboxType, mailbox_type, TypeOf, BaseTerm, MailboxTerm, TypeEnv, PassesTo, DropsAs, Fits, SplitsTo, EnvSplits, PatternJoins, without, returnable}
use Rattle.pat_type_system_spec.specs.Typings.{Typing, IsTyping, CoreTyped, ValueTyped, GuardTyped, clause_env, with_payloads, with_option, args_need, without_name, payload_type, param_type}
use Rattle.pat_type_system_laws.proofs.Nodes.{NodeFacts, node_facts, part_core}
use Rattle.pat_type_system_laws.proofs.Environments.{payloads_off}
use Rattle.pat_type_system_spec.specs.Holdings.{Holding}
use Rattle.pat_semantics_laws.proofs.Lists.{clash, ne_turn, any_first, any_last}
use Rattle.pat_type_system_laws.proofs.Passing.{passes_drop}

-- ---- each kind of condition

value_drops : (t : TypeOf) (e : Expr) (g : TypeEnv) (z : ℕ) → ValueTyped t e g → occurs z e ≡ false → PassesTo (g z) None
value_drops (BaseTerm b) e g z h off = h z
value_drops (MailboxTerm i q f) (VarExpr x) g z h off =
    subst (λ o. PassesTo (g z) o) (cond-false (nat_eq x z) (Some (mailbox_type i q f Returnable)) None (ne_turn z x off)) (h z)
value_drops (MailboxTerm i q f) (Literal c) g z h off = absurd h
value_drops (MailboxTerm i q f) (OpExpr op a b) g z h off = absurd h

option_off : (x : ℕ) (o : Option MailboxType) (g : TypeEnv) (z : ℕ) → nat_eq x z ≡ false → with_option x o g z ≡ g z
option_off x None g z h = refl
option_off x (Some a) g z h = cond-false (nat_eq x z) (Some a) (g z) h

-- arguments need nothing of a variable that doesn't occur
args_off : (types : TypeEnv) (k : ℕ) (es : List Expr) (z : ℕ) → list_any (occurs z) es ≡ false → args_need types k es z ≡ None
args_off types k [] z h = refl
args_off types k (VarExpr x ∷ es) z h =
    let p = or_parts (nat_eq z x) (list_any (occurs z) es) h in
    option_off x (types k) (args_need types (suc k) es) z (ne_turn z x p.0) ∙ args_off types (suc k) es z p.1
args_off types k (Literal c ∷ es) z h = args_off types (suc k) es z h
args_off types k (OpExpr op a b ∷ es) z h =
    let p = or_parts (occurs z a || occurs z b) (list_any (occurs z) es) h in args_off types (suc k) es z p.1

returnable_drop : (h : Holding) → PassesTo (returnable h) None → PassesTo h None
returnable_drop None d = tt
returnable_drop (Some a) d = d

fits_drop : (a b : MailboxType) → Fits a b → PassesTo (Some b) None → PassesTo (Some a) None
fits_drop a b f d = passes_drop (Some a) (Some b) f d

-- what is divided among parts that may drop it may be dropped
joins_drop : (q r s : Polarity) (e1 e2 e : Pat) → PatternJoins q r s e1 e2 e → DropsAs q e1 → DropsAs r e2 → DropsAs s e
joins_drop Sending Sending Sending e1 e2 e h d1 d2 = h no_word (no_word, no_word, d1, d2, sym (plus_none no_word))
joins_drop Sending Sending Receiving e1 e2 e h d1 d2 = absurd h
joins_drop Sending Receiving s e1 e2 e h d1 d2 = absurd d2
joins_drop Receiving r s e1 e2 e h d1 d2 = absurd d1

split_drop : (a b c : Holding) → SplitsTo a b c → PassesTo b None → PassesTo c None → PassesTo a None
split_drop None None None h d1 d2 = tt
split_drop (Some a) None None h d1 d2 = h
split_drop (Some a) (Some b) None h d1 d2 = fits_drop a b h d1
split_drop (Some a) None (Some c) h d1 d2 = fits_drop a c h d2
split_drop (Some a) (Some b) (Some c) h d1 d2 =
    joins_drop b.polarity c.polarity a.polarity b.pattern c.pattern a.pattern h.pattern d1 d2
split_drop None (Some b) c h d1 d2 = absurd h
split_drop None None (Some c) h d1 d2 = absurd h

-- a variable that a clause doesn't bind, other than the guarded one, is offered with its type
clause_env_off : (g : TypeEnv) (x i : ℕ) (e : Pat) (decl : TagDecl) (r : Clause) (z : ℕ) → is_among z (clause_binders r) ≡ false → nat_eq x z ≡ false → clause_env g x i e decl r z ≡ g z
clause_env_off g x i e decl r z out apart =
    let off_from : nat_eq z r.from ≡ false = false_from_ne_true (nat_eq z r.from) (λ q. clash (any_last (nat_eq z) r.vars (r.from ∷ []) (or_left (nat_eq z r.from) false q)) out) in
    let off_vars : is_among z r.vars ≡ false = false_from_ne_true (is_among z r.vars) (λ q. clash (any_first (nat_eq z) r.vars (r.from ∷ []) q) out) in
    cond-false (nat_eq r.from z) (Some (mailbox_type i Receiving (residual e r.tag) Returnable)) (with_payloads (payload_type decl) 0 r.vars (without x g) z) (ne_turn z r.from off_from)
    ∙ payloads_off (payload_type decl) 0 r.vars (without x g) z off_vars
    ∙ cond-false (nat_eq x z) None (g z) apart

-- ---- a node

-- what is to be shown of a node
abbrev Drops : Program → Typing → ℕ → ℕ → Type 0
Drops p y z n = (core : Core) → core_at p n ≡ Some core → is_free p z n ≡ false → PassesTo (y.envs n z) None

-- a guard, where its parts may drop the variable
guard_drops : (p : Program) (y : Typing) (z n x : ℕ) (e : Pat) (free : Option ℕ) (cs : List Clause) → GuardTyped p y (y.envs n) (y.results n) x e free cs → (is_some (y.envs n z) ≡ true → is_among z (flat_map clause_binders cs) ≡ false) → nat_eq x z ≡ false → list_any (is_free p z) (option_list free) ≡ false → list_any (clause_uses (is_free p z) z) cs ≡ false → ((k : ℕ) → is_among k (option_list free ++ clause_bodies cs) ≡ true → is_free p z k ≡ false → PassesTo (y.envs k z) None) → PassesTo (y.envs n z) None
guard_drops p y z n x e (Some m) cs h unbound apart off_free off_cs ih =
    let passes : PassesTo (y.envs n z) (y.envs m z) =
    subst (λ o. PassesTo o (y.envs m z)) (cond-false (nat_eq x z) None (y.envs n z) apart) (h.free_passes m refl z) in
    let q = or_parts (is_free p z m) false off_free in
    passes_drop (y.envs n z) (y.envs m z) passes (ih m (or_left (nat_eq m m) (is_among m (clause_bodies cs)) (eq-eqb m m refl)) q.0)
guard_drops p y z n x e None [] h unbound apart off_free off_cs ih =
    subst (λ o. PassesTo o None) (cond-false (nat_eq x z) None (y.envs n z) apart) (h.none_passes refl refl z)
guard_drops p y z n x e None (r ∷ cs) h unbound apart off_free off_cs ih =
    (elim (is_some (y.envs n z)) as (λ t. is_some (y.envs n z) ≡ t → PassesTo (y.envs n z) None) [
      | true ↦ λ some.
          let out : is_among z (clause_binders r) ≡ false = first_out (unbound some) in
          let passes : PassesTo (y.envs n z) (y.envs r.body z) =
          subst (λ o. PassesTo o (y.envs r.body z)) (clause_env_off (y.envs n) x h.guarded.interface e h.receives.0.decl r z out apart) (h.receives.0.passes z) in
          let off = (or_parts (clause_uses (is_free p z) z r) (list_any (clause_uses (is_free p z) z) cs) off_cs).0 in
          let body_off : is_free p z r.body ≡ false =
          ⊎_elim (λ a. a) (λ b. absurd (clash (ap not out) b)) (and_cases (is_free p z r.body) (not (is_among z (clause_binders r))) off) in
          passes_drop (y.envs n z) (y.envs r.body z) passes (ih r.body (or_left (nat_eq r.body r.body) (is_among r.body (clause_bodies cs)) (eq-eqb r.body r.body refl)) body_off)
      | false ↦ λ some. subst (λ o. PassesTo o None) (sym (no_some (y.envs n z) some)) tt
    ]) refl
  where
    no_some : (o : Holding) → is_some o ≡ false → o ≡ None
    no_some None q = refl
    no_some (Some a) q = cc

    first_out : is_among z (clause_binders r ++ flat_map clause_binders cs) ≡ false → is_among z (clause_binders r) ≡ false
    first_out h = false_from_ne_true (is_among z (clause_binders r)) (λ q. clash (any_first (nat_eq z) (clause_binders r) (flat_map clause_binders cs) q) h)

-- a let, where its parts may drop the variable
let_drops : (y : Typing) (z n m b : ℕ) (x : Option ℕ) → EnvSplits (y.envs n) (y.envs m) (without_name x (y.envs b)) → PassesTo (y.envs m z) None → (is_among z (option_list x) ≡ false → PassesTo (y.envs b z) None) → PassesTo (y.envs n z) None
let_drops y z n m b None h dm db = split_drop (y.envs n z) (y.envs m z) (y.envs b z) (h z) dm (db refl)
let_drops y z n m b (Some x) h dm db =
    split_drop (y.envs n z) (y.envs m z) (without x (y.envs b) z) (h z) dm
    ((elim (nat_eq x z) as (λ t. nat_eq x z ≡ t → PassesTo (if t then None else y.envs b z) None) [
      | true ↦ λ q. tt
      | false ↦ λ q. db (ap (λ t. t || false) (ne_turn x z q))
    ]) refl)

core_drops : (p : Program) (y : Typing) (z n : ℕ) (core : Core) → CoreTyped p y (y.envs n) (y.results n) core → (is_some (y.envs n z) ≡ true → is_among z (binders core) ≡ false) → core_uses (is_free p z) z core ≡ false → ((k : ℕ) → is_among k (parts core) ≡ true → is_free p z k ≡ false → PassesTo (y.envs k z) None) → PassesTo (y.envs n z) None
core_drops p y z n (Val e) h unbound off ih = value_drops (y.results n) e (y.envs n) z h off
core_drops p y z n (Print e) h unbound off ih = h z
core_drops p y z n (New i) h unbound off ih = h.1 z
core_drops p y z n (Call f args) h unbound off ih =
    subst (λ o. PassesTo (y.envs n z) o) (args_off (param_type y f h.0) 0 args z off) (h.3 z)
core_drops p y z n (Send x m args) h unbound off ih =
    let q = or_parts (nat_eq z x) (list_any (occurs z) args) off in
    subst (λ o. PassesTo (y.envs n z) o)
    (cond-false (nat_eq x z) (Some (mailbox_type h.0 Sending (Tag m) Second)) (args_need (payload_type h.1) 0 args z) (ne_turn z x q.0) ∙ args_off (payload_type h.1) 0 args z q.1)
    (h.4 z)
core_drops p y z n (If e m b) h unbound off ih =
    let q = or_parts (occurs z e) (is_free p z m || is_free p z b) off in
    let w = or_parts (is_free p z m) (is_free p z b) q.1 in
    passes_drop (y.envs n z) (y.envs m z) (h.2 z) (ih m (or_left (nat_eq m m) (is_among m (b ∷ [])) (eq-eqb m m refl)) w.0)
core_drops p y z n (Spawn m) h unbound off ih =
    returnable_drop (y.envs n z) (passes_drop (returnable (y.envs n z)) (y.envs m z) (h.1 z) (ih m (or_left (nat_eq m m) false (eq-eqb m m refl)) off))
core_drops p y z n (Let x m b) h unbound off ih =
    let q = or_parts (is_free p z m) (is_free p z b && not (is_among z (option_list x))) off in
    let_drops y z n m b x h.1 (ih m (or_left (nat_eq m m) (is_among m (b ∷ [])) (eq-eqb m m refl)) q.0)
    (λ out. ih b (or_right (nat_eq b m) (is_among b (b ∷ [])) (or_left (nat_eq b b) false (eq-eqb b b refl)))
    (⊎_elim (λ a. a) (λ c. absurd (clash (ap not out) c)) (and_cases (is_free p z b) (not (is_among z (option_list x))) q.1)))
core_drops p y z n (Guard x e free cs) h unbound off ih =
    let q = or_parts (nat_eq z x) (list_any (is_free p z) (option_list free) || list_any (clause_uses (is_free p z) z) cs) off in
    let w = or_parts (list_any (is_free p z) (option_list free)) (list_any (clause_uses (is_free p z) z) cs) q.1 in
    guard_drops p y z n x e free cs h unbound (ne_turn z x q.0) w.0 w.1 ih

some_unbound : (p : Program) (y : Typing) (z n : ℕ) (core : Core) → NodeFacts p y n core → is_some (y.envs n z) ≡ true → is_among z (binders core) ≡ false
some_unbound p y z n core facts h = go (y.envs n z) refl h
  where
    go : (o : Option MailboxType) → y.envs n z ≡ o → is_some o ≡ true → is_among z (binders core) ≡ false
    go None e s = cc
    go (Some a) e s = facts.unbound z a e

-- every node, those with greater numbers first
drops_from : (p : Program) (y : Typing) (z : ℕ) → WellFormed p → IsTyping p y → (d n : ℕ) → length p.nodes ≤ d + n → (core : Core) → core_at p n ≡ Some core → is_free p z n ≡ false → PassesTo (y.envs n z) None
drops_from p y z w i zero n long core at off =
    let past : node_at p n ≡ None = slice_get_past p.nodes n (omega arith) in
    let none : core_at p n ≡ None = ap (λ o. option_map (λ (d : Node). d.core) o) past in
    absurd (nowhere (sym none ∙ at))
  where
    nowhere : None ≡ Some core → ⊥
    nowhere h = cc
drops_from p y z w i (suc d) n long core at off =
    let facts = node_facts p y n core w i at in
    core_drops p y z n core facts.term (some_unbound p y z n core facts) (sym (free_unfolds p z n core w at) ∙ off)
    (λ k a off_k.
    let after = part_after p n core (node_at p n) w refl at k a in
    let part = part_core p n core w at k a in
    drops_from p y z w i d k (omega arith) part.0 part.1 off_k)

pub unused_drops : (p : Program) (y : Typing) → WellFormed p → IsTyping p y → (z n : ℕ) (core : Core) → core_at p n ≡ Some core → is_free p z n ≡ false → PassesTo (y.envs n z) None
unused_drops p y w i z n core at off = drops_from p y z w i (length p.nodes) n (omega arith) core at off
