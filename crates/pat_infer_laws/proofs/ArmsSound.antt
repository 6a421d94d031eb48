-- A choice and a guard under a typing.
use Rattle.std.proofs.Common.{◌≡◌, ℕ, suc, ◌+◌, Bool, true, false, not, ◌||◌, nat_eq, if◌then◌else◌, List, [], ◌∷◌, length, Option, Some, None, refl, sym, ap, ◌∙◌, subst, ⊎_elim, IsTrue}
use Rattle.std.specs.Prelude.{is_some, is_none, slice_get, option_and_then}
use Rattle.std.specs.List.{AllByRecursion, IsDistinct, list_any}
use Rattle.std.specs.Map.{keys_of}
use Rattle.std.proofs.lemmas.Bool.{cond-true, cond-false, eq-eqb, or_parts, or_cases, or_left, or_from, false_from_ne_true}
use Rattle.pat_words_spec.specs.Patterns.{Pat, residual, is_closed}
use Rattle.pat_semantics_spec.specs.Programs.{Receiving, Sort, TagDecl, Clause, Program, is_among, clause_binders}
use Rattle.pat_semantics_spec.specs.Faults.{payloads_of}
use Rattle.pat_semantics_spec.specs.WellFormed.{WellFormed}
use Rattle.pat_semantics_laws.proofs.Lists.{clash, all_join, among_first, among_second, distinct_front, distinct_back, apart_uncounted, ne_turn}
use Rattle.pat_type_system_spec.specs.Types.{Returnable, MailboxType, mailbox_type, TypeOf, TypeFits, PassesTo, TypeEnv, EnvPasses, without}
use Rattle.pat_type_system_spec.specs.Typings.{Typing, payload_sort, payload_type, with_payloads, clause_env, HasMailboxPayload, ClauseTyped}
use Rattle.pat_type_system_spec.specs.Holdings.{declared_types}
use Rattle.pat_type_system_laws.proofs.Passing.{passes_twice}
use Rattle.pat_type_system_laws.proofs.Environments.{payloads_off}
use Rattle.pat_type_schemes_spec.specs.NodeTypes.{type_under, need_under, result_under, Needs, need_of}
use Rattle.pat_infer_spec.specs.Constraints.{AtNode, BranchRule, Found}
use Rattle.pat_infer_spec.specs.Needs.{needs_but, Combined}
use Rattle.pat_infer_spec.specs.Binders.{names_bound}
use Rattle.pat_infer_spec.specs.Branches.{Branch, Arm, own_names, outer_needs, arm_names, arm_needs, branches_agree, branches}
use Rattle.pat_infer_spec.specs.Walk.{Part, Arms, walk_arms, arms_gathered, arms_findings, if_from, two_branches, has_mailbox, clause_keeps, arm_binders}
use Rattle.pat_infer_spec.specs.Solutions.{GivesFrom}
use Rattle.pat_words_laws.proofs.ClosedPatterns.{residual_closed}
use Rattle.pat_inclusion_laws.proofs.Replaced.{closed_same}
use Rattle.pat_infer_laws.proofs.Lookups.{need_but, among_add_all, no_key}
use Rattle.pat_infer_laws.proofs.Gathering.{gives_parts, each_none, nil_join, all_map, Each, each_map, each_all, EachGives, gather_gives, EachHolds, gather_holds, EachNeed, gather_needs}
use Rattle.pat_infer_laws.proofs.BothLaws.{Holds}
use Rattle.pat_infer_laws.proofs.BranchLaws.{BranchesPass, branches_pass}
use Rattle.pat_infer_laws.proofs.BinderLaws.{NamePassed, Places, names_all, places_types, places_apart, payload_places}
use Rattle.pat_infer_laws.proofs.SignatureLaws.{payload_same}
use Rattle.pat_infer_laws.proofs.TermSound.{env_at, Sound}
use Rattle.pat_infer_laws.proofs.LetSound.{PartSound}

-- ---- branches that are walked

-- a branch whose part is sound, and what follows for it from what its body needs
pub record BranchSound (y : Typing) (s : ℕ → Pat) (part : Part) (asked : TypeOf) (R : Option Clause → Needs → Type 0) (b : Branch) : Type 0 where
  pub fits : TypeFits (y.results b.body) (result_under s asked)
  pub sound : PartSound y s part b.body
  pub gives : (needs : Needs) → EnvPasses (y.envs b.body) (env_at s needs) → R b.clause needs

-- walked branches
pub record ArmsSound (s : ℕ → Pat) (R : Option Clause → Needs → Type 0) (all : Arms) : Type 0 where
  pub clean : all.findings ≡ []
  pub arms : AllByRecursion (λ a. R a.clause a.needs) all.arms
  pub holds : AllByRecursion (Holds s) all.constraints

pub arms_sound : (y : Typing) (s : ℕ → Pat) (part : Part) (asked : TypeOf) (R : Option Clause → Needs → Type 0) (k : ℕ) (bs : List Branch) → AllByRecursion (BranchSound y s part asked R) bs → GivesFrom y s k (walk_arms part asked k bs).vars → ArmsSound s R (walk_arms part asked k bs)
arms_sound y s part asked R k [] h g = record { clean = refl; arms = tt; holds = tt }
arms_sound y s part asked R k (b ∷ bs) h g =
    let first : Found = part b.body asked k in
    let rest : Arms = walk_arms part asked (k + length first.vars) bs in
    let q = gives_parts y s k first.vars rest.vars g in
    let here = h.0.sound asked k h.0.fits q.0 in
    let later = arms_sound y s part asked R (k + length first.vars) bs h.1 q.1 in
    record {
      clean = nil_join first.findings rest.findings here.clean later.clean;
      arms = (h.0.gives first.needs here.passes, later.arms);
      holds = all_join (Holds s) first.constraints rest.constraints here.holds later.holds;
    }

-- what holds of what each branch needs of x
needs_all : (P : Option MailboxType → Type 0) (x : ℕ) (arms : List Arm) → AllByRecursion (λ a. P (need_of (outer_needs a) x)) arms → AllByRecursion P (arm_needs x arms)
needs_all P x [] h = tt
needs_all P x (a ∷ arms) h = (h.0, needs_all P x arms h.1)

no_arms_needed : (x : ℕ) (arms : List Arm) → arm_needs x arms ≡ [] → arms ≡ []
no_arms_needed x [] h = refl
no_arms_needed x (a ∷ arms) h = cc

-- a variable that no branch needs
pub arm_off : (a : Arm) (arms : List Arm) (z : ℕ) → is_among z (arm_names (a ∷ arms)) ≡ false → (need_of (outer_needs a) z ≡ None) × (is_among z (arm_names arms) ≡ false)
arm_off a arms z h =
    let q = or_parts (is_among z (keys_of (outer_needs a))) (is_among z (arm_names arms)) (sym (among_add_all (keys_of (outer_needs a)) (arm_names arms) z) ∙ h) in
    (no_key (outer_needs a) z q.0, q.1)

-- what the branches' needs are taken together to
pub record GatheredSound (s : ℕ → Pat) (g : TypeEnv) (n k : ℕ) (arms : List Arm) : Type 0 where
  pub clean : arms_findings n arms ≡ []
  pub passes : (z : ℕ) → PassesTo (g z) (env_at s (arms_gathered n k arms).needs z)
  pub holds : AllByRecursion (Holds s) (arms_gathered n k arms).constraints

pub gathered_sound : (y : Typing) (s : ℕ → Pat) (g : TypeEnv) (n k : ℕ) (arms : List Arm) → ((z : ℕ) (c : MailboxType) → g z ≡ Some c → y.envs n z ≡ Some c) → (arms ≡ [] → (z : ℕ) → PassesTo (g z) None) → AllByRecursion (λ a. (z : ℕ) → PassesTo (g z) (env_at s (outer_needs a) z)) arms → GivesFrom y s k (arms_gathered n k arms).vars → GatheredSound s g n k arms
gathered_sound y s g n k arms own drop h gives =
    let names : List ℕ = arm_names arms in
    let one : ℕ → ℕ → Option Combined = λ j z. branches n j z (arm_needs z arms) in
    let Pass : ℕ → ℕ → Option Combined → Type 0 = λ j z o. BranchesPass s (g z) (arm_needs z arms) o in
    let each : Each Pass one k names =
    each_map (EachGives y s) Pass one
    (λ j z gv.
    branches_pass y s n j z (arm_needs z arms) (g z) (own z) (λ none. drop (no_arms_needed z arms none) z)
    (needs_all (λ o. PassesTo (g z) (need_under s o)) z arms (all_map (λ a. (w : ℕ) → PassesTo (g w) (env_at s (outer_needs a) w)) (λ a. PassesTo (g z) (env_at s (outer_needs a) z)) (λ a f. f z) arms h)) gv)
    k names (gather_gives y s one k names gives) in
    record {
      clean = each_none (λ z. branches_agree (arm_needs z arms)) BranchRule (λ z. AtNode n) names
          (each_all (λ z. branches_agree (arm_needs z arms) ≡ true) one k names (each_map Pass (λ j z o. branches_agree (arm_needs z arms) ≡ true) one (λ j z q. q.agree) k names each));
      passes = λ z.
          gather_needs (λ z o. PassesTo (g z) (need_under s o)) one k names
          (each_map Pass (EachNeed (λ z o. PassesTo (g z) (need_under s o))) one (λ j z q. q.passes) k names each)
          z (off arms drop h z);
      holds = gather_holds (Holds s) one k names (each_map Pass (EachHolds (Holds s)) one (λ j z q. q.holds) k names each);
    }
  where
    off : (arms : List Arm) → (arms ≡ [] → (z : ℕ) → PassesTo (g z) None) → AllByRecursion (λ a. (z : ℕ) → PassesTo (g z) (env_at s (outer_needs a) z)) arms → (z : ℕ) → is_among z (arm_names arms) ≡ false → PassesTo (g z) None
    off [] drop h z none = drop refl z
    off (a ∷ arms) drop h z none = subst (λ o. PassesTo (g z) (need_under s o)) (arm_off a arms z none).0 (h.0 z)

-- ---- choices

-- what a branch without a clause needs is what its body needs
pub no_own : (s : ℕ → Pat) (g : TypeEnv) (needs : Needs) → EnvPasses g (env_at s needs) → (z : ℕ) → PassesTo (g z) (env_at s (needs_but [] needs) z)
no_own s g needs h z = subst (λ o. PassesTo (g z) (need_under s o)) (sym (need_but [] needs z)) (h z)

pub if_sound : (y : Typing) (s : ℕ → Pat) (part : Part) (n k a b : ℕ) (asked : TypeOf) → TypeFits (y.results a) (result_under s asked) → TypeFits (y.results b) (result_under s asked) → EnvPasses (y.envs n) (y.envs a) → EnvPasses (y.envs n) (y.envs b) → PartSound y s part a → PartSound y s part b → GivesFrom y s k (if_from n k (walk_arms part asked k (two_branches a b))).vars → Sound s (y.envs n) (if_from n k (walk_arms part asked k (two_branches a b)))
if_sound y s part n k a b asked fa fb ea eb pa pb gives =
    let all : Arms = walk_arms part asked k (two_branches a b) in
    let R : Option Clause → Needs → Type 0 = λ c needs. (z : ℕ) → PassesTo (y.envs n z) (env_at s (needs_but (own_names c) needs) z) in
    let q = gives_parts y s k all.vars (arms_gathered n (k + length all.vars) all.arms).vars gives in
    let branch : (m : ℕ) → TypeFits (y.results m) (result_under s asked) → EnvPasses (y.envs n) (y.envs m) → PartSound y s part m → BranchSound y s part asked R (record { body = m; clause = None }) =
    λ m fit env sound. record {
      fits = fit;
      sound = sound;
      gives = λ needs h. no_own s (y.envs n) needs (λ z. passes_twice (y.envs n z) (y.envs m z) (env_at s needs z) (env z) (h z));
    } in
    let walked = arms_sound y s part asked R k (two_branches a b) (branch a fa ea pa, (branch b fb eb pb, tt)) q.0 in
    let own = gathered_sound y s (y.envs n) n (k + length all.vars) all.arms (λ z c e. e) (λ none. cc) walked.arms q.1 in
    record {
      clean = nil_join all.findings (arms_findings n all.arms) walked.clean own.clean;
      passes = own.passes;
      holds = all_join (Holds s) all.constraints (arms_gathered n (k + length all.vars) all.arms).constraints walked.holds own.holds;
    }

-- ---- guards

-- what nothing passes to isn't needed
pub none_passes_on : (s : ℕ → Pat) (a o n : Option MailboxType) → a ≡ None → PassesTo a o → PassesTo o (need_under s n) → is_none n ≡ true
none_passes_on s None None None e h k = refl
none_passes_on s None None (Some c) e h k = absurd k
none_passes_on s None (Some b) n e h k = absurd h
none_passes_on s (Some a) o n e h k = cc

-- what is there for a clause outside of its names is what there is for the guard
pub clause_outside : (g : TypeEnv) (x i : ℕ) (e : Pat) (decl : TagDecl) (r : Clause) (z : ℕ) → is_among z (clause_binders r) ≡ false → clause_env g x i e decl r z ≡ without x g z
clause_outside g x i e decl r z out =
    let off_from : nat_eq z r.from ≡ false = false_from_ne_true (nat_eq z r.from) (λ q. clash (among_second z r.vars (r.from ∷ []) (or_left (nat_eq z r.from) false q)) out) in
    let off_vars : is_among z r.vars ≡ false = false_from_ne_true (is_among z r.vars) (λ q. clash (among_first z r.vars (r.from ∷ []) q) out) in
    cond-false (nat_eq r.from z) (Some (mailbox_type i Receiving (residual e r.tag) Returnable)) (with_payloads (payload_type decl) 0 r.vars (without x g) z) (ne_turn z r.from off_from)
    ∙ payloads_off (payload_type decl) 0 r.vars (without x g) z off_vars

-- the names of a clause have their types
pub clause_from : (g : TypeEnv) (x i : ℕ) (e : Pat) (decl : TagDecl) (r : Clause) → clause_env g x i e decl r r.from ≡ Some (mailbox_type i Receiving (residual e r.tag) Returnable)
clause_from g x i e decl r =
    cond-true (nat_eq r.from r.from) (Some (mailbox_type i Receiving (residual e r.tag) Returnable)) (with_payloads (payload_type decl) 0 r.vars (without x g) r.from) (eq-eqb r.from r.from refl)

pub clause_payloads : (g : TypeEnv) (x i : ℕ) (e : Pat) (decl : TagDecl) (r : Clause) → IsDistinct nat_eq (clause_binders r) → Places (λ z a. clause_env g x i e decl r z ≡ Some a) (payload_type decl) 0 r.vars
clause_payloads g x i e decl r d =
    places_apart (λ z a. with_payloads (payload_type decl) 0 r.vars (without x g) z ≡ Some a) (λ z a. clause_env g x i e decl r z ≡ Some a) (λ z. nat_eq r.from z ≡ false)
    (λ z a apart is.
    cond-false (nat_eq r.from z) (Some (mailbox_type i Receiving (residual e r.tag) Returnable)) (with_payloads (payload_type decl) 0 r.vars (without x g) z) apart ∙ is)
    (payload_type decl) 0 r.vars (apart_uncounted r.from r.vars (distinct_back r.vars r.from d))
    (payload_places (payload_type decl) 0 r.vars (without x g) (distinct_front r.vars r.from d))

-- what is needed of a key
keys_none : (test : ℕ → Bool) (needs : Needs) → ((z : ℕ) (a : MailboxType) → need_of needs z ≡ Some a → test z ≡ false) → list_any test (keys_of needs) ≡ false
keys_none test [] h = refl
keys_none test (e ∷ needs) h =
    or_from (test e.0) (list_any test (keys_of needs))
    (h e.0 e.1 (cond-true (nat_eq e.0 e.0) (Some e.1) (need_of needs e.0) (eq-eqb e.0 e.0 refl)))
    (keys_none test needs (λ z a is.
    (elim (nat_eq z e.0) as (λ t. nat_eq z e.0 ≡ t → test z ≡ false) [
      | true ↦ λ q. h z e.1 (cond-true (nat_eq z e.0) (Some e.1) (need_of needs z) q)
      | false ↦ λ q. h z a (cond-false (nat_eq z e.0) (Some e.1) (need_of needs z) q ∙ is)
    ]) refl))

some_payload : (decl : TagDecl) → has_mailbox decl.payloads ≡ true → HasMailboxPayload decl
some_payload decl h = go decl.payloads h
  where
    go : (ss : List Sort) → list_any (λ t. is_some (payload_sort t)) ss ≡ true → (k : ℕ) × IsTrue (is_some (option_and_then payload_sort (slice_get ss k)))
    go [] h = cc
    go (t ∷ ss) h =
        ⊎_elim
        (λ l. (0, l))
        (λ r. let q = go ss r in (suc q.0, q.1))
        (or_cases (is_some (payload_sort t)) (list_any (λ u. is_some (payload_sort u)) ss) h)

some_passed : (s : ℕ → Pat) (o n : Option MailboxType) → PassesTo o (need_under s n) → is_some n ≡ true → is_some o ≡ true
some_passed s (Some a) n h k = refl
some_passed s None (Some c) h k = absurd h
some_passed s None None h k = k

-- what is shown of a branch of a guard x : E on interface i, where there is g for the guard
pub record ClauseSound (p : Program) (s : ℕ → Pat) (g : TypeEnv) (x i : ℕ) (e : Pat) (clause : Option Clause) (needs : Needs) : Type 0 where
  pub outer : (z : ℕ) → PassesTo (without x g z) (env_at s (needs_but (own_names clause) needs) z)
  pub order : is_none (need_of needs x) ≡ true
  pub keeps : clause_keeps p i needs clause ≡ true
  pub names : AllByRecursion (NamePassed s) (arm_binders p i e needs clause)

pub without_none : (x : ℕ) (g : TypeEnv) → without x g x ≡ None
without_none x g = cond-true (nat_eq x x) None (g x) (eq-eqb x x refl)

pub free_clause : (p : Program) (y : Typing) (s : ℕ → Pat) (g : TypeEnv) (x i m : ℕ) (e : Pat) (needs : Needs) → EnvPasses (without x g) (y.envs m) → EnvPasses (y.envs m) (env_at s needs) → ClauseSound p s g x i e None needs
free_clause p y s g x i m e needs env h = record {
  outer = no_own s (without x g) needs (λ z. passes_twice (without x g z) (y.envs m z) (env_at s needs z) (env z) (h z));
  order = none_passes_on s (without x g x) (y.envs m x) (need_of needs x) (without_none x g) (env x) (h x);
  keeps = refl;
  names = tt;
}

keeps_by : (a b : Bool) → (a ≡ true → b ≡ false) → (not a || not b) ≡ true
keeps_by true b h = ap not (h refl)
keeps_by false b h = refl

pub receive_clause : (p : Program) → WellFormed p → (y : Typing) (s : ℕ → Pat) (g : TypeEnv) (t : TypeOf) (x i : ℕ) (e : Pat) (r : Clause) (needs : Needs) → is_closed e ≡ true → IsDistinct nat_eq (clause_binders r) → ((z : ℕ) → is_among z (clause_binders r) ≡ true → g z ≡ None) → is_some (g x) ≡ true → ClauseTyped p y g t x i e r → EnvPasses (y.envs r.body) (env_at s needs) → ClauseSound p s g x i e (Some r) needs
receive_clause p wf y s g t x i e r needs closed distinct fresh named typed h =
    let decl : TagDecl = typed.decl in
    let here : EnvPasses (clause_env g x i e decl r) (env_at s needs) =
    λ z. passes_twice (clause_env g x i e decl r z) (y.envs r.body z) (env_at s needs z) (typed.passes z) (h z) in
    let out : is_among x (clause_binders r) ≡ false = false_from_ne_true (is_among x (clause_binders r)) (λ on. let none = fresh x on in let c : is_some (g x) ≡ false = ap is_some none in clash named c) in
    record {
      outer = λ z.
          subst (λ o. PassesTo (without x g z) (need_under s o)) (sym (need_but (clause_binders r) needs z))
          ((elim (is_among z (clause_binders r)) as (λ b. is_among z (clause_binders r) ≡ b → PassesTo (without x g z) (need_under s (if b then None else need_of needs z))) [
            | true ↦ λ on. subst (λ o. PassesTo o None) (sym (without_off x g z (fresh z on))) tt
            | false ↦ λ off. subst (λ o. PassesTo o (env_at s needs z)) (clause_outside g x i e decl r z off) (here z)
          ]) refl);
      order = none_passes_on s (clause_env g x i e decl r x) (y.envs r.body x) (need_of needs x)
          (clause_outside g x i e decl r x out ∙ without_none x g) (typed.passes x) (h x);
      keeps = subst (λ o. (not (has_mailbox (payloads_of o)) || not (list_any (λ z. not (is_among z (clause_binders r))) (keys_of needs))) ≡ true) (sym typed.declared)
          (keeps_by (has_mailbox decl.payloads) (list_any (λ z. not (is_among z (clause_binders r))) (keys_of needs))
          (λ has. keys_none (λ z. not (is_among z (clause_binders r))) needs
          (λ z a is. ap not (typed.own_names (some_payload decl has) z (some_passed s (y.envs r.body z) (need_of needs z) (h z) (ap is_some is))))));
      names = (
        subst (λ f. PassesTo (Some (mailbox_type i Receiving f Returnable)) (env_at s needs r.from)) (sym (closed_same s (residual e r.tag) (residual_closed e r.tag closed)))
            (subst (λ o. PassesTo o (env_at s needs r.from)) (clause_from g x i e decl r) (here r.from)),
        subst (λ o. AllByRecursion (NamePassed s) (names_bound (declared_types o) 0 r.vars needs)) (sym typed.declared)
            (names_all (NamePassed s) (payload_type decl) 0 r.vars needs
            (places_types (λ z a. clause_env g x i e decl r z ≡ Some a) (λ z a. PassesTo (Some (type_under s a)) (env_at s needs z)) (payload_type decl)
            (λ k z a has is.
            let same : need_under s (Some a) ≡ Some a = ap (need_under s) (sym has) ∙ payload_same p s wf i r.tag decl typed.declared k ∙ has in
            subst (λ o. PassesTo o (env_at s needs z)) (is ∙ sym same) (here z))
            0 r.vars (clause_payloads g x i e decl r distinct))),
      );
    }
  where
    without_off : (x : ℕ) (g : TypeEnv) (z : ℕ) → g z ≡ None → without x g z ≡ None
    without_off x g z h = elim (nat_eq x z) as (λ t. (if t then None else g z) ≡ None) [ true ↦ refl | false ↦ h ]
