-- A guard: what is found of it types it.
use Rattle.std.proofs.Common.{◌⊎◌, zero, ◌≡◌, ℕ, suc, ◌+◌, Bool, true, false, not, ◌||◌, nat_eq, nat_lt, if◌then◌else◌, List, [], ◌∷◌, ◌++◌, length, map, Option, Some, None, refl, sym, ap, ◌∙◌, subst, arith, inl, inr, ⊎_elim, IsTrue}
use Rattle.std.specs.Prelude.{is_some, is_none, slice_get, option_and_then}
use Rattle.std.specs.Map.{keys_of}
use Rattle.std.specs.List.{AllByRecursion, list_any, flat_map}
use Rattle.std.proofs.lemmas.Bool.{cond_both, cond-true, cond-false, or_cases, or_parts, or_left, or_right, and_from, eq-eqb, eqb-true, cases_Bool, false_from_ne_true}
use Rattle.pat_words_spec.specs.Patterns.{Pat, covers, residual, is_closed}
use Rattle.pat_words_laws.proofs.CoverLaws.{covers_to}
use Rattle.pat_semantics_spec.specs.Values.{Base, Kind, Plain, MailboxOf}
use Rattle.pat_semantics_spec.specs.Programs.{Sending, Receiving, Sort, BaseSort, MailboxSort, TagDecl, Clause, Guard, Node, Program, node_at, kind_of, is_among, is_free, option_list, binders, clause_bodies, clause_binders, clause_uses}
use Rattle.pat_semantics_spec.specs.Faults.{payloads_of}
use Rattle.pat_semantics_spec.specs.WellFormed.{WellFormed, CoreKinds, ClauseKinds, VarsHaveKinds, IsPayload, IsPartOf, HasKind}
use Rattle.pat_semantics_laws.proofs.Lists.{clash, not_true, nil_parts, append_among, among_first, among_second, among_head}
use Rattle.pat_semantics_laws.proofs.Scopes.{free_fresh}
use Rattle.pat_type_system_spec.specs.Types.{Returnable, MailboxType, mailbox_type, TypeOf, kind_of_type, Fits, PassesTo, TypeEnv, EnvPasses, without}
use Rattle.pat_type_system_spec.specs.Typings.{Typing, TypeHasWord, payload_sort, payload_type, with_option, with_payloads, clause_env, HasMailboxPayload, ClauseTyped, is_received}
use Rattle.pat_type_system_spec.specs.Holdings.{declared_types}
use Rattle.pat_type_system_laws.proofs.Environments.{option_there, payloads_off}
use Rattle.pat_inclusion_spec.specs.Values.{replaced}
use Rattle.pat_type_schemes_spec.specs.NodeTypes.{type_under, need_under, result_under, Needs, need_of}
use Rattle.pat_infer_spec.specs.Constraints.{AtNode, OrderRule, PayloadRule, CoversRule, unless, each_unless}
use Rattle.pat_infer_spec.specs.Needs.{put, needs_but}
use Rattle.pat_infer_spec.specs.Binders.{Binder, binder_findings, binder_constraints, names_bound}
use Rattle.pat_infer_spec.specs.Branches.{Branch, Arm, own_names, outer_needs}
use Rattle.pat_infer_spec.specs.Walk.{Part, Arms, walk_arms, arms_gathered, arms_findings, clause_branch, branches_of, has_mailbox, clause_keeps, keeps_own, arm_binders, guard_binders, guard_found, var_interface}
use Rattle.pat_words_laws.proofs.ClosedPatterns.{residual_closed}
use Rattle.pat_inclusion_laws.proofs.Replaced.{closed_same}
use Rattle.pat_infer_laws.proofs.Lookups.{need_put, need_but}
use Rattle.pat_infer_laws.proofs.Gathering.{all_parts, all_map, all_with, none_each, none_unless}
use Rattle.pat_infer_laws.proofs.BothLaws.{Holds, fits_same}
use Rattle.pat_infer_laws.proofs.BinderLaws.{NamePassed, SameInterface, all_flat, flat_all, fine_names, Places, names_all, all_names, places_map, places_types}
use Rattle.pat_infer_laws.proofs.SignatureLaws.{payload_same, declared_payloads}
use Rattle.pat_infer_laws.proofs.TermSound.{env_at, face_of}
use Rattle.pat_infer_laws.proofs.ArmsSound.{clause_outside, clause_from, without_none}
use Rattle.pat_infer_laws.proofs.GuardSound.{branches_all}
use Rattle.pat_infer_laws.proofs.Facts.{HasWordUnder, NeedFits, NeedsFit, EntryTyped, Allowed, PartTypes, CoreFound, free_here, here_kind, kind_here, kind_up}
use Rattle.pat_infer_laws.proofs.TermTyped.{payload_kind}
use Rattle.pat_infer_laws.proofs.ArmsTyped.{Over, over_with, over_arms, arms_over, over_all, with_all, arm_of, BranchFits, ArmTyped, ArmsAllowed, arms_typed, OuterFits, outer_fits, gathered_typed}

-- ---- branches

-- what holds of all branches holds of the free branch and of each clause's
pub all_branches : (P : Branch → Type 0) (free : Option ℕ) (cs : List Clause) → AllByRecursion P (branches_of free cs) → ((m : ℕ) → free ≡ Some m → P (record { body = m; clause = None })) × AllByRecursion (λ r. P (clause_branch r)) cs
all_branches P None [] h = (λ m e. cc, tt)
all_branches P (Some m) [] h = (λ k e. let same : m ≡ k = cc in subst (λ w. P (record { body = w; clause = None })) same h.0, tt)
all_branches P None (r ∷ cs) h = let q = all_branches P None cs h.1 in (q.0, (h.0, q.1))
all_branches P (Some m) (r ∷ cs) h =
    (cond_both (nat_lt m r.body) (record { body = m; clause = None } ∷ clause_branch r ∷ branches_of None cs) (clause_branch r ∷ branches_of (Some m) cs)
    (λ bs. AllByRecursion P bs → ((k : ℕ) → Some m ≡ Some k → P (record { body = k; clause = None })) × AllByRecursion (λ c. P (clause_branch c)) (r ∷ cs))
    (λ _ g.
    let q = all_branches P None cs g.1.1 in
    (λ k e. let same : m ≡ k = cc in subst (λ w. P (record { body = w; clause = None })) same g.0, (g.1.0, q.1)))
    (λ _ g. let q = all_branches P (Some m) cs g.1 in (q.0, (g.0, q.1)))) h

-- each of the clauses is among them
pub clauses_use : (test : ℕ → Clause → Bool) (cs ds : List Clause) → ((z : ℕ) → list_any (test z) ds ≡ true → list_any (test z) cs ≡ true) → AllByRecursion (λ r. (z : ℕ) → test z r ≡ true → list_any (test z) cs ≡ true) ds
clauses_use test cs [] into = tt
clauses_use test cs (r ∷ ds) into = (
  λ z t. into z (or_left (test z r) (list_any (test z) ds) t),
  clauses_use test cs ds (λ z t. into z (or_right (test z r) (list_any (test z) ds) t)),
)

pub bodies_among : (P : ℕ → Type 0) (cs : List Clause) → ((m : ℕ) → is_among m (clause_bodies cs) ≡ true → P m) → AllByRecursion (λ r. P r.body) cs
bodies_among P [] f = tt
bodies_among P (r ∷ cs) f = (f r.body (among_head r.body (clause_bodies cs)), bodies_among P cs (λ m on. f m (or_right (nat_eq m r.body) (is_among m (clause_bodies cs)) on)))

binders_among : (cs : List Clause) → AllByRecursion (λ r. (z : ℕ) → is_among z (clause_binders r) ≡ true → is_among z (flat_map clause_binders cs) ≡ true) cs
binders_among [] = tt
binders_among (r ∷ cs) = (
  λ z on. among_first z (clause_binders r) (flat_map clause_binders cs) on,
  all_map (λ c. (z : ℕ) → is_among z (clause_binders c) ≡ true → is_among z (flat_map clause_binders cs) ≡ true) (λ c. (z : ℕ) → is_among z (clause_binders c) ≡ true → is_among z (clause_binders r ++ flat_map clause_binders cs) ≡ true)
      (λ c f z on. among_second z (clause_binders r) (flat_map clause_binders cs) (f z on)) cs (binders_among cs),
)

-- ---- the names of a clause

-- the variables have the kinds of the types at their places
vars_places : (vars : List Kind) (types : TypeEnv) (k : ℕ) (xs : List ℕ) (ss : List Sort) → VarsHaveKinds vars xs (map kind_of ss) → ((j : ℕ) (t : Sort) (b : MailboxType) → slice_get ss j ≡ Some t → types (k + j) ≡ Some b → kind_of t ≡ MailboxOf b.interface) → Places (λ z b. slice_get vars z ≡ Some (MailboxOf b.interface)) types k xs
vars_places vars types k [] ss h kinds = tt
vars_places vars types k (x ∷ xs) [] h kinds = absurd h
vars_places vars types k (x ∷ xs) (t ∷ ss) h kinds = (
  λ b e. let place : k + 0 ≡ k = omega arith in h.0 ∙ ap (λ w. Some w) (kinds 0 t b refl (ap types place ∙ e)),
  vars_places vars types (suc k) xs ss h.1 (λ j u b e f. let next : k + suc j ≡ suc k + j = omega arith in kinds (suc j) u b e (ap types next ∙ f)),
)

-- what a name of a payload is: of a mailbox type at its place, or of base kind
pub data NameCases (vars : List Kind) (Q : ℕ → MailboxType → Type 0) (types : TypeEnv) (k : ℕ) (xs : List ℕ) (g : TypeEnv) (z : ℕ) : Type 0 where
  mailbox : (a : MailboxType) → with_payloads types k xs g z ≡ Some a → Q z a → NameCases vars Q types k xs g z
  base : (b : Base) → with_payloads types k xs g z ≡ g z → slice_get vars z ≡ Some (Plain b) → NameCases vars Q types k xs g z

-- a place without a type is of base kind
abbrev pub BasePlaces : TypeEnv → ℕ → List Sort → Type 0
BasePlaces types k [] = Unit {0}
BasePlaces types k (t ∷ ss) = (types k ≡ None → (b : Base) × (kind_of t ≡ Plain b)) × BasePlaces types (suc k) ss

name_later : (vars : List Kind) (Q : ℕ → MailboxType → Type 0) (types : TypeEnv) (k x : ℕ) (xs : List ℕ) (g : TypeEnv) (z : ℕ) → with_payloads types k (x ∷ xs) g z ≡ with_payloads types (suc k) xs g z → NameCases vars Q types (suc k) xs g z → NameCases vars Q types k (x ∷ xs) g z
name_later vars Q types k x xs g z same (mailbox a is q) = mailbox a (same ∙ is) q
name_later vars Q types k x xs g z same (base b is kind) = base b (same ∙ is) kind

pub name_cases : (vars : List Kind) (Q : ℕ → MailboxType → Type 0) (types : TypeEnv) (k : ℕ) (xs : List ℕ) (ss : List Sort) (g : TypeEnv) (z : ℕ) → VarsHaveKinds vars xs (map kind_of ss) → BasePlaces types k ss → Places Q types k xs → is_among z xs ≡ true → NameCases vars Q types k xs g z
name_cases vars Q types k [] ss g z h plain places on = cc
name_cases vars Q types k (x ∷ xs) [] g z h plain places on = absurd h
name_cases vars Q types k (x ∷ xs) (t ∷ ss) g z h plain places on =
    ⊎_elim
    (λ here. at_head (types k) refl here (cases_Bool (is_among z xs)) (λ later. name_cases vars Q types (suc k) xs ss g z h.1 plain.1 places.1 later))
    (λ apart.
    let off : nat_eq x z ≡ false = apart in
    let later : is_among z xs ≡ true = ⊎_elim (λ l. absurd (clash (eq-eqb x z (sym (eqb-true z x l))) off)) (λ r. r) (or_cases (nat_eq z x) (is_among z xs) on) in
    name_later vars Q types k x xs g z (option_there x (types k) (with_payloads types (suc k) xs g) z off) (name_cases vars Q types (suc k) xs ss g z h.1 plain.1 places.1 later))
    (cases_Bool (nat_eq x z))
  where
    at_head : (o : Option MailboxType) → types k ≡ o → nat_eq x z ≡ true → (is_among z xs ≡ true) ⊎ (is_among z xs ≡ false) → (is_among z xs ≡ true → NameCases vars Q types (suc k) xs g z) → NameCases vars Q types k (x ∷ xs) g z
    at_head (Some a) e here later rest =
        mailbox a (ap (λ o. with_option x o (with_payloads types (suc k) xs g) z) e ∙ cond-true (nat_eq x z) (Some a) (with_payloads types (suc k) xs g z) here)
        (subst (λ w. Q w a) (eqb-true x z here) (places.0 a e))
    at_head None e here (inl on) rest = name_later vars Q types k x xs g z (ap (λ o. with_option x o (with_payloads types (suc k) xs g) z) e) (rest on)
    at_head None e here (inr off) rest =
        let plain_kind = plain.0 e in
        base plain_kind.0 (ap (λ o. with_option x o (with_payloads types (suc k) xs g) z) e ∙ payloads_off types (suc k) xs g z off)
        (ap (slice_get vars) (sym (eqb-true x z here)) ∙ h.0 ∙ ap (λ w. Some w) plain_kind.1)

sort_plain : (p : Program) (t : Sort) → IsPayload p t → payload_sort t ≡ None → (b : Base) × (kind_of t ≡ Plain b)
sort_plain p (BaseSort b) w h = (b, refl)
sort_plain p (MailboxSort i Sending None) w h = absurd w
sort_plain p (MailboxSort i Receiving None) w h = absurd w
sort_plain p (MailboxSort i q (Some e)) w h = cc

pub base_places : (p : Program) (types : TypeEnv) (k : ℕ) (ss : List Sort) → AllByRecursion (IsPayload p) ss → ((j : ℕ) → types (k + j) ≡ option_and_then payload_sort (slice_get ss j)) → BasePlaces types k ss
base_places p types k [] h at = tt
base_places p types k (t ∷ ss) h at = (
  λ e. let place : k ≡ k + 0 = omega arith in sort_plain p t h.0 (sym (at 0) ∙ sym (ap types place) ∙ e),
  base_places p types (suc k) ss h.1 (λ j. let next : suc k + j ≡ k + suc j = omega arith in ap types next ∙ at (suc j)),
)

-- ---- a clause

-- what is known of a branch of a guard x : E on interface i, where the guard needs `own` beside x
record BranchTyped (p : Program) (y : Typing) (s : ℕ → Pat) (x i : ℕ) (e : Pat) (own : Needs) (asked : TypeOf) (b : Branch) (needs : Needs) : Type 0 where
  typed : ArmTyped p y s asked b needs
  passes : (z : ℕ) → PassesTo (env_at s own z) (env_at s (needs_but (own_names b.clause) needs) z)
  order : is_none (need_of needs x) ≡ true
  keeps : clause_keeps p i needs b.clause ≡ true
  names : AllByRecursion (NamePassed s) (arm_binders p i e needs b.clause)

is_none_at : (o : Option MailboxType) → is_none o ≡ true → o ≡ None
is_none_at None h = refl
is_none_at (Some a) h = cc

-- what there is for the guard, beside x
env_beside : (s : ℕ → Pat) (x i : ℕ) (e : Pat) (own : Needs) (z : ℕ) → nat_eq x z ≡ false → without x (env_at s (put x (mailbox_type i Receiving e Returnable) own)) z ≡ env_at s own z
env_beside s x i e own z off =
    let t : MailboxType = mailbox_type i Receiving e Returnable in
    cond-false (nat_eq x z) None (env_at s (put x t own) z) off
    ∙ ap (need_under s) (need_put x t own z ∙ cond-false (nat_eq x z) (Some t) (need_of own z) off)

-- a branch without a clause
free_passes : (p : Program) (y : Typing) (s : ℕ → Pat) (x i m : ℕ) (e : Pat) (own : Needs) (asked : TypeOf) (needs : Needs) → BranchTyped p y s x i e own asked (record { body = m; clause = None }) needs → EnvPasses (without x (env_at s (put x (mailbox_type i Receiving e Returnable) own))) (y.envs m)
free_passes p y s x i m e own asked needs b z =
    let g : TypeEnv = env_at s (put x (mailbox_type i Receiving e Returnable) own) in
    subst (λ (h : TypeEnv). PassesTo (without x g z) (h z)) (sym b.typed.env)
    ((elim (nat_eq x z) as (λ t. nat_eq x z ≡ t → PassesTo (without x g z) (env_at s needs z)) [
      | true ↦ λ q.
          let same : x ≡ z = eqb-true x z q in
          subst (λ w. PassesTo (without x g w) (env_at s needs w)) same
          (subst (λ o. PassesTo o (env_at s needs x)) (sym (without_none x g)) (subst (λ o. PassesTo None (need_under s o)) (sym (is_none_at (need_of needs x) b.order)) tt))
      | false ↦ λ q.
          subst (λ o. PassesTo o (env_at s needs z)) (sym (env_beside s x i e own z q))
          (subst (λ o. PassesTo (env_at s own z) (need_under s o)) (need_but [] needs z) (b.passes z))
    ]) refl)

keys_off : (test : ℕ → Bool) (needs : Needs) → list_any test (keys_of needs) ≡ false → (z : ℕ) (a : MailboxType) → need_of needs z ≡ Some a → test z ≡ false
keys_off test [] h z a n = cc
keys_off test (e ∷ needs) h z a n =
    let q = or_parts (test e.0) (list_any test (keys_of needs)) h in
    (elim (nat_eq z e.0) as (λ t. nat_eq z e.0 ≡ t → (if t then Some e.1 else need_of needs z) ≡ Some a → test z ≡ false) [
      | true ↦ λ w k. ap test (eqb-true z e.0 w) ∙ q.0
      | false ↦ λ w k. keys_off test needs q.1 z a k
    ]) refl n

payload_mailbox : (decl : TagDecl) → HasMailboxPayload decl → has_mailbox decl.payloads ≡ true
payload_mailbox decl (k, h) = go decl.payloads k h
  where
    go : (ss : List Sort) (k : ℕ) → IsTrue (is_some (option_and_then payload_sort (slice_get ss k))) → list_any (λ t. is_some (payload_sort t)) ss ≡ true
    go [] k h = cc
    go (t ∷ ss) zero h = or_left (is_some (payload_sort t)) (list_any (λ u. is_some (payload_sort u)) ss) h
    go (t ∷ ss) (suc k) h = or_right (is_some (payload_sort t)) (list_any (λ u. is_some (payload_sort u)) ss) (go ss k h)

not_false : (b : Bool) → not b ≡ false → b ≡ true
not_false true h = refl
not_false false h = cc

need_there : (s : ℕ → Pat) (o : Option MailboxType) → is_some (need_under s o) ≡ true → (a : MailboxType) × (o ≡ Some a)
need_there s None h = cc
need_there s (Some a) h = (a, refl)

module _ (p : Program) (wf : WellFormed p) (y : Typing) (s : ℕ → Pat) (n : ℕ) (d : Node) (at : node_at p n ≡ Some d) (x i : ℕ) (e : Pat) (own : Needs) (asked : TypeOf) where
  -- what is there for the guard
  env : TypeEnv
  env = env_at s (put x (mailbox_type i Receiving e Returnable) own)

  -- a clause
  clause_typed : (r : Clause) (needs : Needs) → is_closed e ≡ true → ClauseKinds p (wf.nodes n d at).function.vars i d.kind r → IsPartOf p n d r.body → ((z : ℕ) → is_among z (clause_binders r) ≡ true → need_of own z ≡ None) → is_among x (clause_binders r) ≡ false → BranchTyped p y s x i e own asked (clause_branch r) needs → ClauseTyped p y (env_at s (put x (mailbox_type i Receiving e Returnable) own)) (result_under s asked) x i e r
  clause_typed r needs closed kinds inside fresh unbound b =
      let g : TypeEnv = env_at s (put x (mailbox_type i Receiving e Returnable) own) in
      let decl : TagDecl = kinds.decl in
      let types : TypeEnv = payload_type decl in
      let vars : List Kind = (wf.nodes n d at).function.vars in
      let names = subst (λ o. AllByRecursion (NamePassed s) (names_bound (declared_types o) 0 r.vars needs)) kinds.declared b.names.1 in
      let places : Places (λ z a. PassesTo (Some a) (env_at s needs z)) types 0 r.vars =
      places_types (λ z a. PassesTo (Some (type_under s a)) (env_at s needs z)) (λ z a. PassesTo (Some a) (env_at s needs z)) types
      (λ k z a has h. subst (λ o. PassesTo o (env_at s needs z)) (ap (need_under s) (sym has) ∙ payload_same p s wf i r.tag decl kinds.declared k ∙ has) h)
      0 r.vars (all_names (NamePassed s) types 0 r.vars needs names) in
      let passes : (z : ℕ) → PassesTo (clause_env g x i e decl r z) (env_at s needs z) =
      λ z.
      ⊎_elim
      (λ on. ⊎_elim
      (λ from.
      let same : r.from ≡ z = eqb-true r.from z from in
      subst (λ w. PassesTo (clause_env g x i e decl r w) (env_at s needs w)) same
      (subst (λ o. PassesTo o (env_at s needs r.from)) (sym (clause_from g x i e decl r))
      (subst (λ f. PassesTo (Some (mailbox_type i Receiving f Returnable)) (env_at s needs r.from)) (closed_same s (residual e r.tag) (residual_closed e r.tag closed)) b.names.0)))
      (λ apart.
      let among : is_among z r.vars ≡ true =
      ⊎_elim (λ l. l) (λ l. absurd (clash (⊎_elim (λ q. eq-eqb r.from z (sym (eqb-true z r.from q))) (λ q. absurd (no_false q)) (or_cases (nat_eq z r.from) false l)) apart)) (append_among z r.vars (r.from ∷ []) on) in
      subst (λ o. PassesTo o (env_at s needs z)) (sym (cond-false (nat_eq r.from z) (Some (mailbox_type i Receiving (residual e r.tag) Returnable)) (with_payloads types 0 r.vars (without x g) z) apart))
      (by_name z on (name_cases vars (λ w a. PassesTo (Some a) (env_at s needs w)) types 0 r.vars decl.payloads (without x g) z kinds.payloads
      (base_places p types 0 decl.payloads (declared_payloads p wf i r.tag decl kinds.declared) (λ j. let place : 0 + j ≡ j = omega arith in ap types place))
      places among)))
      (cases_Bool (nat_eq r.from z)))
      (λ off.
      subst (λ o. PassesTo o (env_at s needs z)) (sym (clause_outside g x i e decl r z off)) (outside z off))
      (cases_Bool (is_among z (clause_binders r))) in
      record {
        decl = decl;
        declared = kinds.declared;
        result = b.typed.result;
        passes = λ z. subst (λ (h : TypeEnv). PassesTo (clause_env g x i e decl r z) (h z)) (sym b.typed.env) (passes z);
        own_names = λ has z some.
            let there = need_there s (need_of needs z) (subst (λ (h : TypeEnv). is_some (h z) ≡ true) b.typed.env some) in
            let keeps = subst (λ o. (not (has_mailbox (payloads_of o)) || not (list_any (λ w. not (is_among w (clause_binders r))) (keys_of needs))) ≡ true) kinds.declared b.keeps in
            let none : list_any (λ w. not (is_among w (clause_binders r))) (keys_of needs) ≡ false =
            ⊎_elim (λ l. absurd (clash (payload_mailbox decl has) (not_true (has_mailbox decl.payloads) l))) (λ l. not_true (list_any (λ w. not (is_among w (clause_binders r))) (keys_of needs)) l)
            (or_cases (not (has_mailbox decl.payloads)) (not (list_any (λ w. not (is_among w (clause_binders r))) (keys_of needs))) keeps) in
            not_false (is_among z (clause_binders r)) (keys_off (λ w. not (is_among w (clause_binders r))) needs none z there.0 there.1);
      }
    where
      no_false : false ≡ true → ⊥
      no_false q = cc

      -- a variable that the clause doesn't bind
      outside : (z : ℕ) → is_among z (clause_binders r) ≡ false → PassesTo (without x (env_at s (put x (mailbox_type i Receiving e Returnable) own)) z) (env_at s needs z)
      outside z off =
          (elim (nat_eq x z) as (λ t. nat_eq x z ≡ t → PassesTo (without x (env_at s (put x (mailbox_type i Receiving e Returnable) own)) z) (env_at s needs z)) [
            | true ↦ λ q.
                let same : x ≡ z = eqb-true x z q in
                subst (λ w. PassesTo (without x (env_at s (put x (mailbox_type i Receiving e Returnable) own)) w) (env_at s needs w)) same
                (subst (λ o. PassesTo o (env_at s needs x)) (sym (without_none x (env_at s (put x (mailbox_type i Receiving e Returnable) own))))
                (subst (λ o. PassesTo None (need_under s o)) (sym (is_none_at (need_of needs x) b.order)) tt))
            | false ↦ λ q.
                subst (λ o. PassesTo o (env_at s needs z)) (sym (env_beside s x i e own z q))
                (subst (λ o. PassesTo (env_at s own z) (need_under s o)) (need_but (clause_binders r) needs z ∙ cond-false (is_among z (clause_binders r)) None (need_of needs z) off) (b.passes z))
          ]) refl

      -- a name of a payload
      base_need : (z : ℕ) (c : Base) (o : Option MailboxType) → need_of needs z ≡ o → slice_get (wf.nodes n d at).function.vars z ≡ Some (Plain c) → o ≡ None
      base_need z c None is kind = refl
      base_need z c (Some a) is kind =
          let other = kind_here p n z d at (MailboxOf a.interface) (wf.nodes n d at) (kind_up p n r.body z d at inside (MailboxOf a.interface) (b.typed.fits z a is).kind) in
          let clash : Some (Plain c) ≡ Some (MailboxOf a.interface) = sym kind ∙ other in cc

      by_name : (z : ℕ) → is_among z (clause_binders r) ≡ true → NameCases (wf.nodes n d at).function.vars (λ w a. PassesTo (Some a) (env_at s needs w)) (payload_type kinds.decl) 0 r.vars (without x (env_at s (put x (mailbox_type i Receiving e Returnable) own))) z → PassesTo (with_payloads (payload_type kinds.decl) 0 r.vars (without x (env_at s (put x (mailbox_type i Receiving e Returnable) own))) z) (env_at s needs z)
      by_name z on (mailbox a is h) = subst (λ o. PassesTo o (env_at s needs z)) (sym is) h
      by_name z on (base c is kind) =
          let none : need_of needs z ≡ None = base_need z c (need_of needs z) refl kind in
          let off : nat_eq x z ≡ false = false_from_ne_true (nat_eq x z) (λ q. clash (subst (λ w. is_among w (clause_binders r) ≡ true) (sym (eqb-true x z q)) on) unbound) in
          let gone : with_payloads (payload_type kinds.decl) 0 r.vars (without x (env_at s (put x (mailbox_type i Receiving e Returnable) own))) z ≡ None =
          is ∙ env_beside s x i e own z off ∙ ap (need_under s) (fresh z on) in
          subst (λ o. PassesTo o (env_at s needs z)) (sym gone) (subst (λ o. PassesTo None (need_under s o)) (sym none) tt)

-- ---- a guard

pub named_sorts : (decl : TagDecl) (j : ℕ) (t : Sort) (b : MailboxType) → slice_get decl.payloads j ≡ Some t → payload_type decl (0 + j) ≡ Some b → kind_of t ≡ MailboxOf b.interface
named_sorts decl j t b e w =
    let place : 0 + j ≡ j = omega arith in
    payload_kind t b (sym (ap (λ o. option_and_then payload_sort o) e) ∙ ap (payload_type decl) (sym place) ∙ w)

-- what a clause's body needs of the clause's names is of their interfaces
pub clause_faces : (p : Program) (wf : WellFormed p) (Ok : MailboxType → Type 0) (n : ℕ) (d : Node) (at : node_at p n ≡ Some d) (i : ℕ) (e : Pat) (r : Clause) (needs : Needs) → ClauseKinds p (wf.nodes n d at).function.vars i d.kind r → IsPartOf p n d r.body → NeedsFit p Ok r.body needs → AllByRecursion SameInterface (arm_binders p i e needs (Some r))
clause_faces p wf Ok n d at i e r needs kinds inside fits =
    let vars : List Kind = (wf.nodes n d at).function.vars in
    let needed : (z : ℕ) (a : MailboxType) → need_of needs z ≡ Some a → slice_get vars z ≡ Some (MailboxOf a.interface) =
    λ z a h. kind_here p n z d at (MailboxOf a.interface) (wf.nodes n d at) (kind_up p n r.body z d at inside (MailboxOf a.interface) (fits z a h).kind) in (
      (λ a h. face i a.interface (sym kinds.from ∙ needed r.from a h)),
      subst (λ o. AllByRecursion SameInterface (names_bound (declared_types o) 0 r.vars needs)) (sym kinds.declared)
          (names_all SameInterface (payload_type kinds.decl) 0 r.vars needs
          (places_map (λ z b. slice_get vars z ≡ Some (MailboxOf b.interface)) (λ z b. (a : MailboxType) → need_of needs z ≡ Some a → b.interface ≡ a.interface)
          (λ z b is a h. face b.interface a.interface (sym is ∙ needed z a h))
          (payload_type kinds.decl) 0 r.vars
          (vars_places vars (payload_type kinds.decl) 0 r.vars kinds.decl.payloads kinds.payloads (named_sorts kinds.decl)))),
    )
  where
    face : (i j : ℕ) → Some (MailboxOf i) ≡ Some (MailboxOf j) → i ≡ j
    face i j h = cc

-- a branch with what is asked of its names
record GuardBranch (p : Program) (y : Typing) (s : ℕ → Pat) (part : Part) (n : ℕ) (d : Node) (i : ℕ) (e : Pat) (asked : TypeOf) (b : Branch) : Type 0 where
  fits : BranchFits p y s part n d asked b
  faces : (needs : Needs) → NeedsFit p (HasWordUnder s) b.body needs → AllByRecursion SameInterface (arm_binders p i e needs b.clause)

pub list_free : (free : ℕ → Bool) (o : Option ℕ) (m : ℕ) → o ≡ Some m → free m ≡ true → list_any free (option_list o) ≡ true
list_free free None m e h = cc
list_free free (Some k) m e h = let same : k ≡ m = cc in or_left (free k) false (ap free same ∙ h)

-- what is known of the branches of a guard, of what it needs beside its variable, and of the nodes
record GuardKnown (p : Program) (y : Typing) (s : ℕ → Pat) (part : Part) (n : ℕ) (x i : ℕ) (e : Pat) (free : Option ℕ) (cs : List Clause) (asked : TypeOf) (own : Needs) (all : Arms) : Type 0 where
  branches : AllByRecursion (λ b. (needs : Needs) × BranchTyped p y s x i e own asked b needs) (branches_of free cs)
  fits : NeedsFit p (HasWordUnder s) n own
  typed : AllByRecursion (EntryTyped p y) all.nodes
  covered : covers e (is_received cs) (is_some free) ≡ true

guard_known : (p : Program) (wf : WellFormed p) (y : Typing) (s : ℕ → Pat) (part : Part) (n : ℕ) (d : Node) (at : node_at p n ≡ Some d) (x i : ℕ) (e : Pat) (free : Option ℕ) (cs : List Clause) (asked : TypeOf) (k : ℕ) → TypeHasWord (result_under s asked) → AllByRecursion (GuardBranch p y s part n d i e asked) (branches_of free cs) → (all : Arms) → walk_arms part asked k (branches_of free cs) ≡ all → Allowed y s (guard_found p d.function n (k + length all.vars) x e i (is_some free) cs all) → GuardKnown p y s part n x i e free cs asked (arms_gathered n (k + length all.vars) all.arms).needs all
guard_known p wf y s part n d at x i e free cs asked k word branches all walked allowed =
    let bs : List Branch = branches_of free cs in
    let j : ℕ = k + length all.vars in
    let own = arms_gathered n j all.arms in
    let bound : List Binder = guard_binders p i e all.arms in
    let found_order = each_unless (λ a. is_none (need_of a.needs x)) OrderRule (λ a. AtNode n) all.arms in
    let found_payload = each_unless (keeps_own p i) PayloadRule (λ a. AtNode n) all.arms in
    let found_covers = unless (covers e (is_received cs) (is_some free)) CoversRule (AtNode n) in
    let found_names = binder_findings d.function bound in
    let clean1 = nil_parts all.findings (found_order ++ (arms_findings n all.arms ++ (found_payload ++ (found_covers ++ found_names)))) allowed.clean in
    let clean2 = nil_parts found_order (arms_findings n all.arms ++ (found_payload ++ (found_covers ++ found_names))) clean1.1 in
    let clean3 = nil_parts (arms_findings n all.arms) (found_payload ++ (found_covers ++ found_names)) clean2.1 in
    let clean4 = nil_parts found_payload (found_covers ++ found_names) clean3.1 in
    let clean5 = nil_parts found_covers found_names clean4.1 in
    let holds1 = all_parts (Holds s) all.constraints (binder_constraints d.function bound ++ own.constraints) allowed.holds in
    let holds2 = all_parts (Holds s) (binder_constraints d.function bound) own.constraints holds1.1 in
    let fits : AllByRecursion (BranchFits p y s part n d asked) bs = all_map (GuardBranch p y s part n d i e asked) (BranchFits p y s part n d asked) (λ b h. h.fits) bs branches in
    let typed = arms_typed p y s part n d asked word k bs fits
    (subst (λ w. ArmsAllowed y s w) (sym walked) (record { clean = clean1.0; holds = holds1.0; entries = allowed.entries })) in
    let to_all : (Q : Arm → Type 0) → Over (λ b needs. Q (arm_of b needs)) part asked k bs → AllByRecursion Q all.arms =
    λ Q h. subst (λ (w : Arms). AllByRecursion Q w.arms) walked (over_arms Q part asked k bs h) in
    let outer : AllByRecursion (OuterFits p (HasWordUnder s) n) all.arms =
    to_all (OuterFits p (HasWordUnder s) n)
    (over_with (λ c needs. BranchFits p y s part n d asked c) (ArmTyped p y s asked) (λ c needs. OuterFits p (HasWordUnder s) n (arm_of c needs)) (λ c needs f t. outer_fits p y s part n d at asked c needs f t) part asked k bs (with_all (BranchFits p y s part n d asked) part asked k bs fits) typed.0) in
    let gathered = gathered_typed p s n d at j all.arms outer clean3.0 holds2.1 in
    let faces : AllByRecursion SameInterface bound =
    all_flat SameInterface (λ a. arm_binders p i e a.needs a.clause) all.arms
    (to_all (λ a. AllByRecursion SameInterface (arm_binders p i e a.needs a.clause))
    (over_with (λ c needs. GuardBranch p y s part n d i e asked c) (ArmTyped p y s asked) (λ c needs. AllByRecursion SameInterface (arm_binders p i e needs c.clause)) (λ c needs f t. f.faces needs t.fits) part asked k bs (with_all (GuardBranch p y s part n d i e asked) part asked k bs branches) typed.0)) in
    let names = flat_all (NamePassed s) (λ a. arm_binders p i e a.needs a.clause) all.arms (fine_names s d.function bound faces clean5.1 holds2.0) in
    let Passes : Arm → Type 0 = λ a. (z : ℕ) → PassesTo (env_at s own.needs z) (env_at s (outer_needs a) z) in
    let Order : Arm → Type 0 = λ a. is_none (need_of a.needs x) ≡ true in
    let Keeps : Arm → Type 0 = λ a. keeps_own p i a ≡ true in
    let Names : Arm → Type 0 = λ a. AllByRecursion (NamePassed s) (arm_binders p i e a.needs a.clause) in
    let first = all_with Passes Order (λ a. Passes a × Order a) (λ a f g. (f, g)) all.arms gathered.passes (none_each (λ a. is_none (need_of a.needs x)) OrderRule (λ a. AtNode n) all.arms clean2.0) in
    let second = all_with Keeps Names (λ a. Keeps a × Names a) (λ a f g. (f, g)) all.arms (none_each (keeps_own p i) PayloadRule (λ a. AtNode n) all.arms clean4.0) names in
    let rest = all_with (λ a. Passes a × Order a) (λ a. Keeps a × Names a) (λ a. Passes a × Order a × Keeps a × Names a) (λ a f g. (f.0, f.1, g.0, g.1)) all.arms first second in
    record {
      branches = over_all (BranchTyped p y s x i e own.needs asked) part asked k bs
          (over_with (ArmTyped p y s asked) (λ c needs. Passes (arm_of c needs) × Order (arm_of c needs) × Keeps (arm_of c needs) × Names (arm_of c needs)) (BranchTyped p y s x i e own.needs asked)
          (λ c needs t r. record { typed = t; passes = r.0; order = r.1; keeps = r.2; names = r.3 }) part asked k bs typed.0
          (arms_over (λ a. Passes a × Order a × Keeps a × Names a) part asked k bs (subst (λ (w : Arms). AllByRecursion (λ a. Passes a × Order a × Keeps a × Names a) w.arms) (sym walked) rest)));
      fits = gathered.fits;
      typed = subst (λ (w : Arms). AllByRecursion (EntryTyped p y) w.nodes) walked typed.1;
      covered = none_unless (covers e (is_received cs) (is_some free)) CoversRule (AtNode n) clean5.0;
    }

-- the branches of a guard of the program
guard_branches : (p : Program) (wf : WellFormed p) (y : Typing) (s : ℕ → Pat) (part : Part) (n : ℕ) (d : Node) (at : node_at p n ≡ Some d) (x i : ℕ) (e : Pat) (free : Option ℕ) (cs : List Clause) → d.core ≡ Guard x e free cs → ((m : ℕ) → is_among m (option_list free ++ clause_bodies cs) ≡ true → IsPartOf p n d m × PartTypes p y s part m) → (asked : TypeOf) → kind_of_type asked ≡ d.kind → ((m : ℕ) → free ≡ Some m → HasKind p m d.kind) → AllByRecursion (ClauseKinds p (wf.nodes n d at).function.vars i d.kind) cs → AllByRecursion (GuardBranch p y s part n d i e asked) (branches_of free cs)
guard_branches p wf y s part n d at x i e free cs is inner asked kind free_kind clauses =
    let Inner : ℕ → Type 0 = λ m. IsPartOf p n d m × PartTypes p y s part m in
    let Uses : Clause → Type 0 = λ r. (z : ℕ) → clause_uses (λ w. is_free p z w) z r ≡ true → list_any (clause_uses (λ w. is_free p z w) z) cs ≡ true in
    let bodies : AllByRecursion (λ r. Inner r.body) cs = bodies_among Inner cs (λ m on. inner m (among_second m (option_list free) (clause_bodies cs) on)) in
    let uses : AllByRecursion Uses cs = clauses_use (λ z. clause_uses (λ w. is_free p z w) z) cs cs (λ z t. t) in
    branches_all (GuardBranch p y s part n d i e asked) free cs
    (λ m some.
    let q = inner m (among_first m (option_list free) (clause_bodies cs) (subst (λ o. is_among m (option_list o) ≡ true) (sym some) (among_head m []))) in
    let body = free_kind m some in
    record {
      fits = record {
        types = q.1;
        node = body.0;
        there = body.1;
        kind = kind ∙ sym body.2;
        inside = q.0;
        free = λ z f off.
            free_here p wf z n d at (Guard x e free cs) is
            (or_right (nat_eq z x) (list_any (λ w. is_free p z w) (option_list free) || list_any (clause_uses (λ w. is_free p z w) z) cs)
            (or_left (list_any (λ w. is_free p z w) (option_list free)) (list_any (clause_uses (λ w. is_free p z w) z) cs) (list_free (λ w. is_free p z w) free m some f)));
      };
      faces = λ needs fits. tt;
    })
    (all_with (ClauseKinds p (wf.nodes n d at).function.vars i d.kind) (λ r. Inner r.body × Uses r) (λ r. GuardBranch p y s part n d i e asked (clause_branch r))
    (λ r c q. record {
      fits = record {
        types = q.0.1;
        node = c.body.0;
        there = c.body.1;
        kind = kind ∙ sym c.body.2;
        inside = q.0.0;
        free = λ z f off.
            free_here p wf z n d at (Guard x e free cs) is
            (or_right (nat_eq z x) (list_any (λ w. is_free p z w) (option_list free) || list_any (clause_uses (λ w. is_free p z w) z) cs)
            (or_right (list_any (λ w. is_free p z w) (option_list free)) (list_any (clause_uses (λ w. is_free p z w) z) cs)
            (q.1 z (and_from (is_free p z r.body) (not (is_among z (clause_binders r))) f (ap not off)))));
      };
      faces = λ needs fits. clause_faces p wf (HasWordUnder s) n d at i e r needs c q.0.0 fits;
    })
    cs clauses (all_with (λ r. Inner r.body) Uses (λ r. Inner r.body × Uses r) (λ r f g. (f, g)) cs bodies uses))

pub no_arms_at : (part : Part) (asked : TypeOf) (k : ℕ) (free : Option ℕ) (cs : List Clause) → free ≡ None → cs ≡ [] → (walk_arms part asked k (branches_of free cs)).arms ≡ []
no_arms_at part asked k None [] f c = refl
no_arms_at part asked k (Some m) cs f c = cc
no_arms_at part asked k None (r ∷ cs) f c = cc

pub guard_typed : (p : Program) (wf : WellFormed p) (y : Typing) (s : ℕ → Pat) (part : Part) (n : ℕ) (d : Node) (at : node_at p n ≡ Some d) (x : ℕ) (e : Pat) (free : Option ℕ) (cs : List Clause) → d.core ≡ Guard x e free cs → ((m : ℕ) → is_among m (option_list free ++ clause_bodies cs) ≡ true → IsPartOf p n d m × PartTypes p y s part m) → (asked : TypeOf) (k : ℕ) → kind_of_type asked ≡ d.kind → TypeHasWord (result_under s asked) → (all : Arms) → walk_arms part asked k (branches_of free cs) ≡ all → Allowed y s (guard_found p d.function n (k + length all.vars) x e (var_interface p d.function x) (is_some free) cs all) → CoreFound p y s n asked (Guard x e free cs) (guard_found p d.function n (k + length all.vars) x e (var_interface p d.function x) (is_some free) cs all)
guard_typed p wf y s part n d at x e free cs is inner asked k kind word all walked allowed =
    let vars : List Kind = (wf.nodes n d at).function.vars in
    let kinds = subst (CoreKinds p vars d.kind) is (wf.nodes n d at).kinds in
    let i : ℕ = var_interface p d.function x in
    let face : i ≡ kinds.0 = face_of p n d x kinds.0 at (here_kind p n x d at (MailboxOf kinds.0) (wf.nodes n d at) kinds.1) in
    let named : slice_get vars x ≡ Some (MailboxOf i) = subst (λ j. slice_get vars x ≡ Some (MailboxOf j)) (sym face) kinds.1 in
    let clauses : AllByRecursion (ClauseKinds p vars i d.kind) cs = subst (λ j. AllByRecursion (ClauseKinds p vars j d.kind) cs) (sym face) kinds.4 in
    let closed : is_closed e ≡ true = kinds.2.closed in
    let t : MailboxType = mailbox_type i Receiving e Returnable in
    let own : Needs = (arms_gathered n (k + length all.vars) all.arms).needs in
    let branches = guard_branches p wf y s part n d at x i e free cs is inner asked kind kinds.3 clauses in
    let known = guard_known p wf y s part n d at x i e free cs asked k word branches all walked allowed in
    let each = all_branches (λ b. (needs : Needs) × BranchTyped p y s x i e own asked b needs) free cs known.branches in
    let used : is_free p x n ≡ true =
    free_here p wf x n d at (Guard x e free cs) is (or_left (nat_eq x x) (list_any (λ w. is_free p x w) (option_list free) || list_any (clause_uses (λ w. is_free p x w) x) cs) (eq-eqb x x refl)) in
    let unbound : (z : ℕ) → is_free p z n ≡ true → is_among z (flat_map clause_binders cs) ≡ false =
    λ z f. ap (λ c. is_among z (binders c)) (sym is) ∙ free_fresh p wf z n d at f in
    let fresh : (z : ℕ) → is_among z (flat_map clause_binders cs) ≡ true → need_of own z ≡ None =
    λ z on. gone (need_of own z) (λ a h. absurd (clash on (unbound z (known.fits z a h).free))) in
    let among = binders_among cs in
    let bodies : AllByRecursion (λ r. IsPartOf p n d r.body) cs =
    bodies_among (λ m. IsPartOf p n d m) cs (λ m on. (inner m (among_second m (option_list free) (clause_bodies cs) on)).0) in
    let Bound : Clause → Type 0 = λ r. (z : ℕ) → is_among z (clause_binders r) ≡ true → is_among z (flat_map clause_binders cs) ≡ true in
    let Known : Clause → Type 0 = λ r. (needs : Needs) × BranchTyped p y s x i e own asked (clause_branch r) needs in
    let facts = all_with (ClauseKinds p vars i d.kind) (λ r. IsPartOf p n d r.body) (λ r. ClauseKinds p vars i d.kind r × IsPartOf p n d r.body) (λ r f g. (f, g)) cs clauses bodies in
    let more = all_with Bound Known (λ r. Bound r × Known r) (λ r f g. (f, g)) cs among each.1 in
    record {
      term = record {
        guarded = mailbox_type i Receiving (replaced s e) Returnable;
        named = ap (need_under s) (need_put x t own x ∙ cond-true (nat_eq x x) (Some t) (need_of own x) (eq-eqb x x refl));
        fits = subst (λ f. Fits (mailbox_type i Receiving f Returnable) t) (sym (closed_same s e closed)) (fits_same t);
        free_result = λ m some. (each.0 m some).1.typed.result;
        free_passes = λ m some. free_passes p y s x i m e own asked (each.0 m some).0 (each.0 m some).1;
        receives =
            all_with (λ r. ClauseKinds p vars i d.kind r × IsPartOf p n d r.body) (λ r. Bound r × Known r) (ClauseTyped p y (env_at s (put x t own)) (result_under s asked) x i e)
            (λ r f g.
            clause_typed p wf y s n d at x i e own asked r g.1.0 closed f.0 f.1
            (λ z on. fresh z (g.0 z on))
            (false_from_ne_true (is_among x (clause_binders r)) (λ on. clash (g.0 x on) (unbound x used)))
            g.1.1)
            cs facts more;
        none_passes = λ none empty z. nothing_left z (ap (λ (w : Arms). w.arms) (sym walked) ∙ no_arms_at part asked k free cs none empty);
        covers = covers_to e (is_received cs) (is_some free) known.covered;
      };
      fits = λ z a h. put_fits named used known.fits z a h;
      typed = known.typed;
    }
  where
    gone : (o : Option MailboxType) → ((a : MailboxType) → o ≡ Some a → o ≡ None) → o ≡ None
    gone None f = refl
    gone (Some a) f = f a refl

    nothing_left : (z : ℕ) → all.arms ≡ [] → PassesTo (without x (env_at s (put x (mailbox_type (var_interface p d.function x) Receiving e Returnable) (arms_gathered n (k + length all.vars) all.arms).needs)) z) None
    nothing_left z none =
        let t : MailboxType = mailbox_type (var_interface p d.function x) Receiving e Returnable in
        subst (λ arms. PassesTo (without x (env_at s (put x t (arms_gathered n (k + length all.vars) arms).needs)) z) None) (sym none)
        ((elim (nat_eq x z) as (λ b. nat_eq x z ≡ b → PassesTo (if b then None else env_at s (put x t []) z) None) [
          | true ↦ λ q. tt
          | false ↦ λ q. subst (λ o. PassesTo (need_under s o) None) (sym (need_put x t [] z ∙ cond-false (nat_eq x z) (Some t) None q)) tt
        ]) refl)

    put_fits : slice_get (wf.nodes n d at).function.vars x ≡ Some (MailboxOf (var_interface p d.function x)) → is_free p x n ≡ true → NeedsFit p (HasWordUnder s) n (arms_gathered n (k + length all.vars) all.arms).needs → NeedsFit p (HasWordUnder s) n (put x (mailbox_type (var_interface p d.function x) Receiving e Returnable) (arms_gathered n (k + length all.vars) all.arms).needs)
    put_fits named used fits z a h =
        let t : MailboxType = mailbox_type (var_interface p d.function x) Receiving e Returnable in
        let own : Needs = (arms_gathered n (k + length all.vars) all.arms).needs in
        (elim (nat_eq x z) as (λ b. nat_eq x z ≡ b → (if b then Some t else need_of own z) ≡ Some a → NeedFits p (HasWordUnder s) n z a) [
          | true ↦ λ q w.
              let same : t ≡ a = cc in
              let there : NeedFits p (HasWordUnder s) n x t = record { kind = here_kind p n x d at (MailboxOf (var_interface p d.function x)) (wf.nodes n d at) named; word = tt; free = used } in
              subst (λ v. NeedFits p (HasWordUnder s) n v a) (eqb-true x z q) (subst (NeedFits p (HasWordUnder s) n x) same there)
          | false ↦ λ q w. fits z a w
        ]) refl (sym (need_put x t own z) ∙ h)
