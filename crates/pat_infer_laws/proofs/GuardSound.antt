-- A guard under a typing.
use Rattle.std.proofs.Common.{◌≡◌, ℕ, ◌+◌, true, false, nat_eq, nat_lt, if◌then◌else◌, List, [], ◌∷◌, ◌++◌, length, Option, Some, None, refl, sym, ap, ◌∙◌, subst}
use Rattle.std.specs.Prelude.{is_some, is_none}
use Rattle.std.specs.List.{AllByRecursion, IsDistinct, flat_map}
use Rattle.std.proofs.lemmas.Bool.{cond_both, eqb-true, or_right}
use Rattle.pat_words_spec.specs.Patterns.{Pat, covers, is_closed}
use Rattle.pat_words_laws.proofs.CoverLaws.{covers_from}
use Rattle.pat_semantics_spec.specs.Programs.{Receiving, Clause, Program, is_among, clause_binders, clause_bodies}
use Rattle.pat_semantics_spec.specs.WellFormed.{WellFormed}
use Rattle.pat_semantics_laws.proofs.Lists.{all_join, among_first, among_second, among_head}
use Rattle.pat_type_system_spec.specs.Types.{Returnable, MailboxType, mailbox_type, TypeOf, Fits, TypeFits, PassesTo, TypeEnv, without}
use Rattle.pat_type_system_spec.specs.Typings.{Typing, ClauseTyped, GuardTyped, is_received}
use Rattle.pat_inclusion_spec.specs.Values.{replaced}
use Rattle.pat_type_schemes_spec.specs.NodeTypes.{need_under, result_under, Needs, need_of}
use Rattle.pat_infer_spec.specs.Constraints.{AtNode, OrderRule, PayloadRule, CoversRule, unless, each_unless}
use Rattle.pat_infer_spec.specs.Binders.{binder_findings, binder_constraints}
use Rattle.pat_infer_spec.specs.Branches.{Branch, outer_needs}
use Rattle.pat_infer_spec.specs.Walk.{Part, Arms, walk_arms, arms_gathered, arms_findings, clause_branch, branches_of, keeps_own, arm_binders, guard_binders, guard_found}
use Rattle.pat_infer_spec.specs.Solutions.{GivesFrom}
use Rattle.pat_inclusion_laws.proofs.Replaced.{closed_same}
use Rattle.pat_infer_laws.proofs.Lookups.{need_put}
use Rattle.pat_infer_laws.proofs.Gathering.{gives_parts, unless_none, each_none, nil_join, all_map, all_with}
use Rattle.pat_infer_laws.proofs.BothLaws.{Holds}
use Rattle.pat_infer_laws.proofs.BinderLaws.{NamePassed, all_flat, names_fine}
use Rattle.pat_infer_laws.proofs.TermSound.{env_at, Sound}
use Rattle.pat_infer_laws.proofs.LetSound.{PartSound}
use Rattle.pat_infer_laws.proofs.ArmsSound.{BranchSound, ArmsSound, arms_sound, gathered_sound, ClauseSound, free_clause, receive_clause}

-- ---- the branches of a guard

-- what holds of the free branch and of each clause's holds of all
pub branches_all : (P : Branch → Type 0) (free : Option ℕ) (cs : List Clause) → ((m : ℕ) → free ≡ Some m → P (record { body = m; clause = None })) → AllByRecursion (λ r. P (clause_branch r)) cs → AllByRecursion P (branches_of free cs)
branches_all P None [] f h = tt
branches_all P (Some m) [] f h = (f m refl, tt)
branches_all P None (r ∷ cs) f h = (h.0, branches_all P None cs (λ m e. cc) h.1)
branches_all P (Some m) (r ∷ cs) f h =
    let free : Branch = record { body = m; clause = None } in
    cond_both (nat_lt m r.body) (free ∷ clause_branch r ∷ branches_of None cs) (clause_branch r ∷ branches_of (Some m) cs) (λ bs. AllByRecursion P bs)
    (λ _. (f m refl, (h.0, branches_all P None cs (λ m e. cc) h.1)))
    (λ _. (h.0, branches_all P (Some m) cs f h.1))

-- a guard without branches has no clause
pub no_branches : (free : Option ℕ) (cs : List Clause) → branches_of free cs ≡ [] → (free ≡ None) × (cs ≡ [])
no_branches None [] h = (refl, refl)
no_branches (Some m) [] h = cc
no_branches None (r ∷ cs) h = cc
no_branches (Some m) (r ∷ cs) h =
    (cond_both (nat_lt m r.body) (record { body = m; clause = None } ∷ clause_branch r ∷ branches_of None cs) (clause_branch r ∷ branches_of (Some m) cs) (λ bs. bs ≡ [] → (Some m ≡ None) × (r ∷ cs ≡ []))
    (λ _ e. cc) (λ _ e. cc)) h

pub no_walked : (part : Part) (asked : TypeOf) (k : ℕ) (bs : List Branch) → (walk_arms part asked k bs).arms ≡ [] → bs ≡ []
no_walked part asked k [] h = refl
no_walked part asked k (b ∷ bs) h = cc

-- what holds of all names that clauses bind and of all their bodies
pub clauses_within : (P Q : ℕ → Type 0) (cs : List Clause) → ((z : ℕ) → is_among z (flat_map clause_binders cs) ≡ true → P z) → ((m : ℕ) → is_among m (clause_bodies cs) ≡ true → Q m) → AllByRecursion (λ r. ((z : ℕ) → is_among z (clause_binders r) ≡ true → P z) × Q r.body) cs
clauses_within P Q [] f g = tt
clauses_within P Q (r ∷ cs) f g = (
  (λ z on. f z (among_first z (clause_binders r) (flat_map clause_binders cs) on), g r.body (among_head r.body (clause_bodies cs))),
  clauses_within P Q cs
      (λ z on. f z (among_second z (clause_binders r) (flat_map clause_binders cs) on))
      (λ m on. g m (or_right (nat_eq m r.body) (is_among m (clause_bodies cs)) on)),
)

-- ---- a guard

without_own : (x : ℕ) (g : TypeEnv) (z : ℕ) (c : MailboxType) → without x g z ≡ Some c → g z ≡ Some c
without_own x g z c h = (elim (nat_eq x z) as (λ t. (if t then None else g z) ≡ Some c → g z ≡ Some c) [ true ↦ λ e. cc | false ↦ λ e. e ]) h

pub guard_sound : (p : Program) → WellFormed p → (y : Typing) (s : ℕ → Pat) (part : Part) (f n k x : ℕ) (e : Pat) (free : Option ℕ) (cs : List Clause) (asked : TypeOf) → is_closed e ≡ true → AllByRecursion (λ r. IsDistinct nat_eq (clause_binders r)) cs → ((z : ℕ) → is_among z (flat_map clause_binders cs) ≡ true → y.envs n z ≡ None) → (h : GuardTyped p y (y.envs n) (y.results n) x e free cs) → TypeFits (y.results n) (result_under s asked) → ((m : ℕ) → free ≡ Some m → PartSound y s part m) → ((m : ℕ) → is_among m (clause_bodies cs) ≡ true → PartSound y s part m) → (all : Arms) → walk_arms part asked k (branches_of free cs) ≡ all → GivesFrom y s k (guard_found p f n (k + length all.vars) x e h.guarded.interface (is_some free) cs all).vars → Sound s (y.envs n) (guard_found p f n (k + length all.vars) x e h.guarded.interface (is_some free) cs all)
guard_sound p wf y s part f n k x e free cs asked closed distinct fresh h fit free_part parts all is gives =
    let g : TypeEnv = y.envs n in
    let i : ℕ = h.guarded.interface in
    let j : ℕ = k + length all.vars in
    let R : Option Clause → Needs → Type 0 = ClauseSound p s g x i e in
    let q = gives_parts y s k all.vars (arms_gathered n j all.arms).vars gives in
    let named : is_some (g x) ≡ true = ap is_some h.named in
    let typed : AllByRecursion (λ r. IsDistinct nat_eq (clause_binders r) × (((z : ℕ) → is_among z (clause_binders r) ≡ true → g z ≡ None) × PartSound y s part r.body)) cs =
    all_with (λ r. IsDistinct nat_eq (clause_binders r)) (λ r. ((z : ℕ) → is_among z (clause_binders r) ≡ true → g z ≡ None) × PartSound y s part r.body) (λ r. IsDistinct nat_eq (clause_binders r) × (((z : ℕ) → is_among z (clause_binders r) ≡ true → g z ≡ None) × PartSound y s part r.body))
    (λ r a b. (a, b)) cs distinct (clauses_within (λ z. g z ≡ None) (λ m. PartSound y s part m) cs fresh parts) in
    let branches : AllByRecursion (BranchSound y s part asked R) (branches_of free cs) =
    branches_all (BranchSound y s part asked R) free cs
    (λ m is. record {
      fits = subst (λ t. TypeFits t (result_under s asked)) (sym (h.free_result m is)) fit;
      sound = free_part m is;
      gives = λ needs env. free_clause p y s g x i m e needs (h.free_passes m is) env;
    })
    (all_with (ClauseTyped p y g (y.results n) x i e) (λ r. IsDistinct nat_eq (clause_binders r) × (((z : ℕ) → is_among z (clause_binders r) ≡ true → g z ≡ None) × PartSound y s part r.body)) (λ r. BranchSound y s part asked R (clause_branch r))
    (λ r c a. record {
      fits = subst (λ t. TypeFits t (result_under s asked)) (sym c.result) fit;
      sound = a.1.1;
      gives = λ needs env. receive_clause p wf y s g (y.results n) x i e r needs closed a.0 a.1.0 named c env;
    })
    cs h.receives typed) in
    let walked : ArmsSound s R all =
    subst (λ w. GivesFrom y s k w.vars → ArmsSound s R w) is (arms_sound y s part asked R k (branches_of free cs) branches) q.0 in
    let own = gathered_sound y s (without x g) n j all.arms (without_own x g)
    (λ none z.
    let empty = no_branches free cs (no_walked part asked k (branches_of free cs) (ap (λ (w : Arms). w.arms) is ∙ none)) in
    h.none_passes empty.0 empty.1 z)
    (all_map (λ a. R a.clause a.needs) (λ a. (z : ℕ) → PassesTo (without x g z) (env_at s (outer_needs a) z)) (λ a c. c.outer) all.arms walked.arms) q.1 in
    let names = names_fine s f (guard_binders p i e all.arms)
    (all_flat (NamePassed s) (λ a. arm_binders p i e a.needs a.clause) all.arms
    (all_map (λ a. R a.clause a.needs) (λ a. AllByRecursion (NamePassed s) (arm_binders p i e a.needs a.clause)) (λ a c. c.names) all.arms walked.arms)) in
    let found_order = each_unless (λ a. is_none (need_of a.needs x)) OrderRule (λ a. AtNode n) all.arms in
    let found_payload = each_unless (keeps_own p i) PayloadRule (λ a. AtNode n) all.arms in
    let found_covers = unless (covers e (is_received cs) (is_some free)) CoversRule (AtNode n) in
    let found_names = binder_findings f (guard_binders p i e all.arms) in
    record {
      clean =
          nil_join all.findings (found_order ++ (arms_findings n all.arms ++ (found_payload ++ (found_covers ++ found_names)))) walked.clean
          (nil_join found_order (arms_findings n all.arms ++ (found_payload ++ (found_covers ++ found_names)))
          (each_none (λ a. is_none (need_of a.needs x)) OrderRule (λ a. AtNode n) all.arms (all_map (λ a. R a.clause a.needs) (λ a. is_none (need_of a.needs x) ≡ true) (λ a c. c.order) all.arms walked.arms))
          (nil_join (arms_findings n all.arms) (found_payload ++ (found_covers ++ found_names)) own.clean
          (nil_join found_payload (found_covers ++ found_names)
          (each_none (keeps_own p i) PayloadRule (λ a. AtNode n) all.arms (all_map (λ a. R a.clause a.needs) (λ a. keeps_own p i a ≡ true) (λ a c. c.keeps) all.arms walked.arms))
          (nil_join found_covers found_names (unless_none (covers e (is_received cs) (is_some free)) CoversRule (AtNode n) (covers_from e (is_received cs) (is_some free) h.covers)) names.0))));
      passes = λ z.
          subst (λ o. PassesTo (g z) (need_under s o)) (sym (need_put x (mailbox_type i Receiving e Returnable) (arms_gathered n j all.arms).needs z))
          ((elim (nat_eq x z) as (λ t. nat_eq x z ≡ t → PassesTo (if t then None else g z) (env_at s (arms_gathered n j all.arms).needs z) → PassesTo (g z) (need_under s (if t then Some (mailbox_type i Receiving e Returnable) else need_of (arms_gathered n j all.arms).needs z))) [
            | true ↦ λ q k.
                subst (λ o. PassesTo o (Some (mailbox_type i Receiving (replaced s e) Returnable))) (sym h.named ∙ ap g (eqb-true x z q))
                (subst (λ c. Fits h.guarded (mailbox_type i Receiving c Returnable)) (sym (closed_same s e closed)) h.fits)
            | false ↦ λ q k. k
          ]) refl (own.passes z));
      holds =
          all_join (Holds s) all.constraints (binder_constraints f (guard_binders p i e all.arms) ++ (arms_gathered n j all.arms).constraints) walked.holds
          (all_join (Holds s) (binder_constraints f (guard_binders p i e all.arms)) (arms_gathered n j all.arms).constraints names.1 own.holds);
    }
