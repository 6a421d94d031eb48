-- Branches and choices: what is found of them types them.
use Rattle.std.proofs.Common.{◌≡◌, ℕ, ◌+◌, true, false, ◌||◌, List, [], ◌∷◌, length, Option, Some, None, refl, sym, ap, ◌∙◌, subst}
use Rattle.std.specs.List.{AllByRecursion}
use Rattle.std.proofs.lemmas.Bool.{or_left, or_right, cond_both}
use Rattle.pat_words_spec.specs.Patterns.{Pat, Var, In, Included}
use Rattle.pat_words_spec.specs.Words.{Word}
use Rattle.pat_semantics_spec.specs.Values.{Expr, occurs}
use Rattle.pat_semantics_spec.specs.Programs.{Polarity, Sending, Receiving, If, Node, Program, node_at, is_among, is_free}
use Rattle.pat_semantics_spec.specs.WellFormed.{WellFormed, CoreKinds, IsPartOf}
use Rattle.pat_semantics_laws.proofs.Lists.{nil_parts, all_join}
use Rattle.pat_type_system_spec.specs.Types.{MailboxType, mailbox_type, TypeOf, kind_of_type, PassesTo, TypeEnv, EnvPasses}
use Rattle.pat_type_system_spec.specs.Typings.{Typing, HasWord, TypeHasWord}
use Rattle.pat_inclusion_spec.specs.Values.{replaced}
use Rattle.pat_type_schemes_spec.specs.NodeTypes.{need_under, result_under, Needs, need_of}
use Rattle.pat_infer_spec.specs.Constraints.{AtNode, BranchRule, Found}
use Rattle.pat_infer_spec.specs.Needs.{just, needs_but, Combined}
use Rattle.pat_infer_spec.specs.BothParts.{new_var}
use Rattle.pat_infer_spec.specs.Branches.{Branch, Arm, own_names, outer_needs, arm_names, arm_needs, branches_agree, branch_usage, sum_of_needs, pattern_or_one, all_by, each_receives, first_need, branches_with, branches_by, branches}
use Rattle.pat_infer_spec.specs.Walk.{Part, Arms, walk_arms, arms_gathered, arms_findings, if_from, two_branches, var_interface}
use Rattle.pat_infer_laws.proofs.Lookups.{need_but}
use Rattle.pat_infer_laws.proofs.Gathering.{all_parts, all_map, none_each, all_each, each_with, each_any, need_with, Each, EachHolds, holds_gather, EachNeed, gather_needs}
use Rattle.pat_infer_laws.proofs.BothLaws.{Holds}
use Rattle.pat_infer_laws.proofs.BranchLaws.{first_all, sum_has, OfInterface, branches_split}
use Rattle.pat_infer_laws.proofs.TermSound.{env_at, face_of}
use Rattle.pat_infer_laws.proofs.ArmsSound.{arm_off}
use Rattle.pat_infer_laws.proofs.Facts.{HasWordUnder, NeedFits, NeedsFit, EntryIn, EntryTyped, Allowed, PartTypes, CoreFound, free_here}
use Rattle.pat_infer_laws.proofs.LetTyped.{fits_up, but_some}

-- ---- branches and what their bodies need

-- what holds of each branch with what its body needs
abbrev pub Over : (Branch → Needs → Type 0) → Part → TypeOf → ℕ → List Branch → Type 0
Over P part asked k [] = Unit {0}
Over P part asked k (b ∷ bs) = P b (part b.body asked k).needs × Over P part asked (k + length (part b.body asked k).vars) bs

pub over_with : (P Q R : Branch → Needs → Type 0) → ((b : Branch) (needs : Needs) → P b needs → Q b needs → R b needs) → (part : Part) (asked : TypeOf) (k : ℕ) (bs : List Branch) → Over P part asked k bs → Over Q part asked k bs → Over R part asked k bs
over_with P Q R f part asked k [] h g = tt
over_with P Q R f part asked k (b ∷ bs) h g = (f b (part b.body asked k).needs h.0 g.0, over_with P Q R f part asked (k + length (part b.body asked k).vars) bs h.1 g.1)

-- a walked branch
abbrev pub arm_of : Branch → Needs → Arm
arm_of b needs = record { clause = b.clause; needs = needs }

pub over_arms : (Q : Arm → Type 0) (part : Part) (asked : TypeOf) (k : ℕ) (bs : List Branch) → Over (λ b needs. Q (arm_of b needs)) part asked k bs → AllByRecursion Q (walk_arms part asked k bs).arms
over_arms Q part asked k [] h = tt
over_arms Q part asked k (b ∷ bs) h = (h.0, over_arms Q part asked (k + length (part b.body asked k).vars) bs h.1)

pub arms_over : (Q : Arm → Type 0) (part : Part) (asked : TypeOf) (k : ℕ) (bs : List Branch) → AllByRecursion Q (walk_arms part asked k bs).arms → Over (λ b needs. Q (arm_of b needs)) part asked k bs
arms_over Q part asked k [] h = tt
arms_over Q part asked k (b ∷ bs) h = (h.0, arms_over Q part asked (k + length (part b.body asked k).vars) bs h.1)

pub over_all : (P : Branch → Needs → Type 0) (part : Part) (asked : TypeOf) (k : ℕ) (bs : List Branch) → Over P part asked k bs → AllByRecursion (λ b. (needs : Needs) × P b needs) bs
over_all P part asked k [] h = tt
over_all P part asked k (b ∷ bs) h = (((part b.body asked k).needs, h.0), over_all P part asked (k + length (part b.body asked k).vars) bs h.1)

pub with_all : (R : Branch → Type 0) (part : Part) (asked : TypeOf) (k : ℕ) (bs : List Branch) → AllByRecursion R bs → Over (λ b needs. R b) part asked k bs
with_all R part asked k [] h = tt
with_all R part asked k (b ∷ bs) h = (h.0, with_all R part asked (k + length (part b.body asked k).vars) bs h.1)

-- ---- branches that are typed

-- a branch of node n: its body is a part of n, of the kind that is asked for, and what is free in it and isn't its own name is free in n
pub record BranchFits (p : Program) (y : Typing) (s : ℕ → Pat) (part : Part) (n : ℕ) (d : Node) (asked : TypeOf) (b : Branch) : Type 0 where
  pub types : PartTypes p y s part b.body
  pub node : Node
  pub there : node_at p b.body ≡ Some node
  pub kind : kind_of_type asked ≡ node.kind
  pub inside : IsPartOf p n d b.body
  pub free : (z : ℕ) → is_free p z b.body ≡ true → is_among z (own_names b.clause) ≡ false → is_free p z n ≡ true

-- a branch that has been typed
pub record ArmTyped (p : Program) (y : Typing) (s : ℕ → Pat) (asked : TypeOf) (b : Branch) (needs : Needs) : Type 0 where
  pub result : y.results b.body ≡ result_under s asked
  pub env : y.envs b.body ≡ env_at s needs
  pub fits : NeedsFit p (HasWordUnder s) b.body needs

-- what is found of branches breaks no rule, and so on
pub record ArmsAllowed (y : Typing) (s : ℕ → Pat) (all : Arms) : Type 0 where
  pub clean : all.findings ≡ []
  pub holds : AllByRecursion (Holds s) all.constraints
  pub entries : AllByRecursion (EntryIn y s) all.nodes

pub arms_typed : (p : Program) (y : Typing) (s : ℕ → Pat) (part : Part) (n : ℕ) (d : Node) (asked : TypeOf) → TypeHasWord (result_under s asked) → (k : ℕ) (bs : List Branch) → AllByRecursion (BranchFits p y s part n d asked) bs → ArmsAllowed y s (walk_arms part asked k bs) → Over (ArmTyped p y s asked) part asked k bs × AllByRecursion (EntryTyped p y) (walk_arms part asked k bs).nodes
arms_typed p y s part n d asked word k [] h allowed = (tt, tt)
arms_typed p y s part n d asked word k (b ∷ bs) h allowed =
    let first : Found = part b.body asked k in
    let rest : Arms = walk_arms part asked (k + length first.vars) bs in
    let clean = nil_parts first.findings rest.findings allowed.clean in
    let holds = all_parts (Holds s) first.constraints rest.constraints allowed.holds in
    let entries = all_parts (EntryIn y s) first.nodes rest.nodes allowed.entries in
    let here = h.0.types asked k h.0.node h.0.there h.0.kind word (record { clean = clean.0; holds = holds.0; entries = entries.0 }) in
    let later = arms_typed p y s part n d asked word (k + length first.vars) bs h.1 (record { clean = clean.1; holds = holds.1; entries = entries.1 }) in (
      (record { result = here.result; env = here.env; fits = here.fits }, later.0),
      all_join (EntryTyped p y) first.nodes rest.nodes here.typed later.1,
    )

-- what a branch needs beside its own names, the node needs
abbrev pub OuterFits : Program → (MailboxType → Type 0) → ℕ → Arm → Type 0
OuterFits p Ok n a = (z : ℕ) (c : MailboxType) → need_of (outer_needs a) z ≡ Some c → NeedFits p Ok n z c

pub outer_of : (p : Program) (Ok : MailboxType → Type 0) (n : ℕ) (d : Node) → node_at p n ≡ Some d → (b : Branch) (needs : Needs) → IsPartOf p n d b.body → ((z : ℕ) → is_free p z b.body ≡ true → is_among z (own_names b.clause) ≡ false → is_free p z n ≡ true) → NeedsFit p Ok b.body needs → OuterFits p Ok n (arm_of b needs)
outer_of p Ok n d at b needs inside free fits z c h =
    let q = but_some (own_names b.clause) needs z c h in
    let there = fits z c q.1 in
    fits_up p Ok n b.body z d at inside c there (free z there.free q.0)

pub outer_fits : (p : Program) (y : Typing) (s : ℕ → Pat) (part : Part) (n : ℕ) (d : Node) → node_at p n ≡ Some d → (asked : TypeOf) (b : Branch) (needs : Needs) → BranchFits p y s part n d asked b → ArmTyped p y s asked b needs → OuterFits p (HasWordUnder s) n (arm_of b needs)
outer_fits p y s part n d at asked b needs f t = outer_of p (HasWordUnder s) n d at b needs f.inside f.free t.fits

-- ---- what is gathered

pub needs_all : (P : Option MailboxType → Type 0) (x : ℕ) (arms : List Arm) → AllByRecursion (λ a. P (need_of (outer_needs a) x)) arms → AllByRecursion P (arm_needs x arms)
needs_all P x [] h = tt
needs_all P x (a ∷ arms) h = (h.0, needs_all P x arms h.1)

all_needs : (P : Option MailboxType → Type 0) (x : ℕ) (arms : List Arm) → AllByRecursion P (arm_needs x arms) → AllByRecursion (λ a. P (need_of (outer_needs a) x)) arms
all_needs P x [] h = tt
all_needs P x (a ∷ arms) h = (h.0, all_needs P x arms h.1)

-- what holds of each branch for each variable holds for each variable of each branch
for_each : (P : ℕ → Arm → Type 0) (arms : List Arm) → ((z : ℕ) → AllByRecursion (P z) arms) → AllByRecursion (λ a. (z : ℕ) → P z a) arms
for_each P [] h = tt
for_each P (a ∷ arms) h = (λ z. (h z).0, for_each P arms (λ z. (h z).1))

-- a need of all branches together
branches_fit : (p : Program) (s : ℕ → Pat) (n j z : ℕ) (os : List (Option MailboxType)) → AllByRecursion (λ o. (a : MailboxType) → o ≡ Some a → NeedFits p (HasWordUnder s) n z a) os → (a : MailboxType) → need_with (branches n j z os) ≡ Some a → NeedFits p (HasWordUnder s) n z a
branches_fit p s n j z os h a is = go (first_need os) refl is
  where
    by_parts : (b : MailboxType) (q : Polarity) → b.polarity ≡ q → first_need os ≡ Some b → NeedFits p (HasWordUnder s) n z b → need_with (branches_with n j z q b os) ≡ Some a → NeedFits p (HasWordUnder s) n z a
    by_parts b Sending bq first fit is =
        let made : MailboxType = mailbox_type b.interface Sending (sum_of_needs os) (branch_usage os) in
        let same : made ≡ a = cc in
        let word = sends b.polarity (replaced s b.pattern) bq fit.word in
        let into = first_all (λ o. Included (replaced s (pattern_or_one o)) (replaced s (sum_of_needs os))) os b (sum_has s os) first in
        let own : NeedFits p (HasWordUnder s) n z made = record { kind = fit.kind; word = (word.0, into word.0 word.1); free = fit.free } in
        subst (NeedFits p (HasWordUnder s) n z) same own
      where
        sends : (q : Polarity) (e : Pat) → q ≡ Sending → HasWord q e → (w : Word) × In e w
        sends Sending e h w = w
        sends Receiving e h w = cc
    by_parts b Receiving bq first fit is =
        let old : MailboxType = mailbox_type b.interface Receiving b.pattern (branch_usage os) in
        let new : MailboxType = mailbox_type b.interface Receiving (Var j) (branch_usage os) in
        let made : Option Combined = Some (record { need = new; vars = new_var n z b.interface ∷ []; constraints = each_receives n j b.interface os }) in
        (cond_both (all_by b.pattern os) (just old) made (λ c. need_with c ≡ Some a → NeedFits p (HasWordUnder s) n z a)
        (λ _ e. let same : old ≡ a = cc in let own : NeedFits p (HasWordUnder s) n z old = record { kind = fit.kind; word = tt; free = fit.free } in subst (NeedFits p (HasWordUnder s) n z) same own)
        (λ _ e. let same : new ≡ a = cc in let own : NeedFits p (HasWordUnder s) n z new = record { kind = fit.kind; word = tt; free = fit.free } in subst (NeedFits p (HasWordUnder s) n z) same own))
        is

    go : (o : Option MailboxType) → first_need os ≡ o → need_with (branches_by n j z o os) ≡ Some a → NeedFits p (HasWordUnder s) n z a
    go None e is = cc
    go (Some b) e is = by_parts b b.polarity refl e (first_all (λ o. (c : MailboxType) → o ≡ Some c → NeedFits p (HasWordUnder s) n z c) os b h e b refl) is

-- what is gathered of branches
pub record GatheredTyped (p : Program) (s : ℕ → Pat) (n k : ℕ) (arms : List Arm) : Type 0 where
  pub passes : AllByRecursion (λ a. (z : ℕ) → PassesTo (env_at s (arms_gathered n k arms).needs z) (env_at s (outer_needs a) z)) arms
  pub fits : NeedsFit p (HasWordUnder s) n (arms_gathered n k arms).needs

pub gathered_typed : (p : Program) (s : ℕ → Pat) (n : ℕ) (d : Node) → node_at p n ≡ Some d → (k : ℕ) (arms : List Arm) → AllByRecursion (OuterFits p (HasWordUnder s) n) arms → arms_findings n arms ≡ [] → AllByRecursion (Holds s) (arms_gathered n k arms).constraints → GatheredTyped p s n k arms
gathered_typed p s n d at k arms fits clean holds =
    let names : List ℕ = arm_names arms in
    let one : ℕ → ℕ → Option Combined = λ j z. branches n j z (arm_needs z arms) in
    let Passes : ℕ → Option MailboxType → Type 0 = λ z o. AllByRecursion (λ w. PassesTo (need_under s o) (need_under s w)) (arm_needs z arms) in
    let fit : (z : ℕ) → AllByRecursion (λ o. (a : MailboxType) → o ≡ Some a → NeedFits p (HasWordUnder s) n z a) (arm_needs z arms) =
    λ z. needs_all (λ o. (a : MailboxType) → o ≡ Some a → NeedFits p (HasWordUnder s) n z a) z arms (all_map (OuterFits p (HasWordUnder s) n) (λ a. (c : MailboxType) → need_of (outer_needs a) z ≡ Some c → NeedFits p (HasWordUnder s) n z c) (λ a f. f z) arms fits) in
    let faces : (z : ℕ) → AllByRecursion (OfInterface (var_interface p d.function z)) (arm_needs z arms) =
    λ z. all_map (λ o. (a : MailboxType) → o ≡ Some a → NeedFits p (HasWordUnder s) n z a) (OfInterface (var_interface p d.function z)) (λ o f. face z o f) (arm_needs z arms) (fit z) in
    let agree = none_each (λ z. branches_agree (arm_needs z arms)) BranchRule (λ z. AtNode n) names clean in
    let each : Each (EachNeed Passes) one k names =
    each_with (λ j z o. branches_agree (arm_needs z arms) ≡ true) (EachHolds (Holds s)) (EachNeed Passes) one
    (λ j z a h. branches_split s n j z (var_interface p d.function z) (arm_needs z arms) (faces z) a h)
    k names (all_each (λ z. branches_agree (arm_needs z arms) ≡ true) one k names agree) (holds_gather (Holds s) one k names holds) in
    record {
      passes = for_each (λ z a. PassesTo (env_at s (arms_gathered n k arms).needs z) (env_at s (outer_needs a) z)) arms
          (λ z. all_needs (λ w. PassesTo (env_at s (arms_gathered n k arms).needs z) (need_under s w)) z arms
          (gather_needs Passes one k names each z (none_off arms z)));
      fits = λ z.
          gather_needs (λ z o. (a : MailboxType) → o ≡ Some a → NeedFits p (HasWordUnder s) n z a) one k names
          (each_any (EachNeed (λ z o. (a : MailboxType) → o ≡ Some a → NeedFits p (HasWordUnder s) n z a)) one (λ j z. branches_fit p s n j z (arm_needs z arms) (fit z)) k names)
          z (λ off a h. cc);
    }
  where
    face : (z : ℕ) (o : Option MailboxType) → ((a : MailboxType) → o ≡ Some a → NeedFits p (HasWordUnder s) n z a) → OfInterface (var_interface p d.function z) o
    face z None f = tt
    face z (Some a) f = sym (face_of p n d z a.interface at (f a refl).kind)

    none_off : (arms : List Arm) (z : ℕ) → is_among z (arm_names arms) ≡ false → AllByRecursion (λ w. PassesTo None (need_under s w)) (arm_needs z arms)
    none_off [] z off = tt
    none_off (a ∷ arms) z off =
        let q = arm_off a arms z off in
        (subst (λ o. PassesTo None (need_under s o)) (sym q.0) tt, none_off arms z q.1)

-- ---- choices

pub if_typed : (p : Program) (wf : WellFormed p) (y : Typing) (s : ℕ → Pat) (part : Part) (n : ℕ) (d : Node) (at : node_at p n ≡ Some d) (e : Expr) (a b : ℕ) → d.core ≡ If e a b → IsPartOf p n d a → IsPartOf p n d b → PartTypes p y s part a → PartTypes p y s part b → (asked : TypeOf) (k : ℕ) → kind_of_type asked ≡ d.kind → TypeHasWord (result_under s asked) → Allowed y s (if_from n k (walk_arms part asked k (two_branches a b))) → CoreFound p y s n asked (If e a b) (if_from n k (walk_arms part asked k (two_branches a b)))
if_typed p wf y s part n d at e a b is inside_a inside_b types_a types_b asked k kind word allowed =
    let kinds = subst (CoreKinds p (wf.nodes n d at).function.vars d.kind) is (wf.nodes n d at).kinds in
    let bs : List Branch = two_branches a b in
    let all : Arms = walk_arms part asked k bs in
    let j : ℕ = k + length all.vars in
    let own = arms_gathered n j all.arms in
    let clean = nil_parts all.findings (arms_findings n all.arms) allowed.clean in
    let holds = all_parts (Holds s) all.constraints own.constraints allowed.holds in
    let fits : AllByRecursion (BranchFits p y s part n d asked) bs = (
      record {
        types = types_a;
        node = kinds.1.0;
        there = kinds.1.1;
        kind = kind ∙ sym kinds.1.2;
        inside = inside_a;
        free = λ z f off. free_here p wf z n d at (If e a b) is (or_right (occurs z e) (is_free p z a || is_free p z b) (or_left (is_free p z a) (is_free p z b) f));
      },
      (
        record {
          types = types_b;
          node = kinds.2.0;
          there = kinds.2.1;
          kind = kind ∙ sym kinds.2.2;
          inside = inside_b;
          free = λ z f off. free_here p wf z n d at (If e a b) is (or_right (occurs z e) (is_free p z a || is_free p z b) (or_right (is_free p z a) (is_free p z b) f));
        },
        tt,
      ),
    ) in
    let typed = arms_typed p y s part n d asked word k bs fits (record { clean = clean.0; holds = holds.0; entries = allowed.entries }) in
    let outer = over_arms (OuterFits p (HasWordUnder s) n) part asked k bs
    (over_with (λ c needs. BranchFits p y s part n d asked c) (ArmTyped p y s asked) (λ c needs. OuterFits p (HasWordUnder s) n (arm_of c needs)) (λ c needs f t. outer_fits p y s part n d at asked c needs f t) part asked k bs (with_all (BranchFits p y s part n d asked) part asked k bs fits) typed.0) in
    let gathered = gathered_typed p s n d at j all.arms outer clean.1 holds.1 in
    let passed = arms_over (λ c. (z : ℕ) → PassesTo (env_at s own.needs z) (env_at s (outer_needs c) z)) part asked k bs gathered.passes in
    record {
      term = (typed.0.0.result, typed.0.1.0.result, passes_to a (part a asked k).needs typed.0.0.env passed.0, passes_to b (part b asked (k + length (part a asked k).vars)).needs typed.0.1.0.env passed.1.0);
      fits = gathered.fits;
      typed = typed.1;
    }
  where
    passes_to : (m : ℕ) (needs : Needs) → y.envs m ≡ env_at s needs → ((z : ℕ) → PassesTo (env_at s (arms_gathered n (k + length (walk_arms part asked k (two_branches a b)).vars) (walk_arms part asked k (two_branches a b)).arms).needs z) (env_at s (needs_but [] needs) z)) → EnvPasses (env_at s (arms_gathered n (k + length (walk_arms part asked k (two_branches a b)).vars) (walk_arms part asked k (two_branches a b)).arms).needs) (y.envs m)
    passes_to m needs env h z =
        subst (PassesTo (env_at s (arms_gathered n (k + length (walk_arms part asked k (two_branches a b)).vars) (walk_arms part asked k (two_branches a b)).arms).needs z)) (ap (need_under s) (need_but [] needs z) ∙ ap (λ (g : TypeEnv). g z) (sym env)) (h z)
