-- Branches, choices and guards: their patterns keep to their interfaces.
use Rattle.std.proofs.Common.{◌≡◌, ℕ, suc, ◌+◌, true, false, not, ◌||◌, nat_eq, if◌then◌else◌, List, [], ◌∷◌, ◌++◌, length, Option, Some, None, refl, sym, ap, ◌∙◌, subst, ⊎_elim}
use Rattle.std.specs.Prelude.{is_some, is_none, slice_get}
use Rattle.std.specs.List.{AllByRecursion, list_any}
use Rattle.std.proofs.lemmas.Bool.{cond_both, or_left, or_right, or_cases, and_from, eq-eqb, eqb-true}
use Rattle.pat_words_spec.specs.Patterns.{Pat, Var, residual, sum_of, covers, is_closed}
use Rattle.pat_semantics_spec.specs.Values.{MailboxOf, Expr, occurs}
use Rattle.pat_semantics_spec.specs.Programs.{Polarity, Sending, Receiving, Clause, If, Guard, Node, Program, node_at, tag_at, is_among, is_free, option_list, clause_bodies, clause_binders, clause_uses}
use Rattle.pat_semantics_spec.specs.WellFormed.{WellFormed, CoreKinds, ClauseKinds, IsPartOf, IsPatternOf}
use Rattle.pat_semantics_laws.proofs.Lists.{clash, not_true, nil_parts, all_join, among_first, among_second, among_head}
use Rattle.pat_type_system_spec.specs.Types.{Returnable, MailboxType, mailbox_type, TypeOf, kind_of_type, TypeEnv}
use Rattle.pat_type_system_spec.specs.Typings.{payload_type, is_received}
use Rattle.pat_type_system_spec.specs.Holdings.{declared_types}
use Rattle.pat_type_schemes_spec.specs.Signatures.{Variable}
use Rattle.pat_type_schemes_spec.specs.NodeTypes.{Needs, need_of}
use Rattle.pat_type_schemes_spec.specs.Compared.{is_receiver}
use Rattle.pat_infer_spec.specs.Constraints.{Place, AtName, AtNode, OrderRule, BranchRule, PayloadRule, CoversRule, PolarityRule, UnusedRule, SecondRule, unless, each_unless, Found}
use Rattle.pat_infer_spec.specs.Needs.{just, put, Combined, vars_with}
use Rattle.pat_infer_spec.specs.Binders.{Binder, used_as, polarity_as, usage_as, binder_findings, name_constraints, binder_constraints, names_bound}
use Rattle.pat_infer_spec.specs.BothParts.{new_var}
use Rattle.pat_infer_spec.specs.Branches.{Branch, Arm, own_names, outer_needs, arm_names, arm_needs, some_receive, all_receive, receives_need, branches_agree, branch_usage, pattern_or_one, sum_on, sum_of_needs, all_by, each_receives, first_need, received_in, branches_with, branches_by, branches}
use Rattle.pat_infer_spec.specs.Walk.{Part, Arms, walk_arms, arms_gathered, arms_findings, if_from, two_branches, clause_branch, branches_of, keeps_own, arm_binders, guard_binders, guard_found, var_interface}
use Rattle.pat_infer_spec.specs.Shapes.{is_simple, IsNumber, PatternFits, ShapeFits, ConstraintFits, NodeTypeFits}
use Rattle.pat_words_laws.proofs.ClosedPatterns.{residual_closed}
use Rattle.pat_infer_laws.proofs.Lookups.{need_put}
use Rattle.pat_infer_laws.proofs.Gathering.{all_map, all_with, none_each, all_each, each_with, each_map, Each, EachNeed, gather_needs, gather_holds, EachHolds}
use Rattle.pat_infer_laws.proofs.BranchLaws.{first_all, all_receives, first_receives}
use Rattle.pat_infer_laws.proofs.BinderLaws.{SameInterface, all_flat, Places, names_all, places_types}
use Rattle.pat_infer_laws.proofs.TermSound.{face_of}
use Rattle.pat_infer_laws.proofs.GuardSound.{branches_all}
use Rattle.pat_infer_laws.proofs.Facts.{NeedFits, NeedsFit, free_here, here_kind}
use Rattle.pat_infer_laws.proofs.LetTyped.{one_face}
use Rattle.pat_infer_laws.proofs.ArmsTyped.{Over, over_with, over_arms, with_all, arm_of, OuterFits, outer_of, needs_all}
use Rattle.pat_infer_laws.proofs.GuardTyped.{clauses_use, bodies_among, list_free, clause_faces}
use Rattle.pat_infer_laws.proofs.Numbering.{Numbered, numbered_parts}
use Rattle.pat_infer_laws.proofs.ShapeLaws.{Declared, closed_simple, fits_sum, fits_residual, written_fits, payload_shape}
use Rattle.pat_infer_laws.proofs.TermShaped.{Shaped, AskedFits, PartShapes, PartsShaped, gather_numbers}

-- ---- what branches need of a variable

sum_on_fits : (p : Program) (vars : List Variable) (i : ℕ) (e : Pat) (os : List (Option MailboxType)) → PatternFits p vars i e → AllByRecursion (λ o. PatternFits p vars i (pattern_or_one o)) os → PatternFits p vars i (sum_on e os)
sum_on_fits p vars i e [] h k = h
sum_on_fits p vars i e (o ∷ os) h k =
    sum_on_fits p vars i (sum_of e (pattern_or_one o)) os (fits_sum p vars i e (pattern_or_one o) h k.0) k.1

sum_fits : (p : Program) (vars : List Variable) (i : ℕ) (os : List (Option MailboxType)) → AllByRecursion (λ o. PatternFits p vars i (pattern_or_one o)) os → PatternFits p vars i (sum_of_needs os)
sum_fits p vars i [] k = tt
sum_fits p vars i (o ∷ os) k = sum_on_fits p vars i (pattern_or_one o) os k.0 k.1

-- all needs are of interface i, and receiving ones are one variable or have none
abbrev NeedShape : Program → List Variable → ℕ → Option MailboxType → Type 0
NeedShape p vars i None = Unit {0}
NeedShape p vars i (Some a) = PatternFits p vars i a.pattern × (a.polarity ≡ Receiving → is_simple a.pattern ≡ true)

each_fits : (p : Program) (vars : List Variable) (n k i : ℕ) (os : List (Option MailboxType)) → PatternFits p vars i (Var k) → AllByRecursion (NeedShape p vars i) os → AllByRecursion (λ o. receives_need o ≡ true) os → AllByRecursion (ConstraintFits p vars) (each_receives n k i os)
each_fits p vars n k i [] v h r = tt
each_fits p vars n k i (None ∷ os) v h r = each_fits p vars n k i os v h.1 r.1
each_fits p vars n k i (Some a ∷ os) v h r = (record { left = v; right = h.0.0; simple = h.0.1 (got a.polarity r.0) }, each_fits p vars n k i os v h.1 r.1)
  where
    got : (q : Polarity) → is_receiver q ≡ true → q ≡ Receiving
    got Receiving h = refl
    got Sending h = cc

module _ (p : Program) (vars : List Variable) (n j z : ℕ) (os : List (Option MailboxType)) (fit : AllByRecursion (λ o. (a : MailboxType) → o ≡ Some a → NeedFits p (ShapeFits p vars) n z a) os) (face : (b c : MailboxType) → NeedFits p (ShapeFits p vars) n z b → NeedFits p (ShapeFits p vars) n z c → b.interface ≡ c.interface) where
  of_one : (b : MailboxType) → NeedFits p (ShapeFits p vars) n z b → AllByRecursion (NeedShape p vars b.interface) os
  of_one b fb = all_map (λ o. (a : MailboxType) → o ≡ Some a → NeedFits p (ShapeFits p vars) n z a) (NeedShape p vars b.interface) one os fit
    where
      one : (o : Option MailboxType) → ((a : MailboxType) → o ≡ Some a → NeedFits p (ShapeFits p vars) n z a) → NeedShape p vars b.interface o
      one None f = tt
      one (Some a) f = let fa = f a refl in (subst (λ i. PatternFits p vars i a.pattern) (face a b fa fb) fa.word.pattern, fa.word.simple)

  patterns_of : (i : ℕ) → AllByRecursion (NeedShape p vars i) os → AllByRecursion (λ o. PatternFits p vars i (pattern_or_one o)) os
  patterns_of i h = all_map (NeedShape p vars i) (λ o. PatternFits p vars i (pattern_or_one o)) one os h
    where
      one : (o : Option MailboxType) → NeedShape p vars i o → PatternFits p vars i (pattern_or_one o)
      one None h = tt
      one (Some a) h = h.0

  received_shaped : (b : MailboxType) → b.polarity ≡ Receiving → NeedFits p (ShapeFits p vars) n z b → AllByRecursion (λ o. receives_need o ≡ true) os → Numbered (IsNumber vars) j (vars_with (received_in n j z b os)) → PartsShaped p vars n z (received_in n j z b os)
  received_shaped b br fb all =
      let old : MailboxType = mailbox_type b.interface Receiving b.pattern (branch_usage os) in
      let new : MailboxType = mailbox_type b.interface Receiving (Var j) (branch_usage os) in
      let made : Option Combined = Some (record { need = new; vars = new_var n z b.interface ∷ []; constraints = each_receives n j b.interface os }) in
      cond_both (all_by b.pattern os) (just old) made (λ c. Numbered (IsNumber vars) j (vars_with c) → PartsShaped p vars n z c)
      (λ _ numbers. record {
        needs = λ a h.
            let same : old ≡ a = cc in
            let own : NeedFits p (ShapeFits p vars) n z old = record { kind = fb.kind; word = record { pattern = fb.word.pattern; simple = λ q. fb.word.simple br }; free = fb.free } in
            subst (NeedFits p (ShapeFits p vars) n z) same own;
        constraints = tt;
      })
      (λ _ numbers.
      let var : PatternFits p vars b.interface (Var j) = (new_var n z b.interface, numbers.0, refl) in
      record {
        needs = λ a h.
            let same : new ≡ a = cc in
            let own : NeedFits p (ShapeFits p vars) n z new = record { kind = fb.kind; word = record { pattern = var; simple = λ q. refl }; free = fb.free } in
            subst (NeedFits p (ShapeFits p vars) n z) same own;
        constraints = each_fits p vars n j b.interface os var (of_one b fb) all;
      })

  some_shaped : (b : MailboxType) (r : Polarity) → b.polarity ≡ r → first_need os ≡ Some b → branches_agree os ≡ true → NeedFits p (ShapeFits p vars) n z b → Numbered (IsNumber vars) j (vars_with (branches_with n j z r b os)) → PartsShaped p vars n z (branches_with n j z r b os)
  some_shaped b Sending br e agree fb numbers =
      let made : MailboxType = mailbox_type b.interface Sending (sum_of_needs os) (branch_usage os) in
      record {
        needs = λ a h.
            let same : made ≡ a = cc in
            let own : NeedFits p (ShapeFits p vars) n z made = record { kind = fb.kind; word = record { pattern = sum_fits p vars b.interface os (patterns_of b.interface (of_one b fb)); simple = λ q. cc }; free = fb.free } in
            subst (NeedFits p (ShapeFits p vars) n z) same own;
        constraints = tt;
      }
  some_shaped b Receiving br e agree fb numbers =
      let some : some_receive os ≡ true = (first_receives os b e).0 (ap is_receiver br) in
      let all : all_receive os ≡ true = ⊎_elim (λ l. absurd (clash some (not_true (some_receive os) l))) (λ r. r) (or_cases (not (some_receive os)) (all_receive os) agree) in
      received_shaped b br fb (all_receives os all) numbers

  pub branches_shaped : branches_agree os ≡ true → Numbered (IsNumber vars) j (vars_with (branches n j z os)) → PartsShaped p vars n z (branches n j z os)
  branches_shaped agree = go (first_need os) refl
    where
      go : (o : Option MailboxType) → first_need os ≡ o → Numbered (IsNumber vars) j (vars_with (branches_by n j z o os)) → PartsShaped p vars n z (branches_by n j z o os)
      go None e numbers = record { needs = λ a h. cc; constraints = tt }
      go (Some b) e numbers = some_shaped b b.polarity refl e agree (first_all (λ o. (a : MailboxType) → o ≡ Some a → NeedFits p (ShapeFits p vars) n z a) os b fit e b refl) numbers

-- what is gathered of branches
pub record GatheredShaped (p : Program) (vars : List Variable) (n k : ℕ) (arms : List Arm) : Type 0 where
  pub needs : NeedsFit p (ShapeFits p vars) n (arms_gathered n k arms).needs
  pub constraints : AllByRecursion (ConstraintFits p vars) (arms_gathered n k arms).constraints

gathered_shaped : (p : Program) (wf : WellFormed p) (vars : List Variable) (n : ℕ) (d : Node) (at : node_at p n ≡ Some d) (k : ℕ) (arms : List Arm) → AllByRecursion (OuterFits p (ShapeFits p vars) n) arms → arms_findings n arms ≡ [] → Numbered (IsNumber vars) k (arms_gathered n k arms).vars → GatheredShaped p vars n k arms
gathered_shaped p wf vars n d at k arms fits clean numbers =
    let Ok : MailboxType → Type 0 = ShapeFits p vars in
    let names : List ℕ = arm_names arms in
    let one : ℕ → ℕ → Option Combined = λ j z. branches n j z (arm_needs z arms) in
    let fit : (z : ℕ) → AllByRecursion (λ o. (a : MailboxType) → o ≡ Some a → NeedFits p Ok n z a) (arm_needs z arms) =
    λ z. needs_all (λ o. (a : MailboxType) → o ≡ Some a → NeedFits p Ok n z a) z arms (all_map (OuterFits p Ok n) (λ a. (c : MailboxType) → need_of (outer_needs a) z ≡ Some c → NeedFits p Ok n z c) (λ a f. f z) arms fits) in
    let agree = none_each (λ z. branches_agree (arm_needs z arms)) BranchRule (λ z. AtNode n) names clean in
    let each : Each (λ j z o. PartsShaped p vars n z o) one k names =
    each_with (λ j z o. branches_agree (arm_needs z arms) ≡ true) (λ j z o. Numbered (IsNumber vars) j (vars_with o)) (λ j z o. PartsShaped p vars n z o) one
    (λ j z a h. branches_shaped p vars n j z (arm_needs z arms) (fit z) (one_face p Ok wf n z d at) a h)
    k names (all_each (λ z. branches_agree (arm_needs z arms) ≡ true) one k names agree) (gather_numbers (IsNumber vars) one k names numbers) in
    record {
      needs = λ z.
          gather_needs (λ z o. (a : MailboxType) → o ≡ Some a → NeedFits p Ok n z a) one k names
          (each_map (λ j z o. PartsShaped p vars n z o) (EachNeed (λ z o. (a : MailboxType) → o ≡ Some a → NeedFits p Ok n z a)) one (λ j z q. q.needs) k names each)
          z (λ off a h. cc);
      constraints = gather_holds (ConstraintFits p vars) one k names (each_map (λ j z o. PartsShaped p vars n z o) (EachHolds (ConstraintFits p vars)) one (λ j z q. q.constraints) k names each);
    }

-- ---- branches

-- a branch of node n
record BranchShapes (p : Program) (vars : List Variable) (part : Part) (n : ℕ) (d : Node) (asked : TypeOf) (b : Branch) : Type 0 where
  shapes : PartShapes p vars part b.body
  node : Node
  there : node_at p b.body ≡ Some node
  kind : kind_of_type asked ≡ node.kind
  inside : IsPartOf p n d b.body
  free : (z : ℕ) → is_free p z b.body ≡ true → is_among z (own_names b.clause) ≡ false → is_free p z n ≡ true

-- what is found of branches
record ArmsShaped (p : Program) (vars : List Variable) (part : Part) (asked : TypeOf) (k : ℕ) (bs : List Branch) : Type 0 where
  needs : Over (λ b needs. NeedsFit p (ShapeFits p vars) b.body needs) part asked k bs
  constraints : AllByRecursion (ConstraintFits p vars) (walk_arms part asked k bs).constraints
  nodes : AllByRecursion (λ e. NodeTypeFits p vars e.1) (walk_arms part asked k bs).nodes

arms_shaped : (p : Program) (vars : List Variable) (part : Part) (n : ℕ) (d : Node) (asked : TypeOf) → AskedFits p vars asked → (k : ℕ) (bs : List Branch) → AllByRecursion (BranchShapes p vars part n d asked) bs → (walk_arms part asked k bs).findings ≡ [] → Numbered (IsNumber vars) k (walk_arms part asked k bs).vars → ArmsShaped p vars part asked k bs
arms_shaped p vars part n d asked ask k [] h clean numbers = record { needs = tt; constraints = tt; nodes = tt }
arms_shaped p vars part n d asked ask k (b ∷ bs) h clean numbers =
    let first : Found = part b.body asked k in
    let rest : Arms = walk_arms part asked (k + length first.vars) bs in
    let rules = nil_parts first.findings rest.findings clean in
    let q = numbered_parts (IsNumber vars) k first.vars rest.vars numbers in
    let here = h.0.shapes asked k h.0.node h.0.there h.0.kind ask rules.0 q.0 in
    let later = arms_shaped p vars part n d asked ask (k + length first.vars) bs h.1 rules.1 q.1 in
    record {
      needs = (here.needs, later.needs);
      constraints = all_join (ConstraintFits p vars) first.constraints rest.constraints here.constraints later.constraints;
      nodes = all_join (λ e. NodeTypeFits p vars e.1) first.nodes rest.nodes here.nodes later.nodes;
    }

outer_shaped : (p : Program) (vars : List Variable) (part : Part) (n : ℕ) (d : Node) → node_at p n ≡ Some d → (asked : TypeOf) (k : ℕ) (bs : List Branch) → AllByRecursion (BranchShapes p vars part n d asked) bs → Over (λ b needs. NeedsFit p (ShapeFits p vars) b.body needs) part asked k bs → AllByRecursion (OuterFits p (ShapeFits p vars) n) (walk_arms part asked k bs).arms
outer_shaped p vars part n d at asked k bs fits needs =
    over_arms (OuterFits p (ShapeFits p vars) n) part asked k bs
    (over_with (λ c w. BranchShapes p vars part n d asked c) (λ b w. NeedsFit p (ShapeFits p vars) b.body w) (λ c w. OuterFits p (ShapeFits p vars) n (arm_of c w))
    (λ c w f t. outer_of p (ShapeFits p vars) n d at c w f.inside f.free t) part asked k bs (with_all (BranchShapes p vars part n d asked) part asked k bs fits) needs)

pub if_shaped : (p : Program) (wf : WellFormed p) (vars : List Variable) (part : Part) (n : ℕ) (d : Node) (at : node_at p n ≡ Some d) (e : Expr) (a b : ℕ) → d.core ≡ If e a b → IsPartOf p n d a → IsPartOf p n d b → PartShapes p vars part a → PartShapes p vars part b → (asked : TypeOf) (k : ℕ) → kind_of_type asked ≡ d.kind → AskedFits p vars asked → (if_from n k (walk_arms part asked k (two_branches a b))).findings ≡ [] → Numbered (IsNumber vars) k (if_from n k (walk_arms part asked k (two_branches a b))).vars → Shaped p vars n (if_from n k (walk_arms part asked k (two_branches a b)))
if_shaped p wf vars part n d at e a b is inside_a inside_b shapes_a shapes_b asked k kind ask clean numbers =
    let kinds = subst (CoreKinds p (wf.nodes n d at).function.vars d.kind) is (wf.nodes n d at).kinds in
    let bs : List Branch = two_branches a b in
    let all : Arms = walk_arms part asked k bs in
    let j : ℕ = k + length all.vars in
    let own = arms_gathered n j all.arms in
    let rules = nil_parts all.findings (arms_findings n all.arms) clean in
    let q = numbered_parts (IsNumber vars) k all.vars own.vars numbers in
    -- both branches with what is known of their shapes; `ArmsTyped` has them with types
    let fits : AllByRecursion (BranchShapes p vars part n d asked) bs = (
      record {
        shapes = shapes_a;
        node = kinds.1.0;
        there = kinds.1.1;
        kind = kind ∙ sym kinds.1.2;
        inside = inside_a;
        free = λ z f off. free_here p wf z n d at (If e a b) is (or_right (occurs z e) (is_free p z a || is_free p z b) (or_left (is_free p z a) (is_free p z b) f));
      },
      (
        record {
          shapes = shapes_b;
          node = kinds.2.0;
          there = kinds.2.1;
          kind = kind ∙ sym kinds.2.2;
          inside = inside_b;
          free = λ z f off. free_here p wf z n d at (If e a b) is (or_right (occurs z e) (is_free p z a || is_free p z b) (or_right (is_free p z a) (is_free p z b) f));
        },
        tt,
      ),
    ) in
    let arms = arms_shaped p vars part n d asked ask k bs fits rules.0 q.0 in
    let gathered = gathered_shaped p wf vars n d at j all.arms (outer_shaped p vars part n d at asked k bs fits arms.needs) rules.1 q.1 in
    record {
      needs = gathered.needs;
      constraints = all_join (ConstraintFits p vars) all.constraints own.constraints arms.constraints gathered.constraints;
      nodes = arms.nodes;
    }

-- ---- names

-- a name with a declared type, and what is needed of it
pub record NameShaped (p : Program) (vars : List Variable) (b : Binder) : Type 0 where
  pub type : Declared p vars b.type
  pub face : SameInterface b
  pub need : (a : MailboxType) → b.need ≡ Some a → ShapeFits p vars a

name_shaped : (p : Program) (vars : List Variable) (at : Place) (i : ℕ) (q : Polarity) (e : Pat) (o : Option MailboxType) → PatternFits p vars i e → is_simple e ≡ true → ((a : MailboxType) → o ≡ Some a → ShapeFits p vars a × (i ≡ a.interface)) → polarity_as q o ≡ true → AllByRecursion (ConstraintFits p vars) (name_constraints at i q e o)
name_shaped p vars at i Sending e None fits simple h pol = (record { left = tt; right = fits; simple = simple }, tt)
name_shaped p vars at i Receiving e None fits simple h pol = tt
name_shaped p vars at i Sending e (Some a) fits simple h pol =
    let q = h a refl in (record { left = subst (λ w. PatternFits p vars w a.pattern) (sym q.1) q.0.pattern; right = fits; simple = simple }, tt)
name_shaped p vars at i Receiving e (Some a) fits simple h pol =
    let q = h a refl in
    (record { left = fits; right = subst (λ w. PatternFits p vars w a.pattern) (sym q.1) q.0.pattern; simple = q.0.simple (got a.polarity pol) }, tt)
  where
    got : (r : Polarity) → is_receiver r ≡ true → r ≡ Receiving
    got Receiving h = refl
    got Sending h = cc

pub names_shaped : (p : Program) (vars : List Variable) (f : ℕ) (bs : List Binder) → AllByRecursion (NameShaped p vars) bs → binder_findings f bs ≡ [] → AllByRecursion (ConstraintFits p vars) (binder_constraints f bs)
names_shaped p vars f bs h clean =
    let at : Binder → Place = λ b. AtName f b.name in
    let q = nil_parts (each_unless (λ b. used_as b.type.polarity b.need) UnusedRule at bs ++ each_unless (λ b. polarity_as b.type.polarity b.need) PolarityRule at bs) (each_unless (λ b. usage_as b.type.usage b.need) SecondRule at bs) clean in
    let r = nil_parts (each_unless (λ b. used_as b.type.polarity b.need) UnusedRule at bs) (each_unless (λ b. polarity_as b.type.polarity b.need) PolarityRule at bs) q.0 in
    all_flat (ConstraintFits p vars) (λ b. name_constraints (AtName f b.name) b.type.interface b.type.polarity b.type.pattern b.need) bs
    (all_with (NameShaped p vars) (λ b. polarity_as b.type.polarity b.need ≡ true) (λ b. AllByRecursion (ConstraintFits p vars) (name_constraints (AtName f b.name) b.type.interface b.type.polarity b.type.pattern b.need))
    (λ b s pol. name_shaped p vars (AtName f b.name) b.type.interface b.type.polarity b.type.pattern b.need s.type.shape.pattern s.type.simple (λ a e. (s.need a e, s.face a e)) pol)
    bs h (none_each (λ b. polarity_as b.type.polarity b.need) PolarityRule at bs r.1))

-- ---- guards

-- a branch of a guard, and its names
record GuardShapes (p : Program) (vars : List Variable) (part : Part) (n : ℕ) (d : Node) (i : ℕ) (e : Pat) (asked : TypeOf) (b : Branch) : Type 0 where
  fits : BranchShapes p vars part n d asked b
  names : (needs : Needs) → NeedsFit p (ShapeFits p vars) b.body needs → AllByRecursion (NameShaped p vars) (arm_binders p i e needs b.clause)

clause_shapes : (p : Program) (wf : WellFormed p) (vars : List Variable) (n : ℕ) (d : Node) (at : node_at p n ≡ Some d) (i : ℕ) (e : Pat) (r : Clause) (needs : Needs) → IsPatternOf p i e → ClauseKinds p (wf.nodes n d at).function.vars i d.kind r → IsPartOf p n d r.body → NeedsFit p (ShapeFits p vars) r.body needs → AllByRecursion (NameShaped p vars) (arm_binders p i e needs (Some r))
clause_shapes p wf vars n d at i e r needs pattern kinds inside fits =
    let faces = clause_faces p wf (ShapeFits p vars) n d at i e r needs kinds inside fits in
    let closed : is_closed (residual e r.tag) ≡ true = residual_closed e r.tag pattern.closed in (
      record {
        type = record {
          shape = record { pattern = fits_residual p vars i e r.tag (written_fits p vars i e pattern); simple = λ q. closed_simple (residual e r.tag) closed };
          simple = closed_simple (residual e r.tag) closed;
        };
        face = faces.0;
        need = λ a h. (fits r.from a h).word;
      },
      both (names_bound (declared_types (tag_at p i r.tag)) 0 r.vars needs) faces.1
          (subst (λ o. AllByRecursion Rest (names_bound (declared_types o) 0 r.vars needs)) (sym kinds.declared)
          (names_all Rest (payload_type kinds.decl) 0 r.vars needs
          (places_types (λ z a. Unit {0}) (λ z a. Declared p vars a × ((b : MailboxType) → need_of needs z ≡ Some b → ShapeFits p vars b)) (payload_type kinds.decl)
          (λ k z a has _. (payload_shape p vars wf i r.tag kinds.decl kinds.declared k a has, λ b h. (fits z b h).word))
          0 r.vars (any_places (payload_type kinds.decl) 0 r.vars)))),
    )
  where
    Rest : Binder → Type 0
    Rest b = Declared p vars b.type × ((a : MailboxType) → b.need ≡ Some a → ShapeFits p vars a)

    any_places : (types : TypeEnv) (k : ℕ) (xs : List ℕ) → Places (λ z a. Unit {0}) types k xs
    any_places types k [] = tt
    any_places types k (x ∷ xs) = (λ a e. tt, any_places types (suc k) xs)

    both : (bs : List Binder) → AllByRecursion SameInterface bs → AllByRecursion Rest bs → AllByRecursion (NameShaped p vars) bs
    both bs f g = all_with SameInterface Rest (NameShaped p vars) (λ b x y. record { type = y.0; face = x; need = y.1 }) bs f g

pub guard_shaped : (p : Program) (wf : WellFormed p) (vars : List Variable) (part : Part) (n : ℕ) (d : Node) (at : node_at p n ≡ Some d) (x : ℕ) (e : Pat) (free : Option ℕ) (cs : List Clause) → d.core ≡ Guard x e free cs → ((m : ℕ) → is_among m (option_list free ++ clause_bodies cs) ≡ true → IsPartOf p n d m × PartShapes p vars part m) → (asked : TypeOf) (k : ℕ) → kind_of_type asked ≡ d.kind → AskedFits p vars asked → (guard_found p d.function n (k + length (walk_arms part asked k (branches_of free cs)).vars) x e (var_interface p d.function x) (is_some free) cs (walk_arms part asked k (branches_of free cs))).findings ≡ [] → Numbered (IsNumber vars) k (guard_found p d.function n (k + length (walk_arms part asked k (branches_of free cs)).vars) x e (var_interface p d.function x) (is_some free) cs (walk_arms part asked k (branches_of free cs))).vars → Shaped p vars n (guard_found p d.function n (k + length (walk_arms part asked k (branches_of free cs)).vars) x e (var_interface p d.function x) (is_some free) cs (walk_arms part asked k (branches_of free cs)))
guard_shaped p wf vars part n d at x e free cs is inner asked k kind ask clean numbers =
    let Ok : MailboxType → Type 0 = ShapeFits p vars in
    let kinds = subst (CoreKinds p (wf.nodes n d at).function.vars d.kind) is (wf.nodes n d at).kinds in
    let i : ℕ = var_interface p d.function x in
    let face : i ≡ kinds.0 = face_of p n d x kinds.0 at (here_kind p n x d at (MailboxOf kinds.0) (wf.nodes n d at) kinds.1) in
    let named : slice_get (wf.nodes n d at).function.vars x ≡ Some (MailboxOf i) = subst (λ j. slice_get (wf.nodes n d at).function.vars x ≡ Some (MailboxOf j)) (sym face) kinds.1 in
    let pattern : IsPatternOf p i e = subst (λ j. IsPatternOf p j e) (sym face) kinds.2 in
    let clauses : AllByRecursion (ClauseKinds p (wf.nodes n d at).function.vars i d.kind) cs = subst (λ j. AllByRecursion (ClauseKinds p (wf.nodes n d at).function.vars j d.kind) cs) (sym face) kinds.4 in
    let bs : List Branch = branches_of free cs in
    let all : Arms = walk_arms part asked k bs in
    let j : ℕ = k + length all.vars in
    let own = arms_gathered n j all.arms in
    let bound : List Binder = guard_binders p i e all.arms in
    let found_order = each_unless (λ a. is_none (need_of a.needs x)) OrderRule (λ a. AtNode n) all.arms in
    let found_payload = each_unless (keeps_own p i) PayloadRule (λ a. AtNode n) all.arms in
    let found_covers = unless (covers e (is_received cs) (is_some free)) CoversRule (AtNode n) in
    let found_names = binder_findings d.function bound in
    let clean1 = nil_parts all.findings (found_order ++ (arms_findings n all.arms ++ (found_payload ++ (found_covers ++ found_names)))) clean in
    let clean2 = nil_parts found_order (arms_findings n all.arms ++ (found_payload ++ (found_covers ++ found_names))) clean1.1 in
    let clean3 = nil_parts (arms_findings n all.arms) (found_payload ++ (found_covers ++ found_names)) clean2.1 in
    let clean4 = nil_parts found_payload (found_covers ++ found_names) clean3.1 in
    let clean5 = nil_parts found_covers found_names clean4.1 in
    let q = numbered_parts (IsNumber vars) k all.vars own.vars numbers in
    let Inner : ℕ → Type 0 = λ m. IsPartOf p n d m × PartShapes p vars part m in
    let Uses : Clause → Type 0 = λ r. (z : ℕ) → clause_uses (λ w. is_free p z w) z r ≡ true → list_any (clause_uses (λ w. is_free p z w) z) cs ≡ true in
    let bodies : AllByRecursion (λ r. Inner r.body) cs = bodies_among Inner cs (λ m on. inner m (among_second m (option_list free) (clause_bodies cs) on)) in
    let uses : AllByRecursion Uses cs = clauses_use (λ z. clause_uses (λ w. is_free p z w) z) cs cs (λ z t. t) in
    let branches : AllByRecursion (GuardShapes p vars part n d i e asked) bs =
    branches_all (GuardShapes p vars part n d i e asked) free cs
    (λ m some.
    let w = inner m (among_first m (option_list free) (clause_bodies cs) (subst (λ o. is_among m (option_list o) ≡ true) (sym some) (among_head m []))) in
    let body = kinds.3 m some in
    record {
      fits = record {
        shapes = w.1;
        node = body.0;
        there = body.1;
        kind = kind ∙ sym body.2;
        inside = w.0;
        free = λ z f off.
            free_here p wf z n d at (Guard x e free cs) is
            (or_right (nat_eq z x) (list_any (λ w. is_free p z w) (option_list free) || list_any (clause_uses (λ w. is_free p z w) z) cs)
            (or_left (list_any (λ w. is_free p z w) (option_list free)) (list_any (clause_uses (λ w. is_free p z w) z) cs) (list_free (λ w. is_free p z w) free m some f)));
      };
      names = λ needs fits. tt;
    })
    (all_with (ClauseKinds p (wf.nodes n d at).function.vars i d.kind) (λ r. Inner r.body × Uses r) (λ r. GuardShapes p vars part n d i e asked (clause_branch r))
    (λ r c w. record {
      fits = record {
        shapes = w.0.1;
        node = c.body.0;
        there = c.body.1;
        kind = kind ∙ sym c.body.2;
        inside = w.0.0;
        free = λ z f off.
            free_here p wf z n d at (Guard x e free cs) is
            (or_right (nat_eq z x) (list_any (λ w. is_free p z w) (option_list free) || list_any (clause_uses (λ w. is_free p z w) z) cs)
            (or_right (list_any (λ w. is_free p z w) (option_list free)) (list_any (clause_uses (λ w. is_free p z w) z) cs)
            (w.1 z (and_from (is_free p z r.body) (not (is_among z (clause_binders r))) f (ap not off)))));
      };
      names = λ needs fits. clause_shapes p wf vars n d at i e r needs pattern c w.0.0 fits;
    })
    cs clauses (all_with (λ r. Inner r.body) Uses (λ r. Inner r.body × Uses r) (λ r f g. (f, g)) cs bodies uses)) in
    let fits : AllByRecursion (BranchShapes p vars part n d asked) bs = all_map (GuardShapes p vars part n d i e asked) (BranchShapes p vars part n d asked) (λ b h. h.fits) bs branches in
    let arms = arms_shaped p vars part n d asked ask k bs fits clean1.0 q.0 in
    let gathered = gathered_shaped p wf vars n d at j all.arms (outer_shaped p vars part n d at asked k bs fits arms.needs) clean3.0 q.1 in
    let names : AllByRecursion (NameShaped p vars) bound =
    all_flat (NameShaped p vars) (λ a. arm_binders p i e a.needs a.clause) all.arms
    (over_arms (λ a. AllByRecursion (NameShaped p vars) (arm_binders p i e a.needs a.clause)) part asked k bs
    (over_with (λ c w. GuardShapes p vars part n d i e asked c) (λ b w. NeedsFit p Ok b.body w) (λ c w. AllByRecursion (NameShaped p vars) (arm_binders p i e w c.clause)) (λ c w f t. f.names w t) part asked k bs (with_all (GuardShapes p vars part n d i e asked) part asked k bs branches) arms.needs)) in
    record {
      needs = put_shape named pattern own.needs gathered.needs;
      constraints = all_join (ConstraintFits p vars) all.constraints (binder_constraints d.function bound ++ own.constraints) arms.constraints
          (all_join (ConstraintFits p vars) (binder_constraints d.function bound) own.constraints (names_shaped p vars d.function bound names clean5.1) gathered.constraints);
      nodes = arms.nodes;
    }
  where
    put_shape : slice_get (wf.nodes n d at).function.vars x ≡ Some (MailboxOf (var_interface p d.function x)) → IsPatternOf p (var_interface p d.function x) e → (own : Needs) → NeedsFit p (ShapeFits p vars) n own → NeedsFit p (ShapeFits p vars) n (put x (mailbox_type (var_interface p d.function x) Receiving e Returnable) own)
    put_shape named pattern own fits z a h =
        let t : MailboxType = mailbox_type (var_interface p d.function x) Receiving e Returnable in
        (elim (nat_eq x z) as (λ b. nat_eq x z ≡ b → (if b then Some t else need_of own z) ≡ Some a → NeedFits p (ShapeFits p vars) n z a) [
          | true ↦ λ q w.
              let same : t ≡ a = cc in
              let there : NeedFits p (ShapeFits p vars) n x t = record {
                kind = here_kind p n x d at (MailboxOf (var_interface p d.function x)) (wf.nodes n d at) named;
                word = record { pattern = written_fits p vars (var_interface p d.function x) e pattern; simple = λ _. closed_simple e pattern.closed };
                free = free_here p wf x n d at (Guard x e free cs) is (or_left (nat_eq x x) (list_any (λ w. is_free p x w) (option_list free) || list_any (clause_uses (λ w. is_free p x w) x) cs) (eq-eqb x x refl));
              } in
              subst (λ v. NeedFits p (ShapeFits p vars) n v a) (eqb-true x z q) (subst (NeedFits p (ShapeFits p vars) n x) same there)
          | false ↦ λ q w. fits z a w
        ]) refl (sym (need_put x t own z) ∙ h)
