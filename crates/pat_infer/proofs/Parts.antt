-- What is found in parts that are walked one behind the other, and then added.
use Rattle.std.proofs.Common.{◌≡◌, ℕ, suc, ◌+◌, List, [], ◌∷◌, ◌++◌, length, map, Option, Some, None, Result, Ok, Err, refl, sym, ap, ◌∙◌, subst, drop, get_or, ◌<◌}
use Rattle.std.proofs.lemmas.List.{append-nil, append_assoc, map-append, at_drop_more}
use Rattle.pat_semantics_spec.specs.Programs as core
use Rattle.pat_semantics_spec.specs.Programs.{node_at, Node}
use Rattle.pat_type_system_spec.specs.Types.{TypeOf}
use Rattle.pat_type_schemes_spec.specs.NodeTypes.{Needs, NodeType}
use Rattle.pat_type_schemes_spec.specs.Signatures.{Variable}
use Rattle.pat_infer_spec.specs.Constraints as found
use Rattle.pat_infer_spec.specs.Constraints.{Finding, Found, nothing_found}
use Rattle.pat_infer_spec.specs.Needs.{needs_second}
use Rattle.pat_infer_spec.specs.Branches as branches
use Rattle.pat_infer_spec.specs.Walk.{Part, walk, asked_of, name_need, bound_found, body_needs, let_found, with_node, spawn_found, Arms, walk_arms, arms_gathered, arms_findings, if_found, guard_found}
use Rattle.pat_core.specs.declared.program.Program.{Program}
use Rattle.pat_core.specs.Views.{program_view, clause_view}
use Rattle.pat_patterns.specs.Views.{pattern_view}
use Rattle.pat_types.specs.Views.{needs_view, node_type_view}
use Rattle.pat_types.specs.declared.types.MailboxType.{MailboxType}
use Rattle.pat_infer_problems.specs.Views.{placed_variable, placed_variable_of, placed_constraint, constraint_view}
use Rattle.pat_infer_problems.specs.Results.{first_of, Refuses}
use Rattle.pat_infer_problems.specs.Growing.{Grows, settled}
use Rattle.pat_infer_problems.specs.declared.problem.Problem.{Problem}
use Rattle.pat_infer_problems.specs.declared.error.InferError.{InferError}
use Rattle.pat_infer_environments.specs.Gathering.{IsGathered}
use Rattle.pat_infer_environments.specs.lets.Lets.{own_let}
use Rattle.pat_infer_terms.specs.Adding.{IsAdded}
use Rattle.pat_infer_terms.specs.branches.Guards.{own_guard}
use Rattle.pat_infer_terms.specs.branches.Arms.{arm_view}
use Rattle.pat_infer_terms.specs.declared.branches.guards.Guarded.{Guarded}
use Rattle.pat_infer_terms.specs.declared.branches.arms.WalkedArm.{WalkedArm}
use Rattle.pat_infer.specs.declared.walk.walk.Branch.{Branch}
use Rattle.pat_infer.specs.walk.Chains.{core_bound, node_bound, let_core, let_around, climbed}
use Rattle.pat_infer.specs.walk.Walking.{branch_view, AreWalked}
use Rattle.pat_infer_problems.specs.Walked.{IsWalked, Infers}
use Rattle.pat_infer_problems.proofs.Joining.{first_behind, refuses_front, refuses_behind, refuses_by, settled_both, grows_none, grows_both, grown}
use Rattle.pat_infer.proofs.Climbing.{first_up}

-- ---- problems that grow

-- one part behind another, where no node is set at last
pub grows_then : (p : Program) (a b c : Problem) (v1 v2 : List Variable) (c1 c2 : List found.Constraint) (n1 : List (ℕ × NodeType)) → Grows a b (map (placed_variable p) v1) (map (placed_constraint p) c1) n1 → Grows b c (map (placed_variable p) v2) (map (placed_constraint p) c2) [] → Grows a c (map (placed_variable p) (v1 ++ v2)) (map (placed_constraint p) (c1 ++ c2)) n1
grows_then p a b c v1 v2 c1 c2 n1 g h =
    let q = grows_both p a b c v1 v2 c1 c2 n1 [] g h in
    record { vars = q.vars; constraints = q.constraints; nodes = h.nodes ∙ g.nodes }

-- ---- terms

-- a term without parts that adds nothing
pub only_walked : (p : Program) (q : Problem) (needs : List (ℕ × MailboxType)) (r : Found) → needs_view needs ≡ r.needs → r.vars ≡ [] → r.constraints ≡ [] → r.nodes ≡ [] → first_of r.findings ≡ None → IsWalked p q q needs r
only_walked p q needs r e v c n f = record {
  needed = e;
  grows = record {
    vars = sym (append-nil (map placed_variable_of q.vars)) ∙ ap (λ z. map placed_variable_of q.vars ++ map (placed_variable p) z) (sym v);
    constraints = sym (append-nil (map constraint_view q.constraints)) ∙ ap (λ z. map constraint_view q.constraints ++ map (placed_constraint p) z) (sym c);
    nodes = ap (λ z. settled z (map node_type_view q.nodes)) (sym n);
  };
  clean = f;
}

pub nothing_walked : (p : Program) (q : Problem) → IsWalked p q q [] nothing_found
nothing_walked p q = record { needed = refl; grows = grows_none q; clean = refl }

-- a term without parts that adds constraints
pub added_walked : (p : Program) (old new : Problem) (needs : List (ℕ × MailboxType)) (cs : List found.Constraint) (fs : List Finding) (ns : Needs) → needs_view needs ≡ ns → IsAdded p old new cs fs → IsWalked p old new needs (record { needs = ns; vars = []; constraints = cs; nodes = []; findings = fs })
added_walked p old new needs cs fs ns e a = record { needed = e; grows = a.grows; clean = a.clean }

-- the needs of a spawned body
pub spawn_walked : (p : Program) (old new : Problem) (needs more : List (ℕ × MailboxType)) (r : Found) → IsWalked p old new needs r → needs_view more ≡ needs_second (needs_view needs) → IsWalked p old new more (spawn_found r)
spawn_walked p old new needs more r w e = record { needed = e ∙ ap needs_second w.needed; grows = w.grows; clean = w.clean }

-- a node is set
pub kept_walked : (p : Program) (old mid new : Problem) (needs : List (ℕ × MailboxType)) (r : Found) (n : ℕ) (t : TypeOf) → IsWalked p old mid needs r → Grows mid new [] [] ((n, record { result = t; needs = needs_view needs }) ∷ []) → IsWalked p old new needs (with_node n t r)
kept_walked p old mid new needs r n t w g =
    let h : Grows mid new [] [] ((n, record { result = t; needs = r.needs }) ∷ []) =
    subst (λ (z : Needs). Grows mid new [] [] ((n, record { result = t; needs = z }) ∷ [])) w.needed g in
    record {
      needed = w.needed;
      grows = record {
        vars = h.vars ∙ append-nil (map placed_variable_of mid.vars) ∙ w.grows.vars;
        constraints = h.constraints ∙ append-nil (map constraint_view mid.constraints) ∙ w.grows.constraints;
        nodes = h.nodes ∙ ap (settled ((n, record { result = t; needs = r.needs }) ∷ [])) w.grows.nodes ∙ sym (settled_both r.nodes ((n, record { result = t; needs = r.needs }) ∷ []) (map node_type_view old.nodes));
      };
      clean = w.clean;
    }

-- ---- lets

-- a let without a name takes nothing off
pub nothing_off : (needs : Needs) → needs ≡ body_needs None needs
nothing_off [] = refl
nothing_off (e ∷ needs) = ap (λ (es : Needs). e ∷ es) (nothing_off needs)

module _ (p : Program) (a b c : Problem) (n : ℕ) (x : Option ℕ) (r s : Found) where
  pub let_walked : (d : Problem) (body bound inner needs : List (ℕ × MailboxType)) → IsWalked p a b body r → IsWalked p b c bound s → needs_view inner ≡ body_needs x (needs_view body) → IsWalked p c d needs (own_let n (1 + length c.vars) (needs_view bound) (needs_view inner)) → IsWalked p a d needs (let_found n (1 + length a.vars + length r.vars + length s.vars) x r s)
  let_walked d body bound inner needs w v e j =
      let number : 1 + length c.vars ≡ 1 + length a.vars + length r.vars + length s.vars =
      grown p b c s.vars (map (placed_constraint p) s.constraints) s.nodes v.grows ∙ ap (λ z. z + length s.vars) (grown p a b r.vars (map (placed_constraint p) r.constraints) r.nodes w.grows) in
      let k : ℕ = 1 + length a.vars + length r.vars + length s.vars in
      let inside : needs_view inner ≡ body_needs x r.needs = e ∙ ap (body_needs x) w.needed in
      let i : IsWalked p c d needs (own_let n k s.needs (body_needs x r.needs)) =
      subst (λ (z : Needs). IsWalked p c d needs (own_let n k s.needs z)) inside
      (subst (λ (z : Needs). IsWalked p c d needs (own_let n k z (needs_view inner))) v.needed
      (subst (λ (z : ℕ). IsWalked p c d needs (own_let n z (needs_view bound) (needs_view inner))) number j)) in
      let own : Found = own_let n k s.needs (body_needs x r.needs) in
      record {
        needed = i.needed;
        grows = grows_both p a b d r.vars (s.vars ++ own.vars) r.constraints (s.constraints ++ own.constraints) r.nodes s.nodes w.grows
            (grows_then p b c d s.vars own.vars s.constraints own.constraints s.nodes v.grows i.grows);
        clean = first_behind r.findings (s.findings ++ own.findings) w.clean ∙ (first_behind s.findings own.findings v.clean ∙ i.clean);
      }

  -- what the bound part breaks
  pub bound_refused : (e : InferError) (body : List (ℕ × MailboxType)) (k : ℕ) → IsWalked p a b body r → Refuses p e s.findings → Refuses p e (let_found n k x r s).findings
  bound_refused e body k w h =
      let own : Found = own_let n k s.needs (body_needs x r.needs) in
      refuses_behind p e r.findings (s.findings ++ own.findings) w.clean (refuses_front p e s.findings own.findings h)

  -- what the let breaks
  pub let_refused : (e : InferError) (body bound inner : List (ℕ × MailboxType)) (k m : ℕ) → IsWalked p a b body r → IsWalked p b c bound s → needs_view inner ≡ body_needs x (needs_view body) → Refuses p e (own_let n m (needs_view bound) (needs_view inner)).findings → Refuses p e (let_found n k x r s).findings
  let_refused e body bound inner k m w v f h =
      let inside : needs_view inner ≡ body_needs x r.needs = f ∙ ap (body_needs x) w.needed in
      let i : Refuses p e (own_let n m s.needs (body_needs x r.needs)).findings =
      subst (λ (z : Needs). Refuses p e (own_let n m s.needs z).findings) inside
      (subst (λ (z : Needs). Refuses p e (own_let n m z (needs_view inner)).findings) v.needed h) in
      let own : Found = own_let n k s.needs (body_needs x r.needs) in
      refuses_behind p e r.findings (s.findings ++ own.findings) w.clean (refuses_behind p e s.findings own.findings v.clean i)

-- ---- branches

-- a choice, whose branches are walked, and gathered
pub choice_walked : (p : Program) (old mid new : Problem) (n : ℕ) (arms : List WalkedArm) (found : List (ℕ × MailboxType)) (r : Arms) → AreWalked p old mid arms r → first_of (arms_findings n (map arm_view arms)) ≡ None → IsGathered p mid new found (arms_gathered n (1 + length mid.vars) (map arm_view arms)) → IsWalked p old new found (if_found n (1 + length old.vars + length r.vars) r)
choice_walked p old mid new n arms found r w clean g =
    let number : 1 + length mid.vars ≡ 1 + length old.vars + length r.vars = grown p old mid r.vars (map (placed_constraint p) r.constraints) r.nodes w.grows in
    let k : ℕ = 1 + length old.vars + length r.vars in
    let i : IsGathered p mid new found (arms_gathered n k r.arms) =
    subst (λ (z : List branches.Arm). IsGathered p mid new found (arms_gathered n k z)) w.parts (subst (λ (z : ℕ). IsGathered p mid new found (arms_gathered n z (map arm_view arms))) number g) in
    let none : first_of (arms_findings n r.arms) ≡ None = subst (λ (z : List branches.Arm). first_of (arms_findings n z) ≡ None) w.parts clean in
    record {
      needed = i.needs;
      grows = grows_then p old mid new r.vars (arms_gathered n k r.arms).vars r.constraints (arms_gathered n k r.arms).constraints r.nodes w.grows i.grows;
      clean = first_behind r.findings (arms_findings n r.arms) w.clean ∙ none;
    }

-- branches that break the rule of a choice
pub choice_refused : (p : Program) (e : InferError) (old mid : Problem) (n : ℕ) (arms : List WalkedArm) (r : Arms) → AreWalked p old mid arms r → Refuses p e (arms_findings n (map arm_view arms)) → Refuses p e (r.findings ++ arms_findings n r.arms)
choice_refused p e old mid n arms r w h =
    refuses_behind p e r.findings (arms_findings n r.arms) w.clean (subst (λ (z : List branches.Arm). Refuses p e (arms_findings n z)) w.parts h)

-- a guard, whose branches are walked, and that is joined
module _ (p : Program) (old mid new : Problem) (g : Guarded) (arms : List WalkedArm) (r : Arms) where
  abbrev whole : ℕ → Found
  whole k = guard_found (program_view p) g.function g.node k g.variable (pattern_view g.pattern.now) g.interface g.has_free (map clause_view g.clauses.now) r

  pub guard_walked : (res : Result (List (ℕ × MailboxType)) InferError) → AreWalked p old mid arms r → Infers p mid new res (own_guard (program_view p) g (1 + length mid.vars) (map arm_view arms)) → Infers p old new res (whole (1 + length old.vars + length r.vars))
  guard_walked (Ok needs) w j =
      let number : 1 + length mid.vars ≡ 1 + length old.vars + length r.vars = grown p old mid r.vars (map (placed_constraint p) r.constraints) r.nodes w.grows in
      let k : ℕ = 1 + length old.vars + length r.vars in
      let own : Found = own_guard (program_view p) g k r.arms in
      let i : IsWalked p mid new needs own =
      subst (λ (z : List branches.Arm). IsWalked p mid new needs (own_guard (program_view p) g k z)) w.parts
      (subst (λ (z : ℕ). IsWalked p mid new needs (own_guard (program_view p) g z (map arm_view arms))) number j) in
      record {
        needed = i.needed;
        grows = grows_then p old mid new r.vars own.vars r.constraints own.constraints r.nodes w.grows i.grows;
        clean = first_behind r.findings own.findings w.clean ∙ i.clean;
      }
  guard_walked (Err e) w j =
      let k : ℕ = 1 + length mid.vars in
      let own : Found = own_guard (program_view p) g k r.arms in
      refuses_behind p e r.findings own.findings w.clean (subst (λ (z : List branches.Arm). Refuses p e (own_guard (program_view p) g k z).findings) w.parts j)

-- ---- branches one after another

-- what is found so far, with what is found of those that are left, is what is found of all
pub record Walking (p : Program) (part : Part) (t : TypeOf) (old now : Problem) (arms : List WalkedArm) (all left : List Branch) (k : ℕ) : Type 0 where
  pub parts : map arm_view arms ++ (walk_arms part t k (map branch_view left)).arms ≡ (walk_arms part t (1 + length old.vars) (map branch_view all)).arms
  pub vars : map placed_variable_of now.vars ++ map (placed_variable p) (walk_arms part t k (map branch_view left)).vars ≡ map placed_variable_of old.vars ++ map (placed_variable p) (walk_arms part t (1 + length old.vars) (map branch_view all)).vars
  pub constraints : map constraint_view now.constraints ++ map (placed_constraint p) (walk_arms part t k (map branch_view left)).constraints ≡ map constraint_view old.constraints ++ map (placed_constraint p) (walk_arms part t (1 + length old.vars) (map branch_view all)).constraints
  pub nodes : settled (walk_arms part t k (map branch_view left)).nodes (map node_type_view now.nodes) ≡ settled (walk_arms part t (1 + length old.vars) (map branch_view all)).nodes (map node_type_view old.nodes)
  pub findings : first_of (walk_arms part t k (map branch_view left)).findings ≡ first_of (walk_arms part t (1 + length old.vars) (map branch_view all)).findings

abbrev pub StillToWalk : Program → Part → TypeOf → Problem → Problem → List WalkedArm → List Branch → List Branch → Type 0
StillToWalk p part t old now arms all left = Walking p part t old now arms all left (1 + length now.vars)

pub at_first : (p : Program) (part : Part) (t : TypeOf) (old : Problem) (all : List Branch) → StillToWalk p part t old old [] all all
at_first p part t old all = record { parts = refl; vars = refl; constraints = refl; nodes = refl; findings = refl }

pub at_last : (p : Program) (part : Part) (t : TypeOf) (old now : Problem) (arms : List WalkedArm) (all : List Branch) → StillToWalk p part t old now arms all [] → AreWalked p old now arms (walk_arms part t (1 + length old.vars) (map branch_view all))
at_last p part t old now arms all s = record {
  parts = sym (append-nil (map arm_view arms)) ∙ s.parts;
  grows = record {
    vars = sym (append-nil (map placed_variable_of now.vars)) ∙ s.vars;
    constraints = sym (append-nil (map constraint_view now.constraints)) ∙ s.constraints;
    nodes = s.nodes;
  };
  clean = sym s.findings;
}

-- one branch more
pub one_more : (p : Program) (part : Part) (t : TypeOf) (old now next : Problem) (arms more : List WalkedArm) (needs : List (ℕ × MailboxType)) (all left : List Branch) (b : Branch) → StillToWalk p part t old now arms all (b ∷ left) → IsWalked p now next needs (part b.body t (1 + length now.vars)) → more ≡ arms ++ record { clause = b.clause; needs = needs } ∷ [] → StillToWalk p part t old next more all left
one_more p part t old now next arms more needs all left b s w e =
    let r : Found = part b.body t (1 + length now.vars) in
    let k : ℕ = 1 + length now.vars + length r.vars in
    let rest : Arms = walk_arms part t k (map branch_view left) in
    let here : branches.Arm = record { clause = (branch_view b).clause; needs = r.needs } in
    let number : k ≡ 1 + length next.vars = sym (grown p now next r.vars (map (placed_constraint p) r.constraints) r.nodes w.grows) in
    let seen : map arm_view more ≡ map arm_view arms ++ here ∷ [] =
    ap (map arm_view) e ∙ map-append arm_view arms (record { clause = b.clause; needs = needs } ∷ []) ∙ ap (λ (z : Needs). map arm_view arms ++ record { clause = (branch_view b).clause; needs = z } ∷ []) w.needed in
    subst (λ (n : ℕ). Walking p part t old next more all left n) number (record {
      parts = ap (λ zs. zs ++ rest.arms) seen ∙ append_assoc (map arm_view arms) (here ∷ []) rest.arms ∙ s.parts;
      vars =
          ap (λ zs. zs ++ map (placed_variable p) rest.vars) w.grows.vars
          ∙ append_assoc (map placed_variable_of now.vars) (map (placed_variable p) r.vars) (map (placed_variable p) rest.vars)
          ∙ ap (λ zs. map placed_variable_of now.vars ++ zs) (sym (map-append (placed_variable p) r.vars rest.vars))
          ∙ s.vars;
      constraints =
          ap (λ zs. zs ++ map (placed_constraint p) rest.constraints) w.grows.constraints
          ∙ append_assoc (map constraint_view now.constraints) (map (placed_constraint p) r.constraints) (map (placed_constraint p) rest.constraints)
          ∙ ap (λ zs. map constraint_view now.constraints ++ zs) (sym (map-append (placed_constraint p) r.constraints rest.constraints))
          ∙ s.constraints;
      nodes = ap (settled rest.nodes) w.grows.nodes ∙ sym (settled_both r.nodes rest.nodes (map node_type_view now.nodes)) ∙ s.nodes;
      findings = sym (first_behind r.findings rest.findings w.clean) ∙ s.findings;
    })

-- what a branch breaks
pub branch_refused : (p : Program) (part : Part) (t : TypeOf) (e : InferError) (old now : Problem) (arms : List WalkedArm) (all left : List Branch) (b : Branch) → StillToWalk p part t old now arms all (b ∷ left) → Refuses p e (part b.body t (1 + length now.vars)).findings → Refuses p e (walk_arms part t (1 + length old.vars) (map branch_view all)).findings
branch_refused p part t e old now arms all left b s h =
    let r : Found = part b.body t (1 + length now.vars) in
    let rest : Arms = walk_arms part t (1 + length now.vars + length r.vars) (map branch_view left) in
    let whole : List Finding = (walk_arms part t (1 + length old.vars) (map branch_view all)).findings in
    refuses_by p e (r.findings ++ rest.findings) whole (λ x g. sym s.findings ∙ g) (refuses_front p e r.findings rest.findings h)

-- ---- lets one after another

-- what is found so far is found where this many lets are left, and they find the whole around it
pub record Closing (p : Program) (t : TypeOf) (first : Problem) (level : ℕ) (lets : List ℕ) (at : ℕ) (left : List ℕ) (now : Problem) (needs : List (ℕ × MailboxType)) (r : Found) : Type 0 where
  pub found : Found
  pub walked : IsWalked p first now needs found
  pub whole : climbed (program_view p) t (1 + length first.vars) at left found ≡ climbed (program_view p) t (1 + length first.vars) level lets r

pub none_closed : (p : Program) (t : TypeOf) (first now : Problem) (level : ℕ) (lets : List ℕ) (needs : List (ℕ × MailboxType)) (r : Found) → IsWalked p first now needs r → Closing p t first level lets level lets now needs r
none_closed p t first now level lets needs r w = record { found = r; walked = w; whole = refl }

pub all_closed : (p : Program) (t : TypeOf) (first now : Problem) (level : ℕ) (lets : List ℕ) (at : ℕ) (left : List ℕ) (needs : List (ℕ × MailboxType)) (r : Found) → left ≡ [] → Closing p t first level lets at left now needs r → IsWalked p first now needs (climbed (program_view p) t (1 + length first.vars) level lets r)
all_closed p t first now level lets at [] needs r e c = subst (IsWalked p first now needs) c.whole c.walked
all_closed p t first now level lets at (n ∷ left) needs r e c = cc

-- one let more: what closing it found
pub one_closed : (p : Program) (t : TypeOf) (first now next : Problem) (level : ℕ) (lets : List ℕ) (at n : ℕ) (left : List ℕ) (needs more : List (ℕ × MailboxType)) (r : Found) → ((q : Found) → IsWalked p first now needs q → IsWalked p first next more (let_around (program_view p) at n t (1 + length first.vars) (node_at (program_view p) n) q)) → Closing p t first level lets at (n ∷ left) now needs r → Closing p t first level lets (suc at) left next more r
one_closed p t first now next level lets at n left needs more r f c = record {
  found = let_around (program_view p) at n t (1 + length first.vars) (node_at (program_view p) n) c.found;
  walked = f c.found c.walked;
  whole = c.whole;
}

-- what a let breaks
pub closing_refused : (p : Program) (t : TypeOf) (e : InferError) (first now : Problem) (level : ℕ) (lets : List ℕ) (at n : ℕ) (left : List ℕ) (needs : List (ℕ × MailboxType)) (r : Found) → ((q : Found) → IsWalked p first now needs q → Refuses p e (let_around (program_view p) at n t (1 + length first.vars) (node_at (program_view p) n) q).findings) → Closing p t first level lets at (n ∷ left) now needs r → Refuses p e (climbed (program_view p) t (1 + length first.vars) level lets r).findings
closing_refused p t e first now level lets at n left needs r f c =
    let k : ℕ = 1 + length first.vars in
    let q : Found = let_around (program_view p) at n t k (node_at (program_view p) n) c.found in
    subst (λ (z : Found). Refuses p e z.findings) c.whole
    (refuses_by p e q.findings (climbed (program_view p) t k (suc at) left q).findings (λ x. first_up (program_view p) t k x (suc at) left q) (f c.found c.walked))

-- ---- the branches of a guard

pub branch_added : (bs more : List Branch) (b : Branch) (rest : List branches.Branch) → more ≡ bs ++ b ∷ [] → map branch_view more ++ rest ≡ map branch_view bs ++ branch_view b ∷ rest
branch_added bs more b rest e =
    ap (λ zs. zs ++ rest) (ap (map branch_view) e ∙ map-append branch_view bs (b ∷ []))
    ∙ append_assoc (map branch_view bs) (branch_view b ∷ []) rest

-- ---- exits

-- the exit of a `?`
pub exits : (p : Program) (res : Result (List (ℕ × MailboxType)) InferError) (given e : InferError) (old new : Problem) (r : Found) → res ≡ Err given → given ≡ e → Refuses p e r.findings → Infers p old new res r
exits p res given e old new r is from h =
    subst (λ (v : Result (List (ℕ × MailboxType)) InferError). Infers p old new v r) (sym (is ∙ ap (λ (z : InferError). Err z) from)) h

-- the item at a place stands before those behind it
pub row_from : {A : Type 0} (xs : List A) (i : ℕ) (x : A) → i < length xs → x ≡ get_or xs i x → drop i xs ≡ x ∷ drop (i + 1) xs
row_from xs i x h e = at_drop_more (λ ys. ys) xs i x h ∙ ap (λ y. y ∷ drop (i + 1) xs) (sym e)

-- ---- lets that are closed

same_pair : (a b : Option ℕ × ℕ) → Some a ≡ Some b → a ≡ b
same_pair a b h = cc

-- a let's node
module _ (p : core.Program) (part : Part) (levels n k : ℕ) (asked : TypeOf) (x : Option ℕ) (m : ℕ) (r : Found) where
  by_core : (c : core.Core) → core_bound c ≡ Some (x, m) → let_core p levels n asked k c r ≡ with_node n asked (bound_found p (walk levels p) n k x m r)
  by_core (core.Let y b d) e =
      ap (λ (z : Option ℕ × ℕ). with_node n asked (bound_found p (walk levels p) n k z.0 z.1 r)) (same_pair (y, b) (x, m) e)
  by_core (core.Val v) e = cc
  by_core (core.Call g es) e = cc
  by_core (core.If v a b) e = cc
  by_core (core.Print v) e = cc
  by_core (core.New i) e = cc
  by_core (core.Send y b es) e = cc
  by_core (core.Spawn b) e = cc
  by_core (core.Guard y v free cs) e = cc

  around_is : (o : Option Node) → node_bound o ≡ Some (x, m) → let_around p levels n asked k o r ≡ with_node n asked (bound_found p (walk levels p) n k x m r)
  around_is None e = cc
  around_is (Some d) e = by_core d.core e

module _ (p : Program) (first now : Problem) (levels n : ℕ) (t : TypeOf) (x : Option ℕ) (m : ℕ) (body : List (ℕ × MailboxType)) (wanted : TypeOf) (r : Found) where
  abbrev v : core.Program
  v = program_view p

  abbrev bound_of : ℕ → Found
  bound_of k = walk levels v m (asked_of (node_at v m) (name_need x r.needs)) k

  same_bound : node_bound (node_at v n) ≡ Some (x, m) → wanted ≡ asked_of (node_at v m) (name_need x (needs_view body)) → IsWalked p first now body r → walk levels v m wanted (1 + length now.vars) ≡ bound_of (1 + length first.vars + length r.vars)
  same_bound b e w =
      ap (λ (z : TypeOf). walk levels v m z (1 + length now.vars)) (e ∙ ap (λ (z : Needs). asked_of (node_at v m) (name_need x z)) w.needed)
      ∙ ap bound_of (grown p first now r.vars (map (placed_constraint p) r.constraints) r.nodes w.grows)

  abbrev whole_let : Found
  whole_let = let_around v levels n t (1 + length first.vars) (node_at v n) r

  pub bound_stops : (e : InferError) → node_bound (node_at v n) ≡ Some (x, m) → wanted ≡ asked_of (node_at v m) (name_need x (needs_view body)) → IsWalked p first now body r → Refuses p e (walk levels v m wanted (1 + length now.vars)).findings → Refuses p e whole_let.findings
  bound_stops e b f w h =
      let s : Found = bound_of (1 + length first.vars + length r.vars) in
      let i : Refuses p e s.findings = subst (λ (z : Found). Refuses p e z.findings) (same_bound b f w) h in
      subst (λ (z : Found). Refuses p e z.findings) (sym (around_is v (walk levels v) levels n (1 + length first.vars) t x m r (node_at v n) b))
      (bound_refused p first now now n x r s e body (1 + length first.vars + length r.vars + length s.vars) w i)

  pub let_stops : (e : InferError) (mid : Problem) (bound inner : List (ℕ × MailboxType)) → node_bound (node_at v n) ≡ Some (x, m) → wanted ≡ asked_of (node_at v m) (name_need x (needs_view body)) → IsWalked p first now body r → IsWalked p now mid bound (walk levels v m wanted (1 + length now.vars)) → needs_view inner ≡ body_needs x (needs_view body) → Refuses p e (own_let n (1 + length mid.vars) (needs_view bound) (needs_view inner)).findings → Refuses p e whole_let.findings
  let_stops e mid bound inner b f w u g h =
      let s : Found = bound_of (1 + length first.vars + length r.vars) in
      let i : IsWalked p now mid bound s = subst (IsWalked p now mid bound) (same_bound b f w) u in
      subst (λ (z : Found). Refuses p e z.findings) (sym (around_is v (walk levels v) levels n (1 + length first.vars) t x m r (node_at v n) b))
      (let_refused p first now mid n x r s e body bound inner (1 + length first.vars + length r.vars + length s.vars) (1 + length mid.vars) w i g h)

  pub let_closes : (mid join new : Problem) (bound inner needs : List (ℕ × MailboxType)) → node_bound (node_at v n) ≡ Some (x, m) → wanted ≡ asked_of (node_at v m) (name_need x (needs_view body)) → IsWalked p first now body r → IsWalked p now mid bound (walk levels v m wanted (1 + length now.vars)) → needs_view inner ≡ body_needs x (needs_view body) → IsWalked p mid join needs (own_let n (1 + length mid.vars) (needs_view bound) (needs_view inner)) → Grows join new [] [] ((n, record { result = t; needs = needs_view needs }) ∷ []) → IsWalked p first new needs whole_let
  let_closes mid join new bound inner needs b f w u g j h =
      let s : Found = bound_of (1 + length first.vars + length r.vars) in
      let i : IsWalked p now mid bound s = subst (IsWalked p now mid bound) (same_bound b f w) u in
      subst (IsWalked p first new needs) (sym (around_is v (walk levels v) levels n (1 + length first.vars) t x m r (node_at v n) b))
      (kept_walked p first join new needs (let_found n (1 + length first.vars + length r.vars + length s.vars) x r s) n t (let_walked p first now mid n x r s join body bound inner needs w i g j) h)
