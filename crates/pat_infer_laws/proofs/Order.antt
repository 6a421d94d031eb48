-- Needs ascend by variable.
use Rattle.std.proofs.Common.{◌≡◌, ℕ, zero, suc, ◌+◌, ◌≤◌, true, false, nat_eq, nat_lt, if◌then◌else◌, List, [], ◌∷◌, length, Option, Some, None, refl, sym, subst, arith}
use Rattle.std.specs.Map.{keys_of}
use Rattle.std.specs.List.{AllByRecursion}
use Rattle.std.proofs.lemmas.Bool.{ltb-true, ltb-false, eqb-true, eqb-false}
use Rattle.pat_words_spec.specs.Patterns.{Tag}
use Rattle.pat_semantics_spec.specs.Values.{BaseUnit, Expr, VarExpr, Literal, OpExpr}
use Rattle.pat_semantics_spec.specs.Programs.{tag_at, Receiving, Sending, Function, Core, Val, Let, Call, If, Print, New, Send, Spawn, Guard, Node, Program, node_at, function_at}
use Rattle.pat_semantics_laws.proofs.Lists.{all_join, all_snoc}
use Rattle.pat_type_system_spec.specs.Types.{Second, Returnable, mailbox_type, MailboxType, TypeOf, BaseTerm, MailboxTerm, TypeEnv}
use Rattle.pat_type_system_spec.specs.Holdings.{declared_types}
use Rattle.pat_type_schemes_spec.specs.NodeTypes.{need_of, Needs}
use Rattle.pat_type_schemes_spec.specs.Signatures.{signature_vars, open_param, open_result}
use Rattle.pat_infer_spec.specs.Constraints.{Found}
use Rattle.pat_infer_spec.specs.Needs.{put, put_option, args_needs, needs_second, add, add_all, names_of_two, Combined, vars_with, need_before, gather}
use Rattle.pat_infer_spec.specs.Branches.{arm_needs, branches, Branch, Arm, outer_needs, arm_names}
use Rattle.pat_infer_spec.specs.Walk.{var_interface, body_needs, arms_gathered, Part, asked_of, name_need, value_needs, new_found, call_found, walk_arms, two_branches, branches_of, core_found, node_found, walk, walk_function, walk_functions}
use Rattle.pat_infer_spec.specs.BothParts.{both_parts}
use Rattle.pat_infer_spec.specs.Shapes.{NeedsAscend, NeedsOrdered}

-- the numbers ascend, from k on
abbrev pub NamesAscend : ℕ → List ℕ → Type 0
NamesAscend k [] = Unit {0}
NamesAscend k (x ∷ xs) = (k ≤ x) × NamesAscend (suc x) xs

pub names_less : (j k : ℕ) (xs : List ℕ) → j ≤ k → NamesAscend k xs → NamesAscend j xs
names_less j k [] h a = tt
names_less j k (x ∷ xs) h a = (let l = a.0 in omega arith, a.1)

needs_less : (j k : ℕ) (needs : Needs) → j ≤ k → NeedsAscend k needs → NeedsAscend j needs
needs_less j k [] h a = tt
needs_less j k (e ∷ needs) h a = (let l = a.0 in omega arith, a.1)

put_ascends : (k x : ℕ) (b : MailboxType) (needs : Needs) → k ≤ x → NeedsAscend k needs → NeedsAscend k (put x b needs)
put_ascends k x b [] h a = (h, tt)
put_ascends k x b (e ∷ needs) h a =
    (elim (nat_lt x e.0) as (λ t. nat_lt x e.0 ≡ t → NeedsAscend k (if t then (x, b) ∷ e ∷ needs else if nat_eq x e.0 then (x, b) ∷ needs else e ∷ put x b needs)) [
      | true ↦ λ q. let l = ltb-true x e.0 q in (h, (omega arith, a.1))
      | false ↦ λ q.
          (elim (nat_eq x e.0) as (λ t. nat_eq x e.0 ≡ t → NeedsAscend k (if t then (x, b) ∷ needs else e ∷ put x b needs)) [
            | true ↦ λ r. let same : x ≡ e.0 = eqb-true x e.0 r in (h, subst (λ n. NeedsAscend (suc n) needs) (sym same) a.1)
            | false ↦ λ r.
                let l = ltb-false x e.0 q in
                let apart : x ≡ e.0 → ⊥ = eqb-false x e.0 r in
                (a.0, put_ascends (suc e.0) x b needs (omega arith) a.1)
          ]) refl
    ]) refl

option_ascends : (x : ℕ) (o : Option MailboxType) (needs : Needs) → NeedsAscend 0 needs → NeedsAscend 0 (put_option x o needs)
option_ascends x None needs a = a
option_ascends x (Some b) needs a = put_ascends 0 x b needs (omega arith) a

args_ascend : (types : TypeEnv) (k : ℕ) (es : List Expr) → NeedsAscend 0 (args_needs types k es)
args_ascend types k [] = tt
args_ascend types k (VarExpr x ∷ es) = option_ascends x (types k) (args_needs types (suc k) es) (args_ascend types (suc k) es)
args_ascend types k (Literal c ∷ es) = args_ascend types (suc k) es
args_ascend types k (OpExpr op a b ∷ es) = args_ascend types (suc k) es

second_ascends : (k : ℕ) (needs : Needs) → NeedsAscend k needs → NeedsAscend k (needs_second needs)
second_ascends k [] a = tt
second_ascends k (e ∷ needs) a = (a.0, second_ascends (suc e.0) needs a.1)

pub add_ascends : (k x : ℕ) (zs : List ℕ) → k ≤ x → NamesAscend k zs → NamesAscend k (add x zs)
add_ascends k x [] h a = (h, tt)
add_ascends k x (z ∷ zs) h a =
    (elim (nat_lt x z) as (λ t. nat_lt x z ≡ t → NamesAscend k (if t then x ∷ z ∷ zs else if nat_eq x z then z ∷ zs else z ∷ add x zs)) [
      | true ↦ λ q. let l = ltb-true x z q in (h, (omega arith, a.1))
      | false ↦ λ q.
          (elim (nat_eq x z) as (λ t. nat_eq x z ≡ t → NamesAscend k (if t then z ∷ zs else z ∷ add x zs)) [
            | true ↦ λ r. a
            | false ↦ λ r.
                let l = ltb-false x z q in
                let apart : x ≡ z → ⊥ = eqb-false x z r in
                (a.0, add_ascends (suc z) x zs (omega arith) a.1)
          ]) refl
    ]) refl

all_ascend : (xs zs : List ℕ) → NamesAscend 0 zs → NamesAscend 0 (add_all xs zs)
all_ascend [] zs a = a
all_ascend (x ∷ xs) zs a = add_ascends 0 x (add_all xs zs) (omega arith) (all_ascend xs zs a)

two_ascend : (m n : Needs) → NamesAscend 0 (names_of_two m n)
two_ascend m n = all_ascend (keys_of m) (add_all (keys_of n) []) (all_ascend (keys_of n) [] tt)

arms_ascend : (arms : List Arm) → NamesAscend 0 (arm_names arms)
arms_ascend [] = tt
arms_ascend (a ∷ arms) = all_ascend (keys_of (outer_needs a)) (arm_names arms) (arms_ascend arms)

gather_ascends : (f : ℕ → ℕ → Option Combined) (j k : ℕ) (xs : List ℕ) → NamesAscend j xs → NeedsAscend j (gather f k xs).needs
gather_ascends f j k [] a = tt
gather_ascends f j k (x ∷ xs) a = go (f k x) (gather_ascends f (suc x) (k + length (vars_with (f k x))) xs a.1)
  where
    go : (o : Option Combined) → NeedsAscend (suc x) (gather f (k + length (vars_with (f k x))) xs).needs → NeedsAscend j (need_before x o (gather f (k + length (vars_with (f k x))) xs).needs)
    go None rest = needs_less j (suc x) (gather f (k + length (vars_with (f k x))) xs).needs (let l = a.0 in omega arith) rest
    go (Some c) rest = (a.0, rest)

-- a part's needs ascend, and those of each node that is found with it
abbrev PartOrdered : Part → Type 0
PartOrdered part =
    (m : ℕ) (asked : TypeOf) (k : ℕ) → NeedsAscend 0 (part m asked k).needs × AllByRecursion (λ e. NeedsAscend 0 e.1.needs) (part m asked k).nodes

arms_ordered : (part : Part) → PartOrdered part → (asked : TypeOf) (k : ℕ) (bs : List Branch) → AllByRecursion (λ e. NeedsAscend 0 e.1.needs) (walk_arms part asked k bs).nodes
arms_ordered part h asked k [] = tt
arms_ordered part h asked k (b ∷ bs) =
    let first : Found = part b.body asked k in
    all_join (λ e. NeedsAscend 0 e.1.needs) first.nodes (walk_arms part asked (k + length first.vars) bs).nodes (h b.body asked k).1 (arms_ordered part h asked (k + length first.vars) bs)

core_ordered : (p : Program) (part : Part) → PartOrdered part → (f n k : ℕ) (asked : TypeOf) (core : Core) → NeedsAscend 0 (core_found p part f n k asked core).needs × AllByRecursion (λ e. NeedsAscend 0 e.1.needs) (core_found p part f n k asked core).nodes
core_ordered p part h f n k asked (Val e) = (go asked e, tt)
  where
    go : (asked : TypeOf) (e : Expr) → NeedsAscend 0 (value_needs asked e)
    go (BaseTerm b) e = tt
    go (MailboxTerm i q w) (VarExpr x) = (omega arith, tt)
    go (MailboxTerm i q w) (Literal c) = tt
    go (MailboxTerm i q w) (OpExpr op a b) = tt
core_ordered p part h f n k asked (Print e) = (tt, tt)
core_ordered p part h f n k asked (New i) = go asked
  where
    go : (asked : TypeOf) → NeedsAscend 0 (new_found n i asked).needs × AllByRecursion (λ e. NeedsAscend 0 e.1.needs) (new_found n i asked).nodes
    go (BaseTerm b) = (tt, tt)
    go (MailboxTerm j Sending e) = (tt, tt)
    go (MailboxTerm j Receiving e) = (tt, tt)
core_ordered p part h f n k asked (Call g args) = go (function_at p g)
  where
    go : (o : Option Function) → NeedsAscend 0 (call_found p n asked g args o).needs × AllByRecursion (λ e. NeedsAscend 0 e.1.needs) (call_found p n asked g args o).nodes
    go None = (tt, tt)
    go (Some c) = (args_ascend (open_param p g c) 0 args, tt)
core_ordered p part h f n k asked (Send x m args) = (
  put_ascends 0 x (mailbox_type (var_interface p f x) Sending (Tag m) Second) (args_needs (declared_types (tag_at p (var_interface p f x) m)) 0 args) (omega arith) (args_ascend (declared_types (tag_at p (var_interface p f x) m)) 0 args),
  tt,
)
core_ordered p part h f n k asked (Spawn m) =
    let q = h m (BaseTerm BaseUnit) k in (second_ascends 0 (part m (BaseTerm BaseUnit) k).needs q.0, q.1)
core_ordered p part h f n k asked (Let x m b) =
    let body : Found = part b asked k in
    let wanted : TypeOf = asked_of (node_at p m) (name_need x body.needs) in
    let bound : Found = part m wanted (k + length body.vars) in (
      gather_ascends (λ j z. both_parts n j z (need_of bound.needs z) (need_of (body_needs x body.needs) z)) 0 (k + length body.vars + length bound.vars) (names_of_two bound.needs (body_needs x body.needs)) (two_ascend bound.needs (body_needs x body.needs)),
      all_join (λ e. NeedsAscend 0 e.1.needs) body.nodes bound.nodes (h b asked k).1 (h m wanted (k + length body.vars)).1,
    )
core_ordered p part h f n k asked (If e a b) =
    let all = walk_arms part asked k (two_branches a b) in (
      gather_ascends (λ j z. branches n j z (arm_needs z all.arms)) 0 (k + length all.vars) (arm_names all.arms) (arms_ascend all.arms),
      arms_ordered part h asked k (two_branches a b),
    )
core_ordered p part h f n k asked (Guard x e free cs) =
    let all = walk_arms part asked k (branches_of free cs) in (
      put_ascends 0 x (mailbox_type (var_interface p f x) Receiving e Returnable) (arms_gathered n (k + length all.vars) all.arms).needs (omega arith)
          (gather_ascends (λ j z. branches n j z (arm_needs z all.arms)) 0 (k + length all.vars) (arm_names all.arms) (arms_ascend all.arms)),
      arms_ordered part h asked k (branches_of free cs),
    )

walk_ordered : (p : Program) (levels : ℕ) → PartOrdered (walk levels p)
walk_ordered p zero m asked k = (tt, tt)
walk_ordered p (suc levels) m asked k = go (walk_ordered p levels) (node_at p m)
  where
    go : PartOrdered (walk levels p) → (o : Option Node) → NeedsAscend 0 (node_found p (walk levels p) m asked k o).needs × AllByRecursion (λ e. NeedsAscend 0 e.1.needs) (node_found p (walk levels p) m asked k o).nodes
    go rest None = (tt, tt)
    go rest (Some d) =
        let r : Found = core_found p (walk levels p) d.function m k asked d.core in
        let q = core_ordered p (walk levels p) rest d.function m k asked d.core in
        (q.0, all_snoc (λ e. NeedsAscend 0 e.1.needs) r.nodes (m, record { result = asked; needs = r.needs }) q.1 q.0)

functions_ordered : (p : Program) (f k : ℕ) (gs : List Function) → AllByRecursion (λ e. NeedsAscend 0 e.1.needs) (walk_functions p f k gs).nodes
functions_ordered p f k [] = tt
functions_ordered p f k (g ∷ gs) =
    let first : Found = walk_function p f g k in
    all_join (λ e. NeedsAscend 0 e.1.needs) first.nodes (walk_functions p (suc f) (k + length first.vars) gs).nodes
    (walk_ordered p (length p.nodes) g.body (open_result p f g) k).1
    (functions_ordered p (suc f) (k + length first.vars) gs)

pub needs_ordered : NeedsOrdered
needs_ordered p = functions_ordered p 0 (1 + length (signature_vars p)) p.functions
