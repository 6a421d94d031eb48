-- The nodes that a walk finds: each once, those below what is walked, and each of those.
use Rattle.std.proofs.Common.{◌≡◌, ℕ, zero, suc, ◌+◌, ◌≤◌, ◌<◌, Bool, true, false, ◌||◌, cond, nat_eq, nat_lt, List, [], ◌∷◌, ◌++◌, length, Option, Some, None, refl, sym, ap, ◌∙◌, subst, arith, ◌⊎◌, inl, inr, ⊎_elim}
use Rattle.std.specs.Prelude.{is_some, slice_get}
use Rattle.std.specs.Map.{lookup}
use Rattle.std.specs.List.{AllByRecursion}
use Rattle.std.proofs.lemmas.Bool.{cond_both, cond-true, or_left, or_right, or_cases, eq-eqb, eqb-true, cases_Bool}
use Rattle.std.proofs.lemmas.Option.{slice_get_within}
use Rattle.pat_semantics_spec.specs.Programs.{Sending, Receiving, Function, Clause, Core, Val, Let, Call, If, Print, New, Send, Spawn, Guard, Node, Program, node_at, function_at, is_among, parts, option_list, clause_bodies}
use Rattle.pat_semantics_spec.specs.WellFormed.{WellFormed, count_if, count_among, uses_as_body, uses_as_part}
use Rattle.pat_semantics_spec.specs.Values.{BaseUnit}
use Rattle.pat_semantics_laws.proofs.Lists.{clash, all_snoc, all_join, append_among, among_first, among_second, among_head, count_here, among_counted}
use Rattle.pat_type_system_spec.specs.Types.{TypeOf, BaseTerm, MailboxTerm}
use Rattle.pat_type_schemes_spec.specs.Signatures.{open_result}
use Rattle.pat_type_schemes_spec.specs.NodeTypes.{NodeType}
use Rattle.pat_infer_spec.specs.Constraints.{Found}
use Rattle.pat_infer_spec.specs.Branches.{Branch}
use Rattle.pat_infer_spec.specs.Walk.{asked_of, name_need, walk_function, walk_functions, Part, walk_arms, two_branches, clause_branch, branches_of, call_found, new_found, core_found, with_node, node_found, walk}
use Rattle.pat_infer_laws.proofs.Gathering.{all_map, all_with}

-- ---- parts and what is below them

-- k is a part of node m
abbrev pub PartAt : Program → ℕ → ℕ → Type 0
PartAt p m k = (d : Node) × (node_at p m ≡ Some d) × (is_among k (parts d.core) ≡ true)

-- k is n, or a part of a node below n
pub data Below (p : Program) (n : ℕ) : ℕ → Type 0 where
  itself : (k : ℕ) → k ≡ n → Below p n k
  under : (k m : ℕ) → Below p n m → PartAt p m k → Below p n k

part_counted : (k : ℕ) (ds : List Node) (j : ℕ) (d : Node) → slice_get ds j ≡ Some d → is_among k (parts d.core) ≡ true → 1 ≤ uses_as_part k ds
part_counted k [] j d h a = cc
part_counted k (x ∷ xs) zero d h a =
    let same : x ≡ d = cc in
    let here = count_here k (parts x.core) (subst (λ (w : Node). is_among k (parts w.core) ≡ true) (sym same) a) in
    omega arith
part_counted k (x ∷ xs) (suc j) d h a = let rest = part_counted k xs j d h a in omega arith

part_twice : (k : ℕ) (ds : List Node) (j n : ℕ) (d e : Node) → j < n → slice_get ds j ≡ Some d → slice_get ds n ≡ Some e → is_among k (parts d.core) ≡ true → is_among k (parts e.core) ≡ true → 2 ≤ uses_as_part k ds
part_twice k [] j n d e l h g a b = cc
part_twice k (x ∷ xs) j zero d e l h g a b = absurd (omega arith)
part_twice k (x ∷ xs) zero (suc n) d e l h g a b =
    let same : x ≡ d = cc in
    let here = count_here k (parts x.core) (subst (λ (w : Node). is_among k (parts w.core) ≡ true) (sym same) a) in
    let rest = part_counted k xs n e g b in
    omega arith
part_twice k (x ∷ xs) (suc j) (suc n) d e l h g a b = let rest = part_twice k xs j n d e (omega arith) h g a b in omega arith

body_counted : (fs : List Function) (f : ℕ) (g : Function) → slice_get fs f ≡ Some g → 1 ≤ uses_as_body g.body fs
body_counted [] f g h = cc
body_counted (x ∷ xs) zero g h =
    let same : x ≡ g = cc in
    let one : count_if (nat_eq g.body x.body) ≡ 1 = ap count_if (eq-eqb g.body x.body (ap (λ (w : Function). w.body) (sym same))) in
    omega arith
body_counted (x ∷ xs) (suc f) g h = let rest = body_counted xs f g h in omega arith

three_ways : (a b : ℕ) → (a < b) ⊎ ((a ≡ b) ⊎ (b < a))
three_ways zero zero = inr (inl refl)
three_ways zero (suc b) = inl (omega arith)
three_ways (suc a) zero = inr (inr (omega arith))
three_ways (suc a) (suc b) =
    ⊎_elim (λ l. inl (omega arith)) (λ r. ⊎_elim (λ e. inr (inl (ap suc e))) (λ g. inr (inr (omega arith))) r) (three_ways a b)

module _ (p : Program) (wf : WellFormed p) where
  -- a part is there, and is used once
  pub part_once : (m k : ℕ) → PartAt p m k → (m < k) × (uses_as_body k p.functions + uses_as_part k p.nodes ≡ 1)
  part_once m k (d, at, on) =
      let q = (wf.nodes m d at).parts_after k on in
      (q.0, (wf.nodes k q.1.0 q.1.1).once)

  -- a part is one of one node
  one_parent : (m l k : ℕ) → PartAt p m k → PartAt p l k → m ≡ l
  one_parent m l k (d, at, on) (e, there, on') =
      let once = (part_once m k (d, at, on)).1 in
      ⊎_elim
      (λ below. let two = part_twice k p.nodes m l d e below at there on on' in absurd (omega arith))
      (λ r. ⊎_elim (λ same. same) (λ above. let two = part_twice k p.nodes l m e d above there at on' on in absurd (omega arith)) r)
      (three_ways m l)

  pub below_after : (n k : ℕ) → Below p n k → n ≤ k
  below_after n k (itself _ e) = omega arith
  below_after n k (under _ m b part) =
      let up = below_after n m b in
      let after = (part_once m k part).0 in
      omega arith

  -- of two nodes above one, one is above the other
  cross : (a b k : ℕ) → Below p a k → Below p b k → Below p a b ⊎ Below p b a
  cross a b k (itself _ e) q = inr (subst (Below p b) e q)
  cross a b k (under _ m r part) (itself _ e) = inl (subst (Below p a) e (under k m r part))
  cross a b k (under _ m r part) (under _ l t part') =
      let same : l ≡ m = one_parent l m k part' part in
      cross a b m r (subst (Below p b) same t)

  -- a part of a node isn't below another part of it
  not_below : (n a b : ℕ) → PartAt p n a → PartAt p n b → (a ≡ b → ⊥) → Below p a b → ⊥
  not_below n a b pa pb apart (itself _ e) = apart (sym e)
  not_below n a b pa pb apart (under _ m r part) =
      let same : m ≡ n = one_parent m n b part pb in
      let up : a ≤ n = below_after a n (subst (Below p a) same r) in
      let after = (part_once n a pa).0 in
      omega arith

  pub parts_apart : (n a b k : ℕ) → PartAt p n a → PartAt p n b → (a ≡ b → ⊥) → Below p a k → Below p b k → ⊥
  parts_apart n a b k pa pb apart ba bb =
      ⊎_elim (λ l. not_below n a b pa pb apart l) (λ r. not_below n b a pb pa (λ e. apart (sym e)) r) (cross a b k ba bb)

  -- a body of a function is below no body of another
  body_not_below : (f h : ℕ) (g e : Function) → function_at p f ≡ Some g → function_at p h ≡ Some e → (f ≡ h → ⊥) → Below p g.body e.body → ⊥
  body_not_below f h g e at there apart (itself _ same) =
      let bg = (wf.functions f g at).body in
      let be = (wf.functions h e there).body in
      let again : Some be.0 ≡ Some bg.0 = sym be.1 ∙ ap (node_at p) same ∙ bg.1 in
      let node : be.0 ≡ bg.0 = cc in
      apart (sym bg.2 ∙ ap (λ (w : Node). w.function) (sym node) ∙ be.2)
  body_not_below f h g e at there apart (under _ m r (d, dat, on)) =
      let once = (part_once m e.body (d, dat, on)).1 in
      let body = body_counted p.functions h e there in
      let part = part_counted e.body p.nodes m d dat on in
      absurd (omega arith)

  pub bodies_apart : (f h : ℕ) (g e : Function) (k : ℕ) → function_at p f ≡ Some g → function_at p h ≡ Some e → (f ≡ h → ⊥) → Below p g.body k → Below p e.body k → ⊥
  bodies_apart f h g e k at there apart bg be =
      ⊎_elim (λ l. body_not_below f h g e at there apart l) (λ r. body_not_below h f e g there at (λ q. apart (sym q)) r) (cross g.body e.body k bg be)

-- ---- found nodes

-- a node of this number was found
abbrev pub HasEntry : List (ℕ × NodeType) → ℕ → Type 0
HasEntry nodes k = is_some (lookup (nat_eq k) nodes) ≡ true

-- the look-up of each found node gives it
abbrev pub Unique : List (ℕ × NodeType) → Type 0
Unique nodes = AllByRecursion (λ e. lookup (nat_eq e.0) nodes ≡ Some e.1) nodes

-- the parts of each found node were found
abbrev pub Closed : Program → List (ℕ × NodeType) → Type 0
Closed p nodes = AllByRecursion (λ e. (k : ℕ) → PartAt p e.0 k → HasEntry nodes k) nodes

-- nodes that were found of these parts: all below them, each once, the parts among them, and with each its parts
pub record Block (p : Program) (ks : List ℕ) (nodes : List (ℕ × NodeType)) : Type 0 where
  pub below : AllByRecursion (λ e. (k : ℕ) × (is_among k ks ≡ true) × Below p k e.0) nodes
  pub unique : Unique nodes
  pub there : (k : ℕ) → is_among k ks ≡ true → HasEntry nodes k
  pub closed : Closed p nodes

-- what is found of a key holds of its entry
pub looked_up : (P : (ℕ × NodeType) → Type 0) (xs : List (ℕ × NodeType)) (k : ℕ) (t : NodeType) → AllByRecursion P xs → lookup (nat_eq k) xs ≡ Some t → P (k, t)
looked_up P [] k t h e = cc
looked_up P (x ∷ xs) k t h e =
    (elim (nat_eq k x.0) as (λ b. nat_eq k x.0 ≡ b → cond b (Some x.1) (lookup (nat_eq k) xs) ≡ Some t → P (k, t)) [
      | true ↦ λ q w.
          let same : x.1 ≡ t = cc in
          subst (λ c. P (c, t)) (sym (eqb-true k x.0 q)) (subst (λ c. P (x.0, c)) same h.0)
      | false ↦ λ q w. looked_up P xs k t h.1 w
    ]) refl e

lookup_first : (xs ys : List (ℕ × NodeType)) (k : ℕ) (t : NodeType) → lookup (nat_eq k) xs ≡ Some t → lookup (nat_eq k) (xs ++ ys) ≡ Some t
lookup_first [] ys k t h = cc
lookup_first (x ∷ xs) ys k t h =
    (elim (nat_eq k x.0) as (λ b. cond b (Some x.1) (lookup (nat_eq k) xs) ≡ Some t → cond b (Some x.1) (lookup (nat_eq k) (xs ++ ys)) ≡ Some t) [
      | true ↦ λ w. w
      | false ↦ λ w. lookup_first xs ys k t w
    ]) h

lookup_second : (xs ys : List (ℕ × NodeType)) (k : ℕ) → lookup (nat_eq k) xs ≡ None → lookup (nat_eq k) (xs ++ ys) ≡ lookup (nat_eq k) ys
lookup_second [] ys k h = refl
lookup_second (x ∷ xs) ys k h =
    (elim (nat_eq k x.0) as (λ b. cond b (Some x.1) (lookup (nat_eq k) xs) ≡ None → cond b (Some x.1) (lookup (nat_eq k) (xs ++ ys)) ≡ lookup (nat_eq k) ys) [
      | true ↦ λ w. cc
      | false ↦ λ w. lookup_second xs ys k w
    ]) h

option_cases : {A : Type 0} (o : Option A) → ((a : A) × (o ≡ Some a)) ⊎ (o ≡ None)
option_cases None = inr refl
option_cases (Some a) = inl (a, refl)

pub some_there : {A : Type 0} (o : Option A) → is_some o ≡ true → (a : A) × (o ≡ Some a)
some_there None h = cc
some_there (Some a) h = (a, refl)

has_first : (xs ys : List (ℕ × NodeType)) (k : ℕ) → HasEntry xs k → HasEntry (xs ++ ys) k
has_first xs ys k h = let q = some_there (lookup (nat_eq k) xs) h in ap is_some (lookup_first xs ys k q.0 q.1)

has_second : (xs ys : List (ℕ × NodeType)) (k : ℕ) → HasEntry ys k → HasEntry (xs ++ ys) k
has_second xs ys k h =
    ⊎_elim
    (λ q. ap is_some (lookup_first xs ys k q.0 q.1))
    (λ q. ap is_some (lookup_second xs ys k q) ∙ h)
    (option_cases (lookup (nat_eq k) xs))

-- two blocks whose nodes are apart
pub block_join : (p : Program) (ks ls : List ℕ) (xs ys : List (ℕ × NodeType)) → ((k l n : ℕ) → is_among k ks ≡ true → is_among l ls ≡ true → Below p k n → Below p l n → ⊥) → Block p ks xs → Block p ls ys → Block p (ks ++ ls) (xs ++ ys)
block_join p ks ls xs ys apart bx by =
    let Bx : (ℕ × NodeType) → Type 0 = λ e. (k : ℕ) × (is_among k ks ≡ true) × Below p k e.0 in
    let By : (ℕ × NodeType) → Type 0 = λ e. (k : ℕ) × (is_among k ls ≡ true) × Below p k e.0 in
    let off : (e : ℕ × NodeType) → By e → lookup (nat_eq e.0) xs ≡ None =
    λ e b. ⊎_elim
    (λ q. let found = looked_up Bx xs e.0 q.0 bx.below q.1 in absurd (apart found.0 b.0 e.0 found.1 b.1 found.2 b.2))
    (λ q. q)
    (option_cases (lookup (nat_eq e.0) xs)) in
    record {
      below = all_join (λ e. (k : ℕ) × (is_among k (ks ++ ls) ≡ true) × Below p k e.0) xs ys
          (all_map Bx (λ e. (k : ℕ) × (is_among k (ks ++ ls) ≡ true) × Below p k e.0) (λ e b. (b.0, among_first b.0 ks ls b.1, b.2)) xs bx.below)
          (all_map By (λ e. (k : ℕ) × (is_among k (ks ++ ls) ≡ true) × Below p k e.0) (λ e b. (b.0, among_second b.0 ks ls b.1, b.2)) ys by.below);
      unique = all_join (λ e. lookup (nat_eq e.0) (xs ++ ys) ≡ Some e.1) xs ys
          (all_map (λ e. lookup (nat_eq e.0) xs ≡ Some e.1) (λ e. lookup (nat_eq e.0) (xs ++ ys) ≡ Some e.1) (λ e q. lookup_first xs ys e.0 e.1 q) xs bx.unique)
          (all_with By (λ e. lookup (nat_eq e.0) ys ≡ Some e.1) (λ e. lookup (nat_eq e.0) (xs ++ ys) ≡ Some e.1) (λ e b q. lookup_second xs ys e.0 (off e b) ∙ q) ys by.below by.unique);
      there = λ k on.
          ⊎_elim (λ l. has_first xs ys k (bx.there k l)) (λ r. has_second xs ys k (by.there k r)) (append_among k ks ls on);
      closed = all_join (λ e. (k : ℕ) → PartAt p e.0 k → HasEntry (xs ++ ys) k) xs ys
          (all_map (λ e. (k : ℕ) → PartAt p e.0 k → HasEntry xs k) (λ e. (k : ℕ) → PartAt p e.0 k → HasEntry (xs ++ ys) k) (λ e f k q. has_first xs ys k (f k q)) xs bx.closed)
          (all_map (λ e. (k : ℕ) → PartAt p e.0 k → HasEntry ys k) (λ e. (k : ℕ) → PartAt p e.0 k → HasEntry (xs ++ ys) k) (λ e f k q. has_second xs ys k (f k q)) ys by.closed);
    }

-- the same parts, listed otherwise
block_same : (p : Program) (ks ls : List ℕ) (xs : List (ℕ × NodeType)) → ((k : ℕ) → is_among k ks ≡ true → is_among k ls ≡ true) → ((k : ℕ) → is_among k ls ≡ true → is_among k ks ≡ true) → Block p ks xs → Block p ls xs
block_same p ks ls xs into back b = record {
  below = all_map (λ e. (k : ℕ) × (is_among k ks ≡ true) × Below p k e.0) (λ e. (k : ℕ) × (is_among k ls ≡ true) × Below p k e.0) (λ e q. (q.0, into q.0 q.1, q.2)) xs b.below;
  unique = b.unique;
  there = λ k on. b.there k (back k on);
  closed = b.closed;
}

no_block : (p : Program) → Block p [] []
no_block p = record { below = tt; unique = tt; there = λ k on. cc; closed = tt }

-- a part whose walk finds a block
abbrev pub PartBlock : Program → Part → ℕ → Type 0
PartBlock p part m = (asked : TypeOf) (k : ℕ) → Block p (m ∷ []) (part m asked k).nodes

-- the bodies of branches
abbrev bodies : List Branch → List ℕ
bodies [] = []
bodies (b ∷ bs) = b.body ∷ bodies bs

-- the branches of a guard have its bodies
bodies_counted : (m : ℕ) (free : Option ℕ) (cs : List Clause) → count_among m (bodies (branches_of free cs)) ≡ count_among m (option_list free ++ clause_bodies cs)
bodies_counted m None [] = refl
bodies_counted m (Some k) [] = refl
bodies_counted m None (r ∷ cs) = ap (λ w. count_if (nat_eq m r.body) + w) (bodies_counted m None cs)
bodies_counted m (Some k) (r ∷ cs) =
    cond_both (nat_lt k r.body) (record { body = k; clause = None } ∷ clause_branch r ∷ branches_of None cs) (clause_branch r ∷ branches_of (Some k) cs)
    (λ bs. count_among m (bodies bs) ≡ count_if (nat_eq m k) + (count_if (nat_eq m r.body) + count_among m (clause_bodies cs)))
    (λ _. ap (λ w. count_if (nat_eq m k) + (count_if (nat_eq m r.body) + w)) (bodies_counted m None cs))
    (λ _. let rest : count_among m (bodies (branches_of (Some k) cs)) ≡ count_if (nat_eq m k) + count_among m (clause_bodies cs) = bodies_counted m (Some k) cs in omega arith)

-- what is counted at most once where it is there is counted at most once
counted_below : (m : ℕ) (ks : List ℕ) → (is_among m ks ≡ true → count_among m ks ≤ 1) → count_among m ks ≤ 1
counted_below m ks h =
    ⊎_elim (λ on. h on) (λ off. none_at (count_among m ks) (λ l. clash (among_counted m ks l) off)) (cases_Bool (is_among m ks))
  where
    none_at : (n : ℕ) → (1 ≤ n → ⊥) → n ≤ 1
    none_at zero h = omega arith
    none_at (suc n) h = absurd (h (omega arith))

one_among : (k m : ℕ) → is_among k (m ∷ []) ≡ true → k ≡ m
one_among k m on = ⊎_elim (λ q. eqb-true k m q) (λ q. cc) (or_cases (nat_eq k m) false on)

module _ (p : Program) (wf : WellFormed p) (n : ℕ) (d : Node) (at : node_at p n ≡ Some d) where
  -- different parts of the node have nothing in common
  apart_lists : (ks ls : List ℕ) → ((k : ℕ) → is_among k ks ≡ true → is_among k (parts d.core) ≡ true) → ((k : ℕ) → is_among k ls ≡ true → is_among k (parts d.core) ≡ true) → ((k : ℕ) → is_among k ks ≡ true → is_among k ls ≡ true → ⊥) → (k l m : ℕ) → is_among k ks ≡ true → is_among l ls ≡ true → Below p k m → Below p l m → ⊥
  apart_lists ks ls in_k in_l apart k l m on_k on_l bk bl =
      parts_apart p wf n k l m (d, at, in_k k on_k) (d, at, in_l l on_l) (λ e. apart k on_k (subst (λ w. is_among w ls ≡ true) (sym e) on_l)) bk bl

  -- a part of the node stands once among its parts
  counted_once : (k : ℕ) → is_among k (parts d.core) ≡ true → count_among k (parts d.core) ≤ 1
  counted_once k on =
      let once = (part_once p wf n k (d, at, on)).1 in
      let here = part_at_most k p.nodes n d at in
      omega arith
    where
      part_at_most : (k : ℕ) (ds : List Node) (j : ℕ) (e : Node) → slice_get ds j ≡ Some e → count_among k (parts e.core) ≤ uses_as_part k ds
      part_at_most k [] j e h = cc
      part_at_most k (x ∷ xs) zero e h =
          let same : x ≡ e = cc in
          let counted : count_among k (parts x.core) ≡ count_among k (parts e.core) = ap (λ (w : Node). count_among k (parts w.core)) same in
          omega arith
      part_at_most k (x ∷ xs) (suc j) e h = let rest = part_at_most k xs j e h in omega arith

  arms_block : (part : Part) (asked : TypeOf) (k : ℕ) (bs : List Branch) → ((m : ℕ) → is_among m (bodies bs) ≡ true → is_among m (parts d.core) ≡ true) → ((m : ℕ) → count_among m (bodies bs) ≤ 1) → ((m : ℕ) → is_among m (parts d.core) ≡ true → PartBlock p part m) → Block p (bodies bs) (walk_arms part asked k bs).nodes
  arms_block part asked k [] inside once blocks = no_block p
  arms_block part asked k (b ∷ bs) inside once blocks =
      let first : Found = part b.body asked k in
      let rest = walk_arms part asked (k + length first.vars) bs in
      let here : is_among b.body (parts d.core) ≡ true = inside b.body (among_head b.body (bodies bs)) in
      block_join p (b.body ∷ []) (bodies bs) first.nodes rest.nodes
      (apart_lists (b.body ∷ []) (bodies bs)
      (λ m on. subst (λ w. is_among w (parts d.core) ≡ true) (sym (one_among m b.body on)) here)
      (λ m on. inside m (or_right (nat_eq m b.body) (is_among m (bodies bs)) on))
      (λ m on on'.
      let same = one_among m b.body on in
      let most : count_if (nat_eq m b.body) + count_among m (bodies bs) ≤ 1 = once m in
      let one : count_if (nat_eq m b.body) ≡ 1 = ap count_if (eq-eqb m b.body same) in
      let more = count_here m (bodies bs) on' in
      omega arith))
      (blocks b.body here asked k)
      (arms_block part asked (k + length first.vars) bs (λ m on. inside m (or_right (nat_eq m b.body) (is_among m (bodies bs)) on))
      (λ m. let most : count_if (nat_eq m b.body) + count_among m (bodies bs) ≤ 1 = once m in omega arith) blocks)

  -- the nodes that are found of the node's term
  core_block : (part : Part) (asked : TypeOf) (k : ℕ) (core : Core) → d.core ≡ core → ((m : ℕ) → is_among m (parts core) ≡ true → PartBlock p part m) → Block p (parts core) (core_found p part d.function n k asked core).nodes
  core_block part asked k (Val e) is blocks = no_block p
  core_block part asked k (Print e) is blocks = no_block p
  core_block part asked k (New i) is blocks = new_block asked
    where
      new_block : (asked : TypeOf) → Block p [] (new_found n i asked).nodes
      new_block (BaseTerm b) = no_block p
      new_block (MailboxTerm j Sending e) = no_block p
      new_block (MailboxTerm j Receiving e) = no_block p
  core_block part asked k (Call f args) is blocks = call_block (function_at p f)
    where
      call_block : (o : Option Function) → Block p [] (call_found p n asked f args o).nodes
      call_block None = no_block p
      call_block (Some g) = no_block p
  core_block part asked k (Send x m args) is blocks = no_block p
  core_block part asked k (Spawn m) is blocks = blocks m (among_head m []) (BaseTerm BaseUnit) k
  core_block part asked k (Let x m b) is blocks =
      let body : Found = part b asked k in
      let j : ℕ = k + length body.vars in
      let wanted : TypeOf = asked_of (node_at p m) (name_need x body.needs) in
      let bound : Found = part m wanted j in
      let among : (k : ℕ) → is_among k (m ∷ b ∷ []) ≡ true → is_among k (parts d.core) ≡ true = λ k on. ap (λ c. is_among k (parts c)) is ∙ on in
      let on_m : is_among m (m ∷ b ∷ []) ≡ true = among_head m (b ∷ []) in
      let on_b : is_among b (m ∷ b ∷ []) ≡ true = or_right (nat_eq b m) (is_among b (b ∷ [])) (among_head b []) in
      let different : b ≡ m → ⊥ =
      λ e.
      let most : count_among b (parts d.core) ≤ 1 = counted_once b (among b on_b) in
      let same : count_among b (parts d.core) ≡ count_if (nat_eq b m) + (count_if (nat_eq b b) + 0) = ap (λ c. count_among b (parts c)) is in
      let one : count_if (nat_eq b m) ≡ 1 = ap count_if (eq-eqb b m e) in
      let two : count_if (nat_eq b b) ≡ 1 = ap count_if (eq-eqb b b refl) in
      omega arith in
      block_same p (b ∷ m ∷ []) (m ∷ b ∷ []) (body.nodes ++ bound.nodes)
      (λ k on. swap (nat_eq k b) (nat_eq k m) on) (λ k on. swap (nat_eq k m) (nat_eq k b) on)
      (block_join p (b ∷ []) (m ∷ []) body.nodes bound.nodes
      (apart_lists (b ∷ []) (m ∷ [])
      (λ k on. subst (λ w. is_among w (parts d.core) ≡ true) (sym (one_among k b on)) (among b on_b))
      (λ k on. subst (λ w. is_among w (parts d.core) ≡ true) (sym (one_among k m on)) (among m on_m))
      (λ k on on'. different (sym (one_among k b on) ∙ one_among k m on')))
      (blocks b on_b asked k)
      (blocks m on_m wanted j))
    where
      swap : (a b : Bool) → (a || (b || false)) ≡ true → (b || (a || false)) ≡ true
      swap true true h = refl
      swap true false h = refl
      swap false true h = refl
      swap false false h = h
  core_block part asked k (If e a b) is blocks =
      arms_block part asked k (two_branches a b)
      (λ m on. ap (λ c. is_among m (parts c)) is ∙ on)
      (λ m. at_most m (parts d.core) (ap parts is) (counted_once m))
      (λ m on. blocks m (ap (λ c. is_among m (parts c)) (sym is) ∙ on))
    where
      at_most : (m : ℕ) (ks : List ℕ) → ks ≡ a ∷ b ∷ [] → (is_among m ks ≡ true → count_among m ks ≤ 1) → count_among m (a ∷ b ∷ []) ≤ 1
      at_most m ks same h = subst (λ l. count_among m l ≤ 1) same (counted_below m ks h)
  core_block part asked k (Guard x e free cs) is blocks =
      let inside : (m : ℕ) → is_among m (bodies (branches_of free cs)) ≡ true → is_among m (option_list free ++ clause_bodies cs) ≡ true =
      λ m on. let some = count_here m (bodies (branches_of free cs)) on in let same = bodies_counted m free cs in among_counted m (option_list free ++ clause_bodies cs) (omega arith) in
      let back : (m : ℕ) → is_among m (option_list free ++ clause_bodies cs) ≡ true → is_among m (bodies (branches_of free cs)) ≡ true =
      λ m on. let some = count_here m (option_list free ++ clause_bodies cs) on in let same = bodies_counted m free cs in among_counted m (bodies (branches_of free cs)) (omega arith) in
      block_same p (bodies (branches_of free cs)) (option_list free ++ clause_bodies cs) (walk_arms part asked k (branches_of free cs)).nodes inside back
      (arms_block part asked k (branches_of free cs)
      (λ m on. ap (λ c. is_among m (parts c)) is ∙ inside m on)
      (λ m. let same = bodies_counted m free cs in let most = subst (λ l. count_among m l ≤ 1) (ap parts is) (counted_below m (parts d.core) (counted_once m)) in let sum : count_among m (option_list free ++ clause_bodies cs) ≤ 1 = most in omega arith)
      (λ m on. blocks m (ap (λ c. is_among m (parts c)) (sym is) ∙ on)))

-- a node with its parts
node_block : (p : Program) (wf : WellFormed p) (n : ℕ) (d : Node) (asked : TypeOf) (r : Found) → node_at p n ≡ Some d → Block p (parts d.core) r.nodes → Block p (n ∷ []) (with_node n asked r).nodes
node_block p wf n d asked r at b =
    let t : NodeType = record { result = asked; needs = r.needs } in
    let own : List (ℕ × NodeType) = (n, t) ∷ [] in
    let In : (ℕ × NodeType) → Type 0 = λ e. (k : ℕ) × (is_among k (parts d.core) ≡ true) × Below p k e.0 in
    let new : lookup (nat_eq n) r.nodes ≡ None =
    ⊎_elim
    (λ q.
    let inside = looked_up In r.nodes n q.0 b.below q.1 in
    let first = (part_once p wf n inside.0 (d, at, inside.1)).0 in
    let after = below_after p wf inside.0 n inside.2 in
    absurd (omega arith))
    (λ q. q)
    (option_cases (lookup (nat_eq n) r.nodes)) in
    let here : lookup (nat_eq n) (r.nodes ++ own) ≡ Some t =
    lookup_second r.nodes own n new ∙ cond-true (nat_eq n n) (Some t) None (eq-eqb n n refl) in
    record {
      below = all_snoc (λ e. (k : ℕ) × (is_among k (n ∷ []) ≡ true) × Below p k e.0) r.nodes (n, t)
          (all_map In (λ e. (k : ℕ) × (is_among k (n ∷ []) ≡ true) × Below p k e.0)
          (λ e q. (n, or_left (nat_eq n n) false (eq-eqb n n refl), above q.0 e.0 q.1 q.2)) r.nodes b.below)
          (n, or_left (nat_eq n n) false (eq-eqb n n refl), itself n refl);
      unique = all_snoc (λ e. lookup (nat_eq e.0) (r.nodes ++ own) ≡ Some e.1) r.nodes (n, t)
          (all_map (λ e. lookup (nat_eq e.0) r.nodes ≡ Some e.1) (λ e. lookup (nat_eq e.0) (r.nodes ++ own) ≡ Some e.1) (λ e h. lookup_first r.nodes own e.0 e.1 h) r.nodes b.unique)
          here;
      there = λ k on. let same = one_among k n on in subst (λ w. HasEntry (r.nodes ++ own) w) (sym same) (ap is_some here);
      closed = all_snoc (λ e. (k : ℕ) → PartAt p e.0 k → HasEntry (r.nodes ++ own) k) r.nodes (n, t)
          (all_map (λ e. (k : ℕ) → PartAt p e.0 k → HasEntry r.nodes k) (λ e. (k : ℕ) → PartAt p e.0 k → HasEntry (r.nodes ++ own) k) (λ e f k q. has_first r.nodes own k (f k q)) r.nodes b.closed)
          (λ k q. has_first r.nodes own k (b.there k (own_part k q)));
    }
  where
    own_part : (k : ℕ) → PartAt p n k → is_among k (parts d.core) ≡ true
    own_part k (e, there, on) = let same : e ≡ d = cc in subst (λ (w : Node). is_among k (parts w.core) ≡ true) same on

    above : (m k : ℕ) → is_among m (parts d.core) ≡ true → Below p m k → Below p n k
    above m k on (itself _ e) = under k n (itself n refl) (subst (PartAt p n) (sym e) (d, at, on))
    above m k on (under _ l b part) = under k l (above m l on b) part

-- the walk of a node, with levels enough for all that comes after it
pub walk_block : (p : Program) (wf : WellFormed p) (levels n : ℕ) (d : Node) → node_at p n ≡ Some d → length p.nodes ≤ levels + n → PartBlock p (walk levels p) n
walk_block p wf zero n d at enough asked k =
    let within = slice_get_within p.nodes n d at in absurd (omega arith)
walk_block p wf (suc levels) n d at enough asked k =
    let r : Found = core_found p (walk levels p) d.function n k asked d.core in
    subst (λ o. Block p (n ∷ []) (node_found p (walk levels p) n asked k o).nodes) (sym at)
    (node_block p wf n d asked r at
    (core_block p wf n d at (walk levels p) asked k d.core refl
    (λ m on.
    let q = (wf.nodes n d at).parts_after m on in
    let after = q.0 in
    walk_block p wf levels m q.1.0 q.1.1 (omega arith))))

-- the bodies of functions, from a list of them
abbrev pub function_bodies : List Function → List ℕ
function_bodies [] = []
function_bodies (g ∷ gs) = g.body ∷ function_bodies gs

body_of : (gs : List Function) (k : ℕ) → is_among k (function_bodies gs) ≡ true → (j : ℕ) × (g : Function) × (slice_get gs j ≡ Some g) × (g.body ≡ k)
body_of [] k on = cc
body_of (g ∷ gs) k on =
    ⊎_elim
    (λ here. (0, g, refl, sym (eqb-true k g.body here)))
    (λ later. let q = body_of gs k later in (suc q.0, q.1, q.2, q.3))
    (or_cases (nat_eq k g.body) (is_among k (function_bodies gs)) on)

pub functions_block : (p : Program) (wf : WellFormed p) (f k : ℕ) (gs : List Function) → ((j : ℕ) (g : Function) → slice_get gs j ≡ Some g → function_at p (f + j) ≡ Some g) → Block p (function_bodies gs) (walk_functions p f k gs).nodes
functions_block p wf f k [] there = no_block p
functions_block p wf f k (g ∷ gs) there =
    let first : Found = walk_function p f g k in
    let rest : Found = walk_functions p (suc f) (k + length first.vars) gs in
    let place : f + 0 ≡ f = omega arith in
    let at : function_at p f ≡ Some g = subst (λ n. function_at p n ≡ Some g) place (there 0 g refl) in
    let body = (wf.functions f g at).body in
    let next : (j : ℕ) (e : Function) → slice_get gs j ≡ Some e → function_at p (suc f + j) ≡ Some e =
    λ j e is. let step : f + suc j ≡ suc f + j = omega arith in subst (λ n. function_at p n ≡ Some e) step (there (suc j) e is) in
    block_join p (g.body ∷ []) (function_bodies gs) first.nodes rest.nodes
    (λ a b m on on' ba bb.
    let other = body_of gs b on' in
    bodies_apart p wf f (suc f + other.0) g other.1 m at (next other.0 other.1 other.2) (λ e. omega arith)
    (subst (λ w. Below p w m) (one_among a g.body on) ba)
    (subst (λ w. Below p w m) (sym other.3) bb))
    (walk_block p wf (length p.nodes) g.body body.0 body.1 (omega arith) (open_result p f g) k)
    (functions_block p wf (suc f) (k + length first.vars) gs next)
