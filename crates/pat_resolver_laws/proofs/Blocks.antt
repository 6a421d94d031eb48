-- Blocks of nodes: what holds of the nodes of a term, put together from what holds of those of its parts.
use Rattle.std.proofs.Common.{◌≡◌, ◌+◌, ◌≤◌, ℕ, zero, suc, Bool, true, false, nat_eq, List, [], ◌∷◌, ◌++◌, length, Some, refl, ap, sym, ◌∙◌, subst, arith, ⊎_elim, length-append}
use Rattle.std.specs.Prelude.{option_map, slice_get, map, if◌then◌else◌}
use Rattle.std.specs.List.{AllByRecursion}
use Rattle.std.proofs.lemmas.Bool.{or_cases, eqb-true, eq-eqb, ne_eqb}
use Rattle.pat_semantics_spec.specs.Values.{Kind}
use Rattle.pat_semantics_spec.specs.Programs.{Core, Node, Program, node_at, parts, binders, is_among, core_uses, option_uses, is_free_within}
use Rattle.pat_semantics_spec.specs.WellFormed.{HasKind, CoreKinds, IsPartOf, count_if, count_among, uses_as_part, bindings_in}
use Rattle.pat_resolver_spec.specs.Numbering.{node}
use Rattle.pat_resolver_laws.proofs.Counting.{Counts, counts_none, counts_one, counts_both, counts_as, among_append, uses_append, bindings_append, among_counted, counted_among, get_front, get_behind}

-- a part of a term: its node, the variables in scope there, and its kind
pub record Part : Type 0 where
  pub start : ℕ
  pub scope : List ℕ
  pub kind : Kind

abbrev pub starts : List Part → List ℕ
starts ps = map (λ c. c.start) ps

-- a term with these parts, that binds these variables, where those of the scope may be used
pub record TermFits (p : Program) (vars : List Kind) (scope : List ℕ) (k : Kind) (core : Core) (ps : List Part) (bs : List ℕ) : Type 0 where
  pub its_parts : (m : ℕ) → count_among m (parts core) ≡ count_among m (starts ps)
  pub its_binders : (x : ℕ) → count_among x (binders core) ≡ count_among x bs
  pub scoped : (free : ℕ → Bool) (x : ℕ) → AllByRecursion (λ c. free c.start ≡ true → is_among x c.scope ≡ true) ps → core_uses free x core ≡ true → is_among x scope ≡ true
  pub kinds : AllByRecursion (λ c. HasKind p c.start c.kind) ps → CoreKinds p vars k core

-- the nodes of the program from n on are these
abbrev pub From : Program → ℕ → List Node → Type 0
From p n nodes = (i : ℕ) (d : Node) → slice_get nodes i ≡ Some d → node_at p (n + i) ≡ Some d

pub from_first : (p : Program) (n : ℕ) (xs ys : List Node) → From p n (xs ++ ys) → From p n xs
from_first p n xs ys from i d e = from i d (get_front xs ys i d e)

pub from_second : (p : Program) (n m : ℕ) (xs ys : List Node) → n + length xs ≡ m → From p n (xs ++ ys) → From p m ys
from_second p n m xs ys same from i d e =
    let number : n + (length xs + i) ≡ m + i = omega (arith, same) in
    sym (ap (node_at p) number) ∙ from (length xs + i) d (get_behind xs ys i ∙ e)

pub from_next : (p : Program) (n : ℕ) (x : Node) (ys : List Node) → From p n (x ∷ ys) → From p (suc n) ys
from_next p n x ys from i d e =
    let number : n + suc i ≡ suc n + i = omega arith in
    sym (ap (node_at p) number) ∙ from (suc i) d e

pub from_here : (p : Program) (n : ℕ) (x : Node) (ys : List Node) → From p n (x ∷ ys) → node_at p n ≡ Some x
from_here p n x ys from = let number : n + 0 ≡ n = omega arith in sym (ap (node_at p) number) ∙ from 0 x refl

-- a node of function f whose parts come after it and are of f, and whose kinds are right
pub record NodeIsRight (p : Program) (vars : List Kind) (f n : ℕ) (d : Node) : Type 0 where
  pub of : d.function ≡ f
  pub parts_after : (k : ℕ) → is_among k (parts d.core) ≡ true → IsPartOf p n d k
  pub kinds : CoreKinds p vars d.kind d.core

abbrev pub NodesAreRight : Program → List Kind → ℕ → ℕ → List Node → Type 0
NodesAreRight p vars f n nodes = (i : ℕ) (d : Node) → slice_get nodes i ≡ Some d → NodeIsRight p vars f (n + i) d

-- what holds of each of two lists by number holds of both together
pub each_both : (P : ℕ → Node → Type 0) (xs ys : List Node) (n m : ℕ) → n + length xs ≡ m → ((i : ℕ) (d : Node) → slice_get xs i ≡ Some d → P (n + i) d) → ((i : ℕ) (d : Node) → slice_get ys i ≡ Some d → P (m + i) d) → (i : ℕ) (d : Node) → slice_get (xs ++ ys) i ≡ Some d → P (n + i) d
each_both P [] ys n m same l r i d e = let number : m + i ≡ n + i = omega (arith, same) in subst (λ j. P j d) number (r i d e)
each_both P (x ∷ xs) ys n m same l r zero d e = l zero d e
each_both P (x ∷ xs) ys n m same l r (suc i) d e =
    let number : suc n + i ≡ n + suc i = omega arith in
    subst (λ j. P j d) number (each_both P xs ys (suc n) m (omega (arith, same)) (λ j c h. let back : n + suc j ≡ suc n + j = omega arith in subst (λ q. P q c) back (l (suc j) c h)) r i d e)

-- a part is there, is of function f, and has its kind
pub record PartIsThere (p : Program) (f n : ℕ) (c : Part) : Type 0 where
  pub after : n ≤ c.start
  pub node : Node
  pub there : node_at p c.start ≡ Some node
  pub of : node.function ≡ f
  pub kind : node.kind ≡ c.kind

-- what holds where the nodes stand in the program
pub record Placed (p : Program) (vars : List Kind) (f : ℕ) (scope : List ℕ) (n : ℕ) (nodes : List Node) : Type 0 where
  pub scoped : (d x : ℕ) → is_free_within d p x n ≡ true → is_among x scope ≡ true
  pub right : NodesAreRight p vars f n nodes

-- the nodes of a term of this kind: from n on, with the variables from v up to w
pub record Block (p : Program) (vars : List Kind) (f : ℕ) (scope : List ℕ) (k : Kind) (n v w : ℕ) (nodes : List Node) : Type 0 where
  pub core : Core
  pub others : List Node
  pub first : nodes ≡ node f k core ∷ others
  pub uses : (m : ℕ) → Counts (uses_as_part m nodes) m (suc n) (n + length nodes)
  pub order : v ≤ w
  pub bindings : (x : ℕ) → Counts (bindings_in f x nodes) x v w
  pub elsewhere : (g x : ℕ) → (g ≡ f → ⊥) → bindings_in g x nodes ≡ 0
  pub placed : From p n nodes → Placed p vars f scope n nodes

-- what holds of parts where their nodes stand in the program
pub record PlacedParts (p : Program) (vars : List Kind) (f : ℕ) (n : ℕ) (ps : List Part) (nodes : List Node) : Type 0 where
  pub there : AllByRecursion (PartIsThere p f n) ps
  pub scoped : (d x : ℕ) → AllByRecursion (λ c. is_free_within d p x c.start ≡ true → is_among x c.scope ≡ true) ps
  pub right : NodesAreRight p vars f n nodes

-- the nodes of parts in a row, and the variables that are bound for them and in them
pub record Parts (p : Program) (vars : List Kind) (f : ℕ) (n v w : ℕ) (ps : List Part) (bs : List ℕ) (nodes : List Node) : Type 0 where
  pub uses : (m : ℕ) → Counts (count_among m (starts ps) + uses_as_part m nodes) m n (n + length nodes)
  pub order : v ≤ w
  pub bindings : (x : ℕ) → Counts (count_among x bs + bindings_in f x nodes) x v w
  pub elsewhere : (g x : ℕ) → (g ≡ f → ⊥) → bindings_in g x nodes ≡ 0
  pub placed : From p n nodes → PlacedParts p vars f n ps nodes

pub all_later : (p : Program) (f n m : ℕ) (ps : List Part) → m ≤ n → AllByRecursion (PartIsThere p f n) ps → AllByRecursion (PartIsThere p f m) ps
all_later p f n m [] h all = tt
all_later p f n m (c ∷ ps) h all =
    let c0 = all.0 in
    let late = c0.after in
    (record { after = omega (arith, h, late); node = c0.node; there = c0.there; of = c0.of; kind = c0.kind }, all_later p f n m ps h all.1)

pub have_kinds : (p : Program) (f n : ℕ) (ps : List Part) → AllByRecursion (PartIsThere p f n) ps → AllByRecursion (λ c. HasKind p c.start c.kind) ps
have_kinds p f n [] all = tt
have_kinds p f n (c ∷ ps) all = ((all.0.node, all.0.there, all.0.kind), have_kinds p f n ps all.1)

-- a part among these
pub part_there : (p : Program) (f n k : ℕ) (ps : List Part) → AllByRecursion (PartIsThere p f n) ps → is_among k (starts ps) ≡ true → (n ≤ k) × ((e : Node) × (node_at p k ≡ Some e) × (e.function ≡ f))
part_there p f n k [] all h = cc
part_there p f n k (c ∷ ps) all h =
    ⊎_elim
    (λ l. subst (λ j. (n ≤ j) × ((e : Node) × (node_at p j ≡ Some e) × (e.function ≡ f))) (sym (eqb-true k c.start l)) (all.0.after, (all.0.node, all.0.there, all.0.of)))
    (λ r. part_there p f n k ps all.1 r)
    (or_cases (nat_eq k c.start) (is_among k (starts ps)) h)

module _ (p : Program) (vars : List Kind) (f : ℕ) where
  -- ---- no part

  pub no_parts : (n v : ℕ) → Parts p vars f n v v [] [] []
  no_parts n v = record {
    uses = λ m. counts_as 0 0 m n n (n + 0) refl (omega arith) (counts_none m n);
    order = omega arith;
    bindings = λ x. counts_none x v;
    elsewhere = λ g x h. refl;
    placed = λ from. record { there = tt; scoped = λ d x. tt; right = λ i d e. cc };
  }

  -- ---- one part more, in front of others: the variables that are bound for it come first

  module _ (scope : List ℕ) (k : Kind) (n next v u x w : ℕ) (own bs : List ℕ) (nodes more : List Node) (ps : List Part) where
    pub one_part : v ≤ u → ((y : ℕ) → Counts (count_among y own) y v u) → n + length nodes ≡ next → Block p vars f scope k n u x nodes → Parts p vars f next x w ps bs more → Parts p vars f n v w (record { start = n; scope = scope; kind = k } ∷ ps) (own ++ bs) (nodes ++ more)
    one_part behind binds same b r =
        let long : length (nodes ++ more) ≡ length nodes + length more = length-append nodes more in
        let some : 1 ≤ length nodes = subst (λ ns. 1 ≤ length ns) (sym b.first) (omega arith) in
        let o = b.order in
        let q = r.order in
        record {
          uses = λ m.
              let both : count_if (nat_eq m n) + count_among m (starts ps) + uses_as_part m (nodes ++ more) ≡ (count_if (nat_eq m n) + uses_as_part m nodes) + (count_among m (starts ps) + uses_as_part m more) =
              (let a = uses_append m nodes more in omega (arith, a)) in
              counts_both (count_if (nat_eq m n) + uses_as_part m nodes) (count_among m (starts ps) + uses_as_part m more) (count_if (nat_eq m n) + count_among m (starts ps) + uses_as_part m (nodes ++ more)) m n next (n + length (nodes ++ more))
              (omega (arith, same)) (omega (arith, same, long))
              (counts_as (count_if (nat_eq m n) + uses_as_part m nodes) (count_if (nat_eq m n) + uses_as_part m nodes) m n (n + length nodes) next refl same
              (counts_both (count_if (nat_eq m n)) (uses_as_part m nodes) (count_if (nat_eq m n) + uses_as_part m nodes) m n (suc n) (n + length nodes) (omega arith) (omega (arith, some)) (counts_one m n) (b.uses m) refl))
              (counts_as (count_among m (starts ps) + uses_as_part m more) (count_among m (starts ps) + uses_as_part m more) m next (next + length more) (n + length (nodes ++ more)) refl (omega (arith, same, long)) (r.uses m))
              both;
          order = omega (arith, behind, o, q);
          bindings = λ y.
              let a = among_append y own bs in
              let c = bindings_append f y nodes more in
              let both : count_among y (own ++ bs) + bindings_in f y (nodes ++ more) ≡ (count_among y own + bindings_in f y nodes) + (count_among y bs + bindings_in f y more) = omega (arith, a, c) in
              counts_both (count_among y own + bindings_in f y nodes) (count_among y bs + bindings_in f y more) (count_among y (own ++ bs) + bindings_in f y (nodes ++ more)) y v x w
              (omega (arith, behind, o)) q
              (counts_both (count_among y own) (bindings_in f y nodes) (count_among y own + bindings_in f y nodes) y v u x behind o (binds y) (b.bindings y) refl)
              (r.bindings y)
              both;
          elsewhere = λ g y h. let a = bindings_append g y nodes more in let c = b.elsewhere g y h in let d = r.elsewhere g y h in omega (arith, a, c, d);
          placed = λ from. put (from_first p n nodes more from) (b.placed (from_first p n nodes more from)) (r.placed (from_second p n next nodes more same from));
        }
      where
        put : From p n nodes → Placed p vars f scope n nodes → PlacedParts p vars f next ps more → PlacedParts p vars f n (record { start = n; scope = scope; kind = k } ∷ ps) (nodes ++ more)
        put from here there = record {
          there = (
            record {
              after = omega arith;
              node = node f k b.core;
              there = from_here p n (node f k b.core) b.others (subst (From p n) b.first from);
              of = refl;
              kind = refl;
            },
            all_later p f next n ps (omega (arith, same)) there.there,
          );
          scoped = λ d y. (here.scoped d y, there.scoped d y);
          right = each_both (NodeIsRight p vars f) nodes more n next same here.right there.right;
        }

  -- ---- a node in front of its parts

  module _ (scope : List ℕ) (k : Kind) (n v w : ℕ) (core : Core) (ps : List Part) (bs : List ℕ) (nodes : List Node) where
    placed_block : TermFits p vars scope k core ps bs → From p n (node f k core ∷ nodes) → PlacedParts p vars f (suc n) ps nodes → Placed p vars f scope n (node f k core ∷ nodes)
    placed_block fits from below = record {
      scoped = uses;
      right = right;
    }
      where
        here : node_at p n ≡ Some (node f k core)
        here = from_here p n (node f k core) nodes from

        uses : (d x : ℕ) → is_free_within d p x n ≡ true → is_among x scope ≡ true
        uses zero x e = cc
        uses (suc d) x e = fits.scoped (is_free_within d p x) x (below.scoped d x) (sym (ap (λ o. option_uses (is_free_within d p x) x (option_map (λ (d : Node). d.core) o)) here) ∙ e)

        among : (m : ℕ) → is_among m (parts core) ≡ true → is_among m (starts ps) ≡ true
        among m h = let c = among_counted m (parts core) h in let same = fits.its_parts m in counted_among m (starts ps) (omega (arith, c, same))

        after : (m : ℕ) → is_among m (parts core) ≡ true → IsPartOf p n (node f k core) m
        after m h = let c = part_there p f (suc n) m ps below.there (among m h) in let l = c.0 in (omega (arith, l), c.1)

        first : NodeIsRight p vars f (n + 0) (node f k core)
        first = let same : n ≡ n + 0 = omega arith in
            subst (λ m. NodeIsRight p vars f m (node f k core)) same (record { of = refl; parts_after = after; kinds = fits.kinds (have_kinds p f (suc n) ps below.there) })

        right : NodesAreRight p vars f n (node f k core ∷ nodes)
        right zero d e = let same : node f k core ≡ d = cc in subst (NodeIsRight p vars f (n + 0)) same first
        right (suc i) d e = let same : suc n + i ≡ n + suc i = omega arith in subst (λ m. NodeIsRight p vars f m d) same (below.right i d e)

    pub block : TermFits p vars scope k core ps bs → Parts p vars f (suc n) v w ps bs nodes → Block p vars f scope k n v w (node f k core ∷ nodes)
    block fits r = record {
      core = core;
      others = nodes;
      first = refl;
      uses = λ m. let e = fits.its_parts m in counts_as (count_among m (parts core) + uses_as_part m nodes) (count_among m (starts ps) + uses_as_part m nodes) m (suc n) (suc n + length nodes) (n + suc (length nodes)) (omega (arith, e)) (omega arith) (r.uses m);
      order = r.order;
      bindings = λ x. own x (r.bindings x);
      elsewhere = λ g x h. let e = r.elsewhere g x h in away g x h e;
      placed = λ from. placed_block fits from (r.placed (from_next p n (node f k core) nodes from));
    }
      where
        own : (x : ℕ) → Counts (count_among x bs + bindings_in f x nodes) x v w → Counts ((if nat_eq f f then count_among x (binders core) else 0) + bindings_in f x nodes) x v w
        own x c =
            let e = fits.its_binders x in
            let test : nat_eq f f ≡ true = eq-eqb f f refl in
            let same : (if nat_eq f f then count_among x (binders core) else 0) ≡ count_among x (binders core) = ap (λ t. if t then count_among x (binders core) else 0) test in
            counts_as ((if nat_eq f f then count_among x (binders core) else 0) + bindings_in f x nodes) (count_among x bs + bindings_in f x nodes) x v w w (omega (arith, e, same)) refl c

        away : (g x : ℕ) → (g ≡ f → ⊥) → bindings_in g x nodes ≡ 0 → (if nat_eq f g then count_among x (binders core) else 0) + bindings_in g x nodes ≡ 0
        away g x h e =
            let test : nat_eq f g ≡ false = ne_eqb f g (λ q. h (sym q)) in
            let same : (if nat_eq f g then count_among x (binders core) else 0) ≡ 0 = ap (λ t. if t then count_among x (binders core) else 0) test in
            omega (arith, e, same)
