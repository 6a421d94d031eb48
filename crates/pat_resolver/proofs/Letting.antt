-- A let, and a chain of lets.
use Rattle.std.proofs.Common.{◌≡◌, ◌+◌, ◌-◌, ◌<◌, ℕ, zero, suc, get_or, List, [], ◌∷◌, ◌++◌, length, drop, map, Option, Some, None, refl, ap, sym, ◌∙◌, arith, append_assoc, length-append}
use Rattle.std.specs.Prelude.{slice_get, slice_set}
use Rattle.std.proofs.lemmas.List.{length-map}
use Rattle.std.proofs.lemmas.Option.{slice_get_within}
use Rattle.std.proofs.Math.Seq.{drop-append_seam}
use Rattle.pat_semantics_spec.specs.Values.{Kind}
use Rattle.pat_semantics_spec.specs.Programs.{Let, Node}
use Rattle.pat_parser_spec.specs.Trees as tree
use Rattle.pat_resolver_spec.specs.Findings.{binders_in, kind_of_term}
use Rattle.pat_resolver_spec.specs.Places.{node_places}
use Rattle.pat_resolver_spec.specs.Numbering.{node, nodes_in, nodes_of, vars_of}
use Rattle.pat_resolver_laws.proofs.Binding.{has_first, has_second, has_here, has_next, vars_length, nodes_length}
use Rattle.pat_core.specs.Views.{kind_view, node_view}
use Rattle.pat_core.specs.declared.program.Kind.{Kind as CodeKind}
use Rattle.pat_core.specs.declared.program.Node.{Node as CodeNode}
use Rattle.pat_resolver_heads.specs.tables.Views.{scope_view}
use Rattle.pat_resolver_heads.specs.declared.tables.scope.Variable.{Variable}
use Rattle.pat_resolver_heads.specs.Views.{heads_view}
use Rattle.pat_resolver.specs.numbering.Kinds.{HasAt}
use Rattle.pat_resolver.specs.numbering.Progress.{node_place, kinds_of, Adds, TermFits, AddsTerm, LetFits, AddsLet, first_within, bound_kind, let_variable, own_kinds, body_scope}
use Rattle.pat_resolver.specs.declared.numbering.state.Context.{Context}
use Rattle.pat_resolver.specs.declared.numbering.state.Numbering.{Numbering}
use Rattle.pat_resolver.proofs.Adding.{grown, adds_as, adds_both, filled, nodes_as, vars_as, has_as}

-- the nodes of a let
let_nodes : (c : Context) (k : Kind) (x : Option tree.Name) (m b : tree.Term) (at : tree.Span) (s : Numbering) → nodes_of (heads_view c.heads.now) c.function (scope_view s.scope) (length s.nodes) s.next k (tree.LetTerm x m b at)
    ≡ (node c.function k (Let (let_variable x s.next) (suc (length s.nodes)) (suc (length s.nodes) + nodes_in m))
    ∷ nodes_of (heads_view c.heads.now) c.function (scope_view s.scope) (suc (length s.nodes)) (first_within x s.next) (bound_kind (heads_view c.heads.now) (scope_view s.scope) s.next x m) m)
    ++ nodes_of (heads_view c.heads.now) c.function (body_scope x s.next (bound_kind (heads_view c.heads.now) (scope_view s.scope) s.next x m) (scope_view s.scope)) (suc (length s.nodes) + nodes_in m) (first_within x s.next + binders_in m) k b
let_nodes c k None m b at s = refl
let_nodes c k (Some x) m b at s = refl

-- its variables
let_vars : (c : Context) (x : Option tree.Name) (m b : tree.Term) (at : tree.Span) (s : Numbering) → vars_of (heads_view c.heads.now) (scope_view s.scope) s.next (tree.LetTerm x m b at)
    ≡ (own_kinds x (bound_kind (heads_view c.heads.now) (scope_view s.scope) s.next x m) ++ vars_of (heads_view c.heads.now) (scope_view s.scope) (first_within x s.next) m)
    ++ vars_of (heads_view c.heads.now) (body_scope x s.next (bound_kind (heads_view c.heads.now) (scope_view s.scope) s.next x m) (scope_view s.scope)) (first_within x s.next + binders_in m) b
let_vars c None m b at s = refl
let_vars c (Some x) m b at s = refl

let_binders : (x : Option tree.Name) (m b : tree.Term) (at : tree.Span) → binders_in (tree.LetTerm x m b at) ≡ first_within x (binders_in m) + binders_in b
let_binders None m b at = refl
let_binders (Some x) m b at = let e : suc (binders_in m + binders_in b) ≡ suc (binders_in m) + binders_in b = omega arith in e

first_moves : (x : Option tree.Name) (v n : ℕ) → first_within x v + n ≡ v + first_within x n
first_moves None v n = refl
first_moves (Some x) v n = omega arith

plus_none : (x : Option tree.Name) (v : ℕ) → first_within x v + 0 ≡ first_within x v
plus_none None v = omega arith
plus_none (Some x) v = omega arith

own_length : (x : Option tree.Name) (k : Kind) (ks : List Kind) (n : ℕ) → length ks ≡ n → length (own_kinds x k ++ ks) ≡ first_within x n
own_length None k ks n e = e
own_length (Some x) k ks n e = ap suc e

-- ---- the chain

-- what was numbered of a term, up to what is left of it
pub record Walked (c : Context) (k : Kind) (whole rest : tree.Term) (start now : Numbering) : Type 0 where
  pub fits : TermFits c now rest
  pub inner : List Variable
  pub scope : now.scope ≡ inner ++ start.scope
  pub nodes :
      map node_view now.nodes ++ nodes_of (heads_view c.heads.now) c.function (scope_view now.scope) (length now.nodes) now.next k rest
      ≡ map node_view start.nodes ++ nodes_of (heads_view c.heads.now) c.function (scope_view start.scope) (length start.nodes) start.next k whole
  pub places : map node_place now.nodes ++ node_places rest ≡ map node_place start.nodes ++ node_places whole
  pub next : now.next + binders_in rest ≡ start.next + binders_in whole

pub walk_starts : (c : Context) (k : Kind) (t : tree.Term) (s : Numbering) → TermFits c s t → Walked c k t t s s
walk_starts c k t s fits = record { fits = fits; inner = []; scope = refl; nodes = refl; places = refl; next = refl }

pub let_fits : (c : Context) (x : Option tree.Name) (m b : tree.Term) (at : tree.Span) (s : Numbering) → TermFits c s (tree.LetTerm x m b at) → LetFits c s x m
let_fits c x m b at s fits =
    let h = heads_view c.heads.now in
    let own = own_kinds x (bound_kind h (scope_view s.scope) s.next x m) ++ vars_of h (scope_view s.scope) (first_within x s.next) m in
    let others = vars_of h (body_scope x s.next (bound_kind h (scope_view s.scope) s.next x m) (scope_view s.scope)) (first_within x s.next + binders_in m) b in
    record {
      room = omega (arith, fits.room);
      names = omega (arith, fits.names, let_binders x m b at);
      kinds = has_first (kinds_of c) s.next own others (has_as (kinds_of c) refl (let_vars c x m b at s) fits.kinds);
    }

pub walk_more : (c : Context) (k : Kind) (whole : tree.Term) (x : Option tree.Name) (m b : tree.Term) (at : tree.Span) (start now then_on : Numbering) → Walked c k whole (tree.LetTerm x m b at) start now → AddsLet c k at x m now then_on → Walked c k whole b start then_on
walk_more c k whole x m b at start now then_on w a =
    let h = heads_view c.heads.now in
    let needed = bound_kind h (scope_view now.scope) now.next x m in
    let inside = nodes_of h c.function (scope_view now.scope) (suc (length now.nodes)) (first_within x now.next) needed m in
    let here = node c.function k (Let (let_variable x now.next) (suc (length now.nodes)) (suc (length now.nodes) + nodes_in m)) in
    let own = own_kinds x needed ++ vars_of h (scope_view now.scope) (first_within x now.next) m in
    let body = body_scope x now.next needed (scope_view now.scope) in
    let others = vars_of h body (first_within x now.next + binders_in m) b in
    let size = grown a.added in
    let inside_length = nodes_length h c.function m (scope_view now.scope) (suc (length now.nodes)) (first_within x now.next) needed in
    let number : length then_on.nodes ≡ suc (length now.nodes) + nodes_in m = omega (arith, size, inside_length) in
    let next : then_on.next ≡ first_within x now.next + binders_in m = a.added.next ∙ sym (first_moves x now.next (binders_in m)) in
    let same : nodes_of h c.function (scope_view then_on.scope) (length then_on.nodes) then_on.next k b ≡ nodes_of h c.function body (suc (length now.nodes) + nodes_in m) (first_within x now.next + binders_in m) k b =
    ap (λ (q : _). nodes_of h c.function q (length then_on.nodes) then_on.next k b) a.named
    ∙ ap (λ (q : ℕ). nodes_of h c.function body q then_on.next k b) number
    ∙ ap (λ (q : ℕ). nodes_of h c.function body (suc (length now.nodes) + nodes_in m) q k b) next in
    let same_vars : vars_of h (scope_view then_on.scope) then_on.next b ≡ others =
    ap (λ (q : _). vars_of h q then_on.next b) a.named ∙ ap (λ (q : ℕ). vars_of h body q b) next in
    let vars_here = vars_length h m (scope_view now.scope) (first_within x now.next) in
    let all_own = own_length x needed (vars_of h (scope_view now.scope) (first_within x now.next) m) (binders_in m) vars_here in
    record {
      fits = record {
        room = omega (arith, w.fits.room, number);
        names = omega (arith, w.fits.names, let_binders x m b at, a.added.next);
        kinds =
            has_as (kinds_of c) refl (sym same_vars)
            (has_second (kinds_of c) now.next then_on.next own others (ap (λ q. now.next + q) all_own ∙ sym a.added.next) (has_as (kinds_of c) refl (let_vars c x m b at now) w.fits.kinds));
      };
      inner = a.inner ++ w.inner;
      scope = a.added.scope ∙ ap (λ q. a.inner ++ q) w.scope ∙ sym (append_assoc a.inner w.inner start.scope);
      nodes =
          ap (λ q. map node_view then_on.nodes ++ q) same
          ∙ ap (λ q. q ++ nodes_of h c.function body (suc (length now.nodes) + nodes_in m) (first_within x now.next + binders_in m) k b) a.added.nodes
          ∙ append_assoc (map node_view now.nodes) (here ∷ inside) (nodes_of h c.function body (suc (length now.nodes) + nodes_in m) (first_within x now.next + binders_in m) k b)
          ∙ ap (λ q. map node_view now.nodes ++ q) (sym (let_nodes c k x m b at now))
          ∙ w.nodes;
      places =
          ap (λ q. q ++ node_places b) a.added.places
          ∙ append_assoc (map node_place now.nodes) (at ∷ node_places m) (node_places b)
          ∙ w.places;
      next = omega (arith, w.next, let_binders x m b at, a.added.next);
    }

pub walk_ends : (c : Context) (k : Kind) (whole rest : tree.Term) (start now last : Numbering) (outer n : ℕ) → outer ≡ length start.scope → n ≡ length last.scope - outer → Walked c k whole rest start now → AddsTerm c k rest now last → AddsTerm c k whole start (record last { scope = drop n last.scope })
walk_ends c k whole rest start now last outer n o e w a =
    let all : last.scope ≡ w.inner ++ start.scope = a.scope ∙ w.scope in
    let inner_length = length-append w.inner start.scope in
    let size = ap length all in
    let count : n ≡ length w.inner = omega (arith, o, e, inner_length, size) in
    record {
      nodes = a.nodes ∙ w.nodes;
      places = a.places ∙ w.places;
      next = a.next ∙ w.next;
      scope = ap (λ q. drop n q) all ∙ ap (λ q. drop q (w.inner ++ start.scope)) count ∙ drop-append_seam w.inner start.scope;
    }

-- ---- one let

-- the node kept for it, the nodes of its bound term, and its node in the place that was kept
pub let_adds : (c : Context) (k needed : Kind) (at : tree.Span) (x : Option tree.Name) (m : tree.Term) (s q r z : Numbering) (inner : List Variable) (p : Node) (d : CodeNode)
    → Adds (p ∷ []) (at ∷ []) (first_within x 0) [] s q
    → needed ≡ bound_kind (heads_view c.heads.now) (scope_view s.scope) s.next x m
    → AddsTerm c needed m q r
    → node_view d ≡ node c.function k (Let (let_variable x s.next) (suc (length s.nodes)) (length r.nodes))
    → node_place d ≡ at
    → z.nodes ≡ slice_set r.nodes (length s.nodes) d
    → z.scope ≡ inner ++ r.scope
    → z.next ≡ r.next
    → scope_view (inner ++ s.scope) ≡ body_scope x s.next needed (scope_view s.scope)
    → AddsLet c k at x m s z
let_adds c k needed at x m s q r z inner p d kept needs a seen place z_nodes z_scope z_next named =
    let h = heads_view c.heads.now in
    let kind = bound_kind h (scope_view s.scope) s.next x m in
    let size = grown kept in
    let count : length q.nodes ≡ suc (length s.nodes) = omega (arith, size) in
    let next : q.next ≡ first_within x s.next = kept.next ∙ sym (first_moves x s.next 0) ∙ plus_none x s.next in
    let inside = nodes_of h c.function (scope_view s.scope) (suc (length s.nodes)) (first_within x s.next) kind m in
    let same : nodes_of h c.function (scope_view q.scope) (length q.nodes) q.next needed m ≡ inside =
    nodes_as h c.function needed m kept.scope count next ∙ ap (λ (j : Kind). nodes_of h c.function (scope_view s.scope) (suc (length s.nodes)) (first_within x s.next) j m) needs in
    let body_length = nodes_length h c.function m (scope_view s.scope) (suc (length s.nodes)) (first_within x s.next) kind in
    let grew = grown a in
    let same_length = ap length same in
    let number : length r.nodes ≡ suc (length s.nodes) + nodes_in m = omega (arith, grew, count, same_length, body_length) in
    let full = node c.function k (Let (let_variable x s.next) (suc (length s.nodes)) (suc (length s.nodes) + nodes_in m)) in
    let here : node_view d ≡ full = seen ∙ ap (λ (j : ℕ). node c.function k (Let (let_variable x s.next) (suc (length s.nodes)) j)) number in
    let together = filled d (adds_both kept (adds_as same refl refl a)) in
    let scope : r.scope ≡ s.scope = a.scope ∙ kept.scope in
    let scope_z : z.scope ≡ inner ++ s.scope = z_scope ∙ ap (λ (j : List Variable). inner ++ j) scope in
    record {
      inner = inner;
      added = record {
        nodes = ap (map node_view) z_nodes ∙ together.nodes ∙ ap (λ (j : Node). map node_view s.nodes ++ j ∷ inside) here;
        places = ap (map node_place) z_nodes ∙ together.places ∙ ap (λ (j : tree.Span). map node_place s.nodes ++ j ∷ node_places m) place;
        next = z_next ∙ a.next ∙ ap (λ (j : ℕ). j + binders_in m) next ∙ first_moves x s.next (binders_in m);
        scope = scope_z;
      };
      named = ap scope_view scope_z ∙ named ∙ ap (λ (j : Kind). body_scope x s.next j (scope_view s.scope)) needs;
    }

-- where the bound term ends
pub bound_number : (c : Context) (k : Kind) (x : Option tree.Name) (m : tree.Term) (s q r : Numbering) (p : Node) (at : tree.Span) → Adds (p ∷ []) (at ∷ []) (first_within x 0) [] s q → AddsTerm c k m q r → length r.nodes ≡ suc (length s.nodes) + nodes_in m
bound_number c k x m s q r p at kept a =
    let size = grown kept in
    let grew = grown a in
    let inside = nodes_length (heads_view c.heads.now) c.function m (scope_view q.scope) (length q.nodes) q.next k in
    omega (arith, size, grew, inside)

behind_own : (vars : List Kind) (x : Option tree.Name) (v : ℕ) (k : Kind) (ks : List Kind) → HasAt vars v (own_kinds x k ++ ks) → HasAt vars (first_within x v) ks
behind_own vars None v k ks has = has
behind_own vars (Some x) v k ks has = has_next vars v k ks has

pub bound_fits : (c : Context) (x : Option tree.Name) (m : tree.Term) (s q : Numbering) (p : Node) (at : tree.Span) → LetFits c s x m → Adds (p ∷ []) (at ∷ []) (first_within x 0) [] s q → TermFits c q m
bound_fits c x m s q p at fits kept =
    let h = heads_view c.heads.now in
    let size = grown kept in
    let next : q.next ≡ first_within x s.next = kept.next ∙ sym (first_moves x s.next 0) ∙ plus_none x s.next in
    let moved = first_moves x s.next (binders_in m) in
    record {
      room = omega (arith, fits.room, size);
      names = omega (arith, fits.names, next, moved);
      kinds =
          has_as (kinds_of c) (sym next) (sym (vars_as h m kept.scope next))
          (behind_own (kinds_of c) x s.next (bound_kind h (scope_view s.scope) s.next x m) (vars_of h (scope_view s.scope) (first_within x s.next) m) fits.kinds);
    }

-- the let's own variable is numbered
pub own_numbered : (s q : Numbering) (p : Node) (at : tree.Span) → Adds (p ∷ []) (at ∷ []) 0 [] s q → Adds (p ∷ []) (at ∷ []) 1 [] s (record q { next = q.next + 1 })
own_numbered s q p at kept = record {
  nodes = kept.nodes;
  places = kept.places;
  next = omega (arith, kept.next);
  scope = kept.scope;
}

-- ---- the kind of a variable

pub kind_within : (kinds : List CodeKind) (v : ℕ) (k : Kind) → slice_get (map kind_view kinds) v ≡ Some k → v < length kinds
kind_within kinds v k e = let h = slice_get_within (map kind_view kinds) v k e in omega (arith, h, length-map kinds kind_view)

pub kind_is : (kinds : List CodeKind) (v : ℕ) (k : Kind) (d : CodeKind) → slice_get (map kind_view kinds) v ≡ Some k → kind_view (get_or kinds v d) ≡ k
kind_is [] v k d e = cc
kind_is (j ∷ kinds) zero k d e = cc
kind_is (j ∷ kinds) (suc v) k d e = kind_is kinds v k d e

pub own_kind : (c : Context) (s : Numbering) (x : tree.Name) (m : tree.Term) → LetFits c s (Some x) m → slice_get (kinds_of c) s.next ≡ Some (kind_of_term (heads_view c.heads.now) (scope_view s.scope) (suc s.next) m)
own_kind c s x m fits =
    let h = heads_view c.heads.now in
    has_here (kinds_of c) s.next (kind_of_term h (scope_view s.scope) (suc s.next) m) (vars_of h (scope_view s.scope) (suc s.next) m) fits.kinds

-- the same, of what the code reads on the way
pub let_done : (c : Context) (k needed : Kind) (at : tree.Span) (x : Option tree.Name) (m : tree.Term) (s q r z : Numbering) (inner : List Variable) (p : Node) (d : CodeNode) (n l : ℕ)
    → n ≡ length s.nodes
    → l ≡ length r.nodes
    → Adds (p ∷ []) (at ∷ []) (first_within x 0) [] s q
    → needed ≡ bound_kind (heads_view c.heads.now) (scope_view s.scope) s.next x m
    → AddsTerm c needed m q r
    → node_view d ≡ node c.function k (Let (let_variable x s.next) (n + 1) l)
    → node_place d ≡ at
    → z.nodes ≡ slice_set r.nodes n d
    → z.scope ≡ inner ++ r.scope
    → z.next ≡ r.next
    → scope_view (inner ++ s.scope) ≡ body_scope x s.next needed (scope_view s.scope)
    → AddsLet c k at x m s z
let_done c k needed at x m s q r z inner p d n l place_n l_is kept needs a seen place z_nodes z_scope z_next named =
    let first : n + 1 ≡ suc (length s.nodes) = omega (arith, place_n) in
    let shown : node_view d ≡ node c.function k (Let (let_variable x s.next) (suc (length s.nodes)) (length r.nodes)) =
    seen
    ∙ ap (λ (j : ℕ). node c.function k (Let (let_variable x s.next) j l)) first
    ∙ ap (λ (j : ℕ). node c.function k (Let (let_variable x s.next) (suc (length s.nodes)) j)) l_is in
    let_adds c k needed at x m s q r z inner p d kept needs a shown place (z_nodes ∙ ap (λ (j : ℕ). slice_set r.nodes j d) place_n) z_scope z_next named
