-- The branches of an if.
use Rattle.std.proofs.Common.{◌≡◌, ◌+◌, ℕ, suc, List, [], ◌∷◌, ◌++◌, length, refl, ap, sym, ◌∙◌, subst, arith}
use Rattle.std.specs.Prelude.{slice_set}
use Rattle.pat_semantics_spec.specs.Values.{Kind}
use Rattle.pat_semantics_spec.specs.Programs.{If, Node}
use Rattle.pat_parser_spec.specs.Trees as tree
use Rattle.pat_resolver_spec.specs.Findings.{binders_in}
use Rattle.pat_resolver_spec.specs.Places.{node_places}
use Rattle.pat_resolver_spec.specs.Numbering.{expr_of, node, nodes_in, nodes_of, vars_of}
use Rattle.pat_resolver_laws.proofs.Binding.{has_first, has_second, vars_length, nodes_length}
use Rattle.pat_core.specs.Views.{node_view}
use Rattle.pat_core.specs.declared.program.Node.{Node as CodeNode}
use Rattle.pat_resolver_heads.specs.tables.Views.{scope_view}
use Rattle.pat_resolver_heads.specs.declared.tables.scope.Variable.{Variable}
use Rattle.pat_resolver_heads.specs.Views.{heads_view}
use Rattle.pat_resolver.specs.numbering.Progress.{node_place, kinds_of, Adds, TermFits, AddsTerm, FillsIf}
use Rattle.pat_resolver.specs.declared.numbering.state.Context.{Context}
use Rattle.pat_resolver.specs.declared.numbering.state.Numbering.{Numbering}
use Rattle.pat_resolver.proofs.Adding.{grown, adds_as, adds_both, filled, nodes_as, vars_as, has_as}

pub first_fits : (c : Context) (e : tree.Expr) (m b : tree.Term) (at : tree.Span) (s q : Numbering) (p : Node) → TermFits c s (tree.IfTerm e m b at) → Adds (p ∷ []) (at ∷ []) 0 [] s q → TermFits c q m
first_fits c e m b at s q p fits kept =
    let h = heads_view c.heads.now in
    let size = grown kept in
    let next : q.next ≡ s.next = omega (arith, kept.next) in
    record {
      room = omega (arith, fits.room, size);
      names = omega (arith, fits.names, next);
      kinds =
          has_as (kinds_of c) (sym next) (sym (vars_as h m kept.scope next))
          (has_first (kinds_of c) s.next (vars_of h (scope_view s.scope) s.next m) (vars_of h (scope_view s.scope) (s.next + binders_in m) b) fits.kinds);
    }

-- where the first branch ends
pub second_number : (c : Context) (k : Kind) (m : tree.Term) (s q r : Numbering) (p : Node) (at : tree.Span) → Adds (p ∷ []) (at ∷ []) 0 [] s q → AddsTerm c k m q r → length r.nodes ≡ suc (length s.nodes) + nodes_in m
second_number c k m s q r p at kept a =
    let size = grown kept in
    let grew = grown a in
    let inside = nodes_length (heads_view c.heads.now) c.function m (scope_view q.scope) (length q.nodes) q.next k in
    omega (arith, size, grew, inside)

pub second_fits : (c : Context) (k : Kind) (e : tree.Expr) (m b : tree.Term) (at : tree.Span) (s q r : Numbering) (p : Node) → TermFits c s (tree.IfTerm e m b at) → Adds (p ∷ []) (at ∷ []) 0 [] s q → AddsTerm c k m q r → TermFits c r b
second_fits c k e m b at s q r p fits kept a =
    let h = heads_view c.heads.now in
    let number = second_number c k m s q r p at kept a in
    let next : r.next ≡ s.next + binders_in m = omega (arith, kept.next, a.next) in
    let own = vars_of h (scope_view s.scope) s.next m in
    record {
      room = omega (arith, fits.room, number);
      names = omega (arith, fits.names, next);
      kinds =
          has_as (kinds_of c) refl (sym (vars_as h b (a.scope ∙ kept.scope) next))
          (has_second (kinds_of c) s.next r.next own (vars_of h (scope_view s.scope) (s.next + binders_in m) b) (ap (λ (j : ℕ). s.next + j) (vars_length h m (scope_view s.scope) s.next) ∙ sym next) fits.kinds);
    }

pub if_adds : (c : Context) (k : Kind) (e : tree.Expr) (m b : tree.Term) (at : tree.Span) (s q r t z : Numbering) (p : Node) (d : CodeNode)
    → Adds (p ∷ []) (at ∷ []) 0 [] s q
    → AddsTerm c k m q r
    → AddsTerm c k b r t
    → node_view d ≡ node c.function k (If (expr_of (scope_view s.scope) e) (suc (length s.nodes)) (length r.nodes))
    → node_place d ≡ at
    → z ≡ record t { nodes = slice_set t.nodes (length s.nodes) d }
    → AddsTerm c k (tree.IfTerm e m b at) s z
if_adds c k e m b at s q r t z p d kept a o seen place is =
    let h = heads_view c.heads.now in
    let size = grown kept in
    let count : length q.nodes ≡ suc (length s.nodes) = omega (arith, size) in
    let next : q.next ≡ s.next = omega (arith, kept.next) in
    let number = second_number c k m s q r p at kept a in
    let next_r : r.next ≡ s.next + binders_in m = omega (arith, next, a.next) in
    let first = nodes_of h c.function (scope_view s.scope) (suc (length s.nodes)) s.next k m in
    let second = nodes_of h c.function (scope_view s.scope) (suc (length s.nodes) + nodes_in m) (s.next + binders_in m) k b in
    let full = node c.function k (If (expr_of (scope_view s.scope) e) (suc (length s.nodes)) (suc (length s.nodes) + nodes_in m)) in
    let here : node_view d ≡ full = seen ∙ ap (λ (j : ℕ). node c.function k (If (expr_of (scope_view s.scope) e) (suc (length s.nodes)) j)) number in
    let one = adds_as (nodes_as h c.function k m kept.scope count next) refl refl a in
    let two = adds_as (nodes_as h c.function k b (a.scope ∙ kept.scope) number next_r) refl refl o in
    let together = filled d (adds_both kept (adds_both one two)) in
    let whole : Adds (full ∷ first ++ second) (at ∷ node_places m ++ node_places b) (binders_in m + binders_in b) [] s (record t { nodes = slice_set t.nodes (length s.nodes) d }) =
    adds_as (ap (λ (j : Node). j ∷ first ++ second) here) (ap (λ (j : tree.Span). j ∷ node_places m ++ node_places b) place) (omega arith) together in
    subst (λ (j : Numbering). AddsTerm c k (tree.IfTerm e m b at) s j) (sym is) whole

-- the same, of what the code reads on the way
pub if_done : (c : Context) (k : Kind) (e : tree.Expr) (m b : tree.Term) (at : tree.Span) (s q r t z : Numbering) (p : Node) (n other : ℕ)
    → n ≡ length s.nodes
    → other ≡ length r.nodes
    → Adds (p ∷ []) (at ∷ []) 0 [] s q
    → AddsTerm c k m q r
    → AddsTerm c k b r t
    → (d : CodeNode) × FillsIf c k at e n other d t z
    → AddsTerm c k (tree.IfTerm e m b at) s z
if_done c k e m b at s q r t z p n other place_n other_is kept a o (d, f) =
    let seen : node_view d ≡ node c.function k (If (expr_of (scope_view s.scope) e) (suc (length s.nodes)) (length r.nodes)) =
    f.seen
    ∙ ap (λ (j : List Variable). node c.function k (If (expr_of (scope_view j) e) (suc n) other)) (o.scope ∙ a.scope ∙ kept.scope)
    ∙ ap (λ (j : ℕ). node c.function k (If (expr_of (scope_view s.scope) e) (suc j) other)) place_n
    ∙ ap (λ (j : ℕ). node c.function k (If (expr_of (scope_view s.scope) e) (suc (length s.nodes)) j)) other_is in
    let here : z ≡ record t { nodes = slice_set t.nodes (length s.nodes) d } = f.filled ∙ ap (λ (j : ℕ). record t { nodes = slice_set t.nodes j d }) place_n in
    if_adds c k e m b at s q r t z p d kept a o seen f.place here
