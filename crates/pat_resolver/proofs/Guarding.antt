-- Guards and their clauses.
use Rattle.std.proofs.Common.{◌≡◌, ◌+◌, ◌-◌, ◌<◌, ℕ, zero, suc, get_or, List, [], ◌∷◌, ◌++◌, length, drop, map, Option, Some, None, refl, ap, sym, ◌∙◌, subst, arith, append_assoc}
use Rattle.std.specs.Prelude.{slice_get, slice_set, option_map}
use Rattle.std.proofs.lemmas.List.{append-nil, at_drop_more}
use Rattle.std.proofs.lemmas.Option.{slice_get-map, slice_get-get_or}
use Rattle.pat_words_spec.specs.Patterns.{Pat}
use Rattle.pat_semantics_spec.specs.Values.{Kind, MailboxOf}
use Rattle.pat_semantics_spec.specs.Programs.{Clause, Guard, Node}
use Rattle.pat_parser_spec.specs.Trees as tree
use Rattle.pat_resolver_spec.specs.Scopes.{Scope, bind_names, variable, unit_kind}
use Rattle.pat_resolver_spec.specs.Heads.{Heads, clause_scope, payload_kinds, tag_named, tag_names, pattern_of}
use Rattle.pat_resolver_spec.specs.Findings.{binders_in, clauses_binders_in, guarded}
use Rattle.pat_resolver_spec.specs.Places.{node_places, clauses_node_places}
use Rattle.pat_resolver_spec.specs.Numbering.{node, number_of, nodes_in, clauses_nodes_in, nodes_of, clauses_nodes_of, vars_of, clauses_vars_of, free_body, receives, kinds_for, numbers_from}
use Rattle.pat_resolver_laws.proofs.Binding.{has_first, has_second, has_here, has_next, kinds_for_length, clauses_vars_length, clauses_nodes_length}
use Rattle.pat_core.specs.Views.{clause_view, kind_view, node_view}
use Rattle.pat_core.specs.declared.program.Kind.{Kind as CodeKind}
use Rattle.pat_core.specs.declared.program.Node.{Node as CodeNode}
use Rattle.pat_resolver_heads.specs.tables.Views.{scope_view, variable_view}
use Rattle.pat_tree.specs.declared.pattern.Name.{Name}
use Rattle.pat_tree.specs.declared.term.TreeClause.{TreeClause}
use Rattle.pat_tree.specs.Views.{name_view, clause_view as tree_clause_view}
use Rattle.pat_resolver_heads.specs.declared.tables.scope.Variable.{Variable}
use Rattle.pat_resolver_heads.specs.Views.{heads_view}
use Rattle.pat_resolver.specs.numbering.Kinds.{HasAt}
use Rattle.pat_resolver.specs.numbering.Progress.{node_place, kinds_of, either_of, no_bodies, Adds, Notes, TermFits, AddsTerm, ClausesFit, AddsClauses, ReceiveFits, AddsReceive}
use Rattle.pat_resolver.specs.declared.numbering.guards.Bodies.{Bodies}
use Rattle.pat_resolver.specs.declared.numbering.state.Context.{Context}
use Rattle.pat_resolver.specs.declared.numbering.state.Numbering.{Numbering}
use Rattle.pat_resolver.proofs.Adding.{grown, adds_as, adds_both, filled, clauses_as, clauses_vars_as, has_as}
use Rattle.pat_resolver.proofs.Letting.{kind_within}

-- ---- a clause before others

abbrev alone : tree.Clause → tree.Clauses
alone cl = tree.with_clause cl tree.no_clauses

one_count : (cl : tree.Clause) (cs : tree.Clauses) → clauses_nodes_in (tree.with_clause cl cs) ≡ clauses_nodes_in (alone cl) + clauses_nodes_in cs
one_count (tree.FailClause w) cs = omega arith
one_count (tree.FreeClause w m) cs = omega arith
one_count (tree.ReceiveClause w t xs y m) cs = omega arith

one_binders : (cl : tree.Clause) (cs : tree.Clauses) → clauses_binders_in (tree.with_clause cl cs) ≡ clauses_binders_in (alone cl) + clauses_binders_in cs
one_binders (tree.FailClause w) cs = omega arith
one_binders (tree.FreeClause w m) cs = omega arith
one_binders (tree.ReceiveClause w t xs y m) cs = omega arith

one_places : (cl : tree.Clause) (cs : tree.Clauses) → clauses_node_places (tree.with_clause cl cs) ≡ clauses_node_places (alone cl) ++ clauses_node_places cs
one_places (tree.FailClause w) cs = refl
one_places (tree.FreeClause w m) cs = ap (λ q. q ++ clauses_node_places cs) (sym (append-nil (node_places m)))
one_places (tree.ReceiveClause w t xs y m) cs = ap (λ q. q ++ clauses_node_places cs) (sym (append-nil (node_places m)))

module _ (h : Heads) where
  one_nodes : (f i : ℕ) (k : Kind) (cl : tree.Clause) (cs : tree.Clauses) (scope : Scope) (n v : ℕ) → clauses_nodes_of h f i scope n v k (tree.with_clause cl cs) ≡ clauses_nodes_of h f i scope n v k (alone cl) ++ clauses_nodes_of h f i scope (n + clauses_nodes_in (alone cl)) (v + clauses_binders_in (alone cl)) k cs
  one_nodes f i k (tree.FailClause w) cs scope n v =
      let e : n ≡ n + 0 = omega arith in
      let g : v ≡ v + 0 = omega arith in
      ap (λ (q : ℕ). clauses_nodes_of h f i scope q v k cs) e ∙ ap (λ (q : ℕ). clauses_nodes_of h f i scope (n + 0) q k cs) g
  one_nodes f i k (tree.FreeClause w m) cs scope n v =
      let e : n + nodes_in m ≡ n + (nodes_in m + 0) = omega arith in
      let g : v + binders_in m ≡ v + (binders_in m + 0) = omega arith in
      ap (λ q. q ++ clauses_nodes_of h f i scope (n + nodes_in m) (v + binders_in m) k cs) (sym (append-nil (nodes_of h f scope n v k m)))
      ∙ ap (λ (q : ℕ). (nodes_of h f scope n v k m ++ []) ++ clauses_nodes_of h f i scope q (v + binders_in m) k cs) e
      ∙ ap (λ (q : ℕ). (nodes_of h f scope n v k m ++ []) ++ clauses_nodes_of h f i scope (n + (nodes_in m + 0)) q k cs) g
  one_nodes f i k (tree.ReceiveClause w t xs y m) cs scope n v =
      let own = nodes_of h f (clause_scope h i scope v t xs y) n (suc (v + length xs)) k m in
      let e : n + nodes_in m ≡ n + (nodes_in m + 0) = omega arith in
      let g : suc (v + length xs) + binders_in m ≡ v + (suc (length xs) + binders_in m + 0) = omega arith in
      ap (λ q. q ++ clauses_nodes_of h f i scope (n + nodes_in m) (suc (v + length xs) + binders_in m) k cs) (sym (append-nil own))
      ∙ ap (λ (q : ℕ). (own ++ []) ++ clauses_nodes_of h f i scope q (suc (v + length xs) + binders_in m) k cs) e
      ∙ ap (λ (q : ℕ). (own ++ []) ++ clauses_nodes_of h f i scope (n + (nodes_in m + 0)) q k cs) g

  one_vars : (i : ℕ) (cl : tree.Clause) (cs : tree.Clauses) (scope : Scope) (v : ℕ) → clauses_vars_of h i scope v (tree.with_clause cl cs) ≡ clauses_vars_of h i scope v (alone cl) ++ clauses_vars_of h i scope (v + clauses_binders_in (alone cl)) cs
  one_vars i (tree.FailClause w) cs scope v = let g : v ≡ v + 0 = omega arith in ap (λ (q : ℕ). clauses_vars_of h i scope q cs) g
  one_vars i (tree.FreeClause w m) cs scope v =
      let g : v + binders_in m ≡ v + (binders_in m + 0) = omega arith in
      ap (λ q. q ++ clauses_vars_of h i scope (v + binders_in m) cs) (sym (append-nil (vars_of h scope v m)))
      ∙ ap (λ (q : ℕ). (vars_of h scope v m ++ []) ++ clauses_vars_of h i scope q cs) g
  one_vars i (tree.ReceiveClause w t xs y m) cs scope v =
      let g : suc (v + length xs) + binders_in m ≡ v + (suc (length xs) + binders_in m + 0) = omega arith in
      let own = kinds_for xs (payload_kinds (tag_named h i t.text)) ++ MailboxOf i ∷ vars_of h (clause_scope h i scope v t xs y) (suc (v + length xs)) m in
      ap (λ q. q ++ clauses_vars_of h i scope (suc (v + length xs) + binders_in m) cs) (sym (append-nil own))
      ∙ ap (λ (q : ℕ). (own ++ []) ++ clauses_vars_of h i scope q cs) g

  one_receives : (i : ℕ) (cl : tree.Clause) (cs : tree.Clauses) (n v : ℕ) → receives h i n v (tree.with_clause cl cs) ≡ receives h i n v (alone cl) ++ receives h i (n + clauses_nodes_in (alone cl)) (v + clauses_binders_in (alone cl)) cs
  one_receives i (tree.FailClause w) cs n v =
      let e : n ≡ n + 0 = omega arith in
      let g : v ≡ v + 0 = omega arith in
      ap (λ (q : ℕ). receives h i q v cs) e ∙ ap (λ (q : ℕ). receives h i (n + 0) q cs) g
  one_receives i (tree.FreeClause w m) cs n v =
      let e : n + nodes_in m ≡ n + (nodes_in m + 0) = omega arith in
      let g : v + binders_in m ≡ v + (binders_in m + 0) = omega arith in
      ap (λ (q : ℕ). receives h i q (v + binders_in m) cs) e ∙ ap (λ (q : ℕ). receives h i (n + (nodes_in m + 0)) q cs) g
  one_receives i (tree.ReceiveClause w t xs y m) cs n v =
      let e : n + nodes_in m ≡ n + (nodes_in m + 0) = omega arith in
      let g : suc (v + length xs) + binders_in m ≡ v + (suc (length xs) + binders_in m + 0) = omega arith in
      ap (λ (q : List Clause). receives h i n v (alone (tree.ReceiveClause w t xs y m)) ++ q)
      (ap (λ (q : ℕ). receives h i q (suc (v + length xs) + binders_in m) cs) e ∙ ap (λ (q : ℕ). receives h i (n + (nodes_in m + 0)) q cs) g)

one_free : (cl : tree.Clause) (cs : tree.Clauses) (n : ℕ) → free_body n (tree.with_clause cl cs) ≡ either_of (free_body n (alone cl)) (free_body (n + clauses_nodes_in (alone cl)) cs)
one_free (tree.FailClause w) cs n = let e : n ≡ n + 0 = omega arith in ap (λ (q : ℕ). free_body q cs) e
one_free (tree.FreeClause w m) cs n = refl
one_free (tree.ReceiveClause w t xs y m) cs n = let e : n + nodes_in m ≡ n + (nodes_in m + 0) = omega arith in ap (λ (q : ℕ). free_body q cs) e

either_assoc : (a b d : Option ℕ) → either_of (either_of a b) d ≡ either_of a (either_of b d)
either_assoc None b d = refl
either_assoc (Some n) b d = refl

either_none : (a : Option ℕ) → either_of a None ≡ a
either_none None = refl
either_none (Some n) = refl

-- ---- the clauses in a row

-- what was numbered of clauses, up to those that are left
pub record Passed (c : Context) (i : ℕ) (k : Kind) (whole rest : tree.Clauses) (start now : Numbering) (bodies : Bodies) : Type 0 where
  pub fits : ClausesFit c i now rest
  pub scope : now.scope ≡ start.scope
  pub nodes :
      map node_view now.nodes ++ clauses_nodes_of (heads_view c.heads.now) c.function i (scope_view now.scope) (length now.nodes) now.next k rest
      ≡ map node_view start.nodes ++ clauses_nodes_of (heads_view c.heads.now) c.function i (scope_view start.scope) (length start.nodes) start.next k whole
  pub places : map node_place now.nodes ++ clauses_node_places rest ≡ map node_place start.nodes ++ clauses_node_places whole
  pub next : now.next + clauses_binders_in rest ≡ start.next + clauses_binders_in whole
  pub free : either_of bodies.free (free_body (length now.nodes) rest) ≡ free_body (length start.nodes) whole
  pub receives :
      map clause_view bodies.receives ++ receives (heads_view c.heads.now) i (length now.nodes) now.next rest
      ≡ receives (heads_view c.heads.now) i (length start.nodes) start.next whole

pub clauses_start : (c : Context) (i : ℕ) (k : Kind) (cs : tree.Clauses) (s : Numbering) → ClausesFit c i s cs → Passed c i k cs cs s s no_bodies
clauses_start c i k cs s fits = record { fits = fits; scope = refl; nodes = refl; places = refl; next = refl; free = refl; receives = refl }

pub one_fits : (c : Context) (i : ℕ) (cl : tree.Clause) (cs : tree.Clauses) (s : Numbering) → ClausesFit c i s (tree.with_clause cl cs) → ClausesFit c i s (alone cl)
one_fits c i cl cs s fits =
    let h = heads_view c.heads.now in
    record {
      room = omega (arith, fits.room, one_count cl cs);
      names = omega (arith, fits.names, one_binders cl cs);
      kinds =
          has_first (kinds_of c) s.next (clauses_vars_of h i (scope_view s.scope) s.next (alone cl)) (clauses_vars_of h i (scope_view s.scope) (s.next + clauses_binders_in (alone cl)) cs)
          (has_as (kinds_of c) refl (one_vars h i cl cs (scope_view s.scope) s.next) fits.kinds);
    }

pub clauses_more : (c : Context) (i : ℕ) (k : Kind) (whole : tree.Clauses) (cl : tree.Clause) (cs : tree.Clauses) (start now then_on : Numbering) (bodies more : Bodies) → Passed c i k whole (tree.with_clause cl cs) start now bodies → AddsClauses c i k (alone cl) now then_on → Notes c i (alone cl) now bodies more → Passed c i k whole cs start then_on more
clauses_more c i k whole cl cs start now then_on bodies more w a notes =
    let h = heads_view c.heads.now in
    let own = clauses_nodes_of h c.function i (scope_view now.scope) (length now.nodes) now.next k (alone cl) in
    let others = clauses_nodes_of h c.function i (scope_view now.scope) (length now.nodes + clauses_nodes_in (alone cl)) (now.next + clauses_binders_in (alone cl)) k cs in
    let size = grown a in
    let own_length = clauses_nodes_length h c.function (alone cl) i (scope_view now.scope) (length now.nodes) now.next k in
    let number : length then_on.nodes ≡ length now.nodes + clauses_nodes_in (alone cl) = omega (arith, size, own_length) in
    let vars = clauses_vars_of h i (scope_view now.scope) now.next (alone cl) in
    let other_vars = clauses_vars_of h i (scope_view now.scope) (now.next + clauses_binders_in (alone cl)) cs in
    let vars_count = clauses_vars_length h (alone cl) i (scope_view now.scope) now.next in
    let told = receives h i (length now.nodes) now.next (alone cl) in
    let rest_told = receives h i (length now.nodes + clauses_nodes_in (alone cl)) (now.next + clauses_binders_in (alone cl)) cs in
    record {
      fits = record {
        room = omega (arith, w.fits.room, one_count cl cs, number);
        names = omega (arith, w.fits.names, one_binders cl cs, a.next);
        kinds =
            has_as (kinds_of c) refl (sym (clauses_vars_as h i cs a.scope a.next))
            (has_second (kinds_of c) now.next then_on.next vars other_vars (ap (λ (q : ℕ). now.next + q) vars_count ∙ sym a.next)
            (has_as (kinds_of c) refl (one_vars h i cl cs (scope_view now.scope) now.next) w.fits.kinds));
      };
      scope = a.scope ∙ w.scope;
      nodes =
          ap (λ q. map node_view then_on.nodes ++ q) (clauses_as h c.function i k cs a.scope number a.next)
          ∙ ap (λ q. q ++ others) a.nodes
          ∙ append_assoc (map node_view now.nodes) own others
          ∙ ap (λ q. map node_view now.nodes ++ q) (sym (one_nodes h c.function i k cl cs (scope_view now.scope) (length now.nodes) now.next))
          ∙ w.nodes;
      places =
          ap (λ q. q ++ clauses_node_places cs) a.places
          ∙ append_assoc (map node_place now.nodes) (clauses_node_places (alone cl)) (clauses_node_places cs)
          ∙ ap (λ q. map node_place now.nodes ++ q) (sym (one_places cl cs))
          ∙ w.places;
      next = omega (arith, w.next, one_binders cl cs, a.next);
      free =
          ap (λ (q : Option ℕ). either_of q (free_body (length then_on.nodes) cs)) notes.free
          ∙ ap (λ (q : ℕ). either_of (either_of bodies.free (free_body (length now.nodes) (alone cl))) (free_body q cs)) number
          ∙ either_assoc bodies.free (free_body (length now.nodes) (alone cl)) (free_body (length now.nodes + clauses_nodes_in (alone cl)) cs)
          ∙ ap (either_of bodies.free) (sym (one_free cl cs (length now.nodes)))
          ∙ w.free;
      receives =
          ap (λ (q : List Clause). q ++ receives h i (length then_on.nodes) then_on.next cs) notes.receives
          ∙ ap (λ (q : ℕ). (map clause_view bodies.receives ++ told) ++ receives h i q then_on.next cs) number
          ∙ ap (λ (q : ℕ). (map clause_view bodies.receives ++ told) ++ receives h i (length now.nodes + clauses_nodes_in (alone cl)) q cs) a.next
          ∙ append_assoc (map clause_view bodies.receives) told rest_told
          ∙ ap (λ q. map clause_view bodies.receives ++ q) (sym (one_receives h i cl cs (length now.nodes) now.next))
          ∙ w.receives;
    }

pub clauses_end_added : (c : Context) (i : ℕ) (k : Kind) (whole : tree.Clauses) (start now : Numbering) (bodies : Bodies) → Passed c i k whole tree.no_clauses start now bodies → AddsClauses c i k whole start now
clauses_end_added c i k whole start now bodies w = record {
  nodes = sym (append-nil (map node_view now.nodes)) ∙ w.nodes;
  places = sym (append-nil (map node_place now.nodes)) ∙ w.places;
  next = omega (arith, w.next);
  scope = w.scope;
}

pub clauses_end_noted : (c : Context) (i : ℕ) (k : Kind) (whole : tree.Clauses) (start now : Numbering) (bodies : Bodies) → Passed c i k whole tree.no_clauses start now bodies → Notes c i whole start no_bodies bodies
clauses_end_noted c i k whole start now bodies w = record {
  free = sym (either_none bodies.free) ∙ w.free;
  receives = sym (append-nil (map clause_view bodies.receives)) ∙ w.receives;
}

-- the first of the clauses that are left
pub clauses_left : (items : List TreeClause) (i : ℕ) (x : TreeClause) → i < length items → x ≡ get_or items i x → tree.listed (map tree_clause_view (drop i items)) ≡ tree.with_clause (tree_clause_view x) (tree.listed (map tree_clause_view (drop (i + 1) items)))
clauses_left items i x within item =
    at_drop_more (λ q. tree.listed (map tree_clause_view q)) items i x within
    ∙ ap (λ (q : TreeClause). tree.with_clause (tree_clause_view q) (tree.listed (map tree_clause_view (drop (i + 1) items)))) (sym item)

-- ---- a guard

pub guard_fits : (c : Context) (x : tree.Name) (e : tree.Pattern) (cs : tree.Clauses) (at : tree.Span) (s q : Numbering) (p : Node) (i : ℕ) → i ≡ guarded (scope_view s.scope) x.text → TermFits c s (tree.GuardTerm x e cs at) → Adds (p ∷ []) (at ∷ []) 0 [] s q → ClausesFit c i q cs
guard_fits c x e cs at s q p i of fits kept =
    let h = heads_view c.heads.now in
    let size = grown kept in
    let next : q.next ≡ s.next = omega (arith, kept.next) in
    record {
      room = omega (arith, fits.room, size);
      names = omega (arith, fits.names, next);
      kinds =
          has_as (kinds_of c) (sym next)
          (ap (λ (j : ℕ). clauses_vars_of h j (scope_view s.scope) s.next cs) (sym of) ∙ sym (clauses_vars_as h i cs kept.scope next))
          fits.kinds;
    }

pub guard_adds : (c : Context) (k : Kind) (x : tree.Name) (e : tree.Pattern) (cs : tree.Clauses) (at : tree.Span) (s q r z : Numbering) (p : Node) (i : ℕ) (bodies : Bodies) (d : CodeNode)
    → i ≡ guarded (scope_view s.scope) x.text
    → Adds (p ∷ []) (at ∷ []) 0 [] s q
    → AddsClauses c i k cs q r
    → Notes c i cs q no_bodies bodies
    → node_view d ≡ node c.function k (Guard (number_of (scope_view s.scope) x.text) (pattern_of (tag_names (heads_view c.heads.now) i) e) bodies.free (map clause_view bodies.receives))
    → node_place d ≡ at
    → z ≡ record r { nodes = slice_set r.nodes (length s.nodes) d }
    → AddsTerm c k (tree.GuardTerm x e cs at) s z
guard_adds c k x e cs at s q r z p i bodies d of kept a notes seen place is =
    let h = heads_view c.heads.now in
    let g = guarded (scope_view s.scope) x.text in
    let var = number_of (scope_view s.scope) x.text in
    let size = grown kept in
    let count : length q.nodes ≡ suc (length s.nodes) = omega (arith, size) in
    let next : q.next ≡ s.next = omega (arith, kept.next) in
    let own = clauses_nodes_of h c.function g (scope_view s.scope) (suc (length s.nodes)) s.next k cs in
    let same : clauses_nodes_of h c.function i (scope_view q.scope) (length q.nodes) q.next k cs ≡ own =
    clauses_as h c.function i k cs kept.scope count next ∙ ap (λ (j : ℕ). clauses_nodes_of h c.function j (scope_view s.scope) (suc (length s.nodes)) s.next k cs) of in
    let free : bodies.free ≡ free_body (suc (length s.nodes)) cs = notes.free ∙ ap (λ (j : ℕ). free_body j cs) count in
    let told : map clause_view bodies.receives ≡ receives h g (suc (length s.nodes)) s.next cs =
    notes.receives
    ∙ ap (λ (j : ℕ). receives h i j q.next cs) count
    ∙ ap (λ (j : ℕ). receives h i (suc (length s.nodes)) j cs) next
    ∙ ap (λ (j : ℕ). receives h j (suc (length s.nodes)) s.next cs) of in
    let full = node c.function k (Guard var (pattern_of (tag_names h g) e) (free_body (suc (length s.nodes)) cs) (receives h g (suc (length s.nodes)) s.next cs)) in
    let here : node_view d ≡ full =
    seen
    ∙ ap (λ (j : ℕ). node c.function k (Guard var (pattern_of (tag_names h j) e) bodies.free (map clause_view bodies.receives))) of
    ∙ ap (λ (j : Option ℕ). node c.function k (Guard var (pattern_of (tag_names h g) e) j (map clause_view bodies.receives))) free
    ∙ ap (λ (j : List Clause). node c.function k (Guard var (pattern_of (tag_names h g) e) (free_body (suc (length s.nodes)) cs) j)) told in
    let together = filled d (adds_both kept (adds_as same refl refl a)) in
    let whole : Adds (full ∷ own) (at ∷ clauses_node_places cs) (clauses_binders_in cs) [] s (record r { nodes = slice_set r.nodes (length s.nodes) d }) =
    adds_as (ap (λ (j : Node). j ∷ own) here) (ap (λ (j : tree.Span). j ∷ clauses_node_places cs) place) (omega arith) together in
    subst (λ (j : Numbering). AddsTerm c k (tree.GuardTerm x e cs at) s j) (sym is) whole

-- the same, of what the code reads on the way
pub guard_done : (c : Context) (k : Kind) (x : tree.Name) (e : tree.Pattern) (cs listing : tree.Clauses) (at : tree.Span) (s q r z : Numbering) (p : Node) (i var n : ℕ) (shape : Pat) (bodies : Bodies) (d : CodeNode)
    → n ≡ length s.nodes
    → Adds (p ∷ []) (at ∷ []) 0 [] s q
    → i ≡ guarded (scope_view q.scope) x.text
    → listing ≡ cs
    → AddsClauses c i k listing q r
    → Notes c i listing q no_bodies bodies
    → shape ≡ pattern_of (tag_names (heads_view c.heads.now) i) e
    → var ≡ number_of (scope_view r.scope) x.text
    → node_view d ≡ node c.function k (Guard var shape bodies.free (map clause_view bodies.receives))
    → node_place d ≡ at
    → z ≡ record r { nodes = slice_set r.nodes n d }
    → AddsTerm c k (tree.GuardTerm x e cs at) s z
guard_done c k x e cs listing at s q r z p i var n shape bodies d place_n kept of same a notes shape_is var_is seen place is =
    let b : AddsClauses c i k cs q r = subst (λ (j : tree.Clauses). AddsClauses c i k j q r) same a in
    let told : Notes c i cs q no_bodies bodies = subst (λ (j : tree.Clauses). Notes c i j q no_bodies bodies) same notes in
    let of_s : i ≡ guarded (scope_view s.scope) x.text = of ∙ ap (λ (j : List Variable). guarded (scope_view j) x.text) kept.scope in
    let var_s : var ≡ number_of (scope_view s.scope) x.text = var_is ∙ ap (λ (j : List Variable). number_of (scope_view j) x.text) (b.scope ∙ kept.scope) in
    let shown : node_view d ≡ node c.function k (Guard (number_of (scope_view s.scope) x.text) (pattern_of (tag_names (heads_view c.heads.now) i) e) bodies.free (map clause_view bodies.receives)) =
    seen
    ∙ ap (λ (j : ℕ). node c.function k (Guard j shape bodies.free (map clause_view bodies.receives))) var_s
    ∙ ap (λ (j : Pat). node c.function k (Guard (number_of (scope_view s.scope) x.text) j bodies.free (map clause_view bodies.receives))) shape_is in
    let here : z ≡ record r { nodes = slice_set r.nodes (length s.nodes) d } = is ∙ ap (λ (j : ℕ). record r { nodes = slice_set r.nodes j d }) place_n in
    guard_adds c k x e cs at s q r z p i bodies d of_s kept b told shown place here

-- ---- a receive clause

pub drop_here : {A : Type 0} (xs : List A) (v : ℕ) (x : A) → slice_get xs v ≡ Some x → drop v xs ≡ x ∷ drop (suc v) xs
drop_here [] v x e = cc
drop_here (y ∷ xs) zero x e = let same : y ≡ x = cc in ap (λ q. q ∷ xs) same
drop_here (y ∷ xs) (suc v) x e = drop_here xs v x e

-- names get the kinds that the function's variables have
bind_by_kinds : (vars : List Kind) (v : ℕ) (xs : List tree.Name) (ks : List Kind) (scope : Scope) → HasAt vars v (kinds_for xs ks) → bind_names v xs (drop v vars) scope ≡ bind_names v xs ks scope
bind_by_kinds vars v [] ks scope has = refl
bind_by_kinds vars v (x ∷ xs) [] scope has =
    ap (λ (q : List Kind). bind_names v (x ∷ xs) q scope) (drop_here vars v unit_kind (has_here vars v unit_kind (kinds_for xs []) has))
    ∙ bind_by_kinds vars (suc v) xs [] (variable x.text v unit_kind ∷ scope) (has_next vars v unit_kind (kinds_for xs []) has)
bind_by_kinds vars v (x ∷ xs) (k ∷ ks) scope has =
    ap (λ (q : List Kind). bind_names v (x ∷ xs) q scope) (drop_here vars v k (has_here vars v k (kinds_for xs ks) has))
    ∙ bind_by_kinds vars (suc v) xs ks (variable x.text v k ∷ scope) (has_next vars v k (kinds_for xs ks) has)

module _ (c : Context) (i : ℕ) (s : Numbering) (t : tree.Name) (xs : List tree.Name) (y : tree.Name) (m : tree.Term) (fits : ReceiveFits c i s t xs y m) where
  own_kinds : HasAt (kinds_of c) s.next (kinds_for xs (payload_kinds (tag_named (heads_view c.heads.now) i t.text)))
  own_kinds =
      let h = heads_view c.heads.now in
      let ks = kinds_for xs (payload_kinds (tag_named h i t.text)) in
      has_first (kinds_of c) s.next ks (MailboxOf i ∷ vars_of h (clause_scope h i (scope_view s.scope) s.next t xs y) (suc (s.next + length xs)) m) fits.kinds

  from_kinds : HasAt (kinds_of c) (s.next + length xs) (MailboxOf i ∷ vars_of (heads_view c.heads.now) (clause_scope (heads_view c.heads.now) i (scope_view s.scope) s.next t xs y) (suc (s.next + length xs)) m)
  from_kinds =
      let h = heads_view c.heads.now in
      let ks = kinds_for xs (payload_kinds (tag_named h i t.text)) in
      has_second (kinds_of c) s.next (s.next + length xs) ks (MailboxOf i ∷ vars_of h (clause_scope h i (scope_view s.scope) s.next t xs y) (suc (s.next + length xs)) m)
      (ap (λ (q : ℕ). s.next + q) (kinds_for_length xs (payload_kinds (tag_named h i t.text)))) fits.kinds

  pub names_within : s.next + length xs < length c.kinds.now
  names_within =
      let h = heads_view c.heads.now in
      kind_within c.kinds.now (s.next + length xs) (MailboxOf i) (has_here (kinds_of c) (s.next + length xs) (MailboxOf i) (vars_of h (clause_scope h i (scope_view s.scope) s.next t xs y) (suc (s.next + length xs)) m) from_kinds)

  -- the names are in scope
  pub bound_scope : (q r : Numbering) (last : Variable) → q.next ≡ s.next + length xs → scope_view q.scope ≡ bind_names s.next xs (drop s.next (kinds_of c)) (scope_view s.scope) → r.scope ≡ last ∷ q.scope → variable_view last ≡ variable y.text q.next (MailboxOf i) → scope_view r.scope ≡ clause_scope (heads_view c.heads.now) i (scope_view s.scope) s.next t xs y
  bound_scope q r last next scope pushed last_is =
      let ks = payload_kinds (tag_named (heads_view c.heads.now) i t.text) in
      ap scope_view pushed
      ∙ ap (λ (j : _). j ∷ scope_view q.scope) (last_is ∙ ap (λ (j : ℕ). variable y.text j (MailboxOf i)) next)
      ∙ ap (λ (j : Scope). variable y.text (s.next + length xs) (MailboxOf i) ∷ j) (scope ∙ bind_by_kinds (kinds_of c) s.next xs ks (scope_view s.scope) own_kinds)

  pub receive_fits : (r : Numbering) → r.nodes ≡ s.nodes → r.next ≡ suc (s.next + length xs) → scope_view r.scope ≡ clause_scope (heads_view c.heads.now) i (scope_view s.scope) s.next t xs y → TermFits c r m
  receive_fits r nodes next scope =
      let h = heads_view c.heads.now in
      let inner = clause_scope h i (scope_view s.scope) s.next t xs y in
      let size = ap length nodes in
      record {
        room = omega (arith, fits.room, size);
        names = omega (arith, fits.names, next);
        kinds =
            has_as (kinds_of c) (sym next)
            (sym (ap (λ (q : Scope). vars_of h q r.next m) scope ∙ ap (λ (q : ℕ). vars_of h inner q m) next))
            (has_next (kinds_of c) (s.next + length xs) (MailboxOf i) (vars_of h inner (suc (s.next + length xs)) m) from_kinds);
      }

  pub receive_adds : (k : Kind) (r o z : Numbering) (outer n : ℕ) → r.nodes ≡ s.nodes → r.next ≡ suc (s.next + length xs) → scope_view r.scope ≡ clause_scope (heads_view c.heads.now) i (scope_view s.scope) s.next t xs y → length r.scope ≡ suc (length xs) + length s.scope → drop (suc (length xs)) r.scope ≡ s.scope → AddsTerm c k m r o → outer ≡ length s.scope → n ≡ length o.scope - outer → z ≡ record o { scope = drop n o.scope } → AddsReceive c i k t xs y m s z
  receive_adds k r o z outer n nodes next scope deep left a outer_is n_is is =
      let h = heads_view c.heads.now in
      let bound = clause_scope h i (scope_view s.scope) s.next t xs y in
      let size = ap length nodes in
      let same : nodes_of h c.function (scope_view r.scope) (length r.nodes) r.next k m ≡ nodes_of h c.function bound (length s.nodes) (suc (s.next + length xs)) k m =
      ap (λ (q : Scope). nodes_of h c.function q (length r.nodes) r.next k m) scope
      ∙ ap (λ (q : ℕ). nodes_of h c.function bound q r.next k m) size
      ∙ ap (λ (q : ℕ). nodes_of h c.function bound (length s.nodes) q k m) next in
      let depth = ap length a.scope in
      let count : n ≡ suc (length xs) = omega (arith, n_is, outer_is, depth, deep) in
      let whole : AddsReceive c i k t xs y m s (record o { scope = drop n o.scope }) = record {
        nodes = a.nodes ∙ ap (λ q. q ++ nodes_of h c.function (scope_view r.scope) (length r.nodes) r.next k m) (ap (map node_view) nodes) ∙ ap (λ q. map node_view s.nodes ++ q) same;
        places = a.places ∙ ap (λ q. q ++ node_places m) (ap (map node_place) nodes);
        next = omega (arith, a.next, next);
        scope = ap (drop n) a.scope ∙ ap (λ (q : ℕ). drop q r.scope) count ∙ left;
      } in
      subst (λ (q : Numbering). AddsReceive c i k t xs y m s q) (sym is) whole

-- ---- names brought into scope one after another

pub bind_step : (kinds : List CodeKind) (items : List Name) (i v : ℕ) (x : Name) (d : CodeKind) (scope : Scope) → i < length items → x ≡ get_or items i x → v < length kinds → bind_names v (map name_view (drop i items)) (drop v (map kind_view kinds)) scope ≡ bind_names (v + 1) (map name_view (drop (i + 1) items)) (drop (v + 1) (map kind_view kinds)) (variable x.text v (kind_view (get_or kinds v d)) ∷ scope)
bind_step kinds items i v x d scope within item there =
    let one : v + 1 ≡ suc v = omega arith in
    let first : map name_view (drop i items) ≡ name_view x ∷ map name_view (drop (i + 1) items) =
    at_drop_more (map name_view) items i x within ∙ ap (λ (q : Name). name_view q ∷ map name_view (drop (i + 1) items)) (sym item) in
    let kind : slice_get (map kind_view kinds) v ≡ Some (kind_view (get_or kinds v d)) =
    slice_get-map kind_view kinds v ∙ ap (option_map kind_view) (slice_get-get_or kinds v d there) in
    ap (λ (q : List tree.Name). bind_names v q (drop v (map kind_view kinds)) scope) first
    ∙ ap (λ (q : List Kind). bind_names v (name_view x ∷ map name_view (drop (i + 1) items)) q scope) (drop_here (map kind_view kinds) v (kind_view (get_or kinds v d)) kind)
    ∙ ap (λ (q : ℕ). bind_names q (map name_view (drop (i + 1) items)) (drop q (map kind_view kinds)) (variable x.text v (kind_view (get_or kinds v d)) ∷ scope)) (sym one)

pub numbers_step : (numbers more : List ℕ) (items : List Name) (i v : ℕ) (x : Name) → i < length items → x ≡ get_or items i x → more ≡ numbers ++ v ∷ [] → more ++ numbers_from (v + 1) (map name_view (drop (i + 1) items)) ≡ numbers ++ numbers_from v (map name_view (drop i items))
numbers_step numbers more items i v x within item pushed =
    let one : v + 1 ≡ suc v = omega arith in
    let first : map name_view (drop i items) ≡ name_view x ∷ map name_view (drop (i + 1) items) =
    at_drop_more (map name_view) items i x within ∙ ap (λ (q : Name). name_view q ∷ map name_view (drop (i + 1) items)) (sym item) in
    ap (λ (q : List ℕ). q ++ numbers_from (v + 1) (map name_view (drop (i + 1) items))) pushed
    ∙ append_assoc numbers (v ∷ []) (numbers_from (v + 1) (map name_view (drop (i + 1) items)))
    ∙ ap (λ (q : ℕ). numbers ++ v ∷ numbers_from q (map name_view (drop (i + 1) items))) one
    ∙ ap (λ (q : List tree.Name). numbers ++ numbers_from v q) (sym first)
