-- What steps add together.
use Rattle.std.proofs.Common.{◌≡◌, ◌+◌, ℕ, List, ◌∷◌, ◌++◌, length, map, ap, sym, ◌∙◌, subst, arith, append_assoc, length-append}
use Rattle.std.specs.Prelude.{slice_set}
use Rattle.std.proofs.lemmas.List.{map-set}
use Rattle.std.proofs.Math.Seq.{set-append_seam}
use Rattle.std.proofs.lemmas.List.{length-map}
use Rattle.pat_semantics_spec.specs.Values.{Kind}
use Rattle.pat_semantics_spec.specs.Programs.{Node}
use Rattle.pat_parser_spec.specs.Trees as tree
use Rattle.pat_resolver_spec.specs.Heads.{Heads}
use Rattle.pat_resolver_spec.specs.Numbering.{nodes_of, clauses_nodes_of, vars_of, clauses_vars_of}
use Rattle.pat_core.specs.Views.{node_view}
use Rattle.pat_core.specs.declared.program.Node.{Node as CodeNode}
use Rattle.pat_resolver_heads.specs.tables.Views.{scope_view}
use Rattle.pat_resolver_heads.specs.declared.tables.scope.Variable.{Variable}
use Rattle.pat_resolver.specs.numbering.Kinds.{HasAt}
use Rattle.pat_resolver.specs.numbering.Progress.{node_place, Adds}
use Rattle.pat_resolver.specs.declared.numbering.state.Numbering.{Numbering}

-- how many nodes there are then
pub grown : {ds : List Node} {spans : List tree.Span} {n : ℕ} {inner : List Variable} {before after : Numbering} → Adds ds spans n inner before after → length after.nodes ≡ length before.nodes + length ds
grown {ds = ds} {before = before} {after = after} a =
    sym (length-map after.nodes node_view)
    ∙ ap length a.nodes
    ∙ length-append (map node_view before.nodes) ds
    ∙ ap (λ k. k + length ds) (length-map before.nodes node_view)

-- the same nodes, places and number of variables, written otherwise
pub adds_as : {ds es : List Node} {ps qs : List tree.Span} {m n : ℕ} {inner : List Variable} {before after : Numbering} → ds ≡ es → ps ≡ qs → m ≡ n → Adds ds ps m inner before after → Adds es qs n inner before after
adds_as {before = before} d p e a = record {
  nodes = a.nodes ∙ ap (λ xs. map node_view before.nodes ++ xs) d;
  places = a.places ∙ ap (λ xs. map node_place before.nodes ++ xs) p;
  next = a.next ∙ ap (λ k. before.next + k) e;
  scope = a.scope;
}

-- one step after another
pub adds_both : {ds es : List Node} {ps qs : List tree.Span} {m n : ℕ} {outer inner : List Variable} {before middle after : Numbering} → Adds ds ps m outer before middle → Adds es qs n inner middle after → Adds (ds ++ es) (ps ++ qs) (m + n) (inner ++ outer) before after
adds_both {ds} {es} {ps} {qs} {m} {n} {outer} {inner} {before} {middle} {after} a b = record {
  nodes = b.nodes ∙ ap (λ xs. xs ++ es) a.nodes ∙ append_assoc (map node_view before.nodes) ds es;
  places = b.places ∙ ap (λ xs. xs ++ qs) a.places ∙ append_assoc (map node_place before.nodes) ps qs;
  next = omega (arith, a.next, b.next);
  scope = b.scope ∙ ap (λ xs. inner ++ xs) a.scope ∙ sym (append_assoc inner outer before.scope);
}

-- a node is put in the place that was kept for it
pub put_at : {A : Type 0} (f : CodeNode → A) (old all : List CodeNode) (x : A) (xs : List A) (d : CodeNode) → map f all ≡ map f old ++ x ∷ xs → map f (slice_set all (length old) d) ≡ map f old ++ f d ∷ xs
put_at f old all x xs d e =
    map-set f all (length old) d
    ∙ ap (λ ys. slice_set ys (length old) (f d)) e
    ∙ ap (λ k. slice_set (map f old ++ x ∷ xs) k (f d)) (sym (length-map old f))
    ∙ set-append_seam (map f old) x xs (f d)

pub filled : {x : Node} {ds : List Node} {p : tree.Span} {ps : List tree.Span} {n : ℕ} {inner : List Variable} {before after : Numbering} (d : CodeNode) → Adds (x ∷ ds) (p ∷ ps) n inner before after → Adds (node_view d ∷ ds) (node_place d ∷ ps) n inner before (record after { nodes = slice_set after.nodes (length before.nodes) d })
filled {x} {ds} {p} {ps} {n} {inner} {before} {after} d a = record {
  nodes = put_at node_view before.nodes after.nodes x ds d a.nodes;
  places = put_at node_place before.nodes after.nodes p ps d a.places;
  next = a.next;
  scope = a.scope;
}

module _ (h : Heads) where
  -- the same nodes from the same numbers
  pub nodes_as : (f : ℕ) (k : Kind) (t : tree.Term) {s r : List Variable} {m n v w : ℕ} → s ≡ r → m ≡ n → v ≡ w → nodes_of h f (scope_view s) m v k t ≡ nodes_of h f (scope_view r) n w k t
  nodes_as f k t {r = r} {m = m} {n = n} {v = v} s e g =
      ap (λ (q : List Variable). nodes_of h f (scope_view q) m v k t) s
      ∙ ap (λ (q : ℕ). nodes_of h f (scope_view r) q v k t) e
      ∙ ap (λ (q : ℕ). nodes_of h f (scope_view r) n q k t) g

  pub clauses_as : (f i : ℕ) (k : Kind) (cs : tree.Clauses) {s r : List Variable} {m n v w : ℕ} → s ≡ r → m ≡ n → v ≡ w → clauses_nodes_of h f i (scope_view s) m v k cs ≡ clauses_nodes_of h f i (scope_view r) n w k cs
  clauses_as f i k cs {r = r} {m = m} {n = n} {v = v} s e g =
      ap (λ (q : List Variable). clauses_nodes_of h f i (scope_view q) m v k cs) s
      ∙ ap (λ (q : ℕ). clauses_nodes_of h f i (scope_view r) q v k cs) e
      ∙ ap (λ (q : ℕ). clauses_nodes_of h f i (scope_view r) n q k cs) g

  -- the same variables
  pub vars_as : (t : tree.Term) {s r : List Variable} {v w : ℕ} → s ≡ r → v ≡ w → vars_of h (scope_view s) v t ≡ vars_of h (scope_view r) w t
  vars_as t {r = r} {v = v} s g = ap (λ (q : List Variable). vars_of h (scope_view q) v t) s ∙ ap (λ (q : ℕ). vars_of h (scope_view r) q t) g

  pub clauses_vars_as : (i : ℕ) (cs : tree.Clauses) {s r : List Variable} {v w : ℕ} → s ≡ r → v ≡ w → clauses_vars_of h i (scope_view s) v cs ≡ clauses_vars_of h i (scope_view r) w cs
  clauses_vars_as i cs {r = r} {v = v} s g = ap (λ (q : List Variable). clauses_vars_of h i (scope_view q) v cs) s ∙ ap (λ (q : ℕ). clauses_vars_of h i (scope_view r) q cs) g

-- ---- kinds

pub has_as : (vars : List Kind) {v w : ℕ} {ks js : List Kind} → v ≡ w → ks ≡ js → HasAt vars v ks → HasAt vars w js
has_as vars {w = w} {ks = ks} e k has = subst (λ (q : List Kind). HasAt vars w q) k (subst (λ (q : ℕ). HasAt vars q ks) e has)
