-- What numbering a term asks for, and what it adds.
use Rattle.std.specs.Prelude.{◌≡◌, ℕ, suc, ◌+◌, ◌<◌, List, [], ◌∷◌, ◌++◌, length, map, Option, Some, None, slice_set}
use Rattle.pat_semantics_spec.specs.Values.{Kind, MailboxOf}
use Rattle.pat_semantics_spec.specs.Programs.{Clause, If, Let, Node}
use Rattle.pat_parser_spec.specs.Trees as tree
use Rattle.pat_resolver_spec.specs.Scopes.{Scope, variable, unit_kind, number_found}
use Rattle.pat_resolver_spec.specs.Heads.{Heads, clause_scope, payload_kinds, tag_named}
use Rattle.pat_resolver_spec.specs.Findings.{binders_in, clauses_binders_in, kind_of_term}
use Rattle.pat_resolver_spec.specs.Places.{node_places, clauses_node_places}
use Rattle.pat_resolver_spec.specs.Numbering.{expr_of, node, free_body, receives, kinds_for, numbers_from, nodes_in, clauses_nodes_in, nodes_of, clauses_nodes_of, vars_of, clauses_vars_of}
use Rattle.pat_core.specs.Views.{clause_view, kind_view, node_view}
use Rattle.pat_core.specs.declared.program.Node.{Node as CodeNode}
use Rattle.pat_tree.specs.Views.{span_view}
use Rattle.pat_resolver_heads.specs.tables.Views.{scope_view}
use Rattle.pat_resolver_heads.specs.declared.tables.scope.Variable.{Variable}
use Rattle.pat_resolver_heads.specs.Views.{heads_view}
use Rattle.pat_resolver.specs.numbering.Kinds.{HasAt}
use Rattle.pat_resolver.specs.declared.numbering.guards.Bodies.{Bodies}
use Rattle.pat_resolver.specs.declared.numbering.state.Context.{Context}
use Rattle.pat_resolver.specs.declared.numbering.state.Numbering.{Numbering}
use Rattle.pat_limits.specs.Limits.{number_count}

-- where a node stands in the text
abbrev pub node_place : CodeNode → tree.Span
node_place d = span_view d.span

-- the kinds of the function's variables
abbrev pub kinds_of : Context → List Kind
kinds_of c = map kind_view c.kinds.now

-- there is room for so many nodes and so many variables, and the kinds of the variables are these
pub record Fits (c : Context) (s : Numbering) (nodes variables : ℕ) (ks : List Kind) : Type 0 where
  pub room : length s.nodes + nodes < number_count
  pub names : s.next + variables < number_count
  pub kinds : HasAt (kinds_of c) s.next ks

-- these nodes were appended, with their places; so many variables were numbered, and these are in scope besides
pub record Adds (ds : List Node) (spans : List tree.Span) (variables : ℕ) (inner : List Variable) (before after : Numbering) : Type 0 where
  pub nodes : map node_view after.nodes ≡ map node_view before.nodes ++ ds
  pub places : map node_place after.nodes ≡ map node_place before.nodes ++ spans
  pub next : after.next ≡ before.next + variables
  pub scope : after.scope ≡ inner ++ before.scope

-- a term can be numbered
abbrev pub TermFits : Context → Numbering → tree.Term → Type 0
TermFits c s t = Fits c s (nodes_in t) (binders_in t) (vars_of (heads_view c.heads.now) (scope_view s.scope) s.next t)

-- the clauses of a guard on a mailbox of interface i can be
abbrev pub ClausesFit : Context → ℕ → Numbering → tree.Clauses → Type 0
ClausesFit c i s cs = Fits c s (clauses_nodes_in cs) (clauses_binders_in cs) (clauses_vars_of (heads_view c.heads.now) i (scope_view s.scope) s.next cs)

-- a term of which a kind is needed was numbered
abbrev pub AddsTerm : Context → Kind → tree.Term → Numbering → Numbering → Type 0
AddsTerm c k t before after =
    Adds (nodes_of (heads_view c.heads.now) c.function (scope_view before.scope) (length before.nodes) before.next k t) (node_places t) (binders_in t) [] before after

-- the clauses of a guard on a mailbox of interface i were
abbrev pub AddsClauses : Context → ℕ → Kind → tree.Clauses → Numbering → Numbering → Type 0
AddsClauses c i k cs before after =
    Adds (clauses_nodes_of (heads_view c.heads.now) c.function i (scope_view before.scope) (length before.nodes) before.next k cs) (clauses_node_places cs) (clauses_binders_in cs) [] before after

-- ---- a let, with or without a name

-- the number of the first variable that the bound term of a let binds, where its own would have the number v
abbrev pub first_within : Option tree.Name → ℕ → ℕ
first_within None v = v
first_within (Some x) v = suc v

-- the kind that is needed of the bound term
abbrev pub bound_kind : Heads → Scope → ℕ → Option tree.Name → tree.Term → Kind
bound_kind h scope v None m = unit_kind
bound_kind h scope v (Some x) m = kind_of_term h scope (suc v) m

-- the variable of a let
abbrev pub let_variable : Option tree.Name → ℕ → Option ℕ
let_variable None v = None
let_variable (Some x) v = Some v

-- the kinds of the let's own variables
abbrev pub own_kinds : Option tree.Name → Kind → List Kind
own_kinds None k = []
own_kinds (Some x) k = k ∷ []

-- the scope of the body
abbrev pub body_scope : Option tree.Name → ℕ → Kind → Scope → Scope
body_scope None v k scope = scope
body_scope (Some x) v k scope = variable x.text v k ∷ scope

-- a let whose bound term is m can be numbered, up to its body
abbrev pub LetFits : Context → Numbering → Option tree.Name → tree.Term → Type 0
LetFits c s x m =
    let h = heads_view c.heads.now in
    let scope = scope_view s.scope in
    Fits c s (suc (nodes_in m)) (first_within x (binders_in m)) (own_kinds x (bound_kind h scope s.next x m) ++ vars_of h scope (first_within x s.next) m)

-- its node and those of the bound term were appended, and its name is in scope
pub record AddsLet (c : Context) (k : Kind) (at : tree.Span) (x : Option tree.Name) (m : tree.Term) (before after : Numbering) : Type 0 where
  pub inner : List Variable
  pub added :
      Adds
      (node c.function k (Let (let_variable x before.next) (suc (length before.nodes)) (suc (length before.nodes) + nodes_in m))
      ∷ nodes_of (heads_view c.heads.now) c.function (scope_view before.scope) (suc (length before.nodes)) (first_within x before.next) (bound_kind (heads_view c.heads.now) (scope_view before.scope) before.next x m) m)
      (at ∷ node_places m)
      (first_within x (binders_in m))
      inner
      before
      after
  pub named : scope_view after.scope ≡ body_scope x before.next (bound_kind (heads_view c.heads.now) (scope_view before.scope) before.next x m) (scope_view before.scope)

-- the node of an if is d, in the place that was kept for it
pub record FillsIf (c : Context) (k : Kind) (at : tree.Span) (e : tree.Expr) (n other : ℕ) (d : CodeNode) (before after : Numbering) : Type 0 where
  pub seen : node_view d ≡ node c.function k (If (expr_of (scope_view before.scope) e) (suc n) other)
  pub place : node_place d ≡ at
  pub filled : after ≡ record before { nodes = slice_set before.nodes n d }

-- the term is no let
abbrev pub IsLast : tree.Term → Type 0
IsLast (tree.LetTerm x m b at) = ⊥
IsLast _ = Unit {0}

-- ---- clauses

-- the first, if there is one, or else the second
abbrev pub either_of : Option ℕ → Option ℕ → Option ℕ
either_of None second = second
either_of (Some n) second = Some n

-- no body yet
abbrev pub no_bodies : Bodies
no_bodies = record { free = None; receives = [] }

-- the bodies of clauses, of which the first has the next number, were noted behind the earlier ones
pub record Notes (c : Context) (i : ℕ) (cs : tree.Clauses) (s : Numbering) (earlier all : Bodies) : Type 0 where
  pub free : all.free ≡ either_of earlier.free (free_body (length s.nodes) cs)
  pub receives : map clause_view all.receives ≡ map clause_view earlier.receives ++ receives (heads_view c.heads.now) i (length s.nodes) s.next cs

-- a receive clause can be numbered
abbrev pub ReceiveFits : Context → ℕ → Numbering → tree.Name → List tree.Name → tree.Name → tree.Term → Type 0
ReceiveFits c i s t xs y m =
    let h = heads_view c.heads.now in
    Fits c s (nodes_in m) (suc (length xs) + binders_in m)
    (kinds_for xs (payload_kinds (tag_named h i t.text)) ++ MailboxOf i ∷ vars_of h (clause_scope h i (scope_view s.scope) s.next t xs y) (suc (s.next + length xs)) m)

-- it was
abbrev pub AddsReceive : Context → ℕ → Kind → tree.Name → List tree.Name → tree.Name → tree.Term → Numbering → Numbering → Type 0
AddsReceive c i k t xs y m before after =
    let h = heads_view c.heads.now in
    Adds
    (nodes_of h c.function (clause_scope h i (scope_view before.scope) before.next t xs y) (length before.nodes) (suc (before.next + length xs)) k m)
    (node_places m)
    (suc (length xs) + binders_in m)
    []
    before
    after

-- what is noted of a receive clause
abbrev pub receive_of : Context → ℕ → Numbering → tree.Name → List tree.Name → Clause
receive_of c i s t xs = record {
  tag = number_found (tag_named (heads_view c.heads.now) i t.text);
  vars = numbers_from s.next xs;
  from = s.next + length xs;
  body = length s.nodes;
}
