-- Which variables are in scope at a node: parameters, and what a term above binds in the part that leads to the node.
use Rattle.std.specs.Prelude.{ℕ, zero, suc, Bool, false, ◌||◌, nat_eq, nat_lt, if◌then◌else◌, List, [], ◌∷◌, length, Option, Some, None, option_and_then, slice_get}
use Rattle.pat_type_system_spec.specs.Values.{Kind}
use Rattle.pat_type_system_spec.specs.Programs.{Function, Clause, Core, Let, Guard, Node, Program, node_at, core_at, function_at, parts, is_among, clause_binders, option_list}

-- the function of a node
abbrev pub function_of : Program → ℕ → Option Function
function_of p n = option_and_then (λ d. function_at p d.function) (node_at p n)

-- the kind of a variable at a node
abbrev pub kind_at : Program → ℕ → ℕ → Option Kind
kind_at p n x = option_and_then (λ g. slice_get g.vars x) (function_of p n)

-- what the clauses bind in the body m
abbrev pub bound_by_clauses : ℕ → List Clause → List ℕ
bound_by_clauses m [] = []
bound_by_clauses m (c ∷ cs) = if nat_eq m c.body then clause_binders c else bound_by_clauses m cs

-- what the term binds in its part m
abbrev pub bound_in : ℕ → Option Core → List ℕ
bound_in m (Some (Let x k n)) = if nat_eq m n then option_list x else []
bound_in m (Some (Guard x e free cs)) = bound_by_clauses m cs
bound_in m _ = []

-- the node that n is a part of, from node k on
abbrev pub above_from : ℕ → List Node → ℕ → Option ℕ
above_from k [] n = None
above_from k (d ∷ ds) n = if is_among n (parts d.core) then Some k else above_from (suc k) ds n

-- the node that n is a part of
abbrev pub node_above : Program → ℕ → Option ℕ
node_above p n = above_from 0 p.nodes n

-- x is a parameter of the function
abbrev pub is_param : ℕ → Option Function → Bool
is_param x None = false
is_param x (Some g) = nat_lt x (length g.params)

-- x is in scope in part n of the node above, where `there k` says so of node k
abbrev pub is_from_above : Program → (ℕ → Bool) → ℕ → ℕ → Option ℕ → Bool
is_from_above p there n x None = false
is_from_above p there n x (Some k) = is_among x (bound_in n (core_at p k)) || there k

-- x is in scope at node n, looking at most so many nodes up
abbrev pub is_in_scope_within : ℕ → Program → ℕ → ℕ → Bool
is_in_scope_within zero p n x = is_param x (function_of p n)
is_in_scope_within (suc up) p n x =
    is_param x (function_of p n) || is_from_above p (λ k. is_in_scope_within up p k x) n x (node_above p n)

-- x is in scope at node n
unfoldable pub is_in_scope : Program → ℕ → ℕ → Bool
is_in_scope p n x = is_in_scope_within (length p.nodes) p n x
