-- A chain of lets, from the inside out.
use Rattle.std.specs.Prelude.{ℕ, zero, suc, List, [], ◌∷◌, Option, Some, None}
use Rattle.pat_semantics_spec.specs.Programs.{Core, Let, Node, Program, node_at}
use Rattle.pat_type_system_spec.specs.Types.{TypeOf}
use Rattle.pat_infer_spec.specs.Constraints.{Found}
use Rattle.pat_infer_spec.specs.Walk.{bound_found, with_node, walk}

-- the body of a let
abbrev pub core_body : Core → Option ℕ
core_body (Let x m b) = Some b
core_body _ = None

abbrev pub node_body : Option Node → Option ℕ
node_body None = None
node_body (Some d) = core_body d.core

-- the same where at least one level is left
abbrev pub next_body : ℕ → Option Node → Option ℕ
next_body zero o = None
next_body (suc levels) o = node_body o

-- the name and the bound part of a let
abbrev pub core_bound : Core → Option (Option ℕ × ℕ)
core_bound (Let x m b) = Some (x, m)
core_bound _ = None

abbrev pub node_bound : Option Node → Option (Option ℕ × ℕ)
node_bound None = None
node_bound (Some d) = core_bound d.core

-- the let of a node whose body found r, where parts stand on at most so many levels
abbrev pub let_core : Program → ℕ → ℕ → TypeOf → ℕ → Core → Found → Found
let_core p levels n asked k (Let x m b) r = with_node n asked (bound_found p (walk levels p) n k x m r)
let_core p levels n asked k _ r = r

abbrev pub let_around : Program → ℕ → ℕ → TypeOf → ℕ → Option Node → Found → Found
let_around p levels n asked k None r = r
let_around p levels n asked k (Some d) r = let_core p levels n asked k d.core r

-- what the lets around find, where the innermost one's parts stand on at most so many levels
abbrev pub climbed : Program → TypeOf → ℕ → ℕ → List ℕ → Found → Found
climbed p asked k levels [] r = r
climbed p asked k levels (n ∷ ns) r = climbed p asked k (suc levels) ns (let_around p levels n asked k (node_at p n) r)
