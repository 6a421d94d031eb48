-- A chain of lets: down to the last body, and up again.
use Rattle.std.proofs.Common.{◌≡◌, ℕ, suc, ◌+◌, List, [], ◌∷◌, ◌++◌, length, Option, Some, None, ap}
use Rattle.pat_semantics_spec.specs.Programs.{Core, Val, Let, Call, If, Print, New, Send, Spawn, Guard, Node, Program, node_at}
use Rattle.pat_type_system_spec.specs.Types.{TypeOf}
use Rattle.pat_infer_spec.specs.Constraints.{Finding, Found}
use Rattle.pat_infer_spec.specs.Walk.{asked_of, name_need, body_needs, let_findings, bound_found, with_node, core_found, node_found, walk}
use Rattle.pat_infer_problems.specs.Results.{first_of}
use Rattle.pat_infer.specs.walk.Chains.{core_body, node_body, let_core, let_around, climbed}

module _ (p : Program) (asked : TypeOf) (k : ℕ) where
  by_core : (levels n b f : ℕ) (core : Core) → core_body core ≡ Some b → with_node n asked (core_found p (walk levels p) f n k asked core) ≡ let_core p levels n asked k core (walk levels p b asked k)
  by_core levels n b f (Let x m c) e =
      let same : c ≡ b = cc in ap (λ z. with_node n asked (bound_found p (walk levels p) n k x m (walk levels p z asked k))) same
  by_core levels n b f (Val e) h = cc
  by_core levels n b f (Call g es) h = cc
  by_core levels n b f (If e a c) h = cc
  by_core levels n b f (Print e) h = cc
  by_core levels n b f (New i) h = cc
  by_core levels n b f (Send x m es) h = cc
  by_core levels n b f (Spawn m) h = cc
  by_core levels n b f (Guard x e free cs) h = cc

  by_node : (levels n b : ℕ) (o : Option Node) → node_body o ≡ Some b → node_found p (walk levels p) n asked k o ≡ let_around p levels n asked k o (walk levels p b asked k)
  by_node levels n b None h = cc
  by_node levels n b (Some d) h = by_core levels n b d.function d.core h

  -- one let further down
  pub one_down : (levels n b : ℕ) (lets : List ℕ) → node_body (node_at p n) ≡ Some b → climbed p asked k (suc levels) lets (walk (suc levels) p n asked k) ≡ climbed p asked k levels (n ∷ lets) (walk levels p b asked k)
  one_down levels n b lets h = ap (climbed p asked k (suc levels) lets) (by_node levels n b (node_at p n) h)

  -- what is found first in the body is found first in all
  pub first_up : (x : Finding) (levels : ℕ) (lets : List ℕ) (r : Found) → first_of r.findings ≡ Some x → first_of (climbed p asked k levels lets r).findings ≡ Some x
  first_up x levels [] r h = h
  first_up x levels (n ∷ lets) r h = first_up x (suc levels) lets (let_around p levels n asked k (node_at p n) r) (around (node_at p n))
    where
      front : (xs ys : List Finding) → first_of xs ≡ Some x → first_of (xs ++ ys) ≡ Some x
      front [] ys e = cc
      front (y ∷ xs) ys e = e

      in_core : (core : Core) → first_of (let_core p levels n asked k core r).findings ≡ Some x
      in_core (Let y m b) =
          let bound : Found = walk levels p m (asked_of (node_at p m) (name_need y r.needs)) (k + length r.vars) in
          front r.findings (bound.findings ++ let_findings n bound.needs (body_needs y r.needs)) h
      in_core (Val e) = h
      in_core (Call g es) = h
      in_core (If e a c) = h
      in_core (Print e) = h
      in_core (New i) = h
      in_core (Send z m es) = h
      in_core (Spawn m) = h
      in_core (Guard z e free cs) = h

      around : (o : Option Node) → first_of (let_around p levels n asked k o r).findings ≡ Some x
      around None = h
      around (Some d) = in_core d.core
