-- The chains of a region.
use Rattle.std.specs.Prelude.{◌≡◌, ℕ, ◌-◌, ◌<◌, List, [], length, map, get_or, slice_index}
use Rattle.pat_mailboxes.specs.queues.Nodes.{path, AreApart}
use Rattle.pat_mailboxes.specs.declared.queues.chains.Chain.{Chain}
use Rattle.pat_mailboxes.specs.declared.queues.chains.Chains.{Chains}
use Rattle.pat_limits.specs.Limits.{number_count}

abbrev pub nodes_of : List ℕ → Chain → List ℕ
nodes_of links c = path links c.len c.first

-- the chain beyond the last queue
abbrev pub no_chain : Chain
no_chain = record { first = 0; last = 0; len = 0 }

-- a chain that isn't empty ends with its last node
abbrev pub EndsWell : List ℕ → Chain → Type 0
EndsWell links c = 0 < c.len → slice_index (nodes_of links c) (c.len - 1) ≡ c.last

-- a region whose links lead through the free nodes and through those of each queue, while some nodes stand in no chain
pub record IsLinked (links : List ℕ) (first spare : ℕ) (queues : List Chain) (loose : List ℕ) : Type 0 where
  pub fits : length links < number_count
  pub apart : AreApart (length links) loose (path links spare first) (map (nodes_of links) queues)
  pub ends : (q : ℕ) → EndsWell links (get_or queues q no_chain)

abbrev pub IsChained : Chains → (loose : List ℕ) → Type 0
IsChained c loose = IsLinked c.links.items c.first_free c.spare c.queues.items loose

-- the nodes of each queue
abbrev pub queue_nodes : Chains → List (List ℕ)
queue_nodes c = map (nodes_of c.links.items) c.queues.items

-- those of a queue
abbrev pub nodes_in : List (List ℕ) → ℕ → List ℕ
nodes_in nss q = get_or nss q []
