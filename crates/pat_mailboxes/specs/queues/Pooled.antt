-- The queues that a pool holds.
use Rattle.std.specs.Prelude.{◌≡◌, ◌+◌, ◌*◌, ◌<◌, ◌≤◌, ℕ, suc, List, [], ◌∷◌, ◌++◌, length, map, get_or, Option, Some, None, IsSome, slice_get, vec_len, vec_capacity}
use Rattle.std.specs.Option.{option_to_list}
use Rattle.std.specs.List.{AllByRecursion}
use Rattle.pat_mailboxes.specs.queues.Chained.{IsChained, queue_nodes, nodes_in}
use Rattle.pat_reduce.specs.declared.threads.state.Message.{Message}
use Rattle.pat_mailboxes.specs.queues.Lanes.{AreLanes, queue_in}
use Rattle.pat_mailboxes.specs.declared.queues.chains.Chains.{Chains}
use Rattle.pat_mailboxes.specs.declared.queues.pool.Mark.{Mark}
use Rattle.pat_mailboxes.specs.declared.queues.pool.Mark.TheVariants.{Live, Closed}
use Rattle.pat_mailboxes.specs.declared.queues.region.Region.{Region}
use Rattle.pat_limits.specs.Limits.{number_count}

-- what the nodes hold
abbrev pub values_of : {T : Type 0} → List (Option T) → List ℕ → List T
values_of held [] = []
values_of held (k ∷ ks) = option_to_list (get_or held k None) ++ values_of held ks

-- each of the nodes holds a value
abbrev pub AreFull : {T : Type 0} → List (Option T) → List ℕ → Type 0
AreFull held ks = AllByRecursion (λ k. IsSome (get_or held k None)) ks

-- what each queue holds
abbrev pub contents_of : {T : Type 0} → List (Option T) → List (List ℕ) → List (List T)
contents_of held nss = map (values_of held) nss

abbrev pub contents : {T : Type 0} → Region T → List (List T)
contents r = contents_of r.held.items (queue_nodes r.chains)

-- each node stands in one place, and holds a value where that is in a queue
pub record IsHolding {T : Type 0} (chains : Chains) (held : List (Option T)) : Type 0 where
  pub chained : IsChained chains []
  pub nodes : length held ≡ length chains.links.items
  pub full : (q : ℕ) → AreFull held (nodes_in (queue_nodes chains) q)

-- the nodes that were made hold what queues have, and there is memory for the fresh ones
pub record IsRegion {T : Type 0} (r : Region T) : Type 0 where
  pub holding : IsHolding r.chains r.held.items
  pub few : vec_len r.held + r.fresh < number_count
  pub values : vec_len r.held + r.fresh ≤ vec_capacity r.held
  pub links : vec_len r.chains.links + r.fresh ≤ vec_capacity r.chains.links

-- how many nodes no queue has
abbrev pub spare_in : {T : Type 0} → Region T → ℕ
spare_in r = r.chains.spare + r.fresh

-- a queue by its mark
abbrev pub marked : Mark → List Message → Option (List Message)
marked Live messages = Some messages
marked (Closed _) messages = None

-- the queues of these marks, from one on
abbrev pub queues_from : List Mark → List (List Message) → (queue : ℕ) → List (Option (List Message))
queues_from [] chains queue = []
queues_from (m ∷ ms) chains queue = marked m (queue_in chains queue) ∷ queues_from ms chains (suc queue)

abbrev pub queues_of : List Mark → List (List Message) → List (Option (List Message))
queues_of marks chains = queues_from marks chains 0

-- a queue that isn't live is empty
abbrev pub IsEmptyUnlessLive : Option Mark → List Message → Type 0
IsEmptyUnlessLive None messages = messages ≡ []
IsEmptyUnlessLive (Some Live) messages = Unit {0}
IsEmptyUnlessLive (Some (Closed _)) messages = messages ≡ []

-- there are chains for the lanes of each queue that has a mark, and what isn't live is empty
pub record AreMarked (marks : List Mark) (chains : List (List Message)) : Type 0 where
  pub few : length marks * 8 ≤ number_count
  pub each : length marks * 8 ≤ length chains
  pub lanes : AreLanes chains
  pub closed : (queue : ℕ) → IsEmptyUnlessLive (slice_get marks queue) (queue_in chains queue)
