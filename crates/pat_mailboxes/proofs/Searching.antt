-- A walk along the nodes of a queue, for all its values or for the first one that passes a test.
use Rattle.std.proofs.Common.{◌≡◌, ℕ, zero, suc, ◌+◌, ◌<◌, ◌≤◌, Bool, true, false, List, [], ◌∷◌, ◌++◌, length, take, get_or, slice_get, slice_index, Option, Some, None, IsSome, sym, ap, ◌∙◌, subst, arith, add-one, take_all}
use Rattle.std.proofs.lemmas.List.{length-map, get_or_read}
use Rattle.pat_mailboxes.specs.queues.Chained.{nodes_of, queue_nodes, nodes_in}
use Rattle.pat_mailboxes.specs.queues.Queues.{Finds, NonePasses}
use Rattle.pat_mailboxes.specs.queues.Pooled.{values_of, contents_of, IsHolding}
use Rattle.pat_mailboxes.specs.declared.queues.chains.Chain.{Chain}
use Rattle.pat_mailboxes.specs.declared.queues.chains.Chains.{Chains}
use Rattle.pat_mailboxes.proofs.NodeLaws.{walk_first, walk_next}
use Rattle.pat_mailboxes.proofs.ChainLaws.{chain_is}
use Rattle.pat_mailboxes.proofs.Linking.{own_nodes, own_length}
use Rattle.pat_mailboxes.proofs.Holding.{some_held, queue_length, value_in}

none_more : {T : Type 0} (test : T → Bool) (vs : List T) (i : ℕ) (v : T) → slice_get vs i ≡ Some v → test v ≡ false → NonePasses test (take i vs) → NonePasses test (take (suc i) vs)
none_more test [] i v at is n = absurd cc
none_more test (x ∷ xs) zero v at is n = let same : x ≡ v = cc in (ap test same ∙ is, tt)
none_more test (x ∷ xs) (suc i) v at is n = (n.0, none_more test xs i v at is n.1)

take_more : {T : Type 0} (vs : List T) (i : ℕ) (v : T) → slice_get vs i ≡ Some v → take (suc i) vs ≡ take i vs ++ v ∷ []
take_more [] i v at = absurd cc
take_more (x ∷ xs) zero v at = let same : x ≡ v = cc in ap (λ y. y ∷ []) same
take_more (x ∷ xs) (suc i) v at = ap (λ l. x ∷ l) (take_more xs i v at)

module _ {T : Type 0} (chains : Chains) (held : List (Option T)) (q : ℕ) (own : Chain) (h : IsHolding chains held) (there : q < length (contents_of held (queue_nodes chains))) (read : own ≡ get_or chains.queues.items q own) where
  own_is : nodes_in (queue_nodes chains) q ≡ nodes_of chains.links.items own
  own_is =
      let size = length-map (queue_nodes chains) (values_of held) in
      own_nodes chains.links.items chains.first_free chains.spare chains.queues.items q own (chain_is chains.links.items chains.queues.items q own (omega arith) read)

  pub own_size : length (get_or (contents_of held (queue_nodes chains)) q []) ≡ own.len
  own_size =
      let size = length-map (queue_nodes chains) (values_of held) in
      queue_length chains held q h ∙ own_length chains.links.items chains.first_free chains.spare chains.queues.items q own (chain_is chains.links.items chains.queues.items q own (omega arith) read)

  pub first_node : 0 < own.len → own.first ≡ slice_index (nodes_in (queue_nodes chains) q) 0
  first_node some = walk_first chains.links.items own.len own.first some ∙ ap (λ ns. slice_index ns 0) (sym own_is)

  module _ (i k : ℕ) (before : i < own.len) (at : i < own.len → k ≡ slice_index (nodes_in (queue_nodes chains) q) i) where
    found_here : (i < length (nodes_in (queue_nodes chains) q)) × (slice_get (get_or (contents_of held (queue_nodes chains)) q []) i ≡ get_or held (slice_index (nodes_in (queue_nodes chains) q) i) None) × IsSome (get_or held (slice_index (nodes_in (queue_nodes chains) q) i) None)
        × (slice_index (nodes_in (queue_nodes chains) q) i < length held)
    found_here = value_in chains held q i h (let size = own_size in omega arith)

    pub node_inside : k < length held
    node_inside = subst (λ n. n < length held) (sym (at before)) found_here.3

    -- what the node holds
    pub value_here : (v : T) × (slice_get (get_or (contents_of held (queue_nodes chains)) q []) i ≡ Some v) × (get_or held k None ≡ Some v)
    value_here =
        let some = some_held (get_or held (slice_index (nodes_in (queue_nodes chains) q) i) None) found_here.2 in
        (some.0, found_here.1 ∙ some.1, ap (λ n. get_or held n None) (at before) ∙ some.1)

    pub next_node : (next : ℕ) → next ≡ get_or chains.links.items k next → i + 1 < own.len → next ≡ slice_index (nodes_in (queue_nodes chains) q) (i + 1)
    next_node next to more =
        let nodes = h.nodes in
        let within = node_inside in
        get_or_read chains.links.items k next (omega arith) to 0
        ∙ walk_next chains.links.items own.len own.first i k more (at before ∙ ap (λ ns. slice_index ns i) own_is)
        ∙ ap (λ ns. slice_index ns (i + 1)) (sym own_is)

    pub more_listed : (r : T) → get_or held k None ≡ Some r → (front : List T) → front ≡ take i (get_or (contents_of held (queue_nodes chains)) q []) → front ++ r ∷ [] ≡ take (i + 1) (get_or (contents_of held (queue_nodes chains)) q [])
    more_listed r is front so_far =
        let v = value_here in
        let vs = get_or (contents_of held (queue_nodes chains)) q [] in
        let same : v.0 ≡ r = let both : Some v.0 ≡ Some r = sym v.2 ∙ is in cc in
        ap (λ l. l ++ r ∷ []) so_far ∙ sym (ap (λ n. take n vs) (add-one i) ∙ take_more vs i r (v.1 ∙ ap Some same))

    module _ (test : T → Bool) (r : T) (is : get_or held k None ≡ Some r) (none : NonePasses test (take i (get_or (contents_of held (queue_nodes chains)) q []))) where
      there_is : slice_get (get_or (contents_of held (queue_nodes chains)) q []) i ≡ Some r
      there_is = let v = value_here in v.1 ∙ sym v.2 ∙ is

      pub search_found : test r ≡ true → Finds test (get_or (contents_of held (queue_nodes chains)) q []) (Some (i, r))
      search_found passes = (there_is, passes, none)

      pub search_none : test r ≡ false → NonePasses test (take (i + 1) (get_or (contents_of held (queue_nodes chains)) q []))
      search_none fails =
          let vs = get_or (contents_of held (queue_nodes chains)) q [] in
          subst (λ n. NonePasses test (take n vs)) (sym (add-one i)) (none_more test vs i r there_is fails none)

  pub all_listed : (i : ℕ) → own.len ≤ i → (front : List T) → front ≡ take i (get_or (contents_of held (queue_nodes chains)) q []) → front ≡ get_or (contents_of held (queue_nodes chains)) q []
  all_listed i past front so_far =
      let size = own_size in
      so_far ∙ take_all i (get_or (contents_of held (queue_nodes chains)) q []) (omega arith)

  pub search_end : (test : T → Bool) (i : ℕ) → own.len ≤ i → NonePasses test (take i (get_or (contents_of held (queue_nodes chains)) q [])) → NonePasses test (get_or (contents_of held (queue_nodes chains)) q [])
  search_end test i past none =
      let size = own_size in
      subst (NonePasses test) (take_all i (get_or (contents_of held (queue_nodes chains)) q []) (omega arith)) none
