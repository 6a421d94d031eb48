-- What nodes hold, while one of them changes.
use Rattle.std.proofs.Common.{◌≡◌, ℕ, zero, suc, ◌+◌, ◌<◌, List, [], ◌∷◌, ◌++◌, ⊎_elim, length, get_or, remove, slice_index, slice_set, slice_get, Option, Some, None, IsSome, option_to_list, refl, sym, ap, ◌∙◌, subst, arith, append_assoc, set-set, length-set, length-append, get_or-set_same, get_or-set_other}
use Rattle.std.proofs.lemmas.Bool.{cases_eq}
use Rattle.std.proofs.lemmas.List.{length-map, map-append}
use Rattle.pat_mailboxes.specs.queues.Nodes.{times, sum_over}
use Rattle.pat_mailboxes.specs.queues.Chained.{IsChained, nodes_of, queue_nodes, nodes_in}
use Rattle.pat_mailboxes.specs.queues.Pooled.{values_of, AreFull, contents_of, contents, IsHolding}
use Rattle.pat_mailboxes.specs.declared.queues.chains.Chains.{Chains}
use Rattle.pat_mailboxes.specs.declared.queues.region.Region.{Region}
use Rattle.pat_mailboxes.proofs.NodeLaws.{itself, differs, times-append, times-remove, times_at, sum_over_part, is_node, is_alone, not_elsewhere}
use Rattle.pat_mailboxes.proofs.ChainLaws.{is_queue, not_there, get_empty}

module _ {T : Type 0} where
  pub values_frame : (held : List (Option T)) (k : ℕ) (o : Option T) (ks : List ℕ) → times k ks ≡ 0 → values_of (slice_set held k o) ks ≡ values_of held ks
  values_frame held k o [] h = refl
  values_frame held k o (x ∷ xs) h =
      let d = differs k x (times k xs) h in
      let own : get_or (slice_set held k o) x None ≡ get_or held x None = get_or-set_other held k x o None (λ q. d.0 (sym q)) in
      ap (λ v. option_to_list v ++ values_of (slice_set held k o) xs) own ∙ ap (λ vs. option_to_list (get_or held x None) ++ vs) (values_frame held k o xs d.1)

  pub full_frame : (held : List (Option T)) (k : ℕ) (o : Option T) (ks : List ℕ) → times k ks ≡ 0 → AreFull held ks → AreFull (slice_set held k o) ks
  full_frame held k o [] h f = tt
  full_frame held k o (x ∷ xs) h f =
      let d = differs k x (times k xs) h in
      let own : get_or (slice_set held k o) x None ≡ get_or held x None = get_or-set_other held k x o None (λ q. d.0 (sym q)) in
      (subst IsSome (sym own) f.0, full_frame held k o xs d.1 f.1)

  contents_frame : (held : List (Option T)) (k : ℕ) (o : Option T) (nss : List (List ℕ)) → sum_over (times k) nss ≡ 0 → contents_of (slice_set held k o) nss ≡ contents_of held nss
  contents_frame held k o [] h = refl
  contents_frame held k o (ns ∷ nss) h =
      let own : times k ns ≡ 0 = omega arith in
      let rest : sum_over (times k) nss ≡ 0 = omega arith in
      ap (λ vs. vs ∷ contents_of (slice_set held k o) nss) (values_frame held k o ns own) ∙ ap (λ vss. values_of held ns ∷ vss) (contents_frame held k o nss rest)

  contents_but : (held : List (Option T)) (k : ℕ) (o : Option T) (nss : List (List ℕ)) (q : ℕ) (to : List ℕ) → sum_over (times k) (slice_set nss q []) ≡ 0
      → contents_of (slice_set held k o) (slice_set nss q to) ≡ slice_set (contents_of held nss) q (values_of (slice_set held k o) to)
  contents_but held k o [] q to h = refl
  contents_but held k o (ns ∷ nss) zero to h =
      let rest : sum_over (times k) nss ≡ 0 = omega arith in
      ap (λ vss. values_of (slice_set held k o) to ∷ vss) (contents_frame held k o nss rest)
  contents_but held k o (ns ∷ nss) (suc q) to h =
      let own : times k ns ≡ 0 = omega arith in
      let rest : sum_over (times k) (slice_set nss q []) ≡ 0 = omega arith in
      ap (λ vs. vs ∷ contents_of (slice_set held k o) (slice_set nss q to)) (values_frame held k o ns own) ∙ ap (λ vss. values_of held ns ∷ vss) (contents_but held k o nss q to rest)

  pub values-append : (held : List (Option T)) (xs ys : List ℕ) → values_of held (xs ++ ys) ≡ values_of held xs ++ values_of held ys
  values-append held [] ys = refl
  values-append held (x ∷ xs) ys =
      ap (λ vs. option_to_list (get_or held x None) ++ vs) (values-append held xs ys)
      ∙ sym (append_assoc (option_to_list (get_or held x None)) (values_of held xs) (values_of held ys))

  pub contents_at : (held : List (Option T)) (nss : List (List ℕ)) (q : ℕ) → get_or (contents_of held nss) q [] ≡ values_of held (get_or nss q [])
  contents_at held [] q = refl
  contents_at held (ns ∷ nss) zero = refl
  contents_at held (ns ∷ nss) (suc q) = contents_at held nss q

  pub some_held : (o : Option T) → IsSome o → (v : T) × (o ≡ Some v)
  some_held None h = absurd cc
  some_held (Some v) h = (v, refl)

  pub length-values : (held : List (Option T)) (ks : List ℕ) → AreFull held ks → length (values_of held ks) ≡ length ks
  length-values held [] f = refl
  length-values held (x ∷ xs) f =
      let own = some_held (get_or held x None) f.0 in
      ap (λ o. length (option_to_list o ++ values_of held xs)) own.1 ∙ ap suc (length-values held xs f.1)

  pub value_at : (held : List (Option T)) (ks : List ℕ) (i : ℕ) → AreFull held ks → i < length ks → slice_get (values_of held ks) i ≡ get_or held (slice_index ks i) None
  value_at held [] i f h = absurd (omega arith)
  value_at held (x ∷ xs) zero f h =
      let own = some_held (get_or held x None) f.0 in
      ap (λ o. slice_get (option_to_list o ++ values_of held xs) 0) own.1 ∙ sym own.1
  value_at held (x ∷ xs) (suc i) f h =
      let own = some_held (get_or held x None) f.0 in
      ap (λ o. slice_get (option_to_list o ++ values_of held xs) (suc i)) own.1 ∙ value_at held xs i f.1 (omega arith)

  values-remove : (held : List (Option T)) (ks : List ℕ) (i : ℕ) → AreFull held ks → i < length ks → values_of held (remove ks i) ≡ remove (values_of held ks) i
  values-remove held [] i f h = absurd (omega arith)
  values-remove held (x ∷ xs) zero f h =
      let own = some_held (get_or held x None) f.0 in
      ap (λ o. remove (option_to_list o ++ values_of held xs) 0) (sym own.1)
  values-remove held (x ∷ xs) (suc i) f h =
      let own = some_held (get_or held x None) f.0 in
      ap (λ o. option_to_list o ++ values_of held (remove xs i)) own.1
      ∙ ap (λ vs. own.0 ∷ vs) (values-remove held xs i f.1 (omega arith))
      ∙ ap (λ o. remove (option_to_list o ++ values_of held xs) (suc i)) (sym own.1)

  full-append : (held : List (Option T)) (xs : List ℕ) (k : ℕ) → AreFull held xs → IsSome (get_or held k None) → AreFull held (xs ++ k ∷ [])
  full-append held [] k f s = (s, tt)
  full-append held (x ∷ xs) k f s = (f.0, full-append held xs k f.1 s)

  full-remove : (held : List (Option T)) (xs : List ℕ) (i : ℕ) → AreFull held xs → AreFull held (remove xs i)
  full-remove held [] zero f = tt
  full-remove held [] (suc i) f = tt
  full-remove held (x ∷ xs) zero f = f.1
  full-remove held (x ∷ xs) (suc i) f = (f.0, full-remove held xs i f.1)

  full_set : (held : List (Option T)) (k : ℕ) (o : Option T) (nss : List (List ℕ)) (q : ℕ) (to : List ℕ) → q < length nss → sum_over (times k) (slice_set nss q []) ≡ 0 → ((r : ℕ) → AreFull held (get_or nss r [])) → AreFull (slice_set held k o) to
      → (r : ℕ) → AreFull (slice_set held k o) (get_or (slice_set nss q to) r [])
  full_set held k o nss q to within none full own r =
      let held' = slice_set held k o in
      ⊎_elim (λ (e : r ≡ q). subst (AreFull held') (sym (ap (λ n. get_or (slice_set nss q to) n []) e ∙ get_or-set_same nss q to [] within)) own)
      (λ (ne : r ≡ q → ⊥). subst (AreFull held') (sym (get_or-set_other nss q r to [] ne)) (full_frame held k o (get_or nss r []) (not_there nss q r k none ne) (full r)))
      (cases_eq r q)

  -- a node that was given to a queue holds a value
  pub pushed_value : (old new : Chains) (held : List (Option T)) (q k : ℕ) (v : T) → IsHolding old held → q < length (queue_nodes old) → IsChained new [] → length new.links.items ≡ length old.links.items
      → queue_nodes new ≡ slice_set (queue_nodes old) q (nodes_in (queue_nodes old) q ++ k ∷ [])
      → IsHolding new (slice_set held k (Some v)) × (contents_of (slice_set held k (Some v)) (queue_nodes new) ≡ slice_set (contents_of held (queue_nodes old)) q (get_or (contents_of held (queue_nodes old)) q [] ++ v ∷ [])) × (k < length held)
  pushed_value old new held q k v h within chained size moved =
      let nss = queue_nodes old in
      let ns = nodes_in nss q in
      let to = ns ++ k ∷ [] in
      let held' = slice_set held k (Some v) in
      let here : nodes_in (queue_nodes new) q ≡ to = ap (λ m. nodes_in m q) moved ∙ get_or-set_same nss q to [] within in
      let count = ap (times k) here ∙ times-append k ns (k ∷ []) in
      let own = itself k in
      let part = sum_over_part (times k) (queue_nodes new) q refl in
      let alone = is_alone chained.apart k in
      let before : times k ns ≡ 0 = omega arith in
      let below = is_node chained.apart k (omega arith) in
      let holding = h.nodes in
      let inside : k < length held = omega arith in
      let wide : q < length (queue_nodes new) = subst (λ m. q < length m) (sym moved) (let e = length-set nss q to in omega arith) in
      let none : sum_over (times k) (slice_set nss q []) ≡ 0 =
      ap (λ m. sum_over (times k) m) (sym (ap (λ m. slice_set m q []) moved ∙ set-set nss q to [])) ∙ not_elsewhere chained.apart q k wide (omega arith) in
      let stored : get_or held' k None ≡ Some v = get_or-set_same held k (Some v) None inside in
      let last : values_of held' to ≡ get_or (contents_of held nss) q [] ++ v ∷ [] =
      values-append held' ns (k ∷ [])
      ∙ ap (λ vs. vs ++ values_of held' (k ∷ [])) (values_frame held k (Some v) ns before ∙ sym (contents_at held nss q))
      ∙ ap (λ o. get_or (contents_of held nss) q [] ++ (option_to_list o ++ [])) stored in (
        record {
          chained = chained;
          nodes = length-set held k (Some v) ∙ h.nodes ∙ sym size;
          full = λ r.
              subst (λ m. AreFull held' (get_or m r [])) (sym moved)
              (full_set held k (Some v) nss q to within none h.full (full-append held' ns k (full_frame held k (Some v) ns before (h.full q)) (subst IsSome (sym stored) refl)) r);
        },
        ap (contents_of held') moved ∙ contents_but held k (Some v) nss q to none ∙ ap (slice_set (contents_of held nss) q) last,
        inside,
      )

  -- a node of a queue is freed
  pub taken_value : (old new : Chains) (held : List (Option T)) (q i k : ℕ) → IsHolding old held → i < length (get_or (contents_of held (queue_nodes old)) q []) → IsChained new [] → length new.links.items ≡ length old.links.items
      → k ≡ slice_index (nodes_in (queue_nodes old) q) i
      → queue_nodes new ≡ slice_set (queue_nodes old) q (remove (nodes_in (queue_nodes old) q) i)
      → IsHolding new (slice_set held k None) × (contents_of (slice_set held k None) (queue_nodes new) ≡ slice_set (contents_of held (queue_nodes old)) q (remove (get_or (contents_of held (queue_nodes old)) q []) i))
  taken_value old new held q i k h there chained size node moved =
      let nss = queue_nodes old in
      let ns = nodes_in nss q in
      let to = remove ns i in
      let held' = slice_set held k None in
      let long = ap length (contents_at held nss q) ∙ length-values held ns (h.full q) in
      let inside : i < length ns = omega arith in
      let within = is_queue nss q (omega arith) in
      let here : 0 < times k ns = subst (λ (x : ℕ). 0 < times x ns) (sym node) (times_at ns i inside) in
      let fewer = times-remove k ns i inside in
      let same = ap (λ (x : ℕ). times k (x ∷ [])) (sym node) in
      let own = itself k in
      let part = sum_over_part (times k) nss q refl in
      let alone = is_alone h.chained.apart k in
      let after : times k to ≡ 0 = omega arith in
      let none = not_elsewhere h.chained.apart q k within here in (
        record {
          chained = chained;
          nodes = length-set held k None ∙ h.nodes ∙ sym size;
          full = λ r.
              subst (λ m. AreFull held' (get_or m r [])) (sym moved)
              (full_set held k None nss q to within none h.full (full_frame held k None to after (full-remove held ns i (h.full q))) r);
        },
        ap (contents_of held') moved
            ∙ contents_but held k None nss q to none
            ∙ ap (slice_set (contents_of held nss) q) (values_frame held k None to after ∙ values-remove held ns i (h.full q) inside ∙ ap (λ vs. remove vs i) (sym (contents_at held nss q))),
      )

  full_at : (held : List (Option T)) (ks : List ℕ) (i : ℕ) → AreFull held ks → i < length ks → IsSome (get_or held (slice_index ks i) None)
  full_at held [] i f h = absurd (omega arith)
  full_at held (x ∷ xs) zero f h = f.0
  full_at held (x ∷ xs) (suc i) f h = full_at held xs i f.1 (omega arith)

  pub length_contents : (r : Region T) → length (contents r) ≡ length r.chains.queues.items
  length_contents r = length-map (queue_nodes r.chains) (values_of r.held.items) ∙ length-map r.chains.queues.items (nodes_of r.chains.links.items)

  -- what a queue has at a place
  pub value_in : (chains : Chains) (held : List (Option T)) (q i : ℕ) → IsHolding chains held → i < length (get_or (contents_of held (queue_nodes chains)) q [])
      → (i < length (nodes_in (queue_nodes chains) q)) × (slice_get (get_or (contents_of held (queue_nodes chains)) q []) i ≡ get_or held (slice_index (nodes_in (queue_nodes chains) q) i) None) × IsSome (get_or held (slice_index (nodes_in (queue_nodes chains) q) i) None)
      × (slice_index (nodes_in (queue_nodes chains) q) i < length held)
  value_in chains held q i h there =
      let nss = queue_nodes chains in
      let ns = nodes_in nss q in
      let long = ap length (contents_at held nss q) ∙ length-values held ns (h.full q) in
      let inside : i < length ns = omega arith in
      let k = slice_index ns i in
      let here = times_at ns i inside in
      let part = sum_over_part (times k) nss q refl in
      let below = is_node h.chained.apart k (omega arith) in
      let nodes = h.nodes in
      (inside, ap (λ vs. slice_get vs i) (contents_at held nss q) ∙ value_at held ns i (h.full q) inside, full_at held ns i (h.full q) inside, omega arith)

  get_none : (held : List (Option T)) (k : ℕ) → get_or (held ++ None ∷ []) k None ≡ get_or held k None
  get_none [] zero = refl
  get_none [] (suc k) = refl
  get_none (o ∷ os) zero = refl
  get_none (o ∷ os) (suc k) = get_none os k

  values_more : (held : List (Option T)) (ks : List ℕ) → values_of (held ++ None ∷ []) ks ≡ values_of held ks
  values_more held [] = refl
  values_more held (k ∷ ks) = ap (λ o. option_to_list o ++ values_of (held ++ None ∷ []) ks) (get_none held k) ∙ ap (λ vs. option_to_list (get_or held k None) ++ vs) (values_more held ks)

  full_more : (held : List (Option T)) (ks : List ℕ) → AreFull held ks → AreFull (held ++ None ∷ []) ks
  full_more held [] f = tt
  full_more held (k ∷ ks) f = (subst IsSome (sym (get_none held k)) f.0, full_more held ks f.1)

  contents_more : (held : List (Option T)) (nss : List (List ℕ)) → contents_of (held ++ None ∷ []) nss ≡ contents_of held nss
  contents_more held [] = refl
  contents_more held (ns ∷ nss) = ap (λ vs. vs ∷ contents_of (held ++ None ∷ []) nss) (values_more held ns) ∙ ap (λ vss. values_of held ns ∷ vss) (contents_more held nss)

  -- one more node, which holds nothing
  pub held_node : (old new : Chains) (held : List (Option T)) → IsHolding old held → IsChained new [] → length new.links.items ≡ length old.links.items + 1 → queue_nodes new ≡ queue_nodes old
      → IsHolding new (held ++ None ∷ []) × (contents_of (held ++ None ∷ []) (queue_nodes new) ≡ contents_of held (queue_nodes old))
  held_node old new held h chained more same = (
    record {
      chained = chained;
      nodes = let nodes = h.nodes in let longer = length-append held (None ∷ []) in omega arith;
      full = λ q. subst (λ nss. AreFull (held ++ None ∷ []) (nodes_in nss q)) (sym same) (full_more held (nodes_in (queue_nodes old) q) (h.full q));
    },
    ap (contents_of (held ++ None ∷ [])) same ∙ contents_more held (queue_nodes old),
  )

  -- one more queue, which is empty
  pub held_queue : (old new : Chains) (held : List (Option T)) → IsHolding old held → IsChained new [] → length new.links.items ≡ length old.links.items → queue_nodes new ≡ queue_nodes old ++ [] ∷ []
      → IsHolding new held × (contents_of held (queue_nodes new) ≡ contents_of held (queue_nodes old) ++ [] ∷ [])
  held_queue old new held h chained same longer = (
    record {
      chained = chained;
      nodes = h.nodes ∙ sym same;
      full = λ q. subst (AreFull held) (sym (ap (λ nss. nodes_in nss q) longer ∙ get_empty (queue_nodes old) q)) (h.full q);
    },
    ap (contents_of held) longer ∙ map-append (values_of held) (queue_nodes old) ([] ∷ []),
  )

  -- how many values a queue has
  pub queue_length : (chains : Chains) (held : List (Option T)) (q : ℕ) → IsHolding chains held → length (get_or (contents_of held (queue_nodes chains)) q []) ≡ length (nodes_in (queue_nodes chains) q)
  queue_length chains held q h = ap length (contents_at held (queue_nodes chains) q) ∙ length-values held (nodes_in (queue_nodes chains) q) (h.full q)

  not_none : (o : Option T) → IsSome o → o ≡ None → ⊥
  not_none o s e = let t : IsSome {T = T} None = subst IsSome e s in absurd cc

  -- what a queue's node holds
  module _ (chains : Chains) (held : List (Option T)) (q i k : ℕ) (o : Option T) (h : IsHolding chains held) (there : i < length (get_or (contents_of held (queue_nodes chains)) q [])) (node : k ≡ slice_index (nodes_in (queue_nodes chains) q) i) (read : o ≡ get_or held k None) where
    found_is : o ≡ get_or held (slice_index (nodes_in (queue_nodes chains) q) i) None
    found_is = read ∙ ap (λ n. get_or held n None) node

    pub found : slice_get (get_or (contents_of held (queue_nodes chains)) q []) i ≡ o
    found = (value_in chains held q i h there).1 ∙ sym found_is

    pub found_some : IsSome o
    found_some = subst IsSome (sym found_is) (value_in chains held q i h there).2

    pub not_empty : o ≡ None → ⊥
    not_empty e = not_none o found_some e
