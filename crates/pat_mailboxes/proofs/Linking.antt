-- Nodes that are moved between chains.
use Rattle.std.proofs.Common.{◌≡◌, ◌≢◌, ℕ, zero, suc, ◌+◌, ◌-◌, ◌<◌, ◌≤◌, ◌==◌, true, false, cond, List, [], ◌∷◌, ◌++◌, length, map, take, drop, get_or, remove, slice_index, slice_set, refl, sym, ap, ◌∙◌, subst, arith, append_assoc, add-one, length-set, length-append, get_or-set_same, eqb-true, eq-eqb, true≢false}
use Rattle.std.proofs.lemmas.List.{map-set, length-map, get_or_push, get_or_read, drop_all, drop_more, map-append}
use Rattle.std.proofs.lemmas.List.Edits.{get_or-remove_below, get_or-remove_above}
use Rattle.pat_mailboxes.specs.queues.Nodes.{path, times, sum_over, AreApart, AreBelow}
use Rattle.pat_mailboxes.specs.queues.Chained.{nodes_of, no_chain, EndsWell, IsLinked, nodes_in}
use Rattle.pat_mailboxes.specs.declared.queues.chains.Chain.{Chain}
use Rattle.pat_mailboxes.proofs.NodeLaws.{itself, below_by, apart_more, apart_queue, length-path, path_step, path_next, path_frame, path_append, path_unlink, times-append, times_at, split_at, sum_over_part, is_node, is_alone, not_elsewhere, apart_pop, apart_push, apart_append, apart_detach}
use Rattle.pat_mailboxes.proofs.ChainLaws.{nodes_at, path_longer, queues_longer, get_no_chain, is_queue, queues_frame, queues_but, ends_set, ends_kept, not_there}
use Rattle.pat_limits.specs.Limits.{number_count}

take_next : (ns : List ℕ) (i : ℕ) → i < length ns → take (suc i) ns ≡ take i ns ++ slice_index ns i ∷ []
take_next [] i h = absurd (omega arith)
take_next (n ∷ ns) zero h = refl
take_next (n ∷ ns) (suc i) h = ap (λ m. n ∷ m) (take_next ns i (omega arith))

module _ (links : List ℕ) (first spare : ℕ) (queues : List Chain) where
  pub first_is_node : IsLinked links first spare queues [] → 0 < spare → first < length links
  first_is_node l some =
      let free = ap (times first) (path_step links spare first some) in
      let own = itself first in
      is_node l.apart first (omega arith)

  pub popped : IsLinked links first spare queues [] → 0 < spare → IsLinked links (slice_index links first) (spare - 1) queues (first ∷ [])
  popped l some = record {
    fits = l.fits;
    apart = apart_pop first (path links (spare - 1) (slice_index links first)) (subst (λ free. AreApart (length links) [] free (map (nodes_of links) queues)) (path_step links spare first some) l.apart);
    ends = l.ends;
  }

  pub loose_is_node : (k : ℕ) → IsLinked links first spare queues (k ∷ []) → k < length links
  loose_is_node k l = let own = itself k in is_node l.apart k (omega arith)

  pub pushed : (k : ℕ) → IsLinked links first spare queues (k ∷ []) → IsLinked (slice_set links k first) k (spare + 1) queues [] × (map (nodes_of (slice_set links k first)) queues ≡ map (nodes_of links) queues)
  pushed k l =
      let links' = slice_set links k first in
      let own = itself k in
      let alone = is_alone l.apart k in
      let within = loose_is_node k l in
      let free : times k (path links spare first) ≡ 0 = omega arith in
      let none : sum_over (times k) (map (nodes_of links) queues) ≡ 0 = omega arith in
      let same = queues_frame links k first queues none in
      let path' : path links' (spare + 1) k ≡ k ∷ path links spare first =
      ap (λ n. path links' n k) (add-one spare)
      ∙ ap (λ a. k ∷ path links' spare a) (get_or-set_same links k first 0 within)
      ∙ ap (λ ns. k ∷ ns) (path_frame links k first spare first free) in
      let size = length-set links k first in (
        record {
          fits = let fits = l.fits in omega arith;
          apart =
              subst (λ n. AreApart n [] (path links' (spare + 1) k) (map (nodes_of links') queues)) (sym size)
              (subst (λ free'. AreApart (length links) [] free' (map (nodes_of links') queues)) (sym path')
              (subst (λ qs. AreApart (length links) [] (k ∷ path links spare first) qs) (sym same)
              (apart_push k (path links spare first) l.apart)));
          ends = λ r.
              let part = sum_over_part (times k) (map (nodes_of links) queues) r refl in
              ends_kept links k first queues r (omega arith) (l.ends r);
        },
        same,
      )

  -- so many nodes are spare at most
  pub spare_fits : (loose : List ℕ) → IsLinked links first spare queues loose → length loose + spare ≤ length links
  spare_fits loose l = let all = l.apart.all in let size = length-path links spare first in omega arith

  -- one more node, which is free
  pub added_node : IsLinked links first spare queues [] → length links + 1 < number_count → let links' = links ++ first ∷ [] in
      IsLinked links' (length links) (spare + 1) queues [] × (map (nodes_of links') queues ≡ map (nodes_of links) queues)
  added_node l fits =
      let links' = links ++ first ∷ [] in
      let n = length links in
      let free = path links spare first in
      let same = queues_longer links first queues (λ k there. is_node l.apart k (omega arith)) in
      let below = below_by n free (λ k there. is_node l.apart k (omega arith)) in
      let path' : path links' (spare + 1) n ≡ n ∷ free =
      ap (λ m. path links' m n) (add-one spare)
      ∙ ap (λ a. n ∷ path links' spare a) (get_or_push links first 0 n refl)
      ∙ ap (λ ns. n ∷ ns) (path_longer links first spare first below) in
      let size : length links' ≡ suc n = length-append links (first ∷ []) ∙ add-one n in (
        record {
          fits = omega arith;
          apart =
              subst (λ m. AreApart m [] (path links' (spare + 1) n) (map (nodes_of links') queues)) (sym size)
              (subst (λ free'. AreApart (suc n) [] free' (map (nodes_of links') queues)) (sym path')
              (subst (λ qs. AreApart (suc n) [] (n ∷ free) qs) (sym same)
              (apart_more n free l.apart)));
          ends = λ r some.
              let c = get_or queues r no_chain in
              let under = below_by n (nodes_of links c) (λ k there. let part = sum_over_part (times k) (map (nodes_of links) queues) r refl in let here = ap (times k) (nodes_at links queues r) in is_node l.apart k (omega arith)) in
              ap (λ ns. slice_index ns (c.len - 1)) (path_longer links first c.len c.first under) ∙ l.ends r some;
        },
        same,
      )

  -- one more queue, which is empty
  pub added_queue : IsLinked links first spare queues [] → IsLinked links first spare (queues ++ no_chain ∷ []) []
  added_queue l = record {
    fits = l.fits;
    apart = subst (λ qs. AreApart (length links) [] (path links spare first) qs) (sym (map-append (nodes_of links) queues (no_chain ∷ []))) (apart_queue (map (nodes_of links) queues) l.apart);
    ends = λ r. subst (EndsWell links) (sym (get_no_chain queues r)) (l.ends r);
  }

  pub queue_is_node : (q i : ℕ) → i < length (nodes_in (map (nodes_of links) queues) q) → (loose : List ℕ) → IsLinked links first spare queues loose → slice_index (nodes_in (map (nodes_of links) queues) q) i < length links
  queue_is_node q i there loose l =
      let nss = map (nodes_of links) queues in
      let k = slice_index (nodes_in nss q) i in
      let here = times_at (nodes_in nss q) i there in
      let part = sum_over_part (times k) nss q refl in
      is_node l.apart k (omega arith)

  module _ (q : ℕ) (c : Chain) (is : c ≡ get_or queues q no_chain) where
    pub own_nodes : nodes_in (map (nodes_of links) queues) q ≡ nodes_of links c
    own_nodes = nodes_at links queues q ∙ ap (nodes_of links) (sym is)

    pub own_length : length (nodes_in (map (nodes_of links) queues) q) ≡ c.len
    own_length = ap length own_nodes ∙ length-path links c.len c.first

    own_end : (loose : List ℕ) → IsLinked links first spare queues loose → EndsWell links c
    own_end loose l = subst (EndsWell links) (sym is) (l.ends q)

    -- its nodes are nodes, so there are no more of them
    pub own_below : (loose : List ℕ) → IsLinked links first spare queues loose → AreBelow (length links) (path links c.len c.first)
    own_below loose l =
        below_by (length links) (nodes_of links c) (λ k there.
        let part = sum_over_part (times k) (map (nodes_of links) queues) q refl in
        let here = ap (times k) own_nodes in
        is_node l.apart k (omega arith))

    pub own_fits : (loose : List ℕ) → IsLinked links first spare queues loose → length loose + c.len < number_count
    own_fits loose l =
        let part = sum_over_part length (map (nodes_of links) queues) q refl in
        let size = own_length in
        let all = l.apart.all in
        let fits = l.fits in
        omega arith

    -- the node at the last place
    pub last_at : (place : ℕ) (loose : List ℕ) → IsLinked links first spare queues loose → place + 1 ≡ c.len → c.last ≡ slice_index (nodes_in (map (nodes_of links) queues) q) place
    last_at place loose l last =
        let before : c.len - 1 ≡ place = omega arith in
        sym (ap (λ ns. slice_index ns place) own_nodes ∙ ap (slice_index (nodes_of links c)) (sym before) ∙ own_end loose l (omega arith))

    pub first_of_queue : (loose : List ℕ) → IsLinked links first spare queues loose → 0 < c.len → c.first < length links
    first_of_queue loose l some =
        let there = queue_is_node q 0 (let size = own_length in omega arith) loose l in
        let same = ap (λ ns. slice_index ns 0) (own_nodes ∙ path_step links c.len c.first some) in
        omega arith

    -- the first node of a queue
    pub appended_first : (k : ℕ) → q < length (map (nodes_of links) queues) → c.len ≡ 0 → IsLinked links first spare queues (k ∷ []) → let queues' = slice_set queues q (record { first = k; last = k; len = 1 }) in
        IsLinked links first spare queues' [] × (map (nodes_of links) queues' ≡ slice_set (map (nodes_of links) queues) q (nodes_in (map (nodes_of links) queues) q ++ k ∷ []))
    appended_first k within empty l =
        let nss = map (nodes_of links) queues in
        let d : Chain = record { first = k; last = k; len = 1 } in
        let none : nodes_in nss q ≡ [] = own_nodes ∙ ap (λ n. path links n c.first) empty in
        let same : map (nodes_of links) (slice_set queues q d) ≡ slice_set nss q (nodes_in nss q ++ k ∷ []) =
        map-set (nodes_of links) queues q d ∙ ap (λ ns. slice_set nss q (ns ++ k ∷ [])) (sym none) in
        let size = length-map queues (nodes_of links) in (
          record {
            fits = l.fits;
            apart = subst (λ qs. AreApart (length links) [] (path links spare first) qs) (sym same) (apart_append nss q k within l.apart);
            ends = ends_set links queues q d (omega arith) (λ _. refl) (λ r ne. l.ends r);
          },
          same,
        )

    -- the last node of a queue that isn't empty
    pub last_is_node : 0 < c.len → (loose : List ℕ) → IsLinked links first spare queues loose → c.last < length links
    last_is_node some loose l =
        let there = queue_is_node q (c.len - 1) (let size = own_length in omega arith) loose l in
        let same = ap (λ ns. slice_index ns (c.len - 1)) own_nodes ∙ own_end loose l some in
        omega arith

    pub appended_behind : (k : ℕ) → q < length (map (nodes_of links) queues) → 0 < c.len → IsLinked links first spare queues (k ∷ []) → let links' = slice_set links c.last k in
        let queues' = slice_set queues q (record { first = c.first; last = k; len = c.len + 1 }) in
        IsLinked links' first spare queues' [] × (map (nodes_of links') queues' ≡ slice_set (map (nodes_of links) queues) q (nodes_in (map (nodes_of links) queues) q ++ k ∷ []))
    appended_behind k within some l =
        let nss = map (nodes_of links) queues in
        let ns = nodes_in nss q in
        let links' = slice_set links c.last k in
        let d : Chain = record { first = c.first; last = k; len = c.len + 1 } in
        let size = own_length in
        let sizes = length-map queues (nodes_of links) in
        let end : slice_index ns (c.len - 1) ≡ c.last = ap (λ m. slice_index m (c.len - 1)) own_nodes ∙ own_end (k ∷ []) l some in
        let front = take (c.len - 1) ns in
        let split : ns ≡ front ++ c.last ∷ [] =
        split_at ns (c.len - 1) (omega arith) ∙ ap (λ x. front ++ x ∷ drop (suc (c.len - 1)) ns) end ∙ ap (λ m. front ++ c.last ∷ m) (drop_all (suc (c.len - 1)) ns (omega arith)) in
        let counted = ap (times c.last) split ∙ times-append c.last front (c.last ∷ []) in
        let own = itself c.last in
        let part = sum_over_part (times c.last) nss q refl in
        let alone = is_alone l.apart c.last in
        let before : times c.last front ≡ 0 = omega arith in
        let free : times c.last (path links spare first) ≡ 0 = omega arith in
        let there = last_is_node some (k ∷ []) l in
        let none = not_elsewhere l.apart q c.last within (omega arith) in
        let longer : nodes_of links' d ≡ ns ++ k ∷ [] =
        ap (λ n. path links' n c.first) (add-one c.len)
        ∙ path_append front links c.len c.first c.last k (sym own_nodes ∙ split) before there
        ∙ ap (λ m. m ++ k ∷ []) (sym split) in
        let same : map (nodes_of links') (slice_set queues q d) ≡ slice_set nss q (ns ++ k ∷ []) = queues_but links c.last k queues q d none ∙ ap (slice_set nss q) longer in
        let long = length-set links c.last k in (
          record {
            fits = let fits = l.fits in omega arith;
            apart =
                subst (λ n. AreApart n [] (path links' spare first) (map (nodes_of links') (slice_set queues q d))) (sym long)
                (subst (λ free'. AreApart (length links) [] free' (map (nodes_of links') (slice_set queues q d))) (sym (path_frame links c.last k spare first free))
                (subst (λ qs. AreApart (length links) [] (path links spare first) qs) (sym same)
                (apart_append nss q k within l.apart)));
            ends =
                ends_set links' queues q d (omega arith) (λ _. ap (λ m. slice_index m (c.len + 1 - 1)) longer ∙ get_or_push ns k 0 (c.len + 1 - 1) (omega arith))
                (λ r ne. ends_kept links c.last k queues r (not_there nss q r c.last none ne) (l.ends r));
          },
          same,
        )

    -- the first node of a queue is taken out
    pub popped_first : (v : ℕ) → 0 < length (nodes_in (map (nodes_of links) queues) q) → v ≡ get_or links c.first v → IsLinked links first spare queues [] → let queues' = slice_set queues q (record { first = v; last = c.last; len = c.len - 1 }) in
        IsLinked links first spare queues' (c.first ∷ []) × (c.first ≡ slice_index (nodes_in (map (nodes_of links) queues) q) 0)
        × (map (nodes_of links) queues' ≡ slice_set (map (nodes_of links) queues) q (remove (nodes_in (map (nodes_of links) queues) q) 0))
    popped_first v there read l =
        let nss = map (nodes_of links) queues in
        let ns = nodes_in nss q in
        let d : Chain = record { first = v; last = c.last; len = c.len - 1 } in
        let size = own_length in
        let some : 0 < c.len = omega arith in
        let sizes = length-map queues (nodes_of links) in
        let within = is_queue nss q there in
        let next : slice_index links c.first ≡ v = sym (get_or_read links c.first v (first_of_queue [] l some) read 0) in
        let step : path links c.len c.first ≡ c.first ∷ nodes_of links d = path_step links c.len c.first some ∙ ap (λ a. c.first ∷ path links (c.len - 1) a) next in
        let whole : ns ≡ c.first ∷ nodes_of links d = own_nodes ∙ step in
        let node : c.first ≡ slice_index ns 0 = ap (λ m. slice_index m 0) (sym whole) in
        let rest : nodes_of links d ≡ remove ns 0 = ap (λ m. remove m 0) (sym whole) in
        let same : map (nodes_of links) (slice_set queues q d) ≡ slice_set nss q (remove ns 0) = map-set (nodes_of links) queues q d ∙ ap (slice_set nss q) rest in (
          record {
            fits = l.fits;
            apart =
                subst (λ qs. AreApart (length links) (c.first ∷ []) (path links spare first) qs) (sym same)
                (subst (λ k. AreApart (length links) (k ∷ []) (path links spare first) (slice_set nss q (remove ns 0))) (sym node)
                (apart_detach nss q 0 within there l.apart));
            ends =
                ends_set links queues q d (omega arith) (λ (more : 0 < c.len - 1).
                let e : c.len - 1 ≡ suc (c.len - 1 - 1) = omega arith in
                ap (λ m. slice_index (c.first ∷ nodes_of links d) m) (sym e) ∙ ap (λ m. slice_index m (c.len - 1)) (sym step) ∙ own_end [] l some)
                (λ r ne. l.ends r);
          },
          node,
          same,
        )

    pub next_of : (i : ℕ) → suc i < length (nodes_in (map (nodes_of links) queues) q) → slice_index (nodes_in (map (nodes_of links) queues) q) (suc i) ≡ slice_index links (slice_index (nodes_in (map (nodes_of links) queues) q) i)
    next_of i there =
        let size = own_length in
        ap (λ m. slice_index m (suc i)) own_nodes ∙ path_next links c.len c.first i (omega arith) ∙ ap (λ m. slice_index links (slice_index m i)) (sym own_nodes)

    -- a later node of a queue is taken out
    pub unlinked : (i last : ℕ) → suc i < length (nodes_in (map (nodes_of links) queues) q) → last ≡ cond (suc i + 1 == c.len) (slice_index (nodes_in (map (nodes_of links) queues) q) i) c.last → IsLinked links first spare queues [] → let ns = nodes_in (map (nodes_of links) queues) q in
        let links' = slice_set links (slice_index ns i) (slice_index links (slice_index ns (suc i))) in
        let queues' = slice_set queues q (record { first = c.first; last = last; len = c.len - 1 }) in
        IsLinked links' first spare queues' (slice_index ns (suc i) ∷ []) × (map (nodes_of links') queues' ≡ slice_set (map (nodes_of links) queues) q (remove ns (suc i)))
    unlinked i last there last_is l =
        let nss = map (nodes_of links) queues in
        let ns = nodes_in nss q in
        let p = slice_index ns i in
        let x = slice_index ns (suc i) in
        let v = slice_index links x in
        let links' = slice_set links p v in
        let d : Chain = record { first = c.first; last = last; len = c.len - 1 } in
        let size = own_length in
        let sizes = length-map queues (nodes_of links) in
        let within = is_queue nss q (omega arith) in
        let front = take i ns in
        let rest = drop (suc (suc i)) ns in
        let behind : drop (suc i) ns ≡ x ∷ rest = drop_more ns (suc i) 0 there ∙ ap (λ n. x ∷ drop n ns) (add-one (suc i)) in
        let split : ns ≡ front ++ p ∷ x ∷ rest = split_at ns i (omega arith) ∙ ap (λ m. front ++ p ∷ m) behind in
        let counted = ap (times p) split ∙ times-append p front (p ∷ x ∷ rest) in
        let own = itself p in
        let part = sum_over_part (times p) nss q refl in
        let alone = is_alone l.apart p in
        let before : times p front ≡ 0 = omega arith in
        let after : times p rest ≡ 0 = omega arith in
        let free : times p (path links spare first) ≡ 0 = omega arith in
        let node = queue_is_node q i (omega arith) [] l in
        let none = not_elsewhere l.apart q p within (omega arith) in
        let e : c.len ≡ suc (c.len - 1) = omega arith in
        let cut : take (suc i) ns ≡ front ++ p ∷ [] = take_next ns i (omega arith) in
        let fewer : nodes_of links' d ≡ remove ns (suc i) =
        path_unlink front links (c.len - 1) c.first p x rest (ap (λ n. path links n c.first) (sym e) ∙ sym own_nodes ∙ split) before after node
        ∙ sym (append_assoc front (p ∷ []) rest)
        ∙ ap (λ m. m ++ rest) (sym cut) in
        let same : map (nodes_of links') (slice_set queues q d) ≡ slice_set nss q (remove ns (suc i)) = queues_but links p v queues q d none ∙ ap (slice_set nss q) fewer in
        let long = length-set links p v in
        let end : (0 < c.len - 1) → slice_index (remove ns (suc i)) (c.len - 1 - 1) ≡ last = λ more.
        (elim (suc i + 1 == c.len) as (λ b. (suc i + 1 == c.len) ≡ b → last ≡ cond b p c.last → slice_index (remove ns (suc i)) (c.len - 1 - 1) ≡ last) [
          | true ↦ λ is to.
              let at : suc i + 1 ≡ c.len = eqb-true (suc i + 1) c.len is in
              let place : c.len - 1 - 1 ≡ i = omega arith in
              ap (slice_index (remove ns (suc i))) place ∙ get_or-remove_below ns (suc i) 0 i (omega arith) there ∙ sym to
          | false ↦ λ is to.
              let at : suc i + 1 ≢ c.len = λ q. true≢false (sym (eq-eqb (suc i + 1) c.len q) ∙ is) in
              let place : c.len - 1 - 1 + 1 ≡ c.len - 1 = omega arith in
              get_or-remove_above ns (suc i) 0 (c.len - 1 - 1) (omega arith) there
              ∙ ap (slice_index ns) place
              ∙ ap (λ m. slice_index m (c.len - 1)) own_nodes
              ∙ own_end [] l (omega arith)
              ∙ sym to
        ]) refl last_is in (
          record {
            fits = let fits = l.fits in omega arith;
            apart =
                subst (λ n. AreApart n (x ∷ []) (path links' spare first) (map (nodes_of links') (slice_set queues q d))) (sym long)
                (subst (λ free'. AreApart (length links) (x ∷ []) free' (map (nodes_of links') (slice_set queues q d))) (sym (path_frame links p v spare first free))
                (subst (λ qs. AreApart (length links) (x ∷ []) (path links spare first) qs) (sym same)
                (apart_detach nss q (suc i) within there l.apart)));
            ends =
                ends_set links' queues q d (omega arith) (λ more. ap (λ m. slice_index m (c.len - 1 - 1)) fewer ∙ end more)
                (λ r ne. ends_kept links p v queues r (not_there nss q r p none ne) (l.ends r));
          },
          same,
        )

    pub unlinked_node : (place before x : ℕ) → 0 < place → place < length (nodes_in (map (nodes_of links) queues) q) → before ≡ slice_index (nodes_in (map (nodes_of links) queues) q) (place - 1) → x ≡ get_or links before x → IsLinked links first spare queues [] → x < length links
    unlinked_node zero before x some there b r l = absurd (omega arith)
    unlinked_node (suc i) before x some there b r l =
        let ns = nodes_in (map (nodes_of links) queues) q in
        let e : suc i - 1 ≡ i = omega arith in
        let eb : before ≡ slice_index ns i = b ∙ ap (slice_index ns) e in
        let within : before < length links = subst (λ k. k < length links) (sym eb) (queue_is_node q i (omega arith) [] l) in
        subst (λ k. k < length links) (sym (get_or_read links before x within r 0 ∙ ap (slice_index links) eb ∙ sym (next_of i there))) (queue_is_node q (suc i) there [] l)

    pub unlinked_at : (place before x v last : ℕ) → 0 < place → place < length (nodes_in (map (nodes_of links) queues) q) → before ≡ slice_index (nodes_in (map (nodes_of links) queues) q) (place - 1) → x ≡ get_or links before x → v ≡ get_or links x v
        → last ≡ cond (place + 1 == c.len) before c.last → IsLinked links first spare queues [] → let queues' = slice_set queues q (record { first = c.first; last = last; len = c.len - 1 }) in
        IsLinked (slice_set links before v) first spare queues' (x ∷ []) × (x ≡ slice_index (nodes_in (map (nodes_of links) queues) q) place)
        × (map (nodes_of (slice_set links before v)) queues' ≡ slice_set (map (nodes_of links) queues) q (remove (nodes_in (map (nodes_of links) queues) q) place))
    unlinked_at zero before x v last some there b r1 r2 last_is l = absurd (omega arith)
    unlinked_at (suc i) before x v last some there b r1 r2 last_is l =
        let ns = nodes_in (map (nodes_of links) queues) q in
        let queues' = slice_set queues q (record { first = c.first; last = last; len = c.len - 1 }) in
        let e : suc i - 1 ≡ i = omega arith in
        let eb : before ≡ slice_index ns i = b ∙ ap (slice_index ns) e in
        let within : before < length links = subst (λ k. k < length links) (sym eb) (queue_is_node q i (omega arith) [] l) in
        let ex : x ≡ slice_index ns (suc i) = get_or_read links before x within r1 0 ∙ ap (slice_index links) eb ∙ sym (next_of i there) in
        let inside : x < length links = subst (λ k. k < length links) (sym ex) (queue_is_node q (suc i) there [] l) in
        let ev : v ≡ slice_index links (slice_index ns (suc i)) = get_or_read links x v inside r2 0 ∙ ap (slice_index links) ex in
        let P : ℕ → ℕ → ℕ → Type 0 =
        λ b y w. IsLinked (slice_set links b w) first spare queues' (y ∷ []) × (y ≡ slice_index ns (suc i)) × (map (nodes_of (slice_set links b w)) queues' ≡ slice_set (map (nodes_of links) queues) q (remove ns (suc i))) in
        let u = unlinked i last there (last_is ∙ ap (λ k. cond (suc i + 1 == c.len) k c.last) eb) l in
        let start : P (slice_index ns i) (slice_index ns (suc i)) (slice_index links (slice_index ns (suc i))) = (u.0, refl, u.1) in
        subst (λ b. P b x v) (sym eb) (subst (λ y. P (slice_index ns i) y v) (sym ex) (subst (λ w. P (slice_index ns i) (slice_index ns (suc i)) w) (sym ev) start))
