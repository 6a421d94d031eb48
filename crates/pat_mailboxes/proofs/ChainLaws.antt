-- The chains of queues, while one of them or a link changes.
use Rattle.std.proofs.Common.{◌≡◌, ℕ, zero, suc, ◌-◌, ◌<◌, List, [], ◌∷◌, ◌++◌, ⊎_elim, length, map, get_or, slice_index, slice_set, refl, sym, ap, ◌∙◌, subst, arith, get_or-set_same, get_or-set_other}
use Rattle.std.proofs.lemmas.Bool.{cases_eq}
use Rattle.std.proofs.lemmas.List.{length-map, get_or_read, get_or_append_left}
use Rattle.pat_mailboxes.specs.queues.Nodes.{path, times, sum_over, AreBelow}
use Rattle.pat_mailboxes.specs.queues.Chained.{nodes_of, no_chain, EndsWell, nodes_in}
use Rattle.pat_mailboxes.specs.declared.queues.chains.Chain.{Chain}
use Rattle.pat_mailboxes.proofs.NodeLaws.{length-path, path_frame, sum_over_part, below_by}

pub nodes_at : (links : List ℕ) (queues : List Chain) (q : ℕ) → nodes_in (map (nodes_of links) queues) q ≡ nodes_of links (get_or queues q no_chain)
nodes_at links [] q = refl
nodes_at links (c ∷ cs) zero = refl
nodes_at links (c ∷ cs) (suc q) = nodes_at links cs q

pub length_at : (links : List ℕ) (queues : List Chain) (q : ℕ) → length (nodes_in (map (nodes_of links) queues) q) ≡ (get_or queues q no_chain).len
length_at links queues q = let c = get_or queues q no_chain in ap length (nodes_at links queues q) ∙ length-path links c.len c.first

pub is_queue : {X : Type 0} (nss : List (List X)) (q : ℕ) → 0 < length (get_or nss q []) → q < length nss
is_queue [] q h = absurd (omega arith)
is_queue (ns ∷ nss) zero h = omega arith
is_queue (ns ∷ nss) (suc q) h = let rest = is_queue nss q h in omega arith

-- a link of a node that stands in no queue may change
pub queues_frame : (links : List ℕ) (k v : ℕ) (queues : List Chain) → sum_over (times k) (map (nodes_of links) queues) ≡ 0 → map (nodes_of (slice_set links k v)) queues ≡ map (nodes_of links) queues
queues_frame links k v [] h = refl
queues_frame links k v (c ∷ cs) h =
    let own : times k (nodes_of links c) ≡ 0 = omega arith in
    let rest : sum_over (times k) (map (nodes_of links) cs) ≡ 0 = omega arith in
    ap (λ ns. ns ∷ map (nodes_of (slice_set links k v)) cs) (path_frame links k v c.len c.first own)
    ∙ ap (λ nss. nodes_of links c ∷ nss) (queues_frame links k v cs rest)

-- and so may one of a queue that changes
pub queues_but : (links : List ℕ) (k v : ℕ) (queues : List Chain) (q : ℕ) (d : Chain) → sum_over (times k) (slice_set (map (nodes_of links) queues) q []) ≡ 0
    → map (nodes_of (slice_set links k v)) (slice_set queues q d) ≡ slice_set (map (nodes_of links) queues) q (nodes_of (slice_set links k v) d)
queues_but links k v [] q d h = refl
queues_but links k v (c ∷ cs) zero d h =
    let rest : sum_over (times k) (map (nodes_of links) cs) ≡ 0 = omega arith in
    ap (λ nss. nodes_of (slice_set links k v) d ∷ nss) (queues_frame links k v cs rest)
queues_but links k v (c ∷ cs) (suc q) d h =
    let own : times k (nodes_of links c) ≡ 0 = omega arith in
    let rest : sum_over (times k) (slice_set (map (nodes_of links) cs) q []) ≡ 0 = omega arith in
    ap (λ ns. ns ∷ map (nodes_of (slice_set links k v)) (slice_set cs q d)) (path_frame links k v c.len c.first own)
    ∙ ap (λ nss. nodes_of links c ∷ nss) (queues_but links k v cs q d rest)

pub ends_set : (links : List ℕ) (queues : List Chain) (q : ℕ) (d : Chain) → q < length queues → EndsWell links d → ((r : ℕ) → (r ≡ q → ⊥) → EndsWell links (get_or queues r no_chain)) → (r : ℕ) → EndsWell links (get_or (slice_set queues q d) r no_chain)
ends_set links queues q d within own others r =
    ⊎_elim (λ (e : r ≡ q). subst (EndsWell links) (sym (ap (λ n. get_or (slice_set queues q d) n no_chain) e ∙ get_or-set_same queues q d no_chain within)) own)
    (λ (ne : r ≡ q → ⊥). subst (EndsWell links) (sym (get_or-set_other queues q r d no_chain ne)) (others r ne))
    (cases_eq r q)

pub ends_kept : (links : List ℕ) (k v : ℕ) (queues : List Chain) (r : ℕ) → times k (nodes_in (map (nodes_of links) queues) r) ≡ 0 → EndsWell links (get_or queues r no_chain) → EndsWell (slice_set links k v) (get_or queues r no_chain)
ends_kept links k v queues r none ends some =
    let c = get_or queues r no_chain in
    ap (λ ns. slice_index ns (c.len - 1)) (path_frame links k v c.len c.first (ap (times k) (sym (nodes_at links queues r)) ∙ none)) ∙ ends some

-- what isn't in the other queues isn't in one of them
pub not_there : (nss : List (List ℕ)) (q r k : ℕ) → sum_over (times k) (slice_set nss q []) ≡ 0 → (r ≡ q → ⊥) → times k (get_or nss r []) ≡ 0
not_there nss q r k none ne =
    let part = sum_over_part (times k) (slice_set nss q []) r refl in
    let same = ap (times k) (get_or-set_other nss q r [] [] ne) in
    omega arith

-- what the code reads of a queue that there is
pub chain_is : (links : List ℕ) (queues : List Chain) (q : ℕ) (c : Chain) → q < length (map (nodes_of links) queues) → c ≡ get_or queues q c → c ≡ get_or queues q no_chain
chain_is links queues q c there is = let size = length-map queues (nodes_of links) in get_or_read queues q c (omega arith) is no_chain

-- the links to new nodes lie behind those that a path goes along
pub path_longer : (links : List ℕ) (v n at : ℕ) → AreBelow (length links) (path links n at) → path (links ++ v ∷ []) n at ≡ path links n at
path_longer links v zero at h = refl
path_longer links v (suc n) at h =
    let same : slice_index (links ++ v ∷ []) at ≡ slice_index links at = get_or_append_left links (v ∷ []) 0 at h.0 in
    ap (λ a. at ∷ path (links ++ v ∷ []) n a) same ∙ ap (λ ns. at ∷ ns) (path_longer links v n (slice_index links at) h.1)

pub queues_longer : (links : List ℕ) (v : ℕ) (queues : List Chain) → ((k : ℕ) → 0 < sum_over (times k) (map (nodes_of links) queues) → k < length links) → map (nodes_of (links ++ v ∷ [])) queues ≡ map (nodes_of links) queues
queues_longer links v [] h = refl
queues_longer links v (c ∷ cs) h =
    ap (λ ns. ns ∷ map (nodes_of (links ++ v ∷ [])) cs) (path_longer links v c.len c.first (below_by (length links) (nodes_of links c) (λ k there. h k (omega arith))))
    ∙ ap (λ nss. nodes_of links c ∷ nss) (queues_longer links v cs (λ k there. h k (omega arith)))

pub get_no_chain : (queues : List Chain) (r : ℕ) → get_or (queues ++ no_chain ∷ []) r no_chain ≡ get_or queues r no_chain
get_no_chain [] zero = refl
get_no_chain [] (suc r) = refl
get_no_chain (c ∷ cs) zero = refl
get_no_chain (c ∷ cs) (suc r) = get_no_chain cs r

-- an empty list behind the others
pub get_empty : {X : Type 0} (xss : List (List X)) (r : ℕ) → get_or (xss ++ [] ∷ []) r [] ≡ get_or xss r []
get_empty [] zero = refl
get_empty [] (suc r) = refl
get_empty (xs ∷ xss) zero = refl
get_empty (xs ∷ xss) (suc r) = get_empty xss r
