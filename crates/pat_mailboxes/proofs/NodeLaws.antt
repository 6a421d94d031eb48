-- Nodes in a row, and how often a node stands in lists.
use Rattle.std.proofs.Common.{◌≡◌, ◌≢◌, ℕ, zero, suc, ◌+◌, ◌-◌, ◌<◌, ◌≤◌, Bool, true, false, cond, nat_eq, nat_lt, List, [], ◌∷◌, ◌++◌, length, take, drop, get_or, remove, slice_index, slice_set, refl, sym, ap, ◌∙◌, subst, arith, eq-eqb, true≢false, get_or-set_same, get_or-set_other, length-append, ltb-true, ltb-false, lt-ltb, le-ltb, ne_eqb, add-one, ⊎_elim}
use Rattle.std.proofs.lemmas.Bool.{cases_eq}
use Rattle.pat_mailboxes.specs.queues.Nodes.{path, times, sum_over, AreApart, AreBelow}

-- a node stands in a list that begins with it
pub itself : (k : ℕ) → let counted : ℕ = cond (nat_eq k k) 1 0 in counted ≡ 1
itself k = let f : Bool → ℕ = λ b. cond b 1 0 in ap f (eq-eqb k k refl)

-- a node that counts for nothing is another one
pub differs : (k n m : ℕ) → cond (nat_eq k n) 1 0 + m ≡ 0 → (k ≡ n → ⊥) × (m ≡ 0)
differs k n m h =
    (elim (nat_eq k n) as (λ b. nat_eq k n ≡ b → cond b 1 0 + m ≡ 0 → (k ≡ n → ⊥) × (m ≡ 0)) [
      | true ↦ λ is h. absurd (omega arith)
      | false ↦ λ is h. (λ e. true≢false (sym (eq-eqb k n e) ∙ is), omega arith)
    ]) refl h

pub length-path : (links : List ℕ) (n at : ℕ) → length (path links n at) ≡ n
length-path links zero at = refl
length-path links (suc n) at = ap suc (length-path links n (slice_index links at))

pub path_step : (links : List ℕ) (n at : ℕ) → 0 < n → path links n at ≡ at ∷ path links (n - 1) (slice_index links at)
path_step links zero at h = absurd (omega arith)
path_step links (suc n) at h = let e : n ≡ suc n - 1 = omega arith in ap (λ m. at ∷ path links m (slice_index links at)) e

-- the next node on a path
pub path_next : (links : List ℕ) (n at i : ℕ) → suc i < n → slice_index (path links n at) (suc i) ≡ slice_index links (slice_index (path links n at) i)
path_next links zero at i h = absurd (omega arith)
path_next links (suc zero) at i h = absurd (omega arith)
path_next links (suc (suc n)) at zero h = refl
path_next links (suc (suc n)) at (suc i) h = path_next links (suc n) (slice_index links at) i (omega arith)

-- a link that isn't on a path may change
pub path_frame : (links : List ℕ) (k v n at : ℕ) → times k (path links n at) ≡ 0 → path (slice_set links k v) n at ≡ path links n at
path_frame links k v zero at h = refl
path_frame links k v (suc n) at h =
    let d = differs k at (times k (path links n (slice_index links at))) h in
    let same : slice_index (slice_set links k v) at ≡ slice_index links at = get_or-set_other links k at v 0 (λ q. d.0 (sym q)) in
    ap (λ a. at ∷ path (slice_set links k v) n a) same ∙ ap (λ ns. at ∷ ns) (path_frame links k v n (slice_index links at) d.1)

-- the last node of a path is linked to one more
pub path_append : (front links : List ℕ) (n at last v : ℕ) → path links n at ≡ front ++ last ∷ [] → times last front ≡ 0 → last < length links → path (slice_set links last v) (suc n) at ≡ (front ++ last ∷ []) ++ v ∷ []
path_append [] links zero at last v e once within = absurd cc
path_append [] links (suc zero) at last v e once within =
    let same : at ≡ last = cc in
    let to : slice_index (slice_set links last v) at ≡ v = ap (slice_index (slice_set links last v)) same ∙ get_or-set_same links last v 0 within in
    ap (λ a. at ∷ a ∷ []) to ∙ ap (λ a. a ∷ v ∷ []) same
path_append [] links (suc (suc n)) at last v e once within = absurd cc
path_append (x ∷ xs) links zero at last v e once within = absurd cc
path_append (x ∷ xs) links (suc n) at last v e once within =
    let d = differs last x (times last xs) once in
    let head : at ≡ x = cc in
    let rest : path links n (slice_index links at) ≡ xs ++ last ∷ [] = cc in
    let same : slice_index (slice_set links last v) at ≡ slice_index links at = get_or-set_other links last at v 0 (λ q. d.0 (sym q ∙ head)) in
    ap (λ a. at ∷ path (slice_set links last v) (suc n) a) same
    ∙ ap (λ ns. at ∷ ns) (path_append xs links n (slice_index links at) last v rest d.1 within)
    ∙ ap (λ a. a ∷ ((xs ++ last ∷ []) ++ v ∷ [])) head

-- a node of a path is passed over
pub path_unlink : (front links : List ℕ) (n at p x : ℕ) (rest : List ℕ) → path links (suc n) at ≡ front ++ p ∷ x ∷ rest → times p front ≡ 0 → times p rest ≡ 0 → p < length links → path (slice_set links p (slice_index links x)) n at ≡ front ++ p ∷ rest
path_unlink [] links zero at p x rest e once after within = absurd cc
path_unlink [] links (suc n) at p x rest e once after within =
    let head : at ≡ p = cc in
    let second : slice_index links at ≡ x = cc in
    let left : path links n (slice_index links (slice_index links at)) ≡ rest = cc in
    let links' = slice_set links p (slice_index links x) in
    let tail : path links n (slice_index links x) ≡ rest = ap (λ y. path links n (slice_index links y)) (sym second) ∙ left in
    let to : slice_index links' at ≡ slice_index links x = ap (slice_index links') head ∙ get_or-set_same links p (slice_index links x) 0 within in
    ap (λ a. at ∷ path links' n a) to
    ∙ ap (λ ns. at ∷ ns) (path_frame links p (slice_index links x) n (slice_index links x) (ap (times p) tail ∙ after) ∙ tail)
    ∙ ap (λ a. a ∷ rest) head
path_unlink (y ∷ ys) links zero at p x rest e once after within =
    let l = ap length e in
    let m = length-append ys (p ∷ x ∷ rest) in
    absurd (omega arith)
path_unlink (y ∷ ys) links (suc n) at p x rest e once after within =
    let d = differs p y (times p ys) once in
    let head : at ≡ y = cc in
    let left : path links (suc n) (slice_index links at) ≡ ys ++ p ∷ x ∷ rest = cc in
    let links' = slice_set links p (slice_index links x) in
    let same : slice_index links' at ≡ slice_index links at = get_or-set_other links p at (slice_index links x) 0 (λ q. d.0 (sym q ∙ head)) in
    ap (λ a. at ∷ path links' n a) same
    ∙ ap (λ ns. at ∷ ns) (path_unlink ys links n (slice_index links at) p x rest left d.1 after within)
    ∙ ap (λ a. a ∷ (ys ++ p ∷ rest)) head

pub times-append : (k : ℕ) (xs ys : List ℕ) → times k (xs ++ ys) ≡ times k xs + times k ys
times-append k [] ys = omega arith
times-append k (x ∷ xs) ys = let rest = times-append k xs ys in omega arith

pub times_at : (ks : List ℕ) (i : ℕ) → i < length ks → 0 < times (slice_index ks i) ks
times_at [] i h = absurd (omega arith)
times_at (k ∷ ks) zero h = let own = itself k in omega arith
times_at (k ∷ ks) (suc i) h = let rest = times_at ks i (omega arith) in omega arith

pub split_at : (ks : List ℕ) (i : ℕ) → i < length ks → ks ≡ take i ks ++ slice_index ks i ∷ drop (suc i) ks
split_at [] i h = absurd (omega arith)
split_at (k ∷ ks) zero h = refl
split_at (k ∷ ks) (suc i) h = ap (λ r. k ∷ r) (split_at ks i (omega arith))

pub times-remove : (x : ℕ) (ks : List ℕ) (i : ℕ) → i < length ks → times x ks ≡ cond (nat_eq x (slice_index ks i)) 1 0 + times x (remove ks i)
times-remove x ks i h =
    let all = ap (times x) (split_at ks i h) ∙ times-append x (take i ks) (slice_index ks i ∷ drop (suc i) ks) in
    let left = times-append x (take i ks) (drop (suc i) ks) in
    omega arith

pub sum_over-set : (f : List ℕ → ℕ) (nss : List (List ℕ)) (q : ℕ) (ns : List ℕ) → q < length nss → sum_over f (slice_set nss q ns) + f (get_or nss q []) ≡ sum_over f nss + f ns
sum_over-set f [] q ns h = absurd (omega arith)
sum_over-set f (m ∷ ms) zero ns h = omega arith
sum_over-set f (m ∷ ms) (suc q) ns h = let rest = sum_over-set f ms q ns (omega arith) in omega arith

pub sum_over_part : (f : List ℕ → ℕ) (nss : List (List ℕ)) (q : ℕ) → f [] ≡ 0 → f (get_or nss q []) ≤ sum_over f nss
sum_over_part f [] q none = omega arith
sum_over_part f (m ∷ ms) zero none = omega arith
sum_over_part f (m ∷ ms) (suc q) none = let rest = sum_over_part f ms q none in omega arith

sum_over_none : (f : List ℕ → ℕ) (nss : List (List ℕ)) (q : ℕ) → f [] ≡ 0 → sum_over f nss ≡ 0 → f (get_or nss q []) ≡ 0
sum_over_none f nss q none h = let part = sum_over_part f nss q none in omega arith

at_most_one : (k n : ℕ) → cond (nat_lt k n) 1 0 ≤ 1
at_most_one k n = elim (nat_lt k n) as (λ b. cond b 1 0 ≤ 1) [ true ↦ omega arith | false ↦ omega arith ]

module _ {n : ℕ} {loose free : List ℕ} {queues : List (List ℕ)} (apart : AreApart n loose free queues) where
  -- what stands in a list is one of the nodes
  pub is_node : (k : ℕ) → 0 < times k loose + times k free + sum_over (times k) queues → k < n
  is_node k there =
      (elim (nat_lt k n) as (λ b. nat_lt k n ≡ b → k < n) [
        | true ↦ λ is. ltb-true k n is
        | false ↦ λ is. let once = apart.once k ∙ ap (λ b. cond b 1 0) is in absurd (omega arith)
      ]) refl

  -- and stands there alone
  pub is_alone : (k : ℕ) → times k loose + times k free + sum_over (times k) queues ≤ 1
  is_alone k = let once = apart.once k in let most = at_most_one k n in omega arith

  pub in_queue : (q i : ℕ) → i < length (get_or queues q []) → 0 < sum_over (times (slice_index (get_or queues q []) i)) queues
  in_queue q i h =
      let k = slice_index (get_or queues q []) i in
      let here = times_at (get_or queues q []) i h in
      let part = sum_over_part (times k) queues q refl in
      omega arith

  -- the other queues don't have it
  pub not_elsewhere : (q k : ℕ) → q < length queues → 0 < times k (get_or queues q []) → sum_over (times k) (slice_set queues q []) ≡ 0
  not_elsewhere q k within here =
      let set = sum_over-set (times k) queues q [] within in
      let alone = is_alone k in
      omega arith

-- what is below n
pub below_by : (n : ℕ) (ks : List ℕ) → ((k : ℕ) → 0 < times k ks → k < n) → AreBelow n ks
below_by n [] f = tt
below_by n (k ∷ ks) f = (f k (let own = itself k in omega arith), below_by n ks (λ x h. f x (omega arith)))

ne_lt : (x n : ℕ) → (x ≡ n → ⊥) → n ≤ x → nat_lt x (suc n) ≡ false
ne_lt x n ne h = le-ltb x (suc n) (let apart : x ≢ n = ne in omega arith)

below_next : (x n : ℕ) → let more : ℕ = cond (nat_lt x (suc n)) 1 0 in more ≡ cond (nat_eq x n) 1 0 + cond (nat_lt x n) 1 0
below_next x n =
    ⊎_elim (λ (e : x ≡ n). let a = eq-eqb x n e in let b = lt-ltb x (suc n) (omega arith) in let c = le-ltb x n (omega arith) in rw (a, b, c) (omega arith))
    (λ (ne : x ≡ n → ⊥).
    let a = ne_eqb x n ne in
    (elim (nat_lt x n) as (λ v. nat_lt x n ≡ v → (let more : ℕ = cond (nat_lt x (suc n)) 1 0 in more ≡ cond (nat_eq x n) 1 0 + cond v 1 0)) [
      | true ↦ λ is. let less = ltb-true x n is in let b = lt-ltb x (suc n) (omega arith) in rw (a, b) (omega arith)
      | false ↦ λ is. let more = ltb-false x n is in let b = ne_lt x n ne more in rw (a, b) (omega arith)
    ]) refl)
    (cases_eq x n)

-- one more node, which is free
pub apart_more : {queues : List (List ℕ)} (n : ℕ) (free : List ℕ) → AreApart n [] free queues → AreApart (suc n) [] (n ∷ free) queues
apart_more {queues = queues} n free a = record {
  once = λ x.
      let once = a.once x in
      let next = below_next x n in
      let e : times x [] + times x (n ∷ free) + sum_over (times x) queues ≡ cond (nat_eq x n) 1 0 + (times x [] + times x free + sum_over (times x) queues) = omega arith in
      e ∙ ap (λ m. cond (nat_eq x n) 1 0 + m) once ∙ sym next;
  all = let all = a.all in omega arith;
}

pub sum_over_push : (f : List ℕ → ℕ) (nss : List (List ℕ)) → f [] ≡ 0 → sum_over f (nss ++ [] ∷ []) ≡ sum_over f nss
sum_over_push f [] none = omega arith
sum_over_push f (ns ∷ nss) none = ap (λ m. f ns + m) (sum_over_push f nss none)

-- one more queue, which is empty
pub apart_queue : {n : ℕ} {free : List ℕ} (queues : List (List ℕ)) → AreApart n [] free queues → AreApart n [] free (queues ++ [] ∷ [])
apart_queue {free = free} queues a = record {
  once = λ x. ap (λ m. times x [] + times x free + m) (sum_over_push (times x) queues refl) ∙ a.once x;
  all = let all = a.all in let same = sum_over_push length queues refl in omega arith;
}

-- the first free node is taken out
pub apart_pop : {n : ℕ} {queues : List (List ℕ)} (k : ℕ) (free : List ℕ) → AreApart n [] (k ∷ free) queues → AreApart n (k ∷ []) free queues
apart_pop {queues = queues} k free a = record {
  once = λ x. let once = a.once x in let e : times x (k ∷ []) + times x free + sum_over (times x) queues ≡ times x [] + times x (k ∷ free) + sum_over (times x) queues = omega arith in e ∙ once;
  all = let all = a.all in omega arith;
}

-- a node is put in front of the free ones
pub apart_push : {n : ℕ} {queues : List (List ℕ)} (k : ℕ) (free : List ℕ) → AreApart n (k ∷ []) free queues → AreApart n [] (k ∷ free) queues
apart_push {queues = queues} k free a = record {
  once = λ x. let once = a.once x in let e : times x [] + times x (k ∷ free) + sum_over (times x) queues ≡ times x (k ∷ []) + times x free + sum_over (times x) queues = omega arith in e ∙ once;
  all = let all = a.all in omega arith;
}

-- a node is put behind those of a queue
pub apart_append : {n : ℕ} {free : List ℕ} (queues : List (List ℕ)) (q k : ℕ) → q < length queues → AreApart n (k ∷ []) free queues → AreApart n [] free (slice_set queues q (get_or queues q [] ++ k ∷ []))
apart_append {free = free} queues q k within a =
    let ns = get_or queues q [] in
    let to = ns ++ k ∷ [] in
    record {
      once = λ x.
          let once = a.once x in
          let set = sum_over-set (times x) queues q to within in
          let more = times-append x ns (k ∷ []) in
          let e : times x [] + times x free + sum_over (times x) (slice_set queues q to) ≡ times x (k ∷ []) + times x free + sum_over (times x) queues = omega arith in
          e ∙ once;
      all =
          let all = a.all in
          let set = sum_over-set length queues q to within in
          let more = length-append ns (k ∷ []) in
          omega arith;
    }

-- a node of a queue is taken out
pub apart_detach : {n : ℕ} {free : List ℕ} (queues : List (List ℕ)) (q i : ℕ) → q < length queues → i < length (get_or queues q []) → AreApart n [] free queues → AreApart n (slice_index (get_or queues q []) i ∷ []) free (slice_set queues q (remove (get_or queues q []) i))
apart_detach {free = free} queues q i within there a =
    let ns = get_or queues q [] in
    let k = slice_index ns i in
    record {
      once = λ x.
          let once = a.once x in
          let set = sum_over-set (times x) queues q (remove ns i) within in
          let fewer = times-remove x ns i there in
          let e : times x (k ∷ []) + times x free + sum_over (times x) (slice_set queues q (remove ns i)) ≡ times x [] + times x free + sum_over (times x) queues = omega arith in
          e ∙ once;
      all =
          let all = a.all in
          let set = sum_over-set length queues q (remove ns i) within in
          let whole = ap length (split_at ns i there) ∙ length-append (take i ns) (k ∷ drop (suc i) ns) in
          let fewer = length-append (take i ns) (drop (suc i) ns) in
          omega arith;
    }

pub below_at : (n : ℕ) (ks : List ℕ) (i : ℕ) → AreBelow n ks → i < length ks → slice_index ks i < n
below_at n [] i b h = absurd (omega arith)
below_at n (k ∷ ks) zero b h = b.0
below_at n (k ∷ ks) (suc i) b h = below_at n ks i b.1 (omega arith)

-- a walk along links
module _ (links : List ℕ) (n at : ℕ) where
  pub walk_first : 0 < n → at ≡ slice_index (path links n at) 0
  walk_first some = ap (λ ns. slice_index ns 0) (sym (path_step links n at some))

  pub walk_inside : (i k : ℕ) → AreBelow (length links) (path links n at) → i < n → k ≡ slice_index (path links n at) i → k < length links
  walk_inside i k b h is = let size = length-path links n at in subst (λ x. x < length links) (sym is) (below_at (length links) (path links n at) i b (omega arith))

  pub walk_next : (i k : ℕ) → i + 1 < n → k ≡ slice_index (path links n at) i → slice_index links k ≡ slice_index (path links n at) (i + 1)
  walk_next i k h is = ap (slice_index links) is ∙ sym (path_next links n at i (omega arith)) ∙ ap (slice_index (path links n at)) (sym (add-one i))
