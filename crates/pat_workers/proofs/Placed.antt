-- A worker's entries with their places, and receipts that tell of them.
use Rattle.std.proofs.Common.{◌≡◌, ◌≢◌, ℕ, zero, suc, ◌+◌, ◌<◌, eqb, eq-eqb, ne_eqb, cond, Bool, true, false, List, [], ◌∷◌, ◌++◌, length, map, Option, Some, None, refl, ap, sym, ◌∙◌, subst, arith, slice_get, append_assoc}
use Rattle.std.proofs.lemmas.List.{append-nil}
use Rattle.std.proofs.lemmas.List.Elements.{filter-append, All-nil, All-cons, All-head, All-tail, All-weaker}
use Rattle.std.specs.List.{All}
use mathlib.Core.List.{IsPrefix}
use Rattle.pat_reduce.specs.declared.history.Entry.{Entry}
use Rattle.pat_machine.specs.declared.job.Receipt.{Receipt}
use Rattle.pat_machine.specs.Driving.{AreInOrder}
use Rattle.pat_turn.specs.Rule.{entries_naming}
use Rattle.pat_workers.specs.turns.Holds.{worker_of}
use Rattle.pat_workers.specs.Receipts.{placed_from, placed, told_by, told, AreReceiptsOf, StandIn, one_at, receipts_at}

abbrev some_or : {A : Type 0} → A → Option A → A
some_or d None = d
some_or d (Some x) = x

pub some_is : {A : Type 0} {x y : A} → Some x ≡ Some y → x ≡ y
some_is {A} {x} {y} e = ap (some_or x) e

-- ---- a history that goes on

placed_append : (k i : ℕ) (xs ys : List Entry) → placed_from k i (xs ++ ys) ≡ placed_from k i xs ++ placed_from (k + length xs) i ys
placed_append k i [] ys = ap (λ (n : ℕ). placed_from n i ys) (omega arith)
placed_append k i (x ∷ xs) ys =
    let same : k + 1 + length xs ≡ k + length (x ∷ xs) = omega arith in
    go (eqb x.worker i) (placed_append (k + 1) i xs ys ∙ ap (λ (n : ℕ). placed_from (k + 1) i xs ++ placed_from n i ys) same)
  where
    go : (b : Bool) → placed_from (k + 1) i (xs ++ ys) ≡ placed_from (k + 1) i xs ++ placed_from (k + length (x ∷ xs)) i ys
        → cond b ((k, x) ∷ placed_from (k + 1) i (xs ++ ys)) (placed_from (k + 1) i (xs ++ ys)) ≡ cond b ((k, x) ∷ placed_from (k + 1) i xs) (placed_from (k + 1) i xs) ++ placed_from (k + length (x ∷ xs)) i ys
    go true rest = ap (λ l. (k, x) ∷ l) rest
    go false rest = rest

placed_none : (k i : ℕ) (ys : List Entry) → entries_naming worker_of i ys ≡ [] → placed_from k i ys ≡ []
placed_none k i [] e = refl
placed_none k i (y ∷ ys) e = go (eqb y.worker i) (placed_none (k + 1) i ys) e
  where
    go : (b : Bool) → (entries_naming worker_of i ys ≡ [] → placed_from (k + 1) i ys ≡ []) → cond b (y ∷ entries_naming worker_of i ys) (entries_naming worker_of i ys) ≡ [] → cond b ((k, y) ∷ placed_from (k + 1) i ys) (placed_from (k + 1) i ys) ≡ []
    go true rest h = absurd (cc h)
    go false rest h = rest h

shorter : {A : Type 0} (xs ys : List A) → xs ++ ys ≡ xs → ys ≡ []
shorter [] ys e = e
shorter {A} (x ∷ xs) ys e = shorter xs ys (ap (tail_of {A = A}) e)
  where
    tail_of : {A : Type 0} → List A → List A
    tail_of [] = []
    tail_of (z ∷ zs) = zs

-- a longer history with no further entry of the worker has its entries at the same places
pub placed_stay : (i : ℕ) (seen log : List Entry) → IsPrefix seen log → entries_naming worker_of i log ≡ entries_naming worker_of i seen → placed i log ≡ placed i seen
placed_stay i seen log p own =
    let more = p.0 in
    let none : entries_naming worker_of i more ≡ [] = shorter (entries_naming worker_of i seen) (entries_naming worker_of i more) (sym (filter-append (λ e. eqb (worker_of e) i) seen more) ∙ (ap (entries_naming worker_of i) p.1 ∙ own)) in
    ap (placed i) (sym p.1) ∙ (placed_append 0 i seen more ∙ (ap (λ l. placed i seen ++ l) (placed_none (0 + length seen) i more none) ∙ append-nil (placed i seen)))

-- a further entry that a receipt tells of
pub placed_more : (log : List Entry) (r : Receipt) (b : Bool) → r.index ≡ cond b None (Some (length log)) → placed r.entry.worker (cond b log (log ++ r.entry ∷ [])) ≡ placed r.entry.worker log ++ told_by r.index r.entry
placed_more log r true is = sym (append-nil (placed r.entry.worker log)) ∙ ap (λ i. placed r.entry.worker log ++ told_by i r.entry) (sym is)
placed_more log r false is =
    let here : eqb r.entry.worker r.entry.worker ≡ true = eq-eqb r.entry.worker r.entry.worker refl in
    let k : 0 + length log ≡ length log = omega arith in
    placed_append 0 r.entry.worker log (r.entry ∷ [])
    ∙ ap (λ b. placed r.entry.worker log ++ cond b ((0 + length log, r.entry) ∷ []) []) here
    ∙ ap (λ (n : ℕ). placed r.entry.worker log ++ (n, r.entry) ∷ []) k
    ∙ ap (λ i. placed r.entry.worker log ++ told_by i r.entry) (sym is)

-- ---- more receipts

pub told_append : (rs qs : List Receipt) → told (rs ++ qs) ≡ told rs ++ told qs
told_append [] qs = refl
told_append (r ∷ rs) qs = ap (λ l. told_by r.index r.entry ++ l) (told_append rs qs) ∙ sym (append_assoc (told_by r.index r.entry) (told rs) (told qs))

-- ---- receipts in order, from the place n on

pub order_told : (n : ℕ) (rs : List Receipt) → AreInOrder n 0 rs → placed_from n 0 (map (λ (r : Receipt). r.entry) rs) ≡ told rs
order_told n [] h = refl
order_told n (r ∷ rs) h =
    let rest = order_told (n + 1) rs h.2 in
    ap (λ b. cond b ((n, r.entry) ∷ placed_from (n + 1) 0 (map (λ (r : Receipt). r.entry) rs)) (placed_from (n + 1) 0 (map (λ (r : Receipt). r.entry) rs))) (eq-eqb r.entry.worker 0 h.1)
    ∙ ap (λ l. (n, r.entry) ∷ l) rest
    ∙ ap (λ i. told_by i r.entry ++ told rs) (sym h.0)

pub order_others : (n i : ℕ) (rs : List Receipt) → AreInOrder n 0 rs → i ≢ 0 → placed_from n i (map (λ (r : Receipt). r.entry) rs) ≡ []
order_others n i [] h other = refl
order_others n i (r ∷ rs) h other =
    ap (λ b. cond b ((n, r.entry) ∷ placed_from (n + 1) i (map (λ (r : Receipt). r.entry) rs)) (placed_from (n + 1) i (map (λ (r : Receipt). r.entry) rs))) (ne_eqb r.entry.worker i (λ e. other (sym e ∙ h.1)))
    ∙ order_others (n + 1) i rs h.2 other

pub order_workers : (n : ℕ) (rs : List Receipt) → AreInOrder n 0 rs → All (λ (r : Receipt). r.entry.worker ≡ 0) rs
order_workers n [] h = All-nil (λ (r : Receipt). r.entry.worker ≡ 0)
order_workers n (r ∷ rs) h = All-cons (λ (r : Receipt). r.entry.worker ≡ 0) r rs h.1 (order_workers (n + 1) rs h.2)

pub order_below : (n m : ℕ) (rs : List Receipt) → 0 < m → AreInOrder n 0 rs → All (λ (e : Entry). e.worker < m) (map (λ (r : Receipt). r.entry) rs)
order_below n m [] some h = All-nil (λ (e : Entry). e.worker < m)
order_below n m (r ∷ rs) some h = All-cons (λ (e : Entry). e.worker < m) r.entry (map (λ (r : Receipt). r.entry) rs) (let zeroth = h.1 in omega (arith, zeroth, some)) (order_below (n + 1) m rs some h.2)

-- what was placed, where worker 0's receipts in order go on
pub placed_on : (i : ℕ) (log : List Entry) (rs : List Receipt) → AreInOrder (length log) 0 rs → placed i (log ++ map (λ (r : Receipt). r.entry) rs) ≡ placed i log ++ placed_from (length log) i (map (λ (r : Receipt). r.entry) rs)
placed_on i log rs h = let k : 0 + length log ≡ length log = omega arith in placed_append 0 i log (map (λ (r : Receipt). r.entry) rs) ∙ ap (λ (n : ℕ). placed i log ++ placed_from n i (map (λ (r : Receipt). r.entry) rs)) k

-- ---- what receipts tell is where they say

abbrev IsThere : ℕ → List Entry → ℕ × Entry → Type 0
IsThere n es p = (m : ℕ) × (p.0 ≡ n + m) × (slice_get es m ≡ Some p.1)

deeper : (n : ℕ) (e : Entry) (es : List Entry) (ps : List (ℕ × Entry)) → All (IsThere (n + 1) es) ps → All (IsThere n (e ∷ es)) ps
deeper n e es ps all = All-weaker (IsThere (n + 1) es) (IsThere n (e ∷ es)) (λ p h. let at = h.1 in (suc h.0, omega (arith, at), h.2)) ps all

placed_there : (n i : ℕ) (es : List Entry) → All (IsThere n es) (placed_from n i es)
placed_there n i [] = All-nil (IsThere n [])
placed_there n i (e ∷ es) = go (eqb e.worker i) (deeper n e es (placed_from (n + 1) i es) (placed_there (n + 1) i es))
  where
    go : (b : Bool) → All (IsThere n (e ∷ es)) (placed_from (n + 1) i es) → All (IsThere n (e ∷ es)) (cond b ((n, e) ∷ placed_from (n + 1) i es) (placed_from (n + 1) i es))
    go true rest = All-cons (IsThere n (e ∷ es)) (n, e) (placed_from (n + 1) i es) (0, omega arith, refl) rest
    go false rest = rest

told_there : (es : List Entry) (rs : List Receipt) → All (IsThere 0 es) (told rs) → StandIn es rs
told_there es [] all = All-nil (λ (r : Receipt). (k : ℕ) → r.index ≡ Some k → slice_get es k ≡ Some r.entry)
told_there es (r ∷ rs) all = go r.index refl (told_there es rs) all
  where
    go : (o : Option ℕ) → r.index ≡ o → (All (IsThere 0 es) (told rs) → StandIn es rs) → All (IsThere 0 es) (told_by o r.entry ++ told rs) → StandIn es (r ∷ rs)
    go None is more all = All-cons (λ (r : Receipt). (k : ℕ) → r.index ≡ Some k → slice_get es k ≡ Some r.entry) r rs (λ k at. let clash : None ≡ Some k = sym is ∙ at in absurd (cc clash)) (more all)
    go (Some j) is more all =
        let first = All-head (IsThere 0 es) (j, r.entry) (told rs) all in
        All-cons (λ (r : Receipt). (k : ℕ) → r.index ≡ Some k → slice_get es k ≡ Some r.entry) r rs
        (λ k at. let same : j ≡ k = some_is (sym is ∙ at) in let here = first.1 in let m : first.0 ≡ k = omega (arith, here, same) in ap (slice_get es) (sym m) ∙ first.2)
        (more (All-tail (IsThere 0 es) (j, r.entry) (told rs) all))

pub receipts_stand : (i : ℕ) (es : List Entry) (rs : List Receipt) → AreReceiptsOf i es rs → StandIn es rs
receipts_stand i es rs h = told_there es rs (subst (All (IsThere 0 es)) (sym h.entries) (placed_there 0 i es))

-- ---- and each entry is told of once

abbrev times_at : ℕ → List (ℕ × Entry) → ℕ
times_at k [] = 0
times_at k (p ∷ ps) = cond (eqb p.0 k) 1 0 + times_at k ps

told_times : (k : ℕ) (rs : List Receipt) → receipts_at k rs ≡ times_at k (told rs)
told_times k [] = refl
told_times k (r ∷ rs) = go r.index (told_times k rs)
  where
    go : (o : Option ℕ) → receipts_at k rs ≡ times_at k (told rs) → one_at k o + receipts_at k rs ≡ times_at k (told_by o r.entry ++ told rs)
    go None rest = let none : 0 + receipts_at k rs ≡ times_at k (told rs) = omega (arith, rest) in none
    go (Some j) rest = ap (λ (n : ℕ). cond (eqb j k) 1 0 + n) rest

-- no place is below the first
none_before : (k n i : ℕ) (es : List Entry) → k < n → times_at k (placed_from n i es) ≡ 0
none_before k n i [] low = refl
none_before k n i (e ∷ es) low = go (eqb e.worker i) (none_before k (n + 1) i es (omega (arith, low)))
  where
    go : (b : Bool) → times_at k (placed_from (n + 1) i es) ≡ 0 → times_at k (cond b ((n, e) ∷ placed_from (n + 1) i es) (placed_from (n + 1) i es)) ≡ 0
    go true rest = let other : eqb n k ≡ false = ne_eqb n k (λ same. omega (arith, low, same)) in let none : cond {A = ℕ} false 1 0 + times_at k (placed_from (n + 1) i es) ≡ times_at k (placed_from (n + 1) i es) = omega arith in ap (λ b. cond b 1 0 + times_at k (placed_from (n + 1) i es)) other ∙ none ∙ rest
    go false rest = rest

placed_once : (n i : ℕ) (es : List Entry) (m : ℕ) (e : Entry) → slice_get es m ≡ Some e → times_at (n + m) (placed_from n i es) ≡ cond (eqb e.worker i) 1 0
placed_once n i [] m e at = absurd (cc at)
placed_once n i (x ∷ es) zero e at =
    let same : x ≡ e = some_is at in
    let k : n + 0 ≡ n = omega arith in
    ap (λ (j : ℕ). times_at j (placed_from n i (x ∷ es))) k ∙ go (eqb x.worker i) (none_before n (n + 1) i es (omega arith)) ∙ ap (λ (y : Entry). cond (eqb y.worker i) 1 0) same
  where
    go : (b : Bool) → times_at n (placed_from (n + 1) i es) ≡ 0 → times_at n (cond b ((n, x) ∷ placed_from (n + 1) i es) (placed_from (n + 1) i es)) ≡ cond b 1 0
    go true rest = let here : eqb n n ≡ true = eq-eqb n n refl in ap (λ b. cond b 1 0 + times_at n (placed_from (n + 1) i es)) here ∙ ap (λ (j : ℕ). 1 + j) rest
    go false rest = rest
placed_once n i (x ∷ es) (suc m) e at =
    let k : n + suc m ≡ n + 1 + m = omega arith in
    go (eqb x.worker i) (ap (λ (j : ℕ). times_at j (placed_from (n + 1) i es)) k ∙ placed_once (n + 1) i es m e at)
  where
    go : (b : Bool) → times_at (n + suc m) (placed_from (n + 1) i es) ≡ cond (eqb e.worker i) 1 0 → times_at (n + suc m) (cond b ((n, x) ∷ placed_from (n + 1) i es) (placed_from (n + 1) i es)) ≡ cond (eqb e.worker i) 1 0
    go true rest = let other : eqb n (n + suc m) ≡ false = ne_eqb n (n + suc m) (λ same. omega (arith, same)) in let none : cond {A = ℕ} false 1 0 + times_at (n + suc m) (placed_from (n + 1) i es) ≡ times_at (n + suc m) (placed_from (n + 1) i es) = omega arith in ap (λ b. cond b 1 0 + times_at (n + suc m) (placed_from (n + 1) i es)) other ∙ none ∙ rest
    go false rest = rest

pub receipts_once : (i : ℕ) (es : List Entry) (rs : List Receipt) → AreReceiptsOf i es rs → (k : ℕ) (e : Entry) → slice_get es k ≡ Some e → receipts_at k rs ≡ cond (eqb e.worker i) 1 0
receipts_once i es rs h k e at =
    let z : 0 + k ≡ k = omega arith in
    told_times k rs ∙ ap (times_at k) h.entries ∙ ap (λ (j : ℕ). times_at j (placed i es)) (sym z) ∙ placed_once 0 i es k e at
