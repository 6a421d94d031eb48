-- Queues by their marks.
use Rattle.std.proofs.Common.{◌≡◌, ℕ, zero, suc, ◌+◌, ◌*◌, ◌<◌, ◌≤◌, List, [], ◌∷◌, ◌++◌, ⊎_elim, length, get_or, slice_set, slice_get, Option, Some, None, Result, Ok, Err, refl, sym, ap, ◌∙◌, subst, arith, length-set, length-append}
use Rattle.std.specs.Prelude.{OnErr}
use Rattle.std.specs.Option.{unwrap_or}
use Rattle.std.proofs.lemmas.Bool.{cases_eq}
use Rattle.pat_limits.specs.Limits.{number_count}
use Rattle.pat_reduce.specs.declared.threads.state.Message.{Message}
use Rattle.pat_mailboxes.specs.queues.Lanes.{AreLanes, queue_in}
use Rattle.pat_mailboxes.specs.queues.Queues.{queue_at, values_at, Becomes, IsLive}
use Rattle.pat_mailboxes.specs.queues.Pooled.{marked, queues_from, queues_of, IsEmptyUnlessLive, AreMarked}
use Rattle.pat_mailboxes.specs.declared.queues.pool.Mark.{Mark}
use Rattle.pat_mailboxes.specs.declared.queues.pool.Mark.TheVariants.{Live, Closed}
use Rattle.pat_mailboxes.proofs.LaneChains.{queue_same, lanes_same}

abbrev marked_at : Option Mark → List Message → Option (List Message)
marked_at None values = None
marked_at (Some m) values = marked m values

set_here : {X : Type 0} (xs : List X) (q : ℕ) (x : X) → q < length xs → slice_get (slice_set xs q x) q ≡ Some x
set_here [] q x h = absurd (omega arith)
set_here (y ∷ ys) zero x h = refl
set_here (y ∷ ys) (suc q) x h = set_here ys q x (omega arith)

set_there : {X : Type 0} (xs : List X) (q r : ℕ) (x : X) → (r ≡ q → ⊥) → slice_get (slice_set xs q x) r ≡ slice_get xs r
set_there [] q r x ne = refl
set_there (y ∷ ys) zero zero x ne = absurd (ne refl)
set_there (y ∷ ys) zero (suc r) x ne = refl
set_there (y ∷ ys) (suc q) zero x ne = refl
set_there (y ∷ ys) (suc q) (suc r) x ne = set_there ys q r x (λ e. ne (ap suc e))

push_here : {X : Type 0} (xs : List X) (x : X) → slice_get (xs ++ x ∷ []) (length xs) ≡ Some x
push_here [] x = refl
push_here (y ∷ ys) x = push_here ys x

push_there : {X : Type 0} (xs : List X) (x : X) (r : ℕ) → (r ≡ length xs → ⊥) → slice_get (xs ++ x ∷ []) r ≡ slice_get xs r
push_there [] x zero ne = absurd (ne refl)
push_there [] x (suc r) ne = refl
push_there (y ∷ ys) x zero ne = refl
push_there (y ∷ ys) x (suc r) ne = push_there ys x r (λ e. ne (ap suc e))

past : {X : Type 0} (xs : List X) → slice_get xs (length xs) ≡ None
past [] = refl
past (x ∷ xs) = past xs

inside : {X : Type 0} (xs : List X) (q : ℕ) (x : X) → slice_get xs q ≡ Some x → q < length xs
inside [] q x e = absurd cc
inside (y ∷ ys) zero x e = omega arith
inside (y ∷ ys) (suc q) x e = let rest = inside ys q x e in omega arith

queue_of : (ms : List Mark) (cs : List (List Message)) (from q : ℕ) → queue_at (queues_from ms cs from) q ≡ marked_at (slice_get ms q) (queue_in cs (from + q))
queue_of [] cs from q = refl
queue_of (m ∷ ms) cs from zero = ap (λ k. marked m (queue_in cs k)) (let e : from ≡ from + 0 = omega arith in e)
queue_of (m ∷ ms) cs from (suc q) = queue_of ms cs (suc from) q ∙ ap (λ k. marked_at (slice_get ms q) (queue_in cs k)) (let e : suc from + q ≡ from + suc q = omega arith in e)

queue_is : (ms : List Mark) (cs : List (List Message)) (q : ℕ) → queue_at (queues_of ms cs) q ≡ marked_at (slice_get ms q) (queue_in cs q)
queue_is ms cs q = queue_of ms cs 0 q ∙ ap (λ k. marked_at (slice_get ms q) (queue_in cs k)) (let e : 0 + q ≡ q = omega arith in e)

live_mark : (o : Option Mark) (vs ws : List Message) → marked_at o vs ≡ Some ws → (o ≡ Some Live) × (ws ≡ vs)
live_mark None vs ws e = absurd cc
live_mark (Some Live) vs ws e = (refl, cc)
live_mark (Some (Closed n)) vs ws e = absurd cc

-- the marks and chains of queues that are seen
module _ (ms : List Mark) (cs : List (List Message)) (spare q : ℕ) (seen : List (Option (List Message)) × ℕ) (view : (queues_of ms cs, spare) ≡ seen) (a : AreMarked ms cs) where
  first : queues_of ms cs ≡ seen.0
  first = ap (λ (v : List (Option (List Message)) × ℕ). v.0) view

  seen_is : (r : ℕ) → queue_at seen.0 r ≡ marked_at (slice_get ms r) (queue_in cs r)
  seen_is r = ap (λ v. queue_at v r) (sym first) ∙ queue_is ms cs r

  -- a live queue has its lanes
  pub live_seen : IsLive seen.0 q → (slice_get ms q ≡ Some Live) × (q * 8 + 8 ≤ length cs) × (q * 8 + 8 ≤ number_count) × (values_at seen.0 q ≡ queue_in cs q)
  live_seen live =
      let is = live_mark (slice_get ms q) (queue_in cs q) live.0 (sym (seen_is q) ∙ live.1) in
      let there = inside ms q Live is.0 in
      let each = a.each in
      let few = a.few in
      (is.0, omega arith, omega arith, ap (λ o. unwrap_or o []) live.1 ∙ is.1)

  -- it gets other messages
  pub set_seen : (cs' : List (List Message)) (vs : List Message) → IsLive seen.0 q → length cs' ≡ length cs → AreLanes cs' → queue_in cs' q ≡ vs → ((r : ℕ) → (r ≡ q → ⊥) → queue_in cs' r ≡ queue_in cs r)
      → AreMarked ms cs' × Becomes seen.0 (queues_of ms cs') q (Some vs)
  set_seen cs' vs live size lanes here others =
      let own = live_seen live in (
        record {
          few = a.few;
          each = let each = a.each in omega arith;
          lanes = lanes;
          closed = λ r.
              ⊎_elim (λ (e : r ≡ q). subst (λ o. IsEmptyUnlessLive o (queue_in cs' r)) (sym (ap (slice_get ms) e ∙ own.0)) tt)
              (λ (ne : r ≡ q → ⊥). subst (IsEmptyUnlessLive (slice_get ms r)) (sym (others r ne)) (a.closed r))
              (cases_eq r q);
        },
        record {
          here = queue_is ms cs' q ∙ ap (λ o. marked_at o (queue_in cs' q)) own.0 ∙ ap Some here;
          others = λ r ne. queue_is ms cs' r ∙ ap (marked_at (slice_get ms r)) (others r ne) ∙ sym (seen_is r);
        },
      )

  -- the mark of a queue changes that is empty before or behind
  remarked : (m : Mark) → q < length ms → IsEmptyUnlessLive (Some m) (queue_in cs q) → AreMarked (slice_set ms q m) cs × Becomes seen.0 (queues_of (slice_set ms q m) cs) q (marked m (queue_in cs q))
  remarked m there empty = (
    record {
      few = let size = length-set ms q m in let few = a.few in omega arith;
      each = let size = length-set ms q m in let each = a.each in omega arith;
      lanes = a.lanes;
      closed = λ r.
          ⊎_elim (λ (e : r ≡ q). subst (λ n. IsEmptyUnlessLive (slice_get (slice_set ms q m) n) (queue_in cs n)) (sym e) (subst (λ o. IsEmptyUnlessLive o (queue_in cs q)) (sym (set_here ms q m there)) empty))
          (λ (ne : r ≡ q → ⊥). subst (λ o. IsEmptyUnlessLive o (queue_in cs r)) (sym (set_there ms q r m ne)) (a.closed r))
          (cases_eq r q);
    },
    record {
      here = queue_is (slice_set ms q m) cs q ∙ ap (λ o. marked_at o (queue_in cs q)) (set_here ms q m there);
      others = λ r ne. queue_is (slice_set ms q m) cs r ∙ ap (λ o. marked_at o (queue_in cs r)) (set_there ms q r m ne) ∙ sym (seen_is r);
    },
  )

  -- an empty queue is closed
  pub close_seen : (next : Option ℕ) → queue_at seen.0 q ≡ Some [] → (q < length ms) × AreMarked (slice_set ms q (Closed next)) cs × Becomes seen.0 (queues_of (slice_set ms q (Closed next)) cs) q None
  close_seen next empty =
      let is = live_mark (slice_get ms q) (queue_in cs q) [] (sym (seen_is q) ∙ empty) in
      let there = inside ms q Live is.0 in
      let r = remarked (Closed next) there (sym is.1) in
      (there, r.0, r.1)

  -- a closed queue is opened
  pub reopen_seen : (next : Option ℕ) → slice_get ms q ≡ Some (Closed next) → (queue_at seen.0 q ≡ None) × AreMarked (slice_set ms q Live) cs × Becomes seen.0 (queues_of (slice_set ms q Live) cs) q (Some [])
  reopen_seen next closed =
      let there = inside ms q (Closed next) closed in
      let empty : queue_in cs q ≡ [] = subst (λ o. IsEmptyUnlessLive o (queue_in cs q)) closed (a.closed q) in
      let r = remarked Live there tt in
      (seen_is q ∙ ap (λ o. marked_at o (queue_in cs q)) closed, r.0, subst (λ (vs : List Message). Becomes seen.0 (queues_of (slice_set ms q Live) cs) q (Some vs)) empty r.1)

  -- chains are added that are empty
  pub more_seen : (cs' : List (List Message)) → length cs ≤ length cs' → ((k : ℕ) → get_or cs' k [] ≡ get_or cs k []) → AreMarked ms cs' × (queues_of ms cs' ≡ seen.0)
  more_seen cs' longer same = (
    record {
      few = a.few;
      each = let each = a.each in omega arith;
      lanes = lanes_same cs cs' same a.lanes;
      closed = λ r. subst (IsEmptyUnlessLive (slice_get ms r)) (sym (queue_same cs cs' r same)) (a.closed r);
    },
    queues_same ms cs cs' 0 same ∙ first,
  )
    where
      queues_same : (ms : List Mark) (cs cs' : List (List Message)) (from : ℕ) → ((k : ℕ) → get_or cs' k [] ≡ get_or cs k []) → queues_from ms cs' from ≡ queues_from ms cs from
      queues_same [] cs cs' from same = refl
      queues_same (m ∷ ms) cs cs' from same =
          ap (λ (vs : List Message). marked m vs ∷ queues_from ms cs' (suc from)) (queue_same cs cs' from same) ∙ ap (λ qs. marked m (queue_in cs from) ∷ qs) (queues_same ms cs cs' (suc from) same)

  -- a queue is added
  pub add_seen : (cs' : List (List Message)) → q ≡ length ms → q * 8 + 8 ≤ number_count → q * 8 + 8 ≤ length cs' → length cs ≤ length cs' → ((k : ℕ) → get_or cs' k [] ≡ get_or cs k [])
      → (queue_at seen.0 q ≡ None) × AreMarked (ms ++ Live ∷ []) cs' × Becomes seen.0 (queues_of (ms ++ Live ∷ []) cs') q (Some [])
  add_seen cs' at few each longer same =
      let size = length-append ms (Live ∷ []) in
      let none : slice_get ms q ≡ None = ap (slice_get ms) at ∙ past ms in
      let here : slice_get (ms ++ Live ∷ []) q ≡ Some Live = ap (slice_get (ms ++ Live ∷ [])) at ∙ push_here ms Live in
      let empty : queue_in cs q ≡ [] = subst (λ o. IsEmptyUnlessLive o (queue_in cs q)) none (a.closed q) in (
        seen_is q ∙ ap (λ o. marked_at o (queue_in cs q)) none,
        record {
          few = omega arith;
          each = omega arith;
          lanes = lanes_same cs cs' same a.lanes;
          closed = λ r.
              ⊎_elim (λ (e : r ≡ q). subst (λ n. IsEmptyUnlessLive (slice_get (ms ++ Live ∷ []) n) (queue_in cs' n)) (sym e) (subst (λ o. IsEmptyUnlessLive o (queue_in cs' q)) (sym here) tt))
              (λ (ne : r ≡ q → ⊥). subst (λ o. IsEmptyUnlessLive o (queue_in cs' r)) (sym (push_there ms Live r (λ e. ne (e ∙ sym at)))) (subst (IsEmptyUnlessLive (slice_get ms r)) (sym (queue_same cs cs' r same)) (a.closed r)))
              (cases_eq r q);
        },
        record {
          here = queue_is (ms ++ Live ∷ []) cs' q ∙ ap (λ o. marked_at o (queue_in cs' q)) here ∙ ap Some (queue_same cs cs' q same ∙ empty);
          others = λ r ne.
              queue_is (ms ++ Live ∷ []) cs' r
              ∙ ap (λ o. marked_at o (queue_in cs' r)) (push_there ms Live r (λ e. ne (e ∙ sym at)))
              ∙ ap (marked_at (slice_get ms r)) (queue_same cs cs' r same)
              ∙ sym (seen_is r);
        },
      )

pub on_err : {A E : Type 0} (r : Result A E) (P : Type 0) → P → OnErr r P
on_err (Ok x) P p = tt
on_err (Err e) P p = p
