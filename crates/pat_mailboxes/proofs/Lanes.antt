-- Lists in order of number, put together.
use Rattle.std.proofs.Common.{◌≡◌, ℕ, zero, suc, ◌+◌, ◌<◌, ◌≤◌, Bool, true, false, cond, nat_lt, List, [], ◌∷◌, ◌++◌, ⊎_elim, length, get_or, remove, slice_get, slice_set, Option, Some, None, refl, sym, ap, ◌∙◌, subst, arith, lt-ltb, le-ltb}
use Rattle.std.specs.Prelude.{find}
use Rattle.std.specs.List.{AllByRecursion}
use Rattle.std.specs.List.Sorted.{IsPermutation}
use Rattle.std.proofs.lemmas.Bool.{cases_lt, cases_Bool, cond-true, cond-false}
use Rattle.std.proofs.lemmas.List.Sorted.{IsPermutation-refl, IsPermutation-cons, IsPermutation-trans, IsPermutation-middle}
use Rattle.pat_reduce.specs.declared.threads.state.Message.{Message}
use Rattle.pat_mailboxes.specs.queues.Lanes.{insert, join, merged, Rise, earlier, later, last_of}

-- ---- one message is inserted

lesser : (m n : Message) (ns : List Message) → n.number < m.number → insert m (n ∷ ns) ≡ n ∷ insert m ns
lesser m n ns h = cond-true (nat_lt n.number m.number) (n ∷ insert m ns) (m ∷ n ∷ ns) (lt-ltb n.number m.number h)

greater : (m n : Message) (ns : List Message) → m.number ≤ n.number → insert m (n ∷ ns) ≡ m ∷ n ∷ ns
greater m n ns h = cond-false (nat_lt n.number m.number) (n ∷ insert m ns) (m ∷ n ∷ ns) (le-ltb n.number m.number h)

-- by cases of the comparison
by_order : (P : List Message → Type 0) (m n : Message) (ns : List Message) → (n.number < m.number → P (n ∷ insert m ns)) → (m.number ≤ n.number → P (m ∷ n ∷ ns)) → P (insert m (n ∷ ns))
by_order P m n ns less more =
    ⊎_elim (λ (h : n.number < m.number). subst P (sym (lesser m n ns h)) (less h)) (λ (h : m.number ≤ n.number). subst P (sym (greater m n ns h)) (more h))
    (cases_lt n.number m.number)

pub weaken : (P Q : Message → Type 0) (f : (x : Message) → P x → Q x) (ns : List Message) → AllByRecursion P ns → AllByRecursion Q ns
weaken P Q f [] a = tt
weaken P Q f (n ∷ ns) a = (f n a.0, weaken P Q f ns a.1)

insert_all : (P : Message → Type 0) (m : Message) (ns : List Message) → P m → AllByRecursion P ns → AllByRecursion P (insert m ns)
insert_all P m [] p a = (p, tt)
insert_all P m (n ∷ ns) p a = by_order (AllByRecursion P) m n ns (λ h. (a.0, insert_all P m ns p a.1)) (λ h. (p, a))

all_insert : (P : Message → Type 0) (m : Message) (ns : List Message) → AllByRecursion P (insert m ns) → P m × AllByRecursion P ns
all_insert P m [] a = (a.0, tt)
all_insert P m (n ∷ ns) a =
    by_order (λ l. AllByRecursion P l → P m × AllByRecursion P (n ∷ ns)) m n ns
    (λ h b. let r = all_insert P m ns b.1 in (r.0, (b.0, r.1)))
    (λ h b. b)
    a

join_all : (P : Message → Type 0) (ms ns : List Message) → AllByRecursion P ms → AllByRecursion P ns → AllByRecursion P (join ms ns)
join_all P [] ns a b = b
join_all P (m ∷ ms) ns a b = insert_all P m (join ms ns) a.0 (join_all P ms ns a.1 b)

all_join : (P : Message → Type 0) (ms ns : List Message) → AllByRecursion P (join ms ns) → AllByRecursion P ms × AllByRecursion P ns
all_join P [] ns a = (tt, a)
all_join P (m ∷ ms) ns a =
    let r = all_insert P m (join ms ns) a in
    let s = all_join P ms ns r.1 in
    ((r.0, s.0), s.1)

-- what holds of all of each list holds of all
pub merged_all : (P : Message → Type 0) (ls : List (List Message)) → ((i : ℕ) → i < length ls → AllByRecursion P (get_or ls i [])) → AllByRecursion P (merged ls)
merged_all P [] f = tt
merged_all P (l ∷ ls) f = join_all P l (merged ls) (f 0 (omega arith)) (merged_all P ls (λ i h. f (suc i) (omega arith)))

pub all_merged : (P : Message → Type 0) (ls : List (List Message)) (i : ℕ) → AllByRecursion P (merged ls) → AllByRecursion P (get_or ls i [])
all_merged P [] i a = tt
all_merged P (l ∷ ls) zero a = (all_join P l (merged ls) a).0
all_merged P (l ∷ ls) (suc i) a = all_merged P ls i (all_join P l (merged ls) a).1

-- ---- they are in order

rise_insert : (m : Message) (ns : List Message) → Rise ns → Rise (insert m ns)
rise_insert m [] r = (tt, tt)
rise_insert m (n ∷ ns) r =
    by_order Rise m n ns
    (λ (h : n.number < m.number). (insert_all (λ x. n.number ≤ x.number) m ns (omega arith) r.0, rise_insert m ns r.1))
    (λ (h : m.number ≤ n.number). ((h, weaken (λ x. n.number ≤ x.number) (λ x. m.number ≤ x.number) (λ x (le : n.number ≤ x.number). omega arith) ns r.0), r))

rise_join : (ms ns : List Message) → Rise ns → Rise (join ms ns)
rise_join [] ns r = r
rise_join (m ∷ ms) ns r = rise_insert m (join ms ns) (rise_join ms ns r)

pub rise_merged : (ls : List (List Message)) → Rise (merged ls)
rise_merged [] = tt
rise_merged (l ∷ ls) = rise_join l (merged ls) (rise_merged ls)

-- ---- a message behind all comes to one of them

insert_last : (x m : Message) (ns : List Message) → x.number < m.number → insert x (ns ++ m ∷ []) ≡ insert x ns ++ m ∷ []
insert_last x m [] h = greater x m [] (omega arith)
insert_last x m (n ∷ ns) h =
    ⊎_elim
    (λ (less : n.number < x.number). lesser x n (ns ++ m ∷ []) less ∙ ap (λ l. n ∷ l) (insert_last x m ns h) ∙ sym (ap (λ l. l ++ m ∷ []) (lesser x n ns less)))
    (λ (more : x.number ≤ n.number). greater x n (ns ++ m ∷ []) more ∙ sym (ap (λ l. l ++ m ∷ []) (greater x n ns more)))
    (cases_lt n.number x.number)

insert_end : (m : Message) (ns : List Message) → AllByRecursion (λ x. x.number < m.number) ns → insert m ns ≡ ns ++ m ∷ []
insert_end m [] a = refl
insert_end m (n ∷ ns) a = lesser m n ns a.0 ∙ ap (λ l. n ∷ l) (insert_end m ns a.1)

join_end : (ms ns : List Message) (m : Message) → AllByRecursion (λ x. x.number < m.number) ms → join ms (ns ++ m ∷ []) ≡ join ms ns ++ m ∷ []
join_end [] ns m a = refl
join_end (x ∷ ms) ns m a = ap (insert x) (join_end ms ns m a.1) ∙ insert_last x m (join ms ns) a.0

join_push : (ms ns : List Message) (m : Message) → AllByRecursion (λ x. x.number < m.number) ms → AllByRecursion (λ x. x.number < m.number) ns → join (ms ++ m ∷ []) ns ≡ join ms ns ++ m ∷ []
join_push [] ns m a b = insert_end m ns b
join_push (x ∷ ms) ns m a b = ap (insert x) (join_push ms ns m a.1 b) ∙ insert_last x m (join ms ns) a.0

pub merged_push : (ls : List (List Message)) (i : ℕ) (m : Message) → i < length ls → AllByRecursion (λ x. x.number < m.number) (merged ls) → merged (slice_set ls i (get_or ls i [] ++ m ∷ [])) ≡ merged ls ++ m ∷ []
merged_push [] i m h a = absurd (omega arith)
merged_push (l ∷ ls) zero m h a =
    let both = all_join (λ x. x.number < m.number) l (merged ls) a in
    join_push l (merged ls) m both.0 both.1
merged_push (l ∷ ls) (suc i) m h a =
    let both = all_join (λ x. x.number < m.number) l (merged ls) a in
    ap (join l) (merged_push ls i m (omega arith) both.1) ∙ join_end l (merged ls) m both.0

-- ---- a message is taken out of one of them

insert_first : (x : Message) (ns : List Message) → AllByRecursion (λ n. x.number ≤ n.number) ns → insert x ns ≡ x ∷ ns
insert_first x [] a = refl
insert_first x (n ∷ ns) a = greater x n ns a.0

insert_out : (m : Message) (ns : List Message) → (j : ℕ) × (slice_get (insert m ns) j ≡ Some m) × (ns ≡ remove (insert m ns) j)
insert_out m [] = (0, refl, refl)
insert_out m (n ∷ ns) =
    by_order (λ l. (j : ℕ) × (slice_get l j ≡ Some m) × (n ∷ ns ≡ remove l j)) m n ns
    (λ h. let r = insert_out m ns in (suc r.0, r.1, ap (λ l. n ∷ l) r.2))
    (λ h. (0, refl, refl))

insert_without : (x : Message) (ns : List Message) (i : ℕ) (m : Message) → Rise ns → slice_get ns i ≡ Some m → (j : ℕ) × (slice_get (insert x ns) j ≡ Some m) × (insert x (remove ns i) ≡ remove (insert x ns) j)
insert_without x [] i m r at = absurd cc
insert_without x (y ∷ ys) zero m r at =
    by_order (λ l. (j : ℕ) × (slice_get l j ≡ Some m) × (insert x ys ≡ remove l j)) x y ys
    (λ h. (0, at, refl))
    (λ (h : x.number ≤ y.number). (1, at, insert_first x ys (weaken (λ n. y.number ≤ n.number) (λ n. x.number ≤ n.number) (λ n (le : y.number ≤ n.number). omega arith) ys r.0)))
insert_without x (y ∷ ys) (suc i) m r at =
    by_order (λ l. (j : ℕ) × (slice_get l j ≡ Some m) × (insert x (y ∷ remove ys i) ≡ remove l j)) x y ys
    (λ h. let s = insert_without x ys i m r.1 at in (suc s.0, s.1, lesser x y (remove ys i) h ∙ ap (λ l. y ∷ l) s.2))
    (λ h. (suc (suc i), at, greater x y (remove ys i) h))

join_without : (ms ns : List Message) (i : ℕ) (m : Message) → Rise ns → slice_get ns i ≡ Some m → (j : ℕ) × (slice_get (join ms ns) j ≡ Some m) × (join ms (remove ns i) ≡ remove (join ms ns) j)
join_without [] ns i m r at = (i, at, refl)
join_without (x ∷ ms) ns i m r at =
    let s = join_without ms ns i m r at in
    let t = insert_without x (join ms ns) s.0 m (rise_join ms ns r) s.1 in
    (t.0, t.1, ap (insert x) s.2 ∙ t.2)

join_remove : (ms ns : List Message) (i : ℕ) (m : Message) → Rise ns → slice_get ms i ≡ Some m → (j : ℕ) × (slice_get (join ms ns) j ≡ Some m) × (join (remove ms i) ns ≡ remove (join ms ns) j)
join_remove [] ns i m r at = absurd cc
join_remove (x ∷ ms) ns zero m r at = let s = insert_out x (join ms ns) in (s.0, s.1 ∙ at, s.2)
join_remove (x ∷ ms) ns (suc i) m r at =
    let s = join_remove ms ns i m r at in
    let t = insert_without x (join ms ns) s.0 m (rise_join ms ns r) s.1 in
    (t.0, t.1, ap (insert x) s.2 ∙ t.2)

pub merged_remove : (ls : List (List Message)) (c i : ℕ) (m : Message) → slice_get (get_or ls c []) i ≡ Some m → (j : ℕ) × (slice_get (merged ls) j ≡ Some m) × (merged (slice_set ls c (remove (get_or ls c []) i)) ≡ remove (merged ls) j)
merged_remove [] c i m at = absurd cc
merged_remove (l ∷ ls) zero i m at = join_remove l (merged ls) i m (rise_merged ls) at
merged_remove (l ∷ ls) (suc c) i m at =
    let s = merged_remove ls c i m at in
    let t = join_without l (merged ls) s.0 m (rise_merged ls) s.1 in
    (t.0, t.1, ap (join l) s.2 ∙ t.2)

-- ---- the first that passes a test

abbrev IsAbove : Message → Option Message → Type 0
IsAbove m None = Unit {0}
IsAbove m (Some a) = m.number ≤ a.number

earlier_is : (m a : Message) → m.number ≤ a.number → earlier (Some m) (Some a) ≡ Some m
earlier_is m a h = cond-false (nat_lt a.number m.number) (Some a) (Some m) (le-ltb a.number m.number h)

other_is : (m a : Message) → a.number < m.number → earlier (Some m) (Some a) ≡ Some a
other_is m a h = cond-true (nat_lt a.number m.number) (Some a) (Some m) (lt-ltb a.number m.number h)

own_is : (m : Message) (o : Option Message) → IsAbove m o → earlier (Some m) o ≡ Some m
own_is m None h = refl
own_is m (Some a) h = earlier_is m a h

absorbed : (m : Message) (o u : Option Message) → IsAbove m o → earlier (Some m) (earlier o u) ≡ earlier (Some m) u
absorbed m None u h = refl
absorbed m (Some a) None h = earlier_is m a h
absorbed m (Some a) (Some b) h =
    ⊎_elim (λ (less : b.number < a.number). ap (earlier (Some m)) (other_is a b less))
    (λ (more : a.number ≤ b.number). ap (earlier (Some m)) (earlier_is a b more) ∙ earlier_is m a h ∙ sym (earlier_is m b (omega arith)))
    (cases_lt b.number a.number)

module _ (test : Message → Bool) where
  found_above : (m : Message) (ns : List Message) → AllByRecursion (λ n. m.number ≤ n.number) ns → IsAbove m (find test ns)
  found_above m [] a = tt
  found_above m (n ∷ ns) a =
      ⊎_elim (λ (yes : test n ≡ true). subst (IsAbove m) (sym (cond-true (test n) (Some n) (find test ns) yes)) a.0)
      (λ (no : test n ≡ false). subst (IsAbove m) (sym (cond-false (test n) (Some n) (find test ns) no)) (found_above m ns a.1))
      (cases_Bool (test n))

  either : (b : Bool) (m : Message) (o : Option Message) → earlier (Some m) o ≡ o → cond b (earlier (Some m) o) o ≡ o
  either true m o same = same
  either false m o same = refl

  find_insert : (m : Message) (ns : List Message) → Rise ns → find test (insert m ns) ≡ cond (test m) (earlier (Some m) (find test ns)) (find test ns)
  find_insert m [] r = refl
  find_insert m (n ∷ ns) r =
      by_order (λ l. find test l ≡ cond (test m) (earlier (Some m) (find test (n ∷ ns))) (find test (n ∷ ns))) m n ns
      (λ (h : n.number < m.number).
      ⊎_elim
      (λ (yes : test n ≡ true).
      let here : find test (n ∷ ns) ≡ Some n = cond-true (test n) (Some n) (find test ns) yes in
      cond-true (test n) (Some n) (find test (insert m ns)) yes
      ∙ sym (ap (λ o. cond (test m) (earlier (Some m) o) o) here ∙ either (test m) m (Some n) (other_is m n h)))
      (λ (no : test n ≡ false).
      let here : find test (n ∷ ns) ≡ find test ns = cond-false (test n) (Some n) (find test ns) no in
      cond-false (test n) (Some n) (find test (insert m ns)) no ∙ find_insert m ns r.1 ∙ sym (ap (λ o. cond (test m) (earlier (Some m) o) o) here))
      (cases_Bool (test n)))
      (λ (h : m.number ≤ n.number).
      let all : AllByRecursion (λ x. m.number ≤ x.number) (n ∷ ns) = (h, weaken (λ x. n.number ≤ x.number) (λ x. m.number ≤ x.number) (λ x (le : n.number ≤ x.number). omega arith) ns r.0) in
      ap (λ (o : Option Message). cond (test m) o (find test (n ∷ ns))) (sym (own_is m (find test (n ∷ ns)) (found_above m (n ∷ ns) all))))

  pub find_join : (ms ns : List Message) → Rise ms → Rise ns → find test (join ms ns) ≡ earlier (find test ms) (find test ns)
  find_join [] ns r s = refl
  find_join (m ∷ ms) ns r s =
      let rest = find_join ms ns r.1 s in
      find_insert m (join ms ns) (rise_join ms ns s)
      ∙ ap (λ o. cond (test m) (earlier (Some m) o) o) rest
      ∙ ⊎_elim
      (λ (yes : test m ≡ true).
      cond-true (test m) (earlier (Some m) (earlier (find test ms) (find test ns))) (earlier (find test ms) (find test ns)) yes
      ∙ absorbed m (find test ms) (find test ns) (found_above m ms r.0)
      ∙ sym (ap (λ o. earlier o (find test ns)) (cond-true (test m) (Some m) (find test ms) yes)))
      (λ (no : test m ≡ false).
      cond-false (test m) (earlier (Some m) (earlier (find test ms) (find test ns))) (earlier (find test ms) (find test ns)) no
      ∙ sym (ap (λ o. earlier o (find test ns)) (cond-false (test m) (Some m) (find test ms) no)))
      (cases_Bool (test m))

-- ---- the last one

later_is : (m a : Message) → m.number ≤ a.number → later (Some m) (Some a) ≡ Some a
later_is m a h = cond-false (nat_lt a.number m.number) (Some m) (Some a) (le-ltb a.number m.number h)

mine_is : (m a : Message) → a.number < m.number → later (Some m) (Some a) ≡ Some m
mine_is m a h = cond-true (nat_lt a.number m.number) (Some m) (Some a) (lt-ltb a.number m.number h)

last_some : (P : Message → Type 0) (n : Message) (ns : List Message) → AllByRecursion P (n ∷ ns) → (a : Message) × (last_of (n ∷ ns) ≡ Some a) × P a
last_some P n [] h = (n, refl, h.0)
last_some P n (x ∷ xs) h = last_some P x xs h.1

last_behind : (m n : Message) (ns : List Message) → AllByRecursion (λ x. m.number ≤ x.number) (n ∷ ns) → later (Some m) (last_of (n ∷ ns)) ≡ last_of (n ∷ ns)
last_behind m n ns all =
    let l = last_some (λ x. m.number ≤ x.number) n ns all in
    ap (later (Some m)) l.1 ∙ later_is m l.0 l.2 ∙ sym l.1

-- a last one in front of which one more is put
last_cons : (n m : Message) (ns : List Message) → last_of (n ∷ insert m ns) ≡ last_of (insert m ns)
last_cons n m [] = refl
last_cons n m (x ∷ xs) = by_order (λ l. last_of (n ∷ l) ≡ last_of l) m x xs (λ h. refl) (λ h. refl)

last_insert : (m : Message) (ns : List Message) → Rise ns → last_of (insert m ns) ≡ later (Some m) (last_of ns)
last_insert m [] r = refl
last_insert m (n ∷ []) r = by_order (λ l. last_of l ≡ later (Some m) (Some n)) m n [] (λ h. sym (mine_is m n h)) (λ h. sym (later_is m n h))
last_insert m (n ∷ x ∷ xs) r =
    by_order (λ l. last_of l ≡ later (Some m) (last_of (x ∷ xs))) m n (x ∷ xs)
    (λ h. last_cons n m (x ∷ xs) ∙ last_insert m (x ∷ xs) r.1)
    (λ (h : m.number ≤ n.number). sym (last_behind m x xs (weaken (λ y. n.number ≤ y.number) (λ y. m.number ≤ y.number) (λ y (le : n.number ≤ y.number). omega arith) (x ∷ xs) r.0)))

later_passed : (m a : Message) (u : Option Message) → m.number ≤ a.number → later (Some m) (later (Some a) u) ≡ later (Some a) u
later_passed m a None h = later_is m a h
later_passed m a (Some b) h =
    ⊎_elim (λ (less : b.number < a.number). ap (later (Some m)) (mine_is a b less) ∙ later_is m a h ∙ sym (mine_is a b less))
    (λ (more : a.number ≤ b.number). ap (later (Some m)) (later_is a b more) ∙ later_is m b (omega arith) ∙ sym (later_is a b more))
    (cases_lt b.number a.number)

pub last_join : (ms ns : List Message) → Rise ms → Rise ns → last_of (join ms ns) ≡ later (last_of ms) (last_of ns)
last_join [] ns r s = refl
last_join (m ∷ []) ns r s = last_insert m ns s
last_join (m ∷ x ∷ xs) ns r s =
    let l = last_some (λ y. m.number ≤ y.number) x xs r.0 in
    last_insert m (join (x ∷ xs) ns) (rise_join (x ∷ xs) ns s)
    ∙ ap (later (Some m)) (last_join (x ∷ xs) ns r.1 s ∙ ap (λ o. later o (last_of ns)) l.1)
    ∙ later_passed m l.0 (last_of ns) l.2
    ∙ sym (ap (λ o. later o (last_of ns)) l.1)

-- ---- how many there are, and which

length-insert : (m : Message) (ns : List Message) → length (insert m ns) ≡ suc (length ns)
length-insert m [] = refl
length-insert m (n ∷ ns) = by_order (λ l. length l ≡ suc (suc (length ns))) m n ns (λ h. ap suc (length-insert m ns)) (λ h. refl)

pub length-join : (ms ns : List Message) → length (join ms ns) ≡ length ms + length ns
length-join [] ns = omega arith
length-join (m ∷ ms) ns = let more = length-insert m (join ms ns) in let rest = length-join ms ns in omega arith

moved_insert : (m : Message) (ns : List Message) → IsPermutation (m ∷ ns) (insert m ns)
moved_insert m [] = IsPermutation-refl (m ∷ [])
moved_insert m (n ∷ ns) =
    by_order (λ l. IsPermutation (m ∷ n ∷ ns) l) m n ns
    (λ h. IsPermutation-trans (m ∷ n ∷ ns) (n ∷ m ∷ ns) (n ∷ insert m ns) (IsPermutation-middle (m ∷ []) n ns) (IsPermutation-cons n (m ∷ ns) (insert m ns) (moved_insert m ns)))
    (λ h. IsPermutation-refl (m ∷ n ∷ ns))

pub moved_join : (ms ns : List Message) → IsPermutation (ms ++ ns) (join ms ns)
moved_join [] ns = IsPermutation-refl ns
moved_join (m ∷ ms) ns =
    IsPermutation-trans (m ∷ (ms ++ ns)) (m ∷ join ms ns) (insert m (join ms ns)) (IsPermutation-cons m (ms ++ ns) (join ms ns) (moved_join ms ns)) (moved_insert m (join ms ns))

-- ---- a list of its own that changes

pub rise_push : (ms : List Message) (m : Message) → Rise ms → AllByRecursion (λ x. x.number < m.number) ms → Rise (ms ++ m ∷ [])
rise_push [] m r a = (tt, tt)
rise_push (x ∷ xs) m r a = (at_end xs r.0, rise_push xs m r.1 a.1)
  where
    at_end : (ys : List Message) → AllByRecursion (λ y. x.number ≤ y.number) ys → AllByRecursion (λ y. x.number ≤ y.number) (ys ++ m ∷ [])
    at_end [] b = (let less = a.0 in omega arith, tt)
    at_end (y ∷ ys) b = (b.0, at_end ys b.1)

pub all_without : (P : Message → Type 0) (xs : List Message) (i : ℕ) → AllByRecursion P xs → AllByRecursion P (remove xs i)
all_without P [] zero a = tt
all_without P [] (suc i) a = tt
all_without P (y ∷ ys) zero a = a.1
all_without P (y ∷ ys) (suc i) a = (a.0, all_without P ys i a.1)

pub rise_remove : (ms : List Message) (i : ℕ) → Rise ms → Rise (remove ms i)
rise_remove [] zero r = tt
rise_remove [] (suc i) r = tt
rise_remove (x ∷ xs) zero r = r.1
rise_remove (x ∷ xs) (suc i) r = (all_without (λ y. x.number ≤ y.number) xs i r.0, rise_remove xs i r.1)
