-- What stands in slots, looked up by number, and after a write to one of them.
use Rattle.std.proofs.Common.{◌≡◌, ◌-◌, ℕ, zero, suc, ◌+◌, ◌<◌, ◌≤◌, nat_eq, List, [], ◌∷◌, ◌++◌, length, get_or, slice_set, Option, Some, None, refl, sym, ap, ◌∙◌, subst, eq-eqb, arith, length-append, length-set}
use Rattle.std.specs.Prelude.{option_map}
use Rattle.std.specs.List.{AllByRecursion}
use Rattle.std.specs.Map.{lookup, set_value, remove_entry, keys_of}
use Rattle.std.proofs.lemmas.Bool.{cond-true, cond-false, ne_eqb}
use Rattle.pat_semantics_spec.specs.Configs.{Thread}
use Rattle.pat_semantics_spec.specs.Orders.{AscendsFrom}
use Rattle.pat_reduce.specs.declared.threads.state.ThreadState.{ThreadState}
use Rattle.pat_reduce.specs.threads.ThreadViews.{thread_view}
use Rattle.pat_reduce.specs.Views.{threads_view}
use Rattle.pat_machine_threads.specs.table.Entries.{Threads, entries_from}
use Rattle.pat_limits.specs.Limits.{most_number, number_count}

abbrev pub Slots : Type 0
Slots = List (Option ThreadState)

-- the threads of slots, the first of which has the number n
abbrev pub threads_of : ℕ → Slots → List (ℕ × Thread)
threads_of n slots = threads_view (entries_from n slots)

-- the numbers ascend
pub ascends : (m n : ℕ) (slots : Slots) → m ≤ n → AscendsFrom m (keys_of (threads_of n slots))
ascends m n [] h = tt
ascends m n (Some s ∷ slots) h = (h, ascends (suc n) (suc n) slots (omega arith))
ascends m n (None ∷ slots) h = ascends m (suc n) slots (omega arith)

-- the numbers are below that of the next slot
pub below : (n m : ℕ) (slots : Slots) → n + length slots ≤ m → AllByRecursion (λ e. e.0 < m) (threads_of n slots)
below n m [] h = tt
below n m (Some s ∷ slots) h = (omega (arith, h), below (suc n) m slots (omega (arith, h)))
below n m (None ∷ slots) h = below (suc n) m slots (omega (arith, h))

-- no number is below that of the first slot
before : (n t : ℕ) (slots : Slots) → t < n → lookup (nat_eq t) (threads_of n slots) ≡ None
before n t [] h = refl
before n t (Some s ∷ slots) h =
    cond-false (nat_eq t n) (Some (thread_view s)) (lookup (nat_eq t) (threads_of (suc n) slots)) (ne_eqb t n (λ q. omega arith))
    ∙ before (suc n) t slots (omega arith)
before n t (None ∷ slots) h = before (suc n) t slots (omega arith)

-- the thread of a number, where the number's slot is the one at k
looked_up : (n t k : ℕ) (slots : Slots) → t ≡ n + k → lookup (nat_eq t) (threads_of n slots) ≡ option_map thread_view (get_or slots k None)
looked_up n t k [] h = refl
looked_up n t zero (Some s ∷ slots) h = cond-true (nat_eq t n) (Some (thread_view s)) (lookup (nat_eq t) (threads_of (suc n) slots)) (eq-eqb t n (omega arith))
looked_up n t zero (None ∷ slots) h = before (suc n) t slots (omega arith)
looked_up n t (suc k) (Some s ∷ slots) h =
    cond-false (nat_eq t n) (Some (thread_view s)) (lookup (nat_eq t) (threads_of (suc n) slots)) (ne_eqb t n (λ q. omega arith))
    ∙ looked_up (suc n) t k slots (omega arith)
looked_up n t (suc k) (None ∷ slots) h = looked_up (suc n) t k slots (omega arith)

-- another thread in its slot
set_at : (n t k : ℕ) (slots : Slots) (own s : ThreadState) → t ≡ n + k → get_or slots k None ≡ Some own
    → threads_of n (slice_set slots k (Some s)) ≡ set_value (nat_eq t) (threads_of n slots) (thread_view s)
set_at n t k [] own s h there = absurd (cc)
set_at n t zero (Some x ∷ slots) own s h there =
    let rest = threads_of (suc n) slots in
    sym (cond-true (nat_eq t n) ((n, thread_view s) ∷ rest) ((n, thread_view x) ∷ set_value (nat_eq t) rest (thread_view s)) (eq-eqb t n (omega arith)))
set_at n t zero (None ∷ slots) own s h there = absurd (cc)
set_at n t (suc k) (Some x ∷ slots) own s h there =
    let rest = threads_of (suc n) slots in
    ap (λ l. (n, thread_view x) ∷ l) (set_at (suc n) t k slots own s (omega arith) there)
    ∙ sym (cond-false (nat_eq t n) ((n, thread_view s) ∷ rest) ((n, thread_view x) ∷ set_value (nat_eq t) rest (thread_view s)) (ne_eqb t n (λ q. omega arith)))
set_at n t (suc k) (None ∷ slots) own s h there = set_at (suc n) t k slots own s (omega arith) there

-- nothing in its slot
removed_at : (n t k : ℕ) (slots : Slots) (own : ThreadState) → t ≡ n + k → get_or slots k None ≡ Some own
    → threads_of n (slice_set slots k None) ≡ remove_entry (nat_eq t) (threads_of n slots)
removed_at n t k [] own h there = absurd (cc)
removed_at n t zero (Some x ∷ slots) own h there =
    let rest = threads_of (suc n) slots in
    sym (cond-true (nat_eq t n) rest ((n, thread_view x) ∷ remove_entry (nat_eq t) rest) (eq-eqb t n (omega arith)))
removed_at n t zero (None ∷ slots) own h there = absurd (cc)
removed_at n t (suc k) (Some x ∷ slots) own h there =
    let rest = threads_of (suc n) slots in
    ap (λ l. (n, thread_view x) ∷ l) (removed_at (suc n) t k slots own (omega arith) there)
    ∙ sym (cond-false (nat_eq t n) rest ((n, thread_view x) ∷ remove_entry (nat_eq t) rest) (ne_eqb t n (λ q. omega arith)))
removed_at n t (suc k) (None ∷ slots) own h there = removed_at (suc n) t k slots own (omega arith) there

-- as many threads are there with another one in a slot
count_set : (n k : ℕ) (slots : Slots) (own s : ThreadState) → get_or slots k None ≡ Some own
    → length (entries_from n (slice_set slots k (Some s))) ≡ length (entries_from n slots)
count_set n k [] own s there = absurd (cc)
count_set n zero (Some x ∷ slots) own s there = refl
count_set n zero (None ∷ slots) own s there = absurd (cc)
count_set n (suc k) (Some x ∷ slots) own s there = ap (λ c. suc c) (count_set (suc n) k slots own s there)
count_set n (suc k) (None ∷ slots) own s there = count_set (suc n) k slots own s there

-- one fewer with nothing in it
count_removed : (n k : ℕ) (slots : Slots) (own : ThreadState) → get_or slots k None ≡ Some own
    → suc (length (entries_from n (slice_set slots k None))) ≡ length (entries_from n slots)
count_removed n k [] own there = absurd (cc)
count_removed n zero (Some x ∷ slots) own there = refl
count_removed n zero (None ∷ slots) own there = absurd (cc)
count_removed n (suc k) (Some x ∷ slots) own there = ap (λ c. suc c) (count_removed (suc n) k slots own there)
count_removed n (suc k) (None ∷ slots) own there = count_removed (suc n) k slots own there

-- a further slot
pub added : (n : ℕ) (slots : Slots) (s : ThreadState) → entries_from n (slots ++ Some s ∷ []) ≡ entries_from n slots ++ (n + length slots, s) ∷ []
added n [] s = ap (λ k. (k, s) ∷ []) (omega arith)
added n (Some x ∷ slots) s = ap (λ l. (n, x) ∷ l) (added (suc n) slots s ∙ ap (λ k. entries_from (suc n) slots ++ (k, s) ∷ []) (omega arith))
added n (None ∷ slots) s = added (suc n) slots s ∙ ap (λ k. entries_from (suc n) slots ++ (k, s) ∷ []) (omega arith)

-- there are no more threads than slots
pub at_most : (n : ℕ) (slots : Slots) → length (entries_from n slots) ≤ length slots
at_most n [] = omega arith
at_most n (Some x ∷ slots) = let rest = at_most (suc n) slots in omega (arith, rest)
at_most n (None ∷ slots) = let rest = at_most (suc n) slots in omega (arith, rest)

-- what holds a thread is a slot
within : (k : ℕ) (slots : Slots) (own : ThreadState) → get_or slots k None ≡ Some own → k < length slots
within k [] own there = absurd (cc)
within zero (x ∷ slots) own there = omega arith
within (suc k) (x ∷ slots) own there = let rest : k < length slots = within k slots own there in omega (arith, rest)

some_there : (o : Option ThreadState) (s : Thread) → option_map thread_view o ≡ Some s → (own : ThreadState) × (o ≡ Some own)
some_there None s h = absurd (cc)
some_there (Some own) s h = (own, refl)

-- as many threads are there as the number says, and slots have numbers of 32 bits
abbrev pub IsCounted : ℕ → Slots → Type 0
IsCounted present slots = (present ≡ length (entries_from 0 slots)) × (length slots < number_count)

-- what contracts see of slots
abbrev pub seen : Slots → ℕ → Threads
seen slots spare = record { entries = entries_from 0 slots; made = length slots; spare = spare }

-- slots that are seen as a view, and a number
module _ (slots : Slots) (spare : ℕ) (w : Threads) (t : ℕ) (is : seen slots spare ≡ w) where
  threads : threads_of 0 slots ≡ threads_view w.entries
  threads = ap (λ (q : Threads). threads_view q.entries) is

  -- the thread of the number stands in its slot
  pub found : option_map thread_view (get_or slots t None) ≡ lookup (nat_eq t) (threads_view w.entries)
  found = sym (looked_up 0 t t slots (omega arith)) ∙ ap (lookup (nat_eq t)) threads

  pub there : (s : Thread) × (lookup (nat_eq t) (threads_view w.entries) ≡ Some s) → (own : ThreadState) × (get_or slots t None ≡ Some own)
  there (s, at) = some_there (get_or slots t None) s (found ∙ at)

  pub has_slot : (s : Thread) × (lookup (nat_eq t) (threads_view w.entries) ≡ Some s) → t < length slots
  has_slot h = let (own, at) = there h in within t slots own at

  module _ (own : ThreadState) (at : get_or slots t None ≡ Some own) where
    pub stood : lookup (nat_eq t) (threads_view w.entries) ≡ Some (thread_view own)
    stood = sym found ∙ ap (option_map thread_view) at

    -- once another one stands in it
    module _ (s : ThreadState) (after : Slots) (set : after ≡ slice_set slots t (Some s)) where
      pub set_there : threads_of 0 after ≡ set_value (nat_eq t) (threads_view w.entries) (thread_view s)
      set_there = ap (threads_of 0) set ∙ set_at 0 t t slots own s (omega arith) at ∙ ap (λ l. set_value (nat_eq t) l (thread_view s)) threads

      pub counted_set : (present : ℕ) → IsCounted present slots → IsCounted present after
      counted_set present counted = (
        counted.0 ∙ sym (count_set 0 t slots own s at) ∙ ap (λ l. length (entries_from 0 l)) (sym set),
        subst (λ l. length l < number_count) (sym set) (subst (λ n. n < number_count) (sym (length-set slots t (Some s))) counted.1),
      )

      pub as_many : length after ≡ w.made
      as_many = ap (λ l. length l) set ∙ length-set slots t (Some s) ∙ ap (λ (q : Threads). q.made) is

    -- once nothing stands in it
    module _ (after : Slots) (gone : after ≡ slice_set slots t None) where
      pub removed_there : threads_of 0 after ≡ remove_entry (nat_eq t) (threads_view w.entries)
      removed_there = ap (threads_of 0) gone ∙ removed_at 0 t t slots own (omega arith) at ∙ ap (remove_entry (nat_eq t)) threads

      pub counted_removed : (present : ℕ) → IsCounted present slots → IsCounted (present - 1) after
      counted_removed present counted =
          let fewer = count_removed 0 t slots own at in
          let same : length (entries_from 0 after) ≡ length (entries_from 0 (slice_set slots t None)) = ap (λ l. length (entries_from 0 l)) gone in
          let all = counted.0 in (
            omega (arith, fewer, same, all),
            subst (λ l. length l < number_count) (sym gone) (subst (λ n. n < number_count) (sym (length-set slots t None)) counted.1),
          )

-- a further thread
module _ (slots : Slots) (spare : ℕ) (w : Threads) (is : seen slots spare ≡ w) (s : ThreadState) (after : Slots) (more : after ≡ slots ++ Some s ∷ []) where
  entries : entries_from 0 after ≡ entries_from 0 slots ++ (length slots, s) ∷ []
  entries = ap (entries_from 0) more ∙ added 0 slots s ∙ ap (λ n. entries_from 0 slots ++ (n, s) ∷ []) (omega arith)

  one_more : length after ≡ length slots + 1
  one_more = ap (λ l. length l) more ∙ length-append slots (Some s ∷ [])

  pub seen_added : seen after (spare - 1) ≡ record { entries = w.entries ++ (w.made, s) ∷ []; made = w.made + 1; spare = w.spare - 1 }
  seen_added =
      ap (λ (l : List (ℕ × ThreadState)). record { entries = l; made = length after; spare = spare - 1 }) entries
      ∙ ap (λ (n : ℕ). record { entries = entries_from 0 slots ++ (length slots, s) ∷ []; made = n; spare = spare - 1 }) one_more
      ∙ ap (λ (q : Threads). record { entries = q.entries ++ (q.made, s) ∷ []; made = q.made + 1; spare = q.spare - 1 }) is

  pub counted_added : w.made < most_number → (present : ℕ) → IsCounted present slots → IsCounted (present + 1) after
  counted_added room present counted =
      let made : length slots ≡ w.made = ap (λ (q : Threads). q.made) is in
      let all = counted.0 in
      let longer : length (entries_from 0 after) ≡ length (entries_from 0 slots) + 1 = ap (λ l. length l) entries ∙ length-append (entries_from 0 slots) ((length slots, s) ∷ []) in
      let more_slots = one_more in
      (omega (arith, all, longer), omega (arith, made, room, more_slots))
