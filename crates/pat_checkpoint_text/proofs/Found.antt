-- The interface of a mailbox, where the numbers of mailboxes ascend.
use Rattle.std.proofs.Common.{◌≡◌, ℕ, zero, suc, ◌<◌, ◌≤◌, ⊎_elim, List, [], ◌∷◌, length, map, get_or, Some, None, Ok, Err, refl, sym, ap, ◌∙◌, subst, arith}
use Rattle.std.specs.Prelude.{nat_eq, slice_get}
use Rattle.std.specs.List.Sorted.{IsBinarySearchResult}
use Rattle.std.specs.Ordering.{nat_cmp}
use Rattle.std.proofs.lemmas.Bool.{cond-true, cond-false, ne_eqb, eq-eqb, cases_lt}
use Rattle.std.proofs.lemmas.List.{length-map}
use Rattle.std.proofs.lemmas.List.Sorted.{searched}
use Rattle.pat_checkpoint_spec.specs.text.Lines.{MailboxLine}
use Rattle.pat_checkpoint_spec.specs.text.CheckpointText.{interface_in}
use Rattle.pat_checkpoint_text.specs.Gathered.{Ascends}
use Rattle.pat_checkpoint_text.proofs.Orders.{others_ascend}

passed_by : (m : MailboxLine) (ms : List MailboxLine) (b : ℕ) → (m.number ≡ b → ⊥) → interface_in (m ∷ ms) b ≡ interface_in ms b
passed_by m ms b other = cond-false (nat_eq m.number b) (Some m.interface) (interface_in ms b) (ne_eqb m.number b other)

interface_there : (ms : List MailboxLine) (b i v : ℕ) → Ascends (map (λ m. m.number) ms) → i < length (map (λ m. m.number) ms) → get_or (map (λ m. m.number) ms) i 0 ≡ b → slice_get (map (λ m. m.interface) ms) i ≡ Some v → interface_in ms b ≡ Some v
interface_there [] b i v a l e s = absurd (omega (arith, l))
interface_there (m ∷ ms) b zero v a l e s = cond-true (nat_eq m.number b) (Some m.interface) (interface_in ms b) (eq-eqb m.number b e) ∙ s
interface_there (m ∷ ms) b (suc i) v a l e s =
    let above : m.number < get_or (map (λ k. k.number) ms) i 0 = a 0 (suc i) (omega arith) l in
    passed_by m ms b (λ q. omega (arith, above, e, q))
    ∙ interface_there ms b i v (others_ascend m.number (map (λ k. k.number) ms) a) (omega (arith, l)) e s

no_interface : (ms : List MailboxLine) (b : ℕ) → ((i : ℕ) → i < length (map (λ m. m.number) ms) → get_or (map (λ m. m.number) ms) i 0 ≡ b → ⊥) → interface_in ms b ≡ None
no_interface [] b h = refl
no_interface (m ∷ ms) b h = passed_by m ms b (λ q. h zero (omega arith) q) ∙ no_interface ms b (λ i l e. h (suc i) (omega (arith, l)) e)

module _ (ms : List MailboxLine) (live : List ℕ) (b : ℕ) (numbers : map (λ m. m.number) ms ≡ live) (a : Ascends live) where
  never_falls : (i j : ℕ) → i ≤ j → j < length live → get_or live i 0 ≤ get_or live j 0
  never_falls i j le l =
      ⊎_elim (λ (s : i < j). let up = a i j s l in omega (arith, up)) (λ (o : j ≤ i). let same : i ≡ j = omega (arith, le, o) in subst (λ e. get_or live i 0 ≤ get_or live e 0) same (omega arith)) (cases_lt i j)

  -- halving finds it
  pub found : (i v : ℕ) (is : List ℕ) → IsBinarySearchResult (λ y. nat_cmp y b) live (Ok i) → map (λ m. m.interface) ms ≡ is → slice_get is i ≡ Some v → Some v ≡ interface_in ms b
  found i v is s interfaces there =
      let at = searched live b (Ok i) s never_falls in
      sym (interface_there ms b i v (subst Ascends (sym numbers) a) (subst (λ l. i < length l) (sym numbers) at.0) (subst (λ l. get_or l i 0 ≡ b) (sym numbers) at.1) (subst (λ l. slice_get l i ≡ Some v) (sym interfaces) there))

  -- each mailbox has one
  pub no_place : (i : ℕ) (is : List ℕ) → IsBinarySearchResult (λ y. nat_cmp y b) live (Ok i) → map (λ m. m.interface) ms ≡ is → length is ≤ i → None ≡ interface_in ms b
  no_place i is s interfaces beyond =
      let at = searched live b (Ok i) s never_falls in
      absurd (omega (arith, at.0, beyond, ap length numbers, ap length interfaces, length-map ms (λ m. m.number), length-map ms (λ m. m.interface)))

  -- or halving ends elsewhere
  pub not_found : (i : ℕ) → IsBinarySearchResult (λ y. nat_cmp y b) live (Err i) → None ≡ interface_in ms b
  not_found i s =
      let gap = searched live b (Err i) s never_falls in
      sym (no_interface ms b (λ k l e. nowhere gap k (subst (λ xs. k < length xs) numbers l) (subst (λ xs. get_or xs k 0 ≡ b) numbers e)))
    where
      nowhere : (i ≤ length live) × ((k : ℕ) → k < i → get_or live k 0 < b) × ((k : ℕ) → i ≤ k → k < length live → b < get_or live k 0) → (k : ℕ) → k < length live → get_or live k 0 ≡ b → ⊥
      nowhere gap k l e =
          ⊎_elim (λ (s : k < i). let below = gap.1 k s in omega (arith, below, e)) (λ (o : i ≤ k). let above = gap.2 k o l in omega (arith, above, e)) (cases_lt k i)
