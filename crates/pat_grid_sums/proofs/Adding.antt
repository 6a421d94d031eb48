-- Words put in at the sums of their points with a point, block by block.
use Rattle.std.proofs.Common.{◌≡◌, ℕ, ◌+◌, ◌-◌, ◌*◌, ◌/◌, ◌%◌, ◌<◌, ◌≤◌, inl, inr, ⊎_elim, List, length, get_or, sym, ap, ap₂, ◌∙◌, subst, arith, mul-le-mul_right, pow-add}
use Rattle.std.proofs.lemmas.Bool.{cases_lt}
use Rattle.std.proofs.lemmas.Nat.{div-mul-add, mod-mul-add}
use Rattle.std.proofs.Math.Nat.{add-mul}
use Rattle.pat_inclusion_spec.specs.bounds.Numbers.{points_in}
use Rattle.pat_grid_points.specs.Views.{summed}
use Rattle.pat_grid_points.proofs.Digits.{summed_below}
use Rattle.pat_grid_sums.specs.Sets.{Puts, AnyBefore, IsJoined}
use Rattle.pat_grid_sums.specs.Shapes.{IsRow, IsAtSum}
use Rattle.pat_grid_sums.proofs.Splitting.{summed_split}

-- so many more at once
puts_block : (P Q : ℕ → ℕ → ℕ → Type 0) (m count all : ℕ) (x y z : List ℕ) → m + count ≡ all → ((p h q : ℕ) → p < count → Q p h q → P (m + p) h q) → ((p h q : ℕ) → p < count → P (m + p) h q → Q p h q) → Puts (AnyBefore P m) x y → Puts (AnyBefore Q count) y z → Puts (AnyBefore P all) x z
puts_block P Q m count all x y z end to from before here = record {
  as_long = here.as_long ∙ before.as_long;
  kept = λ h q i. here.kept h q (before.kept h q i);
  put = λ h q t. ⊎_elim
      (λ (l : t.0 < m). here.kept h q (before.put h q (t.0, l, t.2)))
      (λ (l : m ≤ t.0).
      let below = t.1 in
      let p = t.0 - m in
      let e : t.0 ≡ m + p = omega arith in
      let few : p < count = omega arith in
      here.put h q (p, few, from p h q few (subst (λ i. P i h q) e t.2)))
      (cases_lt t.0 m);
  only = λ h q i. ⊎_elim
      (λ old. ⊎_elim (λ o. inl o) (λ t. let l = t.1 in inr (t.0, omega arith, t.2)) (before.only h q old))
      (λ t. let l = t.1 in inr (m + t.0, omega arith, to t.0 h q t.1 t.2))
      (here.only h q i);
}

-- the rows of the first and of the last tags
module _ (k n last v width : ℕ) (firsts lasts : List ℕ) (half : last ≤ n) (points : width ≡ points_in k last) (first : IsRow k (n - last) (v / width) firsts) (second : IsRow k last (v % width) lasts) where
  sum_at : (block p : ℕ) → block < length firsts → p < length lasts → get_or firsts block 0 * width + get_or lasts p 0 ≡ summed k n v (block * width + p)
  sum_at block p l m =
      let w = block * width + p in
      let many = first.0 in
      let few = second.0 in
      let small : p < width = omega arith in
      let whole : n - last + last ≡ n = omega arith in
      ap₂ (λ i j. i * width + j)
      (first.1 block (omega arith) ∙ ap (summed k (n - last) (v / width)) (sym (div-mul-add block width p small)))
      (second.1 p (omega arith) ∙ ap (summed k last (v % width)) (sym (mod-mul-add block width p small)))
      ∙ ap (λ i. summed k (n - last) (v / i) (w / i) * i + summed k last (v % i) (w % i)) points
      ∙ summed_split k (n - last) last v w
      ∙ ap (λ i. summed k i v w) whole

  all_blocks : length firsts * width ≡ points_in k n
  all_blocks =
      ap₂ (λ i j. i * j) first.0 points ∙ sym (pow-add (k + 1) (n - last) last) ∙ ap (points_in k) (let e : n - last + last ≡ n = omega arith in e)

  pub block_ends : (block : ℕ) → block < length firsts → block * width + length lasts ≤ points_in k n
  block_ends block l =
      let few = second.0 in
      let all = all_blocks in
      let more = add-mul block 1 width in
      let grown : (block + 1) * width ≤ length firsts * width = mul-le-mul_right width (omega arith) in
      omega arith

  pub base_fits : (block : ℕ) → block < length firsts → get_or firsts block 0 * width ≤ points_in k n
  base_fits block l =
      let all = all_blocks in
      let many = first.0 in
      let is = first.1 block (omega arith) in
      let below = summed_below k (n - last) (v / width) block in
      let grown : get_or firsts block 0 * width ≤ length firsts * width = mul-le-mul_right width (omega arith) in
      omega arith

  pub sum_within : (block p : ℕ) → block < length firsts → p < length lasts → get_or firsts block 0 * width + get_or lasts p 0 < points_in k n
  sum_within block p l m =
      let is = sum_at block p l m in
      let below = summed_below k n v (block * width + p) in
      omega arith

  -- one block more
  pub block_added : (words x y z : List ℕ) (block : ℕ) → block < length firsts → Puts (AnyBefore (IsAtSum k n v words) (block * width)) x y → Puts (AnyBefore (IsJoined words (block * width) (get_or firsts block 0 * width) lasts) (length lasts)) y z → Puts (AnyBefore (IsAtSum k n v words) ((block + 1) * width)) x z
  block_added words x y z block l before here =
      let few = second.0 in
      let more = add-mul block 1 width in
      puts_block (IsAtSum k n v words) (IsJoined words (block * width) (get_or firsts block 0 * width) lasts) (block * width) (length lasts) ((block + 1) * width) x y z (omega arith)
      (λ p h q m t. (t.0 ∙ sum_at block p l m, t.1))
      (λ p h q m t. (t.0 ∙ sym (sum_at block p l m), t.1))
      before here

  pub all_added : (words x y : List ℕ) (block : ℕ) → block ≡ length firsts → Puts (AnyBefore (IsAtSum k n v words) (block * width)) x y → Puts (AnyBefore (IsAtSum k n v words) (points_in k n)) x y
  all_added words x y block end h =
      subst (λ m. Puts (AnyBefore (IsAtSum k n v words) m) x y) (ap (λ i. i * width) end ∙ all_blocks) h
