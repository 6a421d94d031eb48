-- What a pattern weighs by given weights, part after part.
use Rattle.std.proofs.Common.{◌≡◌, ℕ, zero, suc, ◌+◌, ◌<◌, ◌≤◌, ◌⊎◌, Bool, true, false, ◌||◌, ⊎_elim, inl, inr, List, [], ◌∷◌, length, Some, refl, sym, ap, ◌∙◌, arith}
use Rattle.std.specs.Prelude.{◌≢◌, nat_eq, get_or, slice_get}
use Rattle.std.proofs.lemmas.Bool.{cases_Bool, eqb-true, eq-eqb, ne_eqb}
use Rattle.pat_words_spec.specs.Patterns.{Pat}
use Rattle.pat_words_spec.specs.Sizes.{levels_of}
use Rattle.pat_solve_bounded.specs.Variables.{has_var, any_has}
use Rattle.pat_solve_bounded.specs.replacing.Ascending.{IsAscending}
use Rattle.pat_solve_elimination.specs.Weighing.{weighed, all_weighed, deep, nodes_by, levels_by}
use Rattle.pat_solve_elimination.specs.declared.growing.Growth.{Growth}
use Rattle.pat_solve_elimination.proofs.Pairs.{drop_ascends}
use Rattle.pat_solve_elimination.proofs.Weights.{no_deeper}
use Rattle.pat_limits.specs.Limits.{most_nodes}

-- ---- the weight at a place

larger : (a b : ℕ) → b < a → nat_eq a b ≡ false
larger a b h = ne_eqb a b (λ e. omega (arith, h, e))

pub weight_there : (ks : List ℕ) (ws : List Growth) (i : ℕ) (w : Growth) → IsAscending ks → i < length ks → slice_get ws i ≡ Some w → (nodes_by ks ws (get_or ks i 0) ≡ w.nodes) × (levels_by ks ws (get_or ks i 0) ≡ w.levels)
weight_there [] ws i w up h at = absurd (omega (arith, h))
weight_there (k ∷ ks) [] zero w up h at = absurd cc
weight_there (k ∷ ks) [] (suc i) w up h at = absurd cc
weight_there (k ∷ ks) (x ∷ ws) zero w up h at =
    let same : x ≡ w = cc in
    rw (eq-eqb k k refl) (ap (λ y. y.nodes) same, ap (λ y. y.levels) same)
weight_there (k ∷ ks) (x ∷ ws) (suc i) w up h at =
    let below = up 0 (suc i) (omega arith) h in
    rw (larger (get_or ks i 0) k below) (weight_there ks ws i w (drop_ascends (k ∷ ks) 1 up) (omega (arith, h)) at)

pub no_weight : (ks : List ℕ) (ws : List Growth) (k : ℕ) → ((i : ℕ) → i < length ks → get_or ks i 0 ≢ k) → (nodes_by ks ws k ≡ 1) × (levels_by ks ws k ≡ 1)
no_weight [] ws k h = (refl, refl)
no_weight (x ∷ ks) [] k h = (refl, refl)
no_weight (x ∷ ks) (w ∷ ws) k h =
    ⊎_elim
    (λ (t : nat_eq k x ≡ true). absurd (h 0 (omega arith) (sym (eqb-true k x t))))
    (λ (n : nat_eq k x ≡ false). rw n (no_weight ks ws k (λ i b. h (suc i) (omega (arith, b)))))
    (cases_Bool (nat_eq k x))

-- ---- what has been looked at, and what waits, is the whole pattern

abbrev pub SoWeighs : (ℕ → ℕ) → (ℕ → ℕ) → Pat → Growth → List Pat → Type 0
SoWeighs n d f growth es =
    (growth.nodes + all_weighed n es ≡ weighed n f)
    × (growth.nodes ≤ most_nodes)
    × (1 ≤ growth.levels)
    × ((k : ℕ) → (d k ≤ growth.levels) ⊎ (has_var k f ≡ any_has k es))

pub begun : (n d : ℕ → ℕ) (f : Pat) (growth : Growth) → growth.nodes ≡ 0 → growth.levels ≡ 1 → SoWeighs n d f growth (f ∷ [])
begun n d f growth none_yet one = (omega (arith, none_yet), omega (arith, none_yet), omega (arith, one), λ k. inr (none (has_var k f)))
  where
    none : (b : Bool) → b ≡ (b || false)
    none true = refl
    none false = refl

pub weighed_on : (n d : ℕ → ℕ) (f : Pat) (before after : Growth) (es fs : List Pat) → SoWeighs n d f before es → after.nodes + all_weighed n fs ≡ before.nodes + all_weighed n es → after.nodes ≤ most_nodes → before.levels ≤ after.levels → ((k : ℕ) → (d k ≤ after.levels) ⊎ (any_has k fs ≡ any_has k es)) → SoWeighs n d f after fs
weighed_on n d f before after es fs so same few levels settled =
    let some = so.2 in (
      same ∙ so.0,
      few,
      omega (arith, some, levels),
      λ k.
          ⊎_elim
          (λ (a : d k ≤ before.levels). inl (omega (arith, a, levels)))
          (λ (b : has_var k f ≡ any_has k es).
          ⊎_elim (λ (c : d k ≤ after.levels). inl c) (λ (e : any_has k fs ≡ any_has k es). inr (b ∙ sym e)) (settled k))
          (so.3 k),
    )

-- nothing waits: with the levels of the pattern above what comes in
pub weighed_whole : (n d : ℕ → ℕ) (f : Pat) (growth whole : Growth) → SoWeighs n d f growth [] → whole.nodes ≡ growth.nodes → growth.levels + levels_of f ≤ whole.levels + 1 → (weighed n f ≤ whole.nodes) × (deep d f ≤ whole.levels)
weighed_whole n d f growth whole so nodes levels =
    let all = so.0 in
    let most = no_deeper d growth.levels f so.2 (λ k o. ⊎_elim (λ (a : d k ≤ growth.levels). a) (λ (b : has_var k f ≡ false). absurd cc) (so.3 k)) in
    (omega (arith, all, nodes), omega (arith, most, levels))
