-- How large patterns get while variables give way to their values, one after another.
use Rattle.std.proofs.Common.{◌≡◌, ℕ, ◌+◌, ◌≤◌, true, false, ◌||◌, if◌then◌else◌, ⊎_elim, [], ◌∷◌, refl, sym, subst, arith}
use Rattle.std.specs.Prelude.{nat_eq, max}
use Rattle.std.proofs.lemmas.Bool.{cond_both, cases_Bool, or_left, or_right, and_from, eq-eqb, le-leb}
use Rattle.pat_words_spec.specs.Patterns.{Pat, Zero, One, Tag, Sum, Prod, Star, Var, is_zero, is_one, pat_eq, sum_of, prod_of, star_of, subst_of}
use Rattle.pat_words_spec.specs.Sizes.{size_of, levels_of}
use Rattle.pat_inclusion_spec.specs.ClosedForms.{is_small}
use Rattle.pat_solve_spec.specs.Assignments.{Values, put_one}
use Rattle.pat_solve_bounded.specs.Variables.{has_var}
use Rattle.pat_solve_elimination.specs.Rounds.{turn_fits}
use Rattle.pat_solve_elimination.specs.Weighing.{weighed, deep, weights, depths}
use Rattle.pat_limits.specs.Limits.{most_levels, most_nodes}

-- ---- each pattern weighs something

module _ (w : ℕ → ℕ) (some : (k : ℕ) → 1 ≤ w k) where
  pub weighs_size : (e : Pat) → size_of e ≤ weighed w e
  weighs_size Zero = omega arith
  weighs_size One = omega arith
  weighs_size (Tag m) = omega arith
  weighs_size (Var k) = some k
  weighs_size (Star e) = let h = weighs_size e in omega (arith, h)
  weighs_size (Sum e f) = let h = weighs_size e in let i = weighs_size f in omega (arith, h, i)
  weighs_size (Prod e f) = let h = weighs_size e in let i = weighs_size f in omega (arith, h, i)

  weighs_some : (e : Pat) → 1 ≤ weighed w e
  weighs_some Zero = omega arith
  weighs_some One = omega arith
  weighs_some (Tag m) = omega arith
  weighs_some (Var k) = some k
  weighs_some (Star e) = omega arith
  weighs_some (Sum e f) = omega arith
  weighs_some (Prod e f) = omega arith

  -- levels, by the same cases as nodes: the two measures add otherwise
  pub deep_levels : (e : Pat) → levels_of e ≤ deep w e
  deep_levels Zero = omega arith
  deep_levels One = omega arith
  deep_levels (Tag m) = omega arith
  deep_levels (Var k) = some k
  deep_levels (Star e) = let h = deep_levels e in omega (arith, h)
  deep_levels (Sum e f) = let h = deep_levels e in let i = deep_levels f in omega (arith, h, i)
  deep_levels (Prod e f) = let h = deep_levels e in let i = deep_levels f in omega (arith, h, i)

  deep_some : (e : Pat) → 1 ≤ deep w e
  deep_some Zero = omega arith
  deep_some One = omega arith
  deep_some (Tag m) = omega arith
  deep_some (Var k) = some k
  deep_some (Star e) = omega arith
  deep_some (Sum e f) = omega arith
  deep_some (Prod e f) = omega arith

pub weights_some : (vs : Values) (k : ℕ) → 1 ≤ weights vs k
weights_some [] k = omega arith
weights_some (v ∷ vs) k =
    cond_both (nat_eq k v.0) (weighed (weights vs) v.1) (weights vs k) (λ n. 1 ≤ n)
    (λ _. weighs_some (weights vs) (weights_some vs) v.1)
    (λ _. weights_some vs k)

pub depths_some : (vs : Values) (k : ℕ) → 1 ≤ depths vs k
depths_some [] k = omega arith
depths_some (v ∷ vs) k =
    cond_both (nat_eq k v.0) (deep (depths vs) v.1) (depths vs k) (λ n. 1 ≤ n)
    (λ _. deep_some (depths vs) (depths_some vs) v.1)
    (λ _. depths_some vs k)

-- ---- the simplifying forms add nothing

module _ (w : ℕ → ℕ) where
  sum_weighs : (e f : Pat) → weighed w (sum_of e f) ≤ 1 + (weighed w e + weighed w f)
  sum_weighs e f =
      let P : Pat → Type 0 = λ p. weighed w p ≤ 1 + (weighed w e + weighed w f) in
      cond_both (is_zero e) f (if is_zero f then e else if pat_eq e f then e else Sum e f) P (λ _. omega arith)
      (λ _. cond_both (is_zero f) e (if pat_eq e f then e else Sum e f) P (λ _. omega arith)
      (λ _. cond_both (pat_eq e f) e (Sum e f) P (λ _. omega arith) (λ _. omega arith)))

  prod_weighs : (e f : Pat) → weighed w (prod_of e f) ≤ 1 + (weighed w e + weighed w f)
  prod_weighs e f =
      let P : Pat → Type 0 = λ p. weighed w p ≤ 1 + (weighed w e + weighed w f) in
      cond_both (is_zero e || is_zero f) Zero (if is_one e then f else if is_one f then e else Prod e f) P (λ _. omega arith)
      (λ _. cond_both (is_one e) f (if is_one f then e else Prod e f) P (λ _. omega arith)
      (λ _. cond_both (is_one f) e (Prod e f) P (λ _. omega arith) (λ _. omega arith)))

  star_weighs : (e : Pat) → weighed w (star_of e) ≤ 1 + weighed w e
  star_weighs e = cond_both (is_zero e || is_one e) One (Star e) (λ p. weighed w p ≤ 1 + weighed w e) (λ _. omega arith) (λ _. omega arith)

  sum_deep : (e f : Pat) (m : ℕ) → deep w e ≤ m → deep w f ≤ m → deep w (sum_of e f) ≤ 1 + m
  sum_deep e f m a b =
      let P : Pat → Type 0 = λ p. deep w p ≤ 1 + m in
      cond_both (is_zero e) f (if is_zero f then e else if pat_eq e f then e else Sum e f) P (λ _. omega arith)
      (λ _. cond_both (is_zero f) e (if pat_eq e f then e else Sum e f) P (λ _. omega arith)
      (λ _. cond_both (pat_eq e f) e (Sum e f) P (λ _. omega arith) (λ _. omega arith)))

  prod_deep : (e f : Pat) (m : ℕ) → deep w e ≤ m → deep w f ≤ m → deep w (prod_of e f) ≤ 1 + m
  prod_deep e f m a b =
      let P : Pat → Type 0 = λ p. deep w p ≤ 1 + m in
      cond_both (is_zero e || is_zero f) Zero (if is_one e then f else if is_one f then e else Prod e f) P (λ _. omega arith)
      (λ _. cond_both (is_one e) f (if is_one f then e else Prod e f) P (λ _. omega arith)
      (λ _. cond_both (is_one f) e (Prod e f) P (λ _. omega arith) (λ _. omega arith)))

  star_deep : (e : Pat) → deep w (star_of e) ≤ 1 + deep w e
  star_deep e = cond_both (is_zero e || is_one e) One (Star e) (λ p. deep w p ≤ 1 + deep w e) (λ _. omega arith) (λ _. omega arith)

  put_weighs : (s : ℕ → Pat) (e : Pat) → weighed w (subst_of s e) ≤ weighed (λ k. weighed w (s k)) e
  put_weighs s Zero = omega arith
  put_weighs s One = omega arith
  put_weighs s (Tag m) = omega arith
  put_weighs s (Var k) = omega arith
  put_weighs s (Star e) = let h = star_weighs (subst_of s e) in let i = put_weighs s e in omega (arith, h, i)
  put_weighs s (Sum e f) =
      let h = sum_weighs (subst_of s e) (subst_of s f) in let i = put_weighs s e in let j = put_weighs s f in omega (arith, h, i, j)
  put_weighs s (Prod e f) =
      let h = prod_weighs (subst_of s e) (subst_of s f) in let i = put_weighs s e in let j = put_weighs s f in omega (arith, h, i, j)

  put_deep : (s : ℕ → Pat) (e : Pat) → deep w (subst_of s e) ≤ deep (λ k. deep w (s k)) e
  put_deep s Zero = omega arith
  put_deep s One = omega arith
  put_deep s (Tag m) = omega arith
  put_deep s (Var k) = omega arith
  put_deep s (Star e) = let h = star_deep (subst_of s e) in let i = put_deep s e in omega (arith, h, i)
  put_deep s (Sum e f) =
      let d : ℕ → ℕ = λ k. deep w (s k) in
      let i = put_deep s e in
      let j = put_deep s f in
      sum_deep (subst_of s e) (subst_of s f) (max (deep d e) (deep d f)) (omega (arith, i)) (omega (arith, j))
  put_deep s (Prod e f) =
      let d : ℕ → ℕ = λ k. deep w (s k) in
      let i = put_deep s e in
      let j = put_deep s f in
      prod_deep (subst_of s e) (subst_of s f) (max (deep d e) (deep d f)) (omega (arith, i)) (omega (arith, j))

-- ---- what counts for more weighs more

module _ (w v : ℕ → ℕ) where
  pub weighs_more : (e : Pat) → ((k : ℕ) → has_var k e ≡ true → w k ≤ v k) → weighed w e ≤ weighed v e
  weighs_more Zero h = omega arith
  weighs_more One h = omega arith
  weighs_more (Tag m) h = omega arith
  weighs_more (Var k) h = h k (eq-eqb k k refl)
  weighs_more (Star e) h = let i = weighs_more e h in omega (arith, i)
  weighs_more (Sum e f) h =
      let i = weighs_more e (λ k o. h k (or_left (has_var k e) (has_var k f) o)) in
      let j = weighs_more f (λ k o. h k (or_right (has_var k e) (has_var k f) o)) in
      omega (arith, i, j)
  weighs_more (Prod e f) h =
      let i = weighs_more e (λ k o. h k (or_left (has_var k e) (has_var k f) o)) in
      let j = weighs_more f (λ k o. h k (or_right (has_var k e) (has_var k f) o)) in
      omega (arith, i, j)

  pub deeper : (e : Pat) → ((k : ℕ) → has_var k e ≡ true → w k ≤ v k) → deep w e ≤ deep v e
  deeper Zero h = omega arith
  deeper One h = omega arith
  deeper (Tag m) h = omega arith
  deeper (Var k) h = h k (eq-eqb k k refl)
  deeper (Star e) h = let i = deeper e h in omega (arith, i)
  deeper (Sum e f) h =
      let i = deeper e (λ k o. h k (or_left (has_var k e) (has_var k f) o)) in
      let j = deeper f (λ k o. h k (or_right (has_var k e) (has_var k f) o)) in
      omega (arith, i, j)
  deeper (Prod e f) h =
      let i = deeper e (λ k o. h k (or_left (has_var k e) (has_var k f) o)) in
      let j = deeper f (λ k o. h k (or_right (has_var k e) (has_var k f) o)) in
      omega (arith, i, j)

-- where each variable counts for at most so many levels
pub no_deeper : (d : ℕ → ℕ) (m : ℕ) (e : Pat) → 1 ≤ m → ((k : ℕ) → has_var k e ≡ true → d k ≤ m) → deep d e + 1 ≤ levels_of e + m
no_deeper d m Zero s h = omega (arith, s)
no_deeper d m One s h = omega (arith, s)
no_deeper d m (Tag k) s h = omega (arith, s)
no_deeper d m (Var k) s h = let i = h k (eq-eqb k k refl) in omega (arith, i)
no_deeper d m (Star e) s h = let i = no_deeper d m e s h in omega (arith, i)
no_deeper d m (Sum e f) s h =
    let i = no_deeper d m e s (λ k o. h k (or_left (has_var k e) (has_var k f) o)) in
    let j = no_deeper d m f s (λ k o. h k (or_right (has_var k e) (has_var k f) o)) in
    omega (arith, i, j)
no_deeper d m (Prod e f) s h =
    let i = no_deeper d m e s (λ k o. h k (or_left (has_var k e) (has_var k f) o)) in
    let j = no_deeper d m f s (λ k o. h k (or_right (has_var k e) (has_var k f) o)) in
    omega (arith, i, j)

-- ---- one variable, and then others

module _ (v : ℕ × Pat) (vs : Values) (f : Pat) where
  abbrev first : ℕ → Pat
  first j = if nat_eq j v.0 then v.1 else Var j

  same_nodes : (k : ℕ) → weighed (weights vs) (first k) ≡ weights (v ∷ vs) k
  same_nodes k =
      ⊎_elim (λ (t : nat_eq k v.0 ≡ true). rw t refl) (λ (n : nat_eq k v.0 ≡ false). rw n refl) (cases_Bool (nat_eq k v.0))

  same_levels : (k : ℕ) → deep (depths vs) (first k) ≡ depths (v ∷ vs) k
  same_levels k =
      ⊎_elim (λ (t : nat_eq k v.0 ≡ true). rw t refl) (λ (n : nat_eq k v.0 ≡ false). rw n refl) (cases_Bool (nat_eq k v.0))

  one_weighs : weighed (weights vs) (put_one v.0 v.1 f) ≤ weighed (weights (v ∷ vs)) f
  one_weighs =
      let put = put_weighs (weights vs) first f in
      let more = weighs_more (λ k. weighed (weights vs) (first k)) (weights (v ∷ vs)) f (λ k o. subst (λ n. n ≤ weights (v ∷ vs) k) (sym (same_nodes k)) (omega arith)) in
      omega (arith, put, more)

  one_deep : deep (depths vs) (put_one v.0 v.1 f) ≤ deep (depths (v ∷ vs)) f
  one_deep =
      let put = put_deep (depths vs) first f in
      let more = deeper (λ k. deep (depths vs) (first k)) (depths (v ∷ vs)) f (λ k o. subst (λ n. n ≤ depths (v ∷ vs) k) (sym (same_levels k)) (omega arith)) in
      omega (arith, put, more)

-- where all weigh little enough together, each replacement on the way is within the limits
pub turns_within : (vs : Values) (f : Pat) → weighed (weights vs) f ≤ most_nodes → deep (depths vs) f ≤ most_levels → turn_fits vs f ≡ true
turns_within [] f n l = refl
turns_within (v ∷ vs) f n l =
    let made : Pat = put_one v.0 v.1 f in
    let a = one_weighs v vs f in
    let b = one_deep v vs f in
    let size = weighs_size (weights vs) (weights_some vs) made in
    let levels = deep_levels (depths vs) (depths_some vs) made in
    and_from (is_small made) (turn_fits vs made)
    (and_from _ _ (le-leb (size_of made) most_nodes (omega (arith, a, size, n))) (le-leb (levels_of made) most_levels (omega (arith, b, levels, l))))
    (turns_within vs made (omega (arith, a, n)) (omega (arith, b, l)))

-- ---- where each variable counts for one

pub sizes_weigh : (e : Pat) → weighed (λ k. 1) e ≤ size_of e
sizes_weigh Zero = omega arith
sizes_weigh One = omega arith
sizes_weigh (Tag m) = omega arith
sizes_weigh (Var k) = omega arith
sizes_weigh (Star e) = let h = sizes_weigh e in omega (arith, h)
sizes_weigh (Sum e f) = let h = sizes_weigh e in let i = sizes_weigh f in omega (arith, h, i)
sizes_weigh (Prod e f) = let h = sizes_weigh e in let i = sizes_weigh f in omega (arith, h, i)

pub levels_deep : (e : Pat) → deep (λ k. 1) e ≤ levels_of e
levels_deep Zero = omega arith
levels_deep One = omega arith
levels_deep (Tag m) = omega arith
levels_deep (Var k) = omega arith
levels_deep (Star e) = let h = levels_deep e in omega (arith, h)
levels_deep (Sum e f) = let h = levels_deep e in let i = levels_deep f in omega (arith, h, i)
levels_deep (Prod e f) = let h = levels_deep e in let i = levels_deep f in omega (arith, h, i)
