-- The first round, variable after variable.
use Rattle.std.proofs.Common.{◌≡◌, ℕ, zero, suc, ◌<◌, ◌≤◌, true, false, ◌&&◌, List, [], ◌∷◌, ◌++◌, length, take, drop, refl, sym, ap, ◌∙◌, subst, arith}
use Rattle.std.specs.Prelude.{get_or, Err}
use Rattle.std.specs.List.{AllByRecursion}
use Rattle.pat_words_spec.specs.Patterns.{Pat, Zero}
use Rattle.pat_solve_spec.specs.Assignments.{Values, put_in_turn}
use Rattle.pat_solve_bounded.specs.replacing.Ascending.{paired}
use Rattle.pat_solve_elimination.specs.Rounds.{IsRebuilt, next_value, next_fits, first_from, first_fits}
use Rattle.pat_solve_elimination.specs.declared.error.RoundError.{RoundError}
use Rattle.pat_solve_elimination.specs.declared.error.RoundError.TheVariants.{TooLarge, NoMemory}
use Rattle.pat_solve_elimination.specs.Results.{Gives}
use Rattle.pat_solve_elimination.proofs.Rebuilt.{rebuilt_solution}
use Rattle.pat_solve_elimination.specs.assignment.Results.{GivesValues}
use Rattle.pat_solve_elimination.proofs.Pairs.{pairs_next, pairs_end, pairs_before, all_and, take_all}

module _ (ks : List ℕ) (fs : List Pat) where
  -- what the values so far and the lower bounds to come make is what all lower bounds make
  pub record Eliminated (place : ℕ) (vs : List Pat) : Type 0 where
    pub within : place ≤ length ks
    pub so_many : length vs ≡ place
    pub rebuilt : AllByRecursion IsRebuilt vs
    pub values : first_from (paired (take place ks) vs) (paired (drop place ks) (drop place fs)) ≡ first_from [] (paired ks fs)
    pub fits : first_fits (paired (take place ks) vs) (paired (drop place ks) (drop place fs)) ≡ first_fits [] (paired ks fs)

  pub begun : Eliminated 0 []
  begun = record { within = omega arith; so_many = refl; rebuilt = tt; values = refl; fits = refl }

module _ (ks : List ℕ) (fs : List Pat) (as_many : length ks ≡ length fs) where
  abbrev done_by : ℕ → List Pat → Values
  done_by place vs = paired (take place ks) vs

  next_pairs : (place : ℕ) → place < length ks → paired (drop place ks) (drop place fs) ≡ (get_or ks place 0, get_or fs place Zero) ∷ paired (drop (suc place) ks) (drop (suc place) fs)
  next_pairs place h = pairs_next ks fs place h (subst (λ n. place < n) as_many h)

  pub turned : (place : ℕ) (vs : List Pat) (v : Pat) → Eliminated ks fs place vs → place < length ks → v ≡ next_value (paired (take place ks) vs) (get_or ks place 0) (get_or fs place Zero) → next_fits (paired (take place ks) vs) (get_or ks place 0) (get_or fs place Zero) ≡ true → Eliminated ks fs (suc place) (vs ++ v ∷ [])
  turned place vs v t h is ok =
      let done : Values = done_by place vs in
      let k : ℕ = get_or ks place 0 in
      let f : Pat = get_or fs place Zero in
      let more : Values = paired (drop (suc place) ks) (drop (suc place) fs) in
      let now : paired (take (suc place) ks) (vs ++ v ∷ []) ≡ done ++ (k, next_value done k f) ∷ [] =
      pairs_before ks vs place v t.so_many h ∙ ap (λ x. done ++ (k, x) ∷ []) is in
      record {
        within = omega arith;
        so_many = longer vs v place t.so_many;
        rebuilt = all_and vs v t.rebuilt (subst IsRebuilt (sym is) (rebuilt_solution k (put_in_turn done f)));
        values = ap (λ d. first_from d more) now ∙ sym (ap (first_from done) (next_pairs place h)) ∙ t.values;
        fits =
            ap (λ d. first_fits d more) now
            ∙ sym (ap (λ b. b && first_fits (done ++ (k, next_value done k f) ∷ []) more) ok)
            ∙ sym (ap (first_fits done) (next_pairs place h))
            ∙ t.fits;
      }
    where
      longer : (xs : List Pat) (x : Pat) (n : ℕ) → length xs ≡ n → length (xs ++ x ∷ []) ≡ suc n
      longer [] x n h = omega arith
      longer (y ∷ xs) x zero h = absurd (omega arith)
      longer (y ∷ xs) x (suc n) h = let r = longer xs x n (omega arith) in omega arith

  pub turned_out : (place : ℕ) (vs : List Pat) → Eliminated ks fs place vs → place < length ks → next_fits (paired (take place ks) vs) (get_or ks place 0) (get_or fs place Zero) ≡ false → first_fits [] (paired ks fs) ≡ false
  turned_out place vs t h large =
      let done : Values = done_by place vs in
      let k : ℕ = get_or ks place 0 in
      let f : Pat = get_or fs place Zero in
      sym t.fits
      ∙ ap (first_fits done) (next_pairs place h)
      ∙ ap (λ b. b && first_fits (done ++ (k, next_value done k f) ∷ []) (paired (drop (suc place) ks) (drop (suc place) fs))) large

  pub ended : (place : ℕ) (vs : List Pat) → Eliminated ks fs place vs → length ks ≤ place → (paired ks vs ≡ first_from [] (paired ks fs)) × (length vs ≡ length ks) × (first_fits [] (paired ks fs) ≡ true)
  ended place vs t h =
      let none = pairs_end ks fs place h in
      let all : take place ks ≡ ks = take_all ks place h in (
        sym (ap (λ x. paired x vs) all) ∙ sym (ap (first_from (done_by place vs)) none) ∙ t.values,
        t.so_many ∙ same place t.within h,
        sym t.fits ∙ ap (first_fits (done_by place vs)) none,
      )
    where
      same : (p : ℕ) → p ≤ length ks → length ks ≤ p → p ≡ length ks
      same p a b = omega arith

  -- a turn gives none
  pub refused : (place : ℕ) (vs : List Pat) (e : RoundError) → Eliminated ks fs place vs → place < length ks → Gives (Err e) (next_fits (paired (take place ks) vs) (get_or ks place 0) (get_or fs place Zero)) (next_value (paired (take place ks) vs) (get_or ks place 0) (get_or fs place Zero)) → GivesValues ks (Err e) (first_fits [] (paired ks fs)) (first_from [] (paired ks fs))
  refused place vs TooLarge t h g = turned_out place vs t h g
  refused place vs NoMemory t h g = tt
