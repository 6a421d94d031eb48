-- The constraints of an interface in bounds have a solution just where no derivable word breaks one.
use Rattle.std.proofs.Common.{◌≡◌, ℕ, zero, suc, ◌+◌, ◌^◌, ◌<◌, ◌≤◌, true, List, [], ◌∷◌, length, Option, Some, None, ◌↔◌, refl, sym, ap, ◌∙◌, subst, ⊎_elim, arith}
use Rattle.std.specs.Prelude.{nat_eq, nat_le, slice_get}
use Rattle.std.specs.List.{AllByRecursion, list_any}
use Rattle.std.proofs.lemmas.Bool.{and_parts, and_from, cases_lt, cond-false, cond_both, ne_eqb, leb-true, le-leb}
use Rattle.std.proofs.lemmas.Option.{slice_get_past}
use mathlib.Core.Path.{fun_ext}
use Rattle.pat_words_spec.specs.Words.{Word}
use Rattle.pat_words_spec.specs.Patterns.{Pat, Zero, In, InUnder, sum_of}
use Rattle.pat_words_spec.specs.Tags.{tags_below}
use Rattle.pat_words_spec.specs.Cuts.{CutOf}
use Rattle.pat_inclusion_spec.specs.Counts.{same_below, counted}
use Rattle.pat_inclusion_spec.specs.Points.{grid_fits, points_fit, points_pattern}
use Rattle.pat_inclusion_laws.proofs.PointLaws.{sum_tags}
use Rattle.pat_inclusion_spec.specs.bounds.Trees.{Bound, EmptyTree, TagTree, LeftTree, RightTree, BothTree, StarEndTree, StarMoreTree, LowerTree, Shows, derivable, bound_in, bounds_of}
use Rattle.pat_inclusion_spec.specs.bounds.Assignments.{Right, PatternRight, VarRight, Constraint, with_left, with_lefts, lower_of, RightWords, Meets, Solves, PatternsSolve}
use Rattle.pat_inclusion_spec.specs.bounds.CutSets.{IsPoint}
use Rattle.pat_inclusion_spec.specs.bounds.Symbols.{Flat, RootStands, IsFlatOf}
use Rattle.pat_inclusion_spec.specs.bounds.Layouts.{laid_all, roots_all}
use Rattle.pat_inclusion_spec.specs.bounds.Tables.{Setting, Table, IsFit, IsDone}
use Rattle.pat_inclusion_spec.specs.bounds.Numbers.{number_of, point_of, table_of, points_where}
use Rattle.pat_inclusion_spec.specs.bounds.LeastGrids.{AreLeastPoints, RightFits, RightInBounds, AreInBounds, IsUnbroken, AreUnbroken}
use Rattle.pat_inclusion_laws.proofs.TreeLaws.{shown_under, lower_derivable, derivable_lower}
use Rattle.pat_inclusion_laws.proofs.AssignmentLaws.{below_meets, solves_below, patterns_solve}
use Rattle.pat_inclusion_laws.proofs.LayoutLaws.{all_stand, goes_none, all_fit, symbols_fit}
use Rattle.pat_inclusion_laws.proofs.NumberLaws.{number_point}
use Rattle.pat_inclusion_laws.proofs.SearchLaws.{known_derivable, derivable_known}
use Rattle.pat_inclusion_laws.proofs.GridLaws.{grids_solve}
use Rattle.pat_inclusion_laws.proofs.GridPoints.{listed_fit, listed_to, listed_back}
use Rattle.pat_inclusion_laws.proofs.Ends.{done_exists}
use Rattle.pat_limits.specs.Limits.{most_points}

-- ---- a solution breaks no constraint

pub solved_unbroken : (cs : List Constraint) → ((patterns : ℕ → Pat) × PatternsSolve patterns cs) → AreUnbroken cs
solved_unbroken cs h =
    let values : ℕ → Word → Type 0 = λ k. In (h.0 k) in
    let all = patterns_solve cs h.0 h.1 in
    each values (below_meets values cs (solves_below values cs all)) cs all
  where
    one : (values : ℕ → Word → Type 0) → Meets (lower_of cs) values → (left : Pat) (right : Right) → ((w : Word) → InUnder values left w → RightWords values right w) → IsUnbroken (lower_of cs) left right
    one values meets left (PatternRight f) holds = λ w d. holds w (shown_under (lower_of cs) values meets d.0 left w d.1)
    one values meets left (VarRight j) holds = tt

    each : (values : ℕ → Word → Type 0) → Meets (lower_of cs) values → (ds : List Constraint) → Solves values ds → AllByRecursion (λ c. IsUnbroken (lower_of cs) c.left c.right) ds
    each values meets [] all = tt
    each values meets (d ∷ ds) all = (one values meets d.left d.right all.0, each values meets ds all.1)

-- ---- the lower bounds as a list

abbrev lowers : List Constraint → ℕ → ℕ → List Pat
lowers cs j zero = []
lowers cs j (suc m) = lower_of cs j ∷ lowers cs (suc j) m

lowers_length : (cs : List Constraint) (j m : ℕ) → length (lowers cs j m) ≡ m
lowers_length cs j zero = refl
lowers_length cs j (suc m) = ap suc (lowers_length cs (suc j) m)

lowers_at : (cs : List Constraint) (j m i : ℕ) → i < m → slice_get (lowers cs j m) i ≡ Some (lower_of cs (i + j))
lowers_at cs j zero i l = absurd (omega arith)
lowers_at cs j (suc m) zero l = let e : j ≡ 0 + j = omega arith in ap (λ x. Some (lower_of cs x)) e
lowers_at cs j (suc m) (suc i) l =
    lowers_at cs (suc j) m i (omega arith) ∙ (let e : i + suc j ≡ suc i + j = omega arith in ap (λ x. Some (lower_of cs x)) e)

none_left : (k m j : ℕ) (made left : Pat) (right : Right) → RightInBounds k m right → m ≤ j → made ≡ Zero → with_left j made left right ≡ Zero
none_left k m j made left (PatternRight f) b l e = e
none_left k m j made left (VarRight i) b l e = cond-false (nat_eq i j) (sum_of made left) made (ne_eqb i j (λ s. absurd (omega arith))) ∙ e

past_zero : (k n m j : ℕ) (cs : List Constraint) (made : Pat) → AreInBounds k n m cs → m ≤ j → made ≡ Zero → with_lefts j made cs ≡ Zero
past_zero k n m j [] made all l e = e
past_zero k n m j (c ∷ cs) made all l e =
    past_zero k n m j cs (with_left j made c.left c.right) all.1 l (none_left k m j made c.left c.right all.0.1 l e)

lowers_same : (k n m : ℕ) (cs : List Constraint) → AreInBounds k n m cs → bounds_of (lowers cs 0 m) ≡ (λ j. lower_of cs j)
lowers_same k n m cs all =
    fun_ext
    (λ j. ⊎_elim
    (λ l. ap bound_in (lowers_at cs 0 m j l) ∙ (let e : j + 0 ≡ j = omega arith in ap (λ x. lower_of cs x) e))
    (λ l. ap bound_in (slice_get_past (lowers cs 0 m) j (let e = lowers_length cs 0 m in omega arith)) ∙ sym (past_zero k n m j cs Zero all l refl))
    (cases_lt j m))

-- ---- tags

left_tags : (n j : ℕ) (made left : Pat) (right : Right) → tags_below n made ≡ true → tags_below n left ≡ true → tags_below n (with_left j made left right) ≡ true
left_tags n j made left (PatternRight f) a b = a
left_tags n j made left (VarRight i) a b =
    cond_both (nat_eq i j) (sum_of made left) made (λ e. tags_below n e ≡ true) (λ _. sum_tags n made left a b) (λ _. a)

lower_tags : (k n m j : ℕ) (cs : List Constraint) (made : Pat) → AreInBounds k n m cs → tags_below n made ≡ true → tags_below n (with_lefts j made cs) ≡ true
lower_tags k n m j [] made all a = a
lower_tags k n m j (c ∷ cs) made all a =
    lower_tags k n m j cs (with_left j made c.left c.right) all.1 (left_tags n j made c.left c.right a all.0.0)

lowers_tags : (k n m : ℕ) (cs : List Constraint) → AreInBounds k n m cs → (j i : ℕ) → AllByRecursion (λ e. tags_below n e ≡ true) (lowers cs j i)
lowers_tags k n m cs all j zero = tt
lowers_tags k n m cs all j (suc i) = (lower_tags k n m j cs Zero all refl, lowers_tags k n m cs all (suc j) i)

-- ---- the least points

module _ (k n m : ℕ) (cs : List Constraint) (fits : grid_fits k n ≡ true) (all : AreInBounds k n m cs) where
  abbrev system : List Pat
  system = lowers cs 0 m

  abbrev flat : Flat
  flat = record { symbols = laid_all [] system; roots = roots_all [] system }

  abbrev setting : Setting
  setting = record { bound = k; tags = n; limit = 0; flat = flat; given = λ j. [] }

  is_flat_of : IsFlatOf (λ j. lower_of cs j) flat
  is_flat_of =
      subst (λ (f : ℕ → Pat). IsFlatOf f flat) (lowers_same k n m cs all)
      (all_stand [] system (laid_all [] system) (goes_none (laid_all [] system)))

  fit : IsFit setting
  fit = record {
    bound = leb-true 1 k (and_parts (nat_le 1 k) (nat_le ((k + 1) ^ n) most_points) fits).0;
    tags = symbols_fit n (laid_all [] system) (all_fit n [] system (lowers_tags k n m cs all 0 m) tt);
    given = λ j w h. absurd h;
  }

  abbrev Result : Type 0
  Result = (points : ℕ → List (List ℕ)) × AreLeastPoints k n (lower_of cs) points

  from_table : (table : Table) → IsDone setting table → Result
  from_table table done = (λ j. at (slice_get flat.roots j), λ j. right j (slice_get flat.roots j) (is_flat_of j))
    where
      at : Option ℕ → List (List ℕ)
      at None = []
      at (Some s) = points_where k n (λ c. nat_le (table s (point_of k n c)) 1)

      right : (j : ℕ) (o : Option ℕ) → RootStands flat.symbols (lower_of cs j) o → (points_fit k n (at o) ≡ true) × ((u : Word) → IsPoint k n u → (list_any (λ p. same_below n u (counted p)) (at o) ≡ true) ↔ CutOf k (derivable (lower_of cs) j) u)
      right j None e = (
        and_from (grid_fits k n) true fits refl,
        λ u p. (
          λ f. cc,
          λ h.
              let d = derivable_lower (lower_of cs) j h.0 h.1 in
              absurd (nothing d.0 h.0 (subst (λ x. Shows (lower_of cs) d.0 x h.0) e d.1)),
        ),
      )
        where
          nothing : (b : Bound) (w : Word) → Shows (lower_of cs) b Zero w → ⊥
          nothing b w s = elim b as (λ t. Shows (lower_of cs) t Zero w → ⊥) [
            | EmptyTree ↦ λ x. x
            | TagTree ↦ λ x. x
            | LeftTree c ↦ λ x. x
            | RightTree c ↦ λ x. x
            | BothTree c d ↦ λ x. x
            | StarEndTree ↦ λ x. x
            | StarMoreTree c d ↦ λ x. x
            | LowerTree c ↦ λ x. x
          ] s
      right j (Some s) st =
          let test = λ (c : ℕ). nat_le (table s (point_of k n c)) 1 in (
            listed_fit k n test fits,
            λ u p.
                let same = number_point k n u p in (
                  λ f.
                      let l = leb-true (table s (point_of k n (number_of k n u))) 1 (listed_to k n test u p f) in
                      let h = known_derivable setting table (lower_of cs) (lower_of cs j) s is_flat_of st done u p (subst (λ (x : Word). table s x ≤ 1) same l) in
                      (h.0, lower_derivable (lower_of cs) j h.0 h.1, h.2),
                  λ h.
                      let l = derivable_known setting table (lower_of cs) (lower_of cs j) s is_flat_of st done u (h.0, derivable_lower (lower_of cs) j h.0 h.1, h.2) in
                      listed_back k n test u p (le-leb (table s (point_of k n (number_of k n u))) 1 (subst (λ (x : Word). table s x ≤ 1) (sym same) l)),
                ),
          )

  pub least_points : Result
  least_points = let d = done_exists setting fit in from_table (table_of setting d.0) d.2

-- ---- and back

fit_each : (k n m : ℕ) (all cs : List Constraint) → AreInBounds k n m cs → AllByRecursion (λ c. IsUnbroken (lower_of all) c.left c.right) cs → AllByRecursion (λ c. (tags_below n c.left ≡ true) × RightFits k (lower_of all) c.left c.right) cs
fit_each k n m all [] b u = tt
fit_each k n m all (c ∷ cs) b u = ((b.0.0, one c.left c.right b.0.1 u.0), fit_each k n m all cs b.1 u.1)
  where
    one : (left : Pat) (right : Right) → RightInBounds k m right → IsUnbroken (lower_of all) left right → RightFits k (lower_of all) left right
    one left (PatternRight f) h i = (h.0, h.1, i)
    one left (VarRight j) h i = tt

pub unbroken_solved : (k n m : ℕ) (cs : List Constraint) → grid_fits k n ≡ true → AreInBounds k n m cs → AreUnbroken cs → (patterns : ℕ → Pat) × PatternsSolve patterns cs
unbroken_solved k n m cs fits all u =
    let r = least_points k n m cs fits all in
    ((λ j. points_pattern k n (r.0 j)), grids_solve k n r.0 cs r.1 (fit_each k n m cs cs all u))
