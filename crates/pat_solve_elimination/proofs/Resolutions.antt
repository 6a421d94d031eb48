-- Values with all later ones put in: replaced by these, a pattern is what it is by turns.
use Rattle.std.proofs.Common.{◌≡◌, ℕ, zero, suc, ◌+◌, ◌<◌, ◌≤◌, Bool, true, false, if◌then◌else◌, ⊎_elim, List, [], ◌∷◌, length, drop, refl, sym, ap, ◌∙◌, subst, arith}
use Rattle.std.specs.Prelude.{nat_eq, get_or, slice_set}
use Rattle.std.specs.List.{AllByRecursion}
use Rattle.std.proofs.lemmas.List.{get_or-drop}
use Rattle.std.proofs.lemmas.Bool.{cases_Bool, and_parts, eqb-true, eqb-false}
use Rattle.pat_words_spec.specs.Patterns.{Pat, Zero, Var, subst_of}
use Rattle.pat_words_spec.specs.Sizes.{size_of, levels_of}
use Rattle.pat_inclusion_spec.specs.ClosedForms.{is_small}
use Rattle.pat_solve_spec.specs.Assignments.{Values, put_one, put_in_turn}
use Rattle.pat_solve_bounded.specs.Variables.{has_var}
use Rattle.pat_solve_bounded.specs.replacing.Ascending.{paired}
use Rattle.pat_solve_bounded.specs.replacing.Replacing.{listed_in}
use Rattle.pat_solve_elimination.specs.Rounds.{IsRebuilt, turn_fits}
use Rattle.pat_solve_elimination.specs.Needing.{is_marked, Marks, AreClosed}
use Rattle.pat_solve_elimination.specs.Weighing.{weighed, deep, weights, depths, nodes_by, levels_by}
use Rattle.pat_solve_elimination.specs.Resolving.{resolved_of, from_place, no_growth, IsResolvedAt, AreResolved, Resolves}
use Rattle.pat_solve_elimination.specs.declared.growing.Growth.{Growth}
use Rattle.pat_solve_elimination.proofs.Rebuilt.{rebuilt_one, all_at}
use Rattle.pat_solve_elimination.proofs.Fusing.{fused, alike}
use Rattle.pat_solve_elimination.proofs.AtOnce.{AllRebuilt, all_paired, stays, every}
use Rattle.pat_solve_elimination.proofs.Pairs.{all_from}
use Rattle.pat_solve_elimination.proofs.Marked.{strictly}
use Rattle.pat_solve_elimination.proofs.Weights.{weighs_more, deeper, sizes_weigh, levels_deep}
use Rattle.pat_solve_elimination.proofs.Weighed.{no_weight}
use Rattle.pat_solve_elimination.proofs.Growths.{lacks_all}

-- ---- all at once

resolved_at : (v : ℕ × Pat) (vs : Values) (j : ℕ) → put_in_turn vs v.1 ≡ subst_of (listed_in (resolved_of vs)) v.1 → subst_of (listed_in (resolved_of vs)) (if nat_eq j v.0 then v.1 else Var j) ≡ listed_in (resolved_of (v ∷ vs)) j
resolved_at v vs j same =
    ⊎_elim (λ (t : nat_eq j v.0 ≡ true). rw t (sym same)) (λ (n : nat_eq j v.0 ≡ false). rw n refl) (cases_Bool (nat_eq j v.0))

pub in_turn_resolved : (vs : Values) (f : Pat) → AllRebuilt vs → (vs ≡ [] → IsRebuilt f) → put_in_turn vs f ≡ subst_of (listed_in (resolved_of vs)) f
in_turn_resolved [] f r own = sym (own refl)
in_turn_resolved (v ∷ vs) f r own =
    let s : ℕ → Pat = listed_in (resolved_of vs) in
    let first : ℕ → Pat = λ j. if nat_eq j v.0 then v.1 else Var j in
    let value = in_turn_resolved vs v.1 r.1 (λ _. r.0) in
    in_turn_resolved vs (put_one v.0 v.1 f) r.1 (λ _. rebuilt_one v.0 v.1 f r.0)
    ∙ fused s first f
    ∙ alike (λ j. subst_of s (first j)) (listed_in (resolved_of (v ∷ vs))) f (λ j o. resolved_at v vs j value)

-- what turns end with is within the limits, where all that is made on the way is
pub ends_small : (vs : Values) (f : Pat) → (vs ≡ [] → ⊥) → turn_fits vs f ≡ true → is_small (put_in_turn vs f) ≡ true
ends_small [] f some fits = absurd (some refl)
ends_small (v ∷ []) f some fits = (and_parts (is_small (put_one v.0 v.1 f)) true fits).0
ends_small (v ∷ u ∷ vs) f some fits =
    ends_small (u ∷ vs) (put_one v.0 v.1 f) (λ none. cc) (and_parts (is_small (put_one v.0 v.1 f)) (turn_fits (u ∷ vs) (put_one v.0 v.1 f)) fits).1

-- ---- what is looked up

module _ (k : ℕ) where
  look_alike : (ks : List ℕ) (es rs : List Pat) → length es ≡ length ks → length rs ≡ length ks → ((i : ℕ) → i < length ks → get_or ks i 0 ≡ k → get_or rs i Zero ≡ put_in_turn (from_place ks es (suc i)) (get_or es i Zero)) → listed_in (paired ks rs) k ≡ listed_in (resolved_of (paired ks es)) k
  look_alike [] es rs m n h = refl
  look_alike (x ∷ ks) [] rs m n h = absurd (omega (arith, m))
  look_alike (x ∷ ks) (e ∷ es) [] m n h = absurd (omega (arith, n))
  look_alike (x ∷ ks) (e ∷ es) (r ∷ rs) m n h =
      ⊎_elim
      (λ (t : nat_eq k x ≡ true). rw t (h 0 (omega arith) (sym (eqb-true k x t))))
      (λ (o : nat_eq k x ≡ false). rw o (look_alike ks es rs (omega (arith, m)) (omega (arith, n)) (λ i b at. h (suc i) (omega (arith, b)) at)))
      (cases_Bool (nat_eq k x))

  look_nodes : (ks : List ℕ) (es : List Pat) (ws : List Growth) → length es ≡ length ks → length ws ≡ length ks → ((i : ℕ) → i < length ks → get_or ks i 0 ≡ k → weighed (weights (from_place ks es (suc i))) (get_or es i Zero) ≤ (get_or ws i no_growth).nodes) → weights (paired ks es) k ≤ nodes_by ks ws k
  look_nodes [] es ws m n h = omega arith
  look_nodes (x ∷ ks) [] ws m n h = absurd (omega (arith, m))
  look_nodes (x ∷ ks) (e ∷ es) [] m n h = absurd (omega (arith, n))
  look_nodes (x ∷ ks) (e ∷ es) (w ∷ ws) m n h =
      ⊎_elim
      (λ (t : nat_eq k x ≡ true). rw t (h 0 (omega arith) (sym (eqb-true k x t))))
      (λ (o : nat_eq k x ≡ false). rw o (look_nodes ks es ws (omega (arith, m)) (omega (arith, n)) (λ i b at. h (suc i) (omega (arith, b)) at)))
      (cases_Bool (nat_eq k x))

  look_levels : (ks : List ℕ) (es : List Pat) (ws : List Growth) → length es ≡ length ks → length ws ≡ length ks → ((i : ℕ) → i < length ks → get_or ks i 0 ≡ k → deep (depths (from_place ks es (suc i))) (get_or es i Zero) ≤ (get_or ws i no_growth).levels) → depths (paired ks es) k ≤ levels_by ks ws k
  look_levels [] es ws m n h = omega arith
  look_levels (x ∷ ks) [] ws m n h = absurd (omega (arith, m))
  look_levels (x ∷ ks) (e ∷ es) [] m n h = absurd (omega (arith, n))
  look_levels (x ∷ ks) (e ∷ es) (w ∷ ws) m n h =
      ⊎_elim
      (λ (t : nat_eq k x ≡ true). rw t (h 0 (omega arith) (sym (eqb-true k x t))))
      (λ (o : nat_eq k x ≡ false). rw o (look_levels ks es ws (omega (arith, m)) (omega (arith, n)) (λ i b at. h (suc i) (omega (arith, b)) at)))
      (cases_Bool (nat_eq k x))

-- ---- from a place on

drop_from : {A : Type 0} (xs : List A) (n i : ℕ) → drop (suc i) (drop n xs) ≡ drop (suc (n + i)) xs
drop_from xs zero i = let same : i ≡ 0 + i = omega arith in subst (λ m. drop (suc i) xs ≡ drop (suc m) xs) same refl
drop_from [] (suc n) i = refl
drop_from (x ∷ xs) (suc n) i = let same : suc (n + i) ≡ suc n + i = omega arith in subst (λ m. drop (suc i) (drop n xs) ≡ drop m xs) same (drop_from xs n i)

pub long_from : {A B : Type 0} (xs : List A) (ys : List B) (n : ℕ) → length xs ≡ length ys → length (drop n xs) ≡ length (drop n ys)
long_from xs ys zero h = h
long_from [] [] (suc n) h = refl
long_from [] (y ∷ ys) (suc n) h = absurd (omega (arith, h))
long_from (x ∷ xs) [] (suc n) h = absurd (omega (arith, h))
long_from (x ∷ xs) (y ∷ ys) (suc n) h = long_from xs ys n (omega (arith, h))

below_all : {A : Type 0} (xs : List A) (n i : ℕ) → i < length (drop n xs) → n + i < length xs
below_all xs zero i h = omega (arith, h)
below_all [] (suc n) i h = let none : i < 0 = h in absurd (omega (arith, none))
below_all (x ∷ xs) (suc n) i h = let r = below_all xs n i h in omega (arith, r)

module _ (ks : List ℕ) (es : List Pat) (marks : List Bool) (n : ℕ) (rs : List Pat) (ws : List Growth) (as_many : length es ≡ length ks) (known : AreResolved ks es marks n rs ws) (e : Pat) (marked : Marks ks n e marks) where
  at_place : (k i : ℕ) → has_var k e ≡ true → i < length (drop n ks) → get_or (drop n ks) i 0 ≡ k → IsResolvedAt ks es rs ws (n + i)
  at_place k i o b at =
      let there : n + i < length ks = below_all ks n i b in
      let own : get_or ks (n + i) 0 ≡ k = sym (get_or-drop n ks i 0) ∙ at in
      known.each (n + i) (omega arith) there (marked (n + i) (omega arith) there (subst (λ j. has_var j e ≡ true) (sym own) o))

  rest : (i : ℕ) → from_place (drop n ks) (drop n es) (suc i) ≡ from_place ks es (suc (n + i))
  rest i = rw (drop_from ks n i, drop_from es n i) refl

  pub same_values : (from_place ks es n ≡ [] → IsRebuilt e) → AllByRecursion IsRebuilt es → subst_of (listed_in (paired (drop n ks) (drop n rs))) e ≡ put_in_turn (from_place ks es n) e
  same_values own rebuilt =
      alike (listed_in (paired (drop n ks) (drop n rs))) (listed_in (resolved_of (from_place ks es n))) e
      (λ k o. look_alike k (drop n ks) (drop n es) (drop n rs) (long_from es ks n as_many) (long_from rs ks n known.values)
      (λ i b at. get_or-drop n rs i Zero ∙ (at_place k i o b at).value ∙ rw (rest i, get_or-drop n es i Zero) refl))
      ∙ sym (in_turn_resolved (from_place ks es n) e (all_paired (drop n ks) (drop n es) (all_from es n rebuilt)) own)

  pub more_nodes : weighed (weights (from_place ks es n)) e ≤ weighed (nodes_by (drop n ks) (drop n ws)) e
  more_nodes =
      weighs_more (weights (from_place ks es n)) (nodes_by (drop n ks) (drop n ws)) e
      (λ k o. look_nodes k (drop n ks) (drop n es) (drop n ws) (long_from es ks n as_many) (long_from ws ks n known.weights)
      (λ i b at. let own = (at_place k i o b at).nodes in rw (rest i, get_or-drop n es i Zero, get_or-drop n ws i no_growth) own))

  pub more_levels : deep (depths (from_place ks es n)) e ≤ deep (levels_by (drop n ks) (drop n ws)) e
  more_levels =
      deeper (depths (from_place ks es n)) (levels_by (drop n ks) (drop n ws)) e
      (λ k o. look_levels k (drop n ks) (drop n es) (drop n ws) (long_from es ks n as_many) (long_from ws ks n known.weights)
      (λ i b at. let own = (at_place k i o b at).levels in rw (rest i, get_or-drop n es i Zero, get_or-drop n ws i no_growth) own))

-- ---- one place more

pub set_length : {A : Type 0} (xs : List A) (i : ℕ) (x : A) → length (slice_set xs i x) ≡ length xs
set_length [] zero x = refl
set_length [] (suc i) x = refl
set_length (y ∷ xs) zero x = refl
set_length (y ∷ xs) (suc i) x = ap suc (set_length xs i x)

set_there : {A : Type 0} (xs : List A) (i : ℕ) (x d : A) → i < length xs → get_or (slice_set xs i x) i d ≡ x
set_there [] i x d h = absurd (omega (arith, h))
set_there (y ∷ xs) zero x d h = refl
set_there (y ∷ xs) (suc i) x d h = set_there xs i x d (omega (arith, h))

set_behind : {A : Type 0} (xs : List A) (i j : ℕ) (x d : A) → i < j → get_or (slice_set xs i x) j d ≡ get_or xs j d
set_behind [] zero j x d h = refl
set_behind [] (suc i) j x d h = refl
set_behind (y ∷ xs) i zero x d h = absurd (omega (arith, h))
set_behind (y ∷ xs) zero (suc j) x d h = refl
set_behind (y ∷ xs) (suc i) (suc j) x d h = set_behind xs i j x d (omega (arith, h))

module _ (ks : List ℕ) (es : List Pat) (marks : List Bool) (as_many : length es ≡ length ks) (rebuilt : AllByRecursion IsRebuilt es) (closed : AreClosed ks es (length ks) marks) where
  pub nothing_yet : (rs : List Pat) (ws : List Growth) → length rs ≡ length ks → length ws ≡ length ks → AreResolved ks es marks (length ks) rs ws
  nothing_yet rs ws a b = record { values = a; weights = b; each = λ i f u m. absurd (omega (arith, f, u)) }

  -- a place that isn't marked says nothing
  pub passed : (q : ℕ) (rs : List Pat) (ws : List Growth) → AreResolved ks es marks (suc q) rs ws → is_marked marks q ≡ false → AreResolved ks es marks q rs ws
  passed q rs ws known none =
      record {
        values = known.values;
        weights = known.weights;
        each = λ i f u m.
            ⊎_elim
            (λ (t : nat_eq q i ≡ true). let same : is_marked marks i ≡ false = subst (λ j. is_marked marks j ≡ false) (eqb-true q i t) none in absurd cc)
            (λ (o : nat_eq q i ≡ false). known.each i (strictly q i f (eqb-false q i o)) u m)
            (cases_Bool (nat_eq q i));
      }

  -- a marked one is resolved by those behind it
  pub settled : (q : ℕ) (rs : List Pat) (ws : List Growth) (made : Pat) (weight : Growth) → AreResolved ks es marks (suc q) rs ws → q < length ks → is_marked marks q ≡ true → Resolves (drop (suc q) ks) (drop (suc q) rs) (drop (suc q) ws) (get_or es q Zero) made weight → AreResolved ks es marks q (slice_set rs q made) (slice_set ws q weight)
  settled q rs ws made weight known h mark new =
      record {
        values = set_length rs q made ∙ known.values;
        weights = set_length ws q weight ∙ known.weights;
        each = λ i f u m.
            ⊎_elim
            (λ (t : nat_eq q i ≡ true). subst (IsResolvedAt ks es (slice_set rs q made) (slice_set ws q weight)) (eqb-true q i t) here)
            (λ (o : nat_eq q i ≡ false). behind i (strictly q i f (eqb-false q i o)) (known.each i (strictly q i f (eqb-false q i o)) u m))
            (cases_Bool (nat_eq q i));
      }
    where
      own : Marks ks (suc q) (get_or es q Zero) marks
      own = closed q h mark

      here : IsResolvedAt ks es (slice_set rs q made) (slice_set ws q weight) q
      here =
          let value = set_there rs q made Zero (subst (λ n. q < n) (sym known.values) h) in
          let w = set_there ws q weight no_growth (subst (λ n. q < n) (sym known.weights) h) in
          let e : Pat = get_or es q Zero in
          let nodes = more_nodes ks es marks (suc q) rs ws as_many known e own in
          let levels = more_levels ks es marks (suc q) rs ws as_many known e own in
          let a = new.nodes in
          let b = new.levels in
          record {
            value = value ∙ new.value ∙ same_values ks es marks (suc q) rs ws as_many known e own (λ _. all_at es q rebuilt) rebuilt;
            nodes = rw w (omega (arith, nodes, a));
            levels = rw w (omega (arith, levels, b));
          }

      behind : (i : ℕ) → suc q ≤ i → IsResolvedAt ks es rs ws i → IsResolvedAt ks es (slice_set rs q made) (slice_set ws q weight) i
      behind i f at =
          let value = set_behind rs q i made Zero (omega (arith, f)) in
          let w = set_behind ws q i weight no_growth (omega (arith, f)) in
          let a = at.nodes in
          let b = at.levels in
          record { value = value ∙ at.value; nodes = rw w a; levels = rw w b }

-- ---- where none of the variables occurs

pub nothing_put : (ks : List ℕ) (rs : List Pat) (ws : List Growth) (e : Pat) (weight : Growth) → IsRebuilt e → ((i : ℕ) → i < length ks → has_var (get_or ks i 0) e ≡ false) → weight.nodes ≡ size_of e → weight.levels ≡ levels_of e → Resolves ks rs ws e e weight
nothing_put ks rs ws e weight r none n l =
    let by = λ (k : ℕ) (o : has_var k e ≡ true). no_weight ks ws k (λ i h at. let lacks : has_var k e ≡ false = subst (λ j. has_var j e ≡ false) at (none i h) in absurd cc) in
    let nodes = weighs_more (nodes_by ks ws) (λ k. 1) e (λ k o. let w = (by k o).0 in omega (arith, w)) in
    let levels = deeper (levels_by ks ws) (λ k. 1) e (λ k o. let w = (by k o).1 in omega (arith, w)) in
    let size = sizes_weigh e in
    let deepest = levels_deep e in
    record {
      value = sym (stays (paired ks rs) (listed_in (paired ks rs)) e (every (paired ks rs)) (lacks_all ks rs e none) r);
      nodes = omega (arith, nodes, size, n);
      levels = omega (arith, levels, deepest, l);
    }
