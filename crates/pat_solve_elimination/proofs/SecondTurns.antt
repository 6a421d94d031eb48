-- The second round, from the last variable on.
use Rattle.std.proofs.Common.{◌≡◌, ℕ, zero, suc, ◌<◌, ◌≤◌, Bool, true, false, ◌&&◌, List, [], ◌∷◌, length, drop, refl, sym, ap, ◌∙◌, subst, arith}
use Rattle.std.specs.Prelude.{get_or, slice_set, Err}
use Rattle.std.specs.List.{AllByRecursion}
use Rattle.pat_words_spec.specs.Patterns.{Pat, Zero}
use Rattle.pat_solve_spec.specs.Assignments.{Values, put_in_turn, second_round}
use Rattle.pat_solve_bounded.specs.replacing.Ascending.{paired}
use Rattle.pat_solve_elimination.specs.Rounds.{IsRebuilt, turn_fits, second_fits}
use Rattle.pat_solve_elimination.specs.declared.error.RoundError.{RoundError}
use Rattle.pat_solve_elimination.specs.declared.error.RoundError.TheVariants.{TooLarge, NoMemory}
use Rattle.pat_solve_elimination.specs.Results.{Gives}
use Rattle.pat_solve_elimination.specs.assignment.Results.{GivesValues}
use Rattle.pat_solve_elimination.proofs.Pairs.{pairs_next, pairs_end, all_put, all_from, rebuilt_turn}

module _ (ks : List ℕ) (old : List Pat) where
  -- from the place on the values have been put in, before it they stand as they were
  pub record PutBack (place : ℕ) (vs : List Pat) : Type 0 where
    pub within : place ≤ length old
    pub so_many : length vs ≡ length old
    pub front : (i : ℕ) → i < place → get_or vs i Zero ≡ get_or old i Zero
    pub rebuilt : AllByRecursion IsRebuilt vs
    pub values : paired (drop place ks) (drop place vs) ≡ second_round (paired (drop place ks) (drop place old))
    pub fits : second_fits (paired (drop place ks) (drop place old)) ≡ true

module _ (ks : List ℕ) (old : List Pat) (as_many : length old ≡ length ks) (rebuilt_old : AllByRecursion IsRebuilt old) where
  pub begun : PutBack ks old (length old) old
  begun =
      let none = pairs_end ks old (length old) (subst (λ n. n ≤ length old) as_many (omega arith)) in
      record {
        within = omega arith;
        so_many = refl;
        front = λ i h. refl;
        rebuilt = rebuilt_old;
        values = none ∙ sym (ap second_round none);
        fits = ap second_fits none;
      }

  old_pairs : (place : ℕ) → place < length old → paired (drop place ks) (drop place old) ≡ (get_or ks place 0, get_or old place Zero) ∷ paired (drop (suc place) ks) (drop (suc place) old)
  old_pairs place h = pairs_next ks old place (subst (λ n. place < n) as_many h) h

  abbrev later : ℕ → List Pat → Values
  later place vs = paired (drop (suc place) ks) (drop (suc place) vs)

  set_length : (vs : List Pat) (i : ℕ) (v : Pat) → length (slice_set vs i v) ≡ length vs
  set_length [] zero v = refl
  set_length [] (suc i) v = refl
  set_length (w ∷ vs) zero v = refl
  set_length (w ∷ vs) (suc i) v = ap suc (set_length vs i v)

  set_there : (vs : List Pat) (i : ℕ) (v : Pat) → i < length vs → get_or (slice_set vs i v) i Zero ≡ v
  set_there [] i v h = absurd (omega arith)
  set_there (w ∷ vs) zero v h = refl
  set_there (w ∷ vs) (suc i) v h = set_there vs i v (omega arith)

  set_before : (vs : List Pat) (i j : ℕ) (v : Pat) → j < i → get_or (slice_set vs i v) j Zero ≡ get_or vs j Zero
  set_before [] zero j v h = refl
  set_before [] (suc i) j v h = refl
  set_before (w ∷ vs) zero j v h = absurd (omega arith)
  set_before (w ∷ vs) (suc i) zero v h = refl
  set_before (w ∷ vs) (suc i) (suc j) v h = set_before vs i j v (omega arith)

  set_behind : (vs : List Pat) (i : ℕ) (v : Pat) → drop (suc i) (slice_set vs i v) ≡ drop (suc i) vs
  set_behind [] zero v = refl
  set_behind [] (suc i) v = refl
  set_behind (w ∷ vs) zero v = refl
  set_behind (w ∷ vs) (suc i) v = set_behind vs i v

  pub turned : (place : ℕ) (vs : List Pat) (v : Pat) → PutBack ks old (suc place) vs → place < length old → v ≡ put_in_turn (later place vs) (get_or vs place Zero) → turn_fits (later place vs) (get_or vs place Zero) ≡ true → PutBack ks old place (slice_set vs place v)
  turned place vs v t h is ok =
      let own : get_or vs place Zero ≡ get_or old place Zero = t.front place (omega arith) in
      let there : place < length (slice_set vs place v) = subst (λ n. place < n) (sym (set_length vs place v ∙ t.so_many)) h in
      let in_vs : place < length vs = subst (λ n. place < n) (sym t.so_many) h in
      let new : v ≡ put_in_turn (second_round (later place old)) (get_or old place Zero) =
      is ∙ ap (λ f. put_in_turn (later place vs) f) own ∙ ap (λ us. put_in_turn us (get_or old place Zero)) t.values in
      record {
        within = omega arith;
        so_many = set_length vs place v ∙ t.so_many;
        front = λ i b. set_before vs place i v b ∙ t.front i (omega arith);
        rebuilt = all_put vs place v t.rebuilt (subst IsRebuilt (sym is) (rebuilt_turn (drop (suc place) ks) (drop (suc place) vs) (get_or vs place Zero) (all_from vs (suc place) t.rebuilt) (at vs place t.rebuilt)));
        values =
            pairs_next ks (slice_set vs place v) place (subst (λ n. place < n) as_many h) there
            ∙ ap (λ x. (get_or ks place 0, x) ∷ paired (drop (suc place) ks) (drop (suc place) (slice_set vs place v))) (set_there vs place v in_vs ∙ new)
            ∙ ap (λ r. (get_or ks place 0, put_in_turn (second_round (later place old)) (get_or old place Zero)) ∷ paired (drop (suc place) ks) r) (set_behind vs place v)
            ∙ ap (λ r. (get_or ks place 0, put_in_turn (second_round (later place old)) (get_or old place Zero)) ∷ r) t.values
            ∙ sym (ap second_round (old_pairs place h));
        fits =
            ap second_fits (old_pairs place h)
            ∙ ap (λ b. b && second_fits (later place old)) (sym (ap (λ f. turn_fits (second_round (later place old)) f) own) ∙ sym (ap (λ us. turn_fits us (get_or vs place Zero)) t.values) ∙ ok)
            ∙ t.fits;
      }
    where
      at : (us : List Pat) (i : ℕ) → AllByRecursion IsRebuilt us → IsRebuilt (get_or us i Zero)
      at [] i h = refl
      at (u ∷ us) zero h = h.0
      at (u ∷ us) (suc i) h = at us i h.1

  -- what doesn't fit from a place on doesn't fit as a whole
  not_whole : (js : List ℕ) (us : List Pat) (i : ℕ) → second_fits (paired (drop i js) (drop i us)) ≡ false → second_fits (paired js us) ≡ false
  not_whole js us zero h = h
  not_whole [] us (suc i) h = h
  not_whole (j ∷ js) [] (suc i) h = nothing (drop i js) h
    where
      nothing : (xs : List ℕ) → second_fits (paired xs []) ≡ false → true ≡ false
      nothing [] h = h
      nothing (x ∷ xs) h = h
  not_whole (j ∷ js) (u ∷ us) (suc i) h =
      ap (λ b. turn_fits (second_round (paired js us)) u && b) (not_whole js us i h) ∙ and_no (turn_fits (second_round (paired js us)) u)
    where
      and_no : (b : Bool) → (b && false) ≡ false
      and_no true = refl
      and_no false = refl

  pub turned_out : (place : ℕ) (vs : List Pat) → PutBack ks old (suc place) vs → place < length old → turn_fits (later place vs) (get_or vs place Zero) ≡ false → second_fits (paired ks old) ≡ false
  turned_out place vs t h large =
      let own : get_or vs place Zero ≡ get_or old place Zero = t.front place (omega arith) in
      not_whole ks old place
      (ap second_fits (old_pairs place h)
      ∙ ap (λ b. b && second_fits (later place old)) (sym (ap (λ f. turn_fits (second_round (later place old)) f) own) ∙ sym (ap (λ us. turn_fits us (get_or vs place Zero)) t.values) ∙ large))

  pub ended : (vs : List Pat) → PutBack ks old 0 vs → (paired ks vs ≡ second_round (paired ks old)) × (length vs ≡ length ks) × (second_fits (paired ks old) ≡ true)
  ended vs t = (t.values, t.so_many ∙ as_many, t.fits)

  -- a turn gives none
  pub refused : (place : ℕ) (vs : List Pat) (e : RoundError) → PutBack ks old (suc place) vs → place < length old → Gives (Err e) (turn_fits (later place vs) (get_or vs place Zero)) (put_in_turn (later place vs) (get_or vs place Zero)) → GivesValues ks (Err e) (second_fits (paired ks old)) (second_round (paired ks old))
  refused place vs TooLarge t h g = turned_out place vs t h g
  refused place vs NoMemory t h g = tt
