-- A system that is added up is that of the renamed lower bounds.
use Rattle.std.proofs.Common.{◌≡◌, ℕ, zero, suc, ◌<◌, ⊎_elim, Bool, true, false, ◌||◌, List, [], ◌∷◌, length, map, option_map, Option, Some, None, Result, Ok, Err, ◌+◌, ◌≤◌, drop, refl, sym, ap, ap₂, ◌∙◌, subst, arith}
use Rattle.std.specs.Prelude.{nat_eq, get_or, set, replicate, slice_get, slice_set, if◌then◌else◌, OnOk}
use Rattle.std.specs.List.{AllByRecursion}
use Rattle.std.proofs.lemmas.Bool.{cond_both, cond-true, cond-false, cases_Bool, eqb-true, eq-eqb}
use Rattle.std.proofs.lemmas.List.{drop_more, drop_all, length-map}
use Rattle.std.proofs.lemmas.Option.{slice_get-map, slice_get-get_or, slice_get_past}
use Rattle.pat_words_spec.specs.Words.{Word}
use Rattle.pat_words_spec.specs.Patterns.{Pat, Zero, Var, sum_of}
use Rattle.pat_words_spec.specs.Tags.{tags_below}
use Rattle.pat_semantics_spec.specs.Programs.{is_among}
use Rattle.pat_inclusion_spec.specs.bounds.Trees.{Bound, Shows, bound_in, bounds_of}
use Rattle.pat_inclusion_spec.specs.bounds.Assignments.{Right, PatternRight, VarRight, Constraint, with_left, with_lefts, lower_of}
use Rattle.pat_solve_bounded.specs.replacing.Ascending.{IsAscending}
use Rattle.pat_solve_bounds.specs.renumbered.Renaming.{place_in, renamed}
use Rattle.pat_solve_bounds.specs.renumbered.Systems.{side_at, picked, renamed_side, added, all_added}
use Rattle.pat_patterns.specs.declared.pattern.Pattern.{Pattern}
use Rattle.pat_patterns.specs.Views.{pattern_view, patterns_view}
use Rattle.pat_infer_problems.specs.declared.problem.Constraint.{Constraint as CodeConstraint}
use Rattle.pat_solve_bounds.specs.lower_bounds.Sides.{sides_list}
use Rattle.pat_solve_laws.proofs.Closed.{Among, within_tags}
use Rattle.pat_solve_bounds.proofs.PlaceLaws.{rest_ascends, other_key, at_place, place_missing, out_of}
use Rattle.pat_solve_bounds.proofs.Renames.{IsWithin, within_sum, renamed_sum, renamed_tags, shows_to, shows_from}

-- ---- constraints within

-- a right side that is a variable is one of the list
abbrev pub RightWithin : ℕ → List ℕ → Right → Type 0
RightWithin n ks (PatternRight f) = Unit {0}
RightWithin n ks (VarRight k) = is_among k ks ≡ true

-- the left side has tags below n and variables of the list alone, and so has the right side if it is a variable
pub record SideWithin (n : ℕ) (ks : List ℕ) (c : Constraint) : Type 0 where
  pub left : IsWithin n ks c.left
  pub right : RightWithin n ks c.right

-- ---- one constraint more, in code

pub nothing_added : (left f : Pat) (ks : List ℕ) (es : List Pat) → length es ≡ length ks → added (record { left = left; right = PatternRight f }) ks es ≡ es
nothing_added left f [] [] l = refl
nothing_added left f [] (e ∷ es) l = absurd (omega arith)
nothing_added left f (k ∷ ks) [] l = absurd (omega arith)
nothing_added left f (k ∷ ks) (e ∷ es) l = ap (λ x. e ∷ x) (nothing_added left f ks es (omega arith))

with_other : (k v : ℕ) (e left : Pat) → (v ≡ k → ⊥) → with_left k e left (VarRight v) ≡ e
with_other k v e left d = cond-false (nat_eq v k) (sum_of e left) e (other_key v k d)

with_own : (k v : ℕ) (e left : Pat) → v ≡ k → with_left k e left (VarRight v) ≡ sum_of e left
with_own k v e left s = cond-true (nat_eq v k) (sum_of e left) e (eq-eqb v k s)

pub missing_added : (left : Pat) (v : ℕ) (ks : List ℕ) (es : List Pat) → length es ≡ length ks → ((i : ℕ) → i < length ks → get_or ks i 0 ≡ v → ⊥) → added (record { left = left; right = VarRight v }) ks es ≡ es
missing_added left v [] [] l none = refl
missing_added left v [] (e ∷ es) l none = absurd (omega arith)
missing_added left v (k ∷ ks) [] l none = absurd (omega arith)
missing_added left v (k ∷ ks) (e ∷ es) l none =
    ap₂ (λ x more. x ∷ more) (with_other k v e left (λ s. none 0 (omega arith) (sym s)))
    (missing_added left v ks es (omega arith) (λ i h. none (suc i) (omega arith)))

pub place_added : (left : Pat) (v i : ℕ) (ks : List ℕ) (es : List Pat) → IsAscending ks → length es ≡ length ks → i < length ks → get_or ks i 0 ≡ v → set es i (sum_of (get_or es i Zero) left) ≡ added (record { left = left; right = VarRight v }) ks es
place_added left v i [] es up l h at = absurd (omega arith)
place_added left v i (k ∷ ks) [] up l h at = absurd (omega arith)
place_added left v zero (k ∷ ks) (e ∷ es) up l h at =
    ap₂ (λ x more. x ∷ more) (sym (with_own k v e left (sym at)))
    (sym (missing_added left v ks es (omega arith) (λ j inside there. let above : k < get_or ks j 0 = up 0 (suc j) (omega arith) (omega arith) in omega (arith, above, there, at))))
place_added left v (suc i) (k ∷ ks) (e ∷ es) up l h at =
    let above : k < get_or ks i 0 = up 0 (suc i) (omega arith) h in
    ap₂ (λ x more. x ∷ more) (sym (with_other k v e left (λ s. omega (arith, above, at, s))))
    (place_added left v i ks es (rest_ascends k ks up) (omega arith) (omega arith) at)

pub added_length : (c : Constraint) (ks : List ℕ) (es : List Pat) → length es ≡ length ks → length (added c ks es) ≡ length ks
added_length c [] [] l = refl
added_length c [] (e ∷ es) l = absurd (omega arith)
added_length c (k ∷ ks) [] l = absurd (omega arith)
added_length c (k ∷ ks) (e ∷ es) l = ap suc (added_length c ks es (omega arith))

-- ---- all constraints

module _ (n : ℕ) (ks : List ℕ) where
  abbrev ren : Pat → Pat
  ren = renamed (place_in ks)

  within_left : (k : ℕ) (made left : Pat) (r : Right) → IsWithin n ks made → IsWithin n ks left → IsWithin n ks (with_left k made left r)
  within_left k made left (PatternRight f) h w = h
  within_left k made left (VarRight j) h w =
      cond_both (nat_eq j k) (sum_of made left) made (IsWithin n ks) (λ _. within_sum n ks made left h w) (λ _. h)

  pub within_lefts : (k : ℕ) (made : Pat) (cs : List Constraint) → IsWithin n ks made → AllByRecursion (SideWithin n ks) cs → IsWithin n ks (with_lefts k made cs)
  within_lefts k made [] h all = h
  within_lefts k made (c ∷ cs) h all =
      within_lefts k (with_left k made c.left c.right) cs (within_left k made c.left c.right h all.0.left) all.1

  renamed_left : (k : ℕ) (made left : Pat) (r : Right) → IsWithin n ks made → IsWithin n ks left → with_left k (ren made) (ren left) r ≡ ren (with_left k made left r)
  renamed_left k made left (PatternRight f) h w = refl
  renamed_left k made left (VarRight j) h w =
      ⊎_elim
      (λ t. with_own k j (ren made) (ren left) (eqb-true j k t) ∙ sym (renamed_sum n ks made left h w) ∙ sym (ap ren (with_own k j made left (eqb-true j k t))))
      (λ f. cond-false (nat_eq j k) (sum_of (ren made) (ren left)) (ren made) f ∙ sym (ap ren (cond-false (nat_eq j k) (sum_of made left) made f)))
      (cases_Bool (nat_eq j k))

  one_added : (c : Constraint) (js : List ℕ) (m : ℕ → Pat) → SideWithin n ks c → ((k : ℕ) → IsWithin n ks (m k)) → added (renamed_side (place_in ks) c) js (map (λ k. ren (m k)) js) ≡ map (λ k. ren (with_left k (m k) c.left c.right)) js
  one_added c [] m w all = refl
  one_added c (j ∷ js) m w all =
      ap₂ (λ x more. x ∷ more) (renamed_left j (m j) c.left c.right (all j) w.left) (one_added c js m w all)

  sum_up : (cs : List Constraint) (js : List ℕ) (m : ℕ → Pat) → AllByRecursion (SideWithin n ks) cs → ((k : ℕ) → IsWithin n ks (m k)) → all_added (map (renamed_side (place_in ks)) cs) js (map (λ k. ren (m k)) js) ≡ map (λ k. ren (with_lefts k (m k) cs)) js
  sum_up [] js m w all = refl
  sum_up (c ∷ cs) js m w all =
      ap (all_added (map (renamed_side (place_in ks)) cs) js) (one_added c js m w.0 all)
      ∙ sum_up cs js (λ k. with_left k (m k) c.left c.right) w.1 (λ k. within_left k (m k) c.left c.right (all k) w.0.left)

  zeros_are : (js : List ℕ) → replicate (length js) Zero ≡ map (λ k. ren Zero) js
  zeros_are [] = refl
  zeros_are (j ∷ js) = ap (λ es. Zero ∷ es) (zeros_are js)

  -- ---- the system

  module _ (cs : List Constraint) (within : AllByRecursion (SideWithin n ks) cs) where
    abbrev pub summed : List Pat
    summed = all_added (map (renamed_side (place_in ks)) cs) ks (replicate (length ks) Zero)

    pub system_is : summed ≡ map (λ k. ren (lower_of cs k)) ks
    system_is =
        ap (all_added (map (renamed_side (place_in ks)) cs) ks) (zeros_are ks) ∙ sum_up cs ks (λ k. Zero) within (λ k. tt)

    tags_of_all : (js : List ℕ) → AllByRecursion (λ e. tags_below n e ≡ true) (map (λ k. ren (lower_of cs k)) js)
    tags_of_all [] = tt
    tags_of_all (j ∷ js) =
        (renamed_tags n (place_in ks) (lower_of cs j) ∙ within_tags n (Among ks) (lower_of cs j) (within_lefts j Zero cs tt within), tags_of_all js)

    pub system_tags : AllByRecursion (λ e. tags_below n e ≡ true) summed
    system_tags = subst (AllByRecursion (λ e. tags_below n e ≡ true)) (sym system_is) (tags_of_all ks)

    -- a variable that isn't one of the list has no lower bound
    none_left : (k : ℕ) (ds : List Constraint) → is_among k ks ≡ false → AllByRecursion (SideWithin n ks) ds → with_lefts k Zero ds ≡ Zero
    none_left k [] out w = refl
    none_left k (d ∷ ds) out w = ap (λ m. with_lefts k m ds) (kept d.right w.0.right) ∙ none_left k ds out w.1
      where
        clash : (b : Bool) → b ≡ true → b ≡ false → ⊥
        clash b t f = let e : true ≡ false = sym t ∙ f in cc

        kept : (r : Right) → RightWithin n ks r → with_left k Zero d.left r ≡ Zero
        kept (PatternRight f) h = refl
        kept (VarRight j) h =
            with_other k j Zero d.left (λ s. clash (is_among j ks) h (ap (λ i. is_among i ks) s ∙ out))

    pub no_lower : (k : ℕ) → is_among k ks ≡ false → lower_of cs k ≡ Zero
    no_lower k out = none_left k cs out within

    -- by its place each variable has its renamed lower bound
    pub agrees : (k : ℕ) → bounds_of summed (place_in ks k) ≡ ren (lower_of cs k)
    agrees k =
        ap (λ es. bounds_of es (place_in ks k)) system_is
        ∙ ap bound_in (slice_get-map (λ j. ren (lower_of cs j)) ks (place_in ks k))
        ∙ ⊎_elim
        (λ t. let p = at_place ks k t in
        ap (λ o. bound_in (option_map (λ j. ren (lower_of cs j)) o)) (slice_get-get_or ks (place_in ks k) 0 p.1)
        ∙ ap (λ j. ren (lower_of cs j)) p.0)
        (λ f.
        let past : length ks ≡ place_in ks k = place_missing ks k (out_of k ks f) in
        ap (λ o. bound_in (option_map (λ j. ren (lower_of cs j)) o)) (slice_get_past ks (place_in ks k) (omega arith))
        ∙ sym (ap ren (no_lower k f)))
        (cases_Bool (is_among k ks))

    pub tree_from : (b : Bound) (e : Pat) (w : Word) → Shows (bounds_of summed) b (ren e) w → Shows (lower_of cs) b e w
    tree_from = shows_from (place_in ks) (lower_of cs) (bounds_of summed) agrees

    pub tree_to : (b : Bound) (e : Pat) (w : Word) → Shows (lower_of cs) b e w → Shows (bounds_of summed) b (ren e) w
    tree_to = shows_to (place_in ks) (lower_of cs) (bounds_of summed) agrees

-- ---- in code

pub on_ok : {A E : Type 0} (r : Result A E) (P Q : Type 0) → (P → Q) → OnOk r P → OnOk r Q
on_ok (Ok x) P Q f h = f h
on_ok (Err x) P Q f h = tt

pub view_at : (xs : List Pattern) (i : ℕ) (x : Pattern) → slice_get xs i ≡ Some x → get_or (patterns_view xs) i Zero ≡ pattern_view x
view_at [] i x h = cc
view_at (y ∷ ys) zero x h = let same : y ≡ x = cc in ap pattern_view same
view_at (y ∷ ys) (suc i) x h = view_at ys i x h

-- one item out, another in
pub exchanged : (xs mid new : List Pattern) (i : ℕ) (out blank whole : Pattern) (left : Pat) → slice_get xs i ≡ Some out → mid ≡ slice_set xs i blank → new ≡ slice_set mid i whole → pattern_view whole ≡ sum_of (pattern_view out) left → patterns_view new ≡ set (patterns_view xs) i (sum_of (get_or (patterns_view xs) i Zero) left)
exchanged xs mid new i out blank whole left at m n w =
    ap patterns_view (n ∙ ap (λ ys. slice_set ys i whole) m)
    ∙ twice xs i at
    ∙ ap (λ e. set (patterns_view xs) i e) (w ∙ ap (λ e. sum_of e left) (sym (view_at xs i out at)))
  where
    twice : (ys : List Pattern) (j : ℕ) → slice_get ys j ≡ Some out → patterns_view (slice_set (slice_set ys j blank) j whole) ≡ set (patterns_view ys) j (pattern_view whole)
    twice [] j h = cc
    twice (y ∷ ys) zero h = refl
    twice (y ∷ ys) (suc j) h = ap (λ es. pattern_view y ∷ es) (twice ys j h)

module _ (ks : List ℕ) (zs : List Constraint) (ns : List ℕ) (es : List Pat) where
  abbrev rest_added : ℕ → List Pat → List Pat
  rest_added i made = all_added (map (renamed_side (place_in ks)) (picked zs (drop i ns))) ks made

  pub added_turn : (i : ℕ) (old new : List Pat) → i < length ns → new ≡ added (renamed_side (place_in ks) (side_at zs (get_or ns i 0))) ks old → rest_added i old ≡ es → rest_added (i + 1) new ≡ es
  added_turn i old new l e h =
      ap (rest_added (i + 1)) e
      ∙ sym (ap (λ ms. all_added (map (renamed_side (place_in ks)) (picked zs ms)) ks old) (drop_more ns i 0 l))
      ∙ h

  pub added_end : (i : ℕ) (made : List Pat) → length ns ≤ i → rest_added i made ≡ es → made ≡ es
  added_end i made l h =
      sym (ap (λ ms. all_added (map (renamed_side (place_in ks)) (picked zs ms)) ks made) (drop_all i ns l)) ∙ h

pub no_side : (cs : List CodeConstraint) (n : ℕ) → slice_get cs n ≡ None → side_at (sides_list cs) n ≡ record { left = Zero; right = PatternRight Zero }
no_side [] n h = refl
no_side (c ∷ cs) zero h = cc
no_side (c ∷ cs) (suc n) h = no_side cs n h

pub added_count : (c : Constraint) (ks : List ℕ) (old new : List Pattern) → length old ≡ length ks → patterns_view new ≡ added c ks (patterns_view old) → length new ≡ length ks
added_count c ks old new l e =
    sym (length-map new pattern_view) ∙ ap length e ∙ added_length c ks (patterns_view old) (length-map old pattern_view ∙ l)
