-- The grids of derivable words solve all constraints that no derivable word breaks.
use Rattle.std.proofs.Common.{◌≡◌, ℕ, zero, suc, true, List, [], ◌∷◌, ⊎_elim, refl, sym, subst}
use Rattle.std.specs.List.{AllByRecursion}
use Rattle.std.proofs.lemmas.Bool.{and_parts}
use Rattle.pat_words_spec.specs.Words.{Word}
use Rattle.pat_words_spec.specs.Patterns.{Pat, Zero, One, Tag, Sum, Prod, Star, Var, Language, Times, In, InUnder, no_values}
use Rattle.pat_words_spec.specs.Cuts.{cut_at, CutOf}
use Rattle.pat_words_laws.proofs.FormLaws.{subst_to}
use Rattle.pat_words_spec.specs.Tags.{tags_below, HasTagsBelow}
use Rattle.std.proofs.lemmas.Bool.{ltb-true}
use Rattle.pat_inclusion_spec.specs.Points.{points_pattern}
use Rattle.pat_inclusion_laws.proofs.Spans.{none_below, plus_below}
use Rattle.pat_inclusion_laws.proofs.Forms.{one_below}
use Rattle.pat_inclusion_laws.proofs.CutLaws.{cut_below, cut_twice}
use Rattle.pat_inclusion_laws.proofs.LawParts.{points_words}
use Rattle.pat_inclusion_spec.specs.bounds.Trees.{Derivable, derivable}
use Rattle.pat_inclusion_spec.specs.bounds.Assignments.{Right, PatternRight, VarRight, Constraint, lower_of, HoldsBelow, MeetsBelow, right_pattern, PatternsSolve}
use Rattle.pat_inclusion_spec.specs.bounds.CutSets.{IsPoint}
use Rattle.pat_inclusion_spec.specs.bounds.LeastGrids.{AreLeastPoints, RightFits, FitGrid}
use Rattle.pat_inclusion_laws.proofs.TreeLaws.{derivable_under, derivable_meets}
use Rattle.pat_inclusion_laws.proofs.AssignmentLaws.{meets_below}
use Rattle.pat_inclusion_laws.proofs.CutSetLaws.{under_mono, through, cuts_derivable, in_by_cut, inside_cuts}

times_below : (n : ℕ) (L : Language) → ((w : Word) → L w → HasTagsBelow n w) → (c : ℕ) (w : Word) → Times c L w → HasTagsBelow n w
times_below n L each zero w h = subst (HasTagsBelow n) (sym h) (none_below n)
times_below n L each (suc c) w h =
    subst (HasTagsBelow n) (sym h.4) (plus_below n h.0 h.1 (each h.0 h.2) (times_below n L each c h.1 h.3))

pub under_below : (n : ℕ) (values : ℕ → Language) → ((j : ℕ) (w : Word) → values j w → HasTagsBelow n w) → (e : Pat) → tags_below n e ≡ true → (w : Word) → InUnder values e w → HasTagsBelow n w
under_below n values each Zero t w h = absurd h
under_below n values each One t w h = subst (HasTagsBelow n) (sym h) (none_below n)
under_below n values each (Tag m) t w h = subst (HasTagsBelow n) (sym h) (one_below n m (ltb-true m n t))
under_below n values each (Sum e f) t w h =
    let both = and_parts (tags_below n e) (tags_below n f) t in
    ⊎_elim (under_below n values each e both.0 w) (under_below n values each f both.1 w) h
under_below n values each (Prod e f) t w h =
    let both = and_parts (tags_below n e) (tags_below n f) t in
    subst (HasTagsBelow n) (sym h.4)
    (plus_below n h.0 h.1 (under_below n values each e both.0 h.0 h.2) (under_below n values each f both.1 h.1 h.3))
under_below n values each (Star e) t w h = times_below n (InUnder values e) (under_below n values each e t) h.0 w h.1
under_below n values each (Var j) t w h = each j w h

module _ (k n : ℕ) (points : ℕ → List (List ℕ)) (all : List Constraint) (least : AreLeastPoints k n (lower_of all) points) where
  abbrev lower : ℕ → Pat
  lower j = lower_of all j

  abbrev patterns : ℕ → Pat
  patterns j = points_pattern k n (points j)

  abbrev Value : ℕ → Language
  Value j w = In (patterns j) w

  point : (w : Word) → HasTagsBelow n w → IsPoint k n (cut_at k w)
  point w h = (cut_below n k w h, sym (cut_twice k w))

  value_below : (j : ℕ) (w : Word) → Value j w → HasTagsBelow n w
  value_below j w h = ((points_words k n (points j) w (least j).0).0 h).0

  value_cut : (j : ℕ) (w : Word) → Value j w → CutOf k (derivable lower j) (cut_at k w)
  value_cut j w h =
      let t = (points_words k n (points j) w (least j).0).0 h in
      ((least j).1 (cut_at k w) (point w t.0)).0 t.1

  cut_value : (j : ℕ) (w : Word) → HasTagsBelow n w → CutOf k (derivable lower j) (cut_at k w) → Value j w
  cut_value j w below h =
      (points_words k n (points j) w (least j).0).1 (below, ((least j).1 (cut_at k w) (point w below)).1 h)

  -- a word of the left is cut to the same as a derivable one
  left_cut : (left : Pat) (w : Word) → InUnder Value left w → CutOf k (Derivable lower left) (cut_at k w)
  left_cut left w h =
      cuts_derivable k lower left (cut_at k w)
      (under_mono k (λ j. CutOf k (Value j)) (λ j. CutOf k (derivable lower j))
      (λ j u c. subst (CutOf k (derivable lower j)) (sym c.2) (value_cut j c.0 c.1))
      left (cut_at k w)
      (through k Value left (cut_at k w) (w, h, refl)))

  holds : (left : Pat) (right : Right) → tags_below n left ≡ true → HoldsBelow (derivable lower) left right → RightFits k lower left right → (w : Word) → InUnder Value left w → In (right_pattern patterns right) w
  holds left (PatternRight f) t below fits w h =
      in_by_cut k f w fits.0 fits.1 (inside_cuts k lower left f fits.2 (cut_at k w) (left_cut left w h))
  holds left (VarRight j) t below fits w h =
      let c = left_cut left w h in
      cut_value j w (under_below n Value value_below left t w h) (c.0, below c.0 (derivable_under lower left c.0 c.1), c.2)

  each_holds : (cs : List Constraint) → MeetsBelow (derivable lower) cs → AllByRecursion (λ c. (tags_below n c.left ≡ true) × RightFits k lower c.left c.right) cs → PatternsSolve patterns cs
  each_holds [] below fit = tt
  each_holds (c ∷ cs) below fit =
      let f = fit.0 in (
        λ w h. holds c.left c.right f.0 below.0 f.1 w (subst_to patterns no_values c.left w h),
        each_holds cs below.1 fit.1,
      )

  pub grids_solve : FitGrid k n all → PatternsSolve patterns all
  grids_solve fit = each_holds all (meets_below (derivable lower) all (derivable_meets lower)) fit
