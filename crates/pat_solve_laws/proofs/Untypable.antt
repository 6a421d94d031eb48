-- A derivable word outside a right side without variables: the program can't be typed.
use Rattle.std.proofs.Common.{◌≡◌, ℕ, zero, suc, true, nat_eq, List, [], ◌∷◌, Some, inl, inr, ⊎_elim, subst}
use Rattle.std.specs.Prelude.{map, slice_get}
use Rattle.std.specs.List.{AllByRecursion}
use Rattle.std.proofs.lemmas.Bool.{cond_both, eqb-true}
use Rattle.pat_words_spec.specs.Words.{Word}
use Rattle.pat_words_spec.specs.Patterns.{Pat, Zero, One, Tag, Sum, Prod, Star, Var, Language, In, InUnder, is_closed, no_values, sum_of}
use Rattle.pat_words_laws.proofs.PatternLaws.{sum_of_to}
use Rattle.pat_semantics_spec.specs.Programs.{Program}
use Rattle.pat_semantics_spec.specs.Faults.{IsIn}
use Rattle.pat_semantics_spec.specs.WellFormed.{WellFormed}
use Rattle.pat_semantics_laws.proofs.Lists.{is_in_all}
use Rattle.pat_type_system_spec.specs.Typings.{IsTypable}
use Rattle.pat_type_system_laws.specs.Laws.{BoundIsUnnamed}
use Rattle.pat_inclusion_spec.specs.bounds.Trees.{Derivable}
use Rattle.pat_inclusion_spec.specs.bounds.Assignments.{with_left, with_lefts, Meets}
use Rattle.pat_inclusion_laws.proofs.TreeLaws.{shown_under}
use Rattle.pat_infer_spec.specs.Constraints.{Constraint}
use Rattle.pat_infer_spec.specs.Walk.{inferred}
use Rattle.pat_infer_spec.specs.Solutions.{MeetsUnder, IsSolution}
use Rattle.pat_words_laws.proofs.ClosedPatterns.{under_closed}
use Rattle.pat_infer_laws.proofs.Lossless.{typable_solved}
use Rattle.pat_solve_spec.specs.LowerBounds.{right_side, sides_of, lowers_of}
use Rattle.pat_solve_spec.specs.Answers.{IsOversized}
use Rattle.pat_solve_spec.specs.Laws.{RefutedIsUntypable, LargeIsUntypable}

pub at_in : {A : Type 0} (xs : List A) (n : ℕ) (x : A) → slice_get xs n ≡ Some x → IsIn x xs
at_in [] n x h = cc
at_in (y ∷ xs) zero x h = let same : y ≡ x = cc in inl same
at_in (y ∷ xs) (suc n) x h = inr (at_in xs n x h)

-- ---- a solution meets the lower bounds

module _ (values : ℕ → Language) (k : ℕ) (w : Word) where
  left_into : (made left r : Pat) → ((u : Word) → InUnder values left u → InUnder values r u) → (InUnder values made w → values k w) → InUnder values (with_left k made left (right_side r)) w → values k w
  left_into made left (Var j) holds into =
      cond_both (nat_eq j k) (sum_of made left) made (λ e. InUnder values e w → values k w)
      (λ same h. ⊎_elim into (λ l. subst (λ i. values i w) (eqb-true j k same) (holds w l)) (sum_of_to values made left w h))
      (λ _. into)
  left_into made left Zero holds into = into
  left_into made left One holds into = into
  left_into made left (Tag m) holds into = into
  left_into made left (Sum e f) holds into = into
  left_into made left (Prod e f) holds into = into
  left_into made left (Star e) holds into = into

  lefts_into : (made : Pat) (ds : List Constraint) → AllByRecursion (MeetsUnder values) ds → (InUnder values made w → values k w) → InUnder values (with_lefts k made (map sides_of ds)) w → values k w
  lefts_into made [] all into h = into h
  lefts_into made (c ∷ ds) all into h =
      lefts_into (with_left k made c.left (right_side c.right)) ds all.1 (left_into made c.left c.right all.0 into) h

pub solution_meets : (p : Program) (values : ℕ → Language) → IsSolution p values → Meets (lowers_of p) values
solution_meets p values s k w h = lefts_into values k w Zero (inferred p).constraints s (λ z. absurd z) h

-- a derivable word is in each solution
pub derivable_in : (p : Program) (values : ℕ → Language) → IsSolution p values → (e : Pat) (w : Word) → Derivable (lowers_of p) e w → InUnder values e w
derivable_in p values s e w h = shown_under (lowers_of p) values (solution_meets p values s) h.0 e w h.1

-- ---- outside

pub outside_untypable : BoundIsUnnamed → (p : Program) (c : Constraint) → WellFormed p → IsIn c (inferred p).constraints → is_closed c.right ≡ true → (w : Word) → Derivable (lowers_of p) c.left w → (In c.right w → ⊥) → IsTypable p → ⊥
outside_untypable unbound p c wf inside closed w h out typable =
    let s = typable_solved unbound p wf typable in
    let values : ℕ → Language = λ k. In (s.0 k) in
    out (under_closed values no_values c.right closed w
    (is_in_all (MeetsUnder values) (inferred p).constraints c s.1 inside w (derivable_in p values s.1 c.left w h)))

pub oversized_untypable : BoundIsUnnamed → (p : Program) (n : ℕ) (c : Constraint) → WellFormed p → slice_get (inferred p).constraints n ≡ Some c → IsOversized p c → IsTypable p → ⊥
oversized_untypable unbound p n c wf at over typable =
    let word = over.large.0 in
    outside_untypable unbound p c wf (at_in (inferred p).constraints n c at) over.searched.closed word.0 (word.1, word.2.0) word.2.1 typable

pub refuted_untypable : BoundIsUnnamed → RefutedIsUntypable
refuted_untypable unbound p n w b wf right typable =
    let r = right.2 in
    outside_untypable unbound p r.constraint wf (at_in (inferred p).constraints n r.constraint r.at) r.searched.closed w (b, r.found.0.0) r.found.0.1 typable

pub large_untypable : BoundIsUnnamed → LargeIsUntypable
large_untypable unbound p i wf right bounded typable =
    ⊎_elim
    (λ l. l.0.out_of_bounds bounded)
    (λ r. oversized_untypable unbound p r.0 r.1 wf r.2 r.4 typable)
    right.2
