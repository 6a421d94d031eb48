-- Constraints, the lower bounds that they give, and their solutions.
use Rattle.std.proofs.Common.{◌≡◌, ℕ, zero, suc, Bool, List, [], ◌∷◌, Some, inl, inr, ⊎_elim, refl, sym, subst}
use Rattle.std.specs.Prelude.{nat_eq, slice_get, if◌then◌else◌}
use Rattle.std.proofs.lemmas.Bool.{cond_both, eqb-true, eq-eqb}
use Rattle.pat_words_spec.specs.Words.{Word}
use Rattle.pat_words_spec.specs.Patterns.{Pat, Zero, Language, In, InUnder, no_values, sum_of}
use Rattle.pat_words_laws.proofs.PatternLaws.{sum_of_to, sum_of_from}
use Rattle.pat_words_laws.proofs.FormLaws.{subst_from}
use Rattle.pat_inclusion_spec.specs.bounds.Trees.{Bound}
use Rattle.pat_inclusion_spec.specs.bounds.Assignments.{Right, PatternRight, VarRight, Constraint, with_left, with_lefts, lower_of, RightWords, Holds, HoldsBelow, Solves, MeetsBelow, Meets, right_pattern, PatternsSolve}
use Rattle.pat_inclusion_spec.specs.bounds.Searches.{Refutes}
use Rattle.pat_inclusion_laws.proofs.TreeLaws.{shown_under}

-- ---- from the constraints to the lower bounds

left_into : (values : ℕ → Language) (k : ℕ) (made left : Pat) (right : Right) (w : Word) → HoldsBelow values left right → (InUnder values made w → values k w) → InUnder values (with_left k made left right) w → values k w
left_into values k made left (PatternRight f) w holds into = into
left_into values k made left (VarRight j) w holds into =
    cond_both (nat_eq j k) (sum_of made left) made (λ e. InUnder values e w → values k w)
    (λ same h. ⊎_elim into (λ l. subst (λ i. values i w) (eqb-true j k same) (holds w l)) (sum_of_to values made left w h))
    (λ _. into)

lefts_into : (values : ℕ → Language) (k : ℕ) (made : Pat) (cs : List Constraint) (w : Word) → MeetsBelow values cs → (InUnder values made w → values k w) → InUnder values (with_lefts k made cs) w → values k w
lefts_into values k made [] w all into h = into h
lefts_into values k made (c ∷ cs) w all into h =
    lefts_into values k (with_left k made c.left c.right) cs w all.1 (left_into values k made c.left c.right w all.0 into) h

pub below_meets : (values : ℕ → Language) (cs : List Constraint) → MeetsBelow values cs → Meets (lower_of cs) values
below_meets values cs all k w h = lefts_into values k Zero cs w all (λ z. absurd z) h

-- ---- and back

left_kept : (values : ℕ → Language) (k : ℕ) (made left : Pat) (right : Right) (w : Word) → InUnder values made w → InUnder values (with_left k made left right) w
left_kept values k made left (PatternRight f) w h = h
left_kept values k made left (VarRight j) w h =
    cond_both (nat_eq j k) (sum_of made left) made (λ e. InUnder values e w) (λ _. sum_of_from values made left w (inl h)) (λ _. h)

left_added : (values : ℕ → Language) (j : ℕ) (made left : Pat) (w : Word) → InUnder values left w → InUnder values (with_left j made left (VarRight j)) w
left_added values j made left w h =
    subst (λ b. InUnder values (choose b) w) (sym (eq-eqb j j refl)) (sum_of_from values made left w (inr h))
  where
    choose : Bool → Pat
    choose b = if b then sum_of made left else made

lefts_kept : (values : ℕ → Language) (k : ℕ) (made : Pat) (cs : List Constraint) (w : Word) → InUnder values made w → InUnder values (with_lefts k made cs) w
lefts_kept values k made [] w h = h
lefts_kept values k made (c ∷ cs) w h =
    lefts_kept values k (with_left k made c.left c.right) cs w (left_kept values k made c.left c.right w h)

meets_each : (values : ℕ → Language) (made : ℕ → Pat) (cs : List Constraint) → ((k : ℕ) (w : Word) → InUnder values (with_lefts k (made k) cs) w → values k w) → MeetsBelow values cs
meets_each values made [] all = tt
meets_each values made (c ∷ cs) all =
    (head c.left c.right all, meets_each values (λ k. with_left k (made k) c.left c.right) cs all)
  where
    head : (left : Pat) (right : Right) → ((k : ℕ) (w : Word) → InUnder values (with_lefts k (with_left k (made k) left right) cs) w → values k w) → HoldsBelow values left right
    head left (PatternRight f) each = tt
    head left (VarRight j) each =
        λ w h. each j w (lefts_kept values j (with_left j (made j) left (VarRight j)) cs w (left_added values j (made j) left w h))

pub meets_below : (values : ℕ → Language) (cs : List Constraint) → Meets (lower_of cs) values → MeetsBelow values cs
meets_below values cs all = meets_each values (λ k. Zero) cs all

-- ---- solutions

pub solves_below : (values : ℕ → Language) (cs : List Constraint) → Solves values cs → MeetsBelow values cs
solves_below values [] all = tt
solves_below values (c ∷ cs) all = (head c.left c.right all.0, solves_below values cs all.1)
  where
    head : (left : Pat) (right : Right) → ((w : Word) → InUnder values left w → RightWords values right w) → HoldsBelow values left right
    head left (PatternRight f) h = tt
    head left (VarRight j) h = h

-- the constraint with this number holds
solved_at : (values : ℕ → Language) (cs : List Constraint) (i : ℕ) (c : Constraint) → Solves values cs → slice_get cs i ≡ Some c → Holds values c
solved_at values [] i c all h = cc
solved_at values (d ∷ cs) zero c all h = let e : d ≡ c = cc in subst (Holds values) e all.0
solved_at values (d ∷ cs) (suc i) c all h = solved_at values cs i c all.1 h

-- where there is a solution, no tree refutes a constraint
pub none_refutes : (values : ℕ → Language) (cs : List Constraint) (i : ℕ) (c : Constraint) (f : Pat) (w : Word) (b : Bound) → Solves values cs → slice_get cs i ≡ Some c → c.right ≡ PatternRight f → Refutes (lower_of cs) c.left f w b → ⊥
none_refutes values cs i c f w b all at right h =
    let meets = below_meets values cs (solves_below values cs all) in
    let word = shown_under (lower_of cs) values meets b c.left w h.0 in
    h.1 (subst (λ r. RightWords values r w) right (solved_at values cs i c all at w word))

-- patterns whose inclusions hold are a solution
pub patterns_solve : (cs : List Constraint) (patterns : ℕ → Pat) → PatternsSolve patterns cs → Solves (λ k. In (patterns k)) cs
patterns_solve [] patterns all = tt
patterns_solve (c ∷ cs) patterns all =
    (λ w h. right_words c.right w (all.0 w (subst_from patterns no_values c.left w h)), patterns_solve cs patterns all.1)
  where
    right_words : (right : Right) (w : Word) → In (right_pattern patterns right) w → RightWords (λ k. In (patterns k)) right w
    right_words (PatternRight f) w h = h
    right_words (VarRight j) w h = h
