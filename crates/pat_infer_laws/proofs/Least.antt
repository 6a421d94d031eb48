-- Below a solution, an assignment need only meet what bounds variables from below.
use Rattle.std.proofs.Common.{◌≡◌, ℕ, true, false, ⊎_elim, refl}
use Rattle.std.proofs.lemmas.Bool.{cases_Bool}
use Rattle.pat_words_spec.specs.Patterns.{Pat, Zero, One, Tag, Sum, Prod, Star, Var, Language, In, is_closed}
use Rattle.pat_infer_spec.specs.Walk.{inferred, all_vars}
use Rattle.pat_infer_spec.specs.Solutions.{MeetsUnder}
use Rattle.pat_infer_spec.specs.Shapes.{is_simple, ConstraintFits}
use Rattle.pat_infer_spec.specs.Laws.{is_variable, is_lower, LeastSolves}
use Rattle.pat_words_laws.proofs.ClosedPatterns.{under_mono, under_closed}
use Rattle.pat_infer_laws.proofs.Gathering.{all_with}
use Rattle.pat_infer_laws.proofs.WalkShaped.{found_fits}

simple_cases : (e : Pat) → is_simple e ≡ true → is_variable e ≡ false → is_closed e ≡ true
simple_cases Zero s v = refl
simple_cases One s v = refl
simple_cases (Tag m) s v = refl
simple_cases (Sum e f) s v = s
simple_cases (Prod e f) s v = s
simple_cases (Star e) s v = s
simple_cases (Var k) s v = cc

pub least_solves : LeastSolves
least_solves p values least wf clean solved below lower =
    let V : ℕ → Language = λ k. In (values k) in
    let L : ℕ → Language = λ k. In (least k) in
    all_with (MeetsUnder V) (λ c. ConstraintFits p (all_vars p) c × (is_lower c ≡ true → MeetsUnder L c)) (MeetsUnder L)
    (λ c met q.
    ⊎_elim
    (λ variable. q.1 variable)
    (λ written w h.
    under_closed V L c.right (simple_cases c.right q.0.simple written) w (met w (under_mono L V below c.left w h)))
    (cases_Bool (is_variable c.right)))
    (inferred p).constraints solved
    (all_with (ConstraintFits p (all_vars p)) (λ c. is_lower c ≡ true → MeetsUnder L c) (λ c. ConstraintFits p (all_vars p) c × (is_lower c ≡ true → MeetsUnder L c)) (λ c a b. (a, b)) (inferred p).constraints (found_fits p wf clean).0 lower)
