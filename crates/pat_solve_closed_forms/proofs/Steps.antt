-- What is found of the constraints, one after another.
use Rattle.std.proofs.Common.{◌≡◌, ℕ, ◌+◌, ◌<◌, ◌≤◌, ◌^◌, true, List, length, Some, ⊎_elim, refl, sym, ap, ◌∙◌, subst, arith}
use Rattle.std.specs.Prelude.{get_or, map, is_some}
use Rattle.std.proofs.lemmas.Bool.{and_from, cases_lt}
use Rattle.std.proofs.lemmas.List.{get_or-map, length-map}
use Rattle.pat_words_spec.specs.Patterns.{Pat, Zero}
use Rattle.pat_inclusion_spec.specs.Counts.{most_tags}
use Rattle.pat_inclusion_spec.specs.LinearSets.{LinearSet}
use Rattle.pat_inclusion_spec.specs.ClosedForms.{closed_form}
use Rattle.pat_infer_problems.specs.declared.problem.Constraint.{Constraint}
use Rattle.pat_linear.specs.declared.set.LinearSet.{LinearSet as CodeSet}
use Rattle.pat_linear.specs.Views.{set_view, sets_view}
use Rattle.pat_solve_spec.specs.Derived.{IsCovered}
use Rattle.pat_solve_closed_forms.specs.declared.checking.Finding.{Finding}
use Rattle.pat_solve_closed_forms.specs.declared.checking.Finding.TheVariants.{Covered, Uncovered, TooLarge}
use Rattle.pat_solve_closed_forms.specs.Sides.{left_under, right_under}
use Rattle.pat_solve_closed_forms.specs.Findings.{have_forms, Follows, IsCoveredAt, forms_at, Finds}

pub covered_forms : (n : ℕ) (e f : Pat) → IsCovered n e f → have_forms n e f ≡ true
covered_forms n e f c =
    and_from (is_some (closed_form n e)) (is_some (closed_form n f)) (ap is_some c.left_is) (ap is_some c.right_is)

upto : (P : ℕ → Type 0) (i : ℕ) → ((j : ℕ) → j < i → P j) → P i → (j : ℕ) → j < i + 1 → P j
upto P i below here j l =
    ⊎_elim (λ (s : j < i). below j s) (λ (g : i ≤ j). let e : i ≡ j = omega arith in subst P e here) (cases_lt j i)

module _ (values : ℕ → Pat) (cs : List Constraint) (ns : List ℕ) where
  pub finds_next : (i : ℕ) (before now : Finding) → Finds values cs ns i before → Follows (get_or ns i 0) (left_under values cs (get_or ns i 0)) (right_under values cs (get_or ns i 0)) before now → Finds values cs ns (i + 1) now
  finds_next i Covered Covered h f = upto (IsCoveredAt values cs ns) i h f
  finds_next i Covered (Uncovered k) h f = record {
    place = i;
    within = omega arith;
    is = f.0;
    uncovered = f.2;
    before = h;
    forms = upto (λ j. forms_at values cs ns j ≡ true) i (λ j l. covered_forms most_tags (left_under values cs (get_or ns j 0)) (right_under values cs (get_or ns j 0)) (h j l)) f.1;
  }
  finds_next i Covered TooLarge h f = record { place = i; within = omega arith; none = f }
  finds_next i (Uncovered k) Covered h f = absurd f
  finds_next i (Uncovered k) (Uncovered m) h f = record {
    place = h.place;
    within = let w = h.within in omega arith;
    is = f.0 ∙ h.is;
    uncovered = h.uncovered;
    before = h.before;
    forms = upto (λ j. forms_at values cs ns j ≡ true) i h.forms f.1;
  }
  finds_next i (Uncovered k) TooLarge h f = record { place = i; within = omega arith; none = f }
  finds_next i TooLarge Covered h f = absurd f
  finds_next i TooLarge (Uncovered k) h f = absurd f
  finds_next i TooLarge TooLarge h f = record { place = h.place; within = let w = h.within in omega arith; none = h.none }

  pub finds_all : (i : ℕ) (found : Finding) → i ≡ length ns → Finds values cs ns i found → Finds values cs ns (length ns) found
  finds_all i found e h = subst (λ k. Finds values cs ns k found) e h

-- ---- one constraint

pub read_at : {A : Type 0} (view : A → Pat) (xs : List A) (n : ℕ) (x : A) → n < length xs → x ≡ get_or xs n x → view x ≡ get_or (map view xs) n Zero
read_at view xs n x l is = ap view is ∙ sym (get_or-map view xs n x Zero l)

both_forms : (n : ℕ) (e f : Pat) (left right : List LinearSet) → Some left ≡ closed_form n e → Some right ≡ closed_form n f → have_forms n e f ≡ true
both_forms n e f left right a b =
    and_from (is_some (closed_form n e)) (is_some (closed_form n f)) (ap is_some (sym a)) (ap is_some (sym b))

pub follows_uncovered : (m k : ℕ) (e f : Pat) (left right : List LinearSet) → Some left ≡ closed_form most_tags e → Some right ≡ closed_form most_tags f → Follows m e f (Uncovered k) (Uncovered k)
follows_uncovered m k e f left right a b = (refl, both_forms most_tags e f left right a b)

pub few_sets : (sets : List CodeSet) (view : List LinearSet) → sets_view sets ≡ view → length view < 2 ^ 32 → length sets < 2 ^ 32
few_sets sets view e l = subst (λ n. n < 2 ^ 32) (sym (ap length e) ∙ length-map sets set_view) l
