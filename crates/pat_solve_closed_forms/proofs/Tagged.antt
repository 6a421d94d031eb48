-- Sides of an interface's constraints have its tags alone once their variables are replaced, so their closed forms are the same
-- whether its own tags are compared or all that there may be.
use Rattle.std.proofs.Common.{◌≡◌, ℕ, ◌≤◌, true, Some, None, Option, refl, arith}
use Rattle.std.specs.Prelude.{slice_get}
use Rattle.std.specs.List.{AllByRecursion}
use Rattle.pat_words_spec.specs.Patterns.{Pat, subst_of}
use Rattle.pat_words_spec.specs.Tags.{tags_below}
use Rattle.pat_semantics_spec.specs.Programs.{Program, Interface}
use Rattle.pat_semantics_spec.specs.WellFormed.{WellFormed, InterfaceFits}
use Rattle.pat_semantics_laws.proofs.Lists.{all_at}
use Rattle.pat_inclusion_spec.specs.Counts.{most_tags}
use Rattle.pat_inclusion_spec.specs.ClosedForms.{closed_form}
use Rattle.pat_inclusion_laws.proofs.Exact.{tags_are}
use Rattle.pat_inclusion_laws.proofs.FormTags.{closed_same, tags_more}
use Rattle.pat_derivation_spec.specs.Derivations.{tag_count}
use Rattle.pat_infer_spec.specs.Shapes.{PatternFits, ConstraintFits}
use Rattle.pat_infer_spec.specs.Walk.{inferred, all_vars}
use Rattle.pat_solve_spec.specs.Assignments.{vars_in, value_in}
use Rattle.pat_solve_spec.specs.Answers.{tags_of, values_of}
use Rattle.pat_solve_laws.proofs.Closed.{Among, Nowhere, within_tags, within_subst, fits_within, values_within}

module _ (p : Program) (i : ℕ) (well : WellFormed p) (fits : AllByRecursion (ConstraintFits p (all_vars p)) (inferred p).constraints) where
  few : tags_of p i ≤ most_tags
  few = let t = tags_are in let g = go (slice_get p.interfaces i) refl in omega arith
    where
      go : (o : Option Interface) → slice_get p.interfaces i ≡ o → tag_count o ≤ 32
      go None e = omega arith
      go (Some j) e = (all_at (InterfaceFits p) p.interfaces i j well.interfaces e).few

  value_tags : (k : ℕ) → tags_below (tags_of p i) (value_in (values_of p i) k) ≡ true
  value_tags k = within_tags (tags_of p i) Nowhere (value_in (values_of p i) k) (values_within p i fits k)

  pub value_most : (k : ℕ) → tags_below most_tags (value_in (values_of p i) k) ≡ true
  value_most k = tags_more (tags_of p i) most_tags (value_in (values_of p i) k) few (value_tags k)

  side_tags : (e : Pat) → PatternFits p (all_vars p) i e → tags_below (tags_of p i) (subst_of (value_in (values_of p i)) e) ≡ true
  side_tags e h =
      within_tags (tags_of p i) Nowhere (subst_of (value_in (values_of p i)) e)
      (within_subst (tags_of p i) (Among (vars_in i 1 (all_vars p))) Nowhere (value_in (values_of p i)) (λ j _. values_within p i fits j) e (fits_within p i e h))

  pub side_most : (e : Pat) → PatternFits p (all_vars p) i e → tags_below most_tags (subst_of (value_in (values_of p i)) e) ≡ true
  side_most e h =
      tags_more (tags_of p i) most_tags (subst_of (value_in (values_of p i)) e) few (side_tags e h)

  pub side_form : (e : Pat) → PatternFits p (all_vars p) i e → closed_form most_tags (subst_of (value_in (values_of p i)) e) ≡ closed_form (tags_of p i) (subst_of (value_in (values_of p i)) e)
  side_form e h =
      closed_same (tags_of p i) most_tags (subst_of (value_in (values_of p i)) e) few (side_tags e h)
