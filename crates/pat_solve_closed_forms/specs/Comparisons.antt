-- What is known of the sides of a constraint.
use Rattle.std.specs.Prelude.{◌≡◌, true, is_some}
use Rattle.pat_words_spec.specs.Patterns.{Pat}
use Rattle.pat_inclusion_spec.specs.Counts.{most_tags}
use Rattle.pat_inclusion_spec.specs.ClosedForms.{closed_form, lists_are_short}
use Rattle.pat_solve_closed_forms.specs.declared.same.Comparison.{Comparison}
use Rattle.pat_solve_closed_forms.specs.declared.same.Comparison.TheVariants.{Apart, Same, SameWithForm}

abbrev pub Compares : Pat → Pat → Comparison → Type 0
Compares e f Apart = Unit {0}
Compares e f Same = e ≡ f
Compares e f SameWithForm = (e ≡ f) × (is_some (closed_form most_tags f) ≡ true)

-- the same of sides that aren't too large
abbrev pub ComparesParts : Pat → Pat → Comparison → Type 0
ComparesParts e f Apart = Unit {0}
ComparesParts e f Same = e ≡ f
ComparesParts e f SameWithForm = (e ≡ f) × (lists_are_short most_tags f ≡ true)
