use Rattle.pat_words_spec.specs.Patterns.{In, no_values}
use Rattle.pat_words_laws.proofs.PatternLaws.{pat_eq_same, sum_of_to, sum_of_from, prod_of_to, prod_of_from}
use Rattle.pat_words_laws.proofs.FormLaws.{same_pat_eq, star_of_to, star_of_from, subst_to, subst_from}
use Rattle.pat_words_laws.proofs.form_laws.Goals as goal

pub returns : goal.returns
returns c = record {
  same = λ e f. (pat_eq_same e f, same_pat_eq e f);
  sum = λ values e f w. (sum_of_to (λ k. In (values k)) e f w, sum_of_from (λ k. In (values k)) e f w);
  product = λ values e f w. (prod_of_to (λ k. In (values k)) e f w, prod_of_from (λ k. In (values k)) e f w);
  star = λ values e w. (star_of_to (λ k. In (values k)) e w, star_of_from (λ k. In (values k)) e w);
  substitution = λ values e w. (subst_to values no_values e w, subst_from values no_values e w);
}
