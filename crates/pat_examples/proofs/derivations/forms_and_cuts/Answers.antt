use Rattle.pat_examples.proofs.Rows.{two_in_any, two_in_one, period_left_out, large_number, form_of_star, cuts_of_put}
use Rattle.pat_examples.proofs.derivations.forms_and_cuts.Goals as goal

pub returns : goal.returns
returns c = record {
  two_in_any = two_in_any;
  two_in_one = two_in_one;
  period_left_out = period_left_out;
  large_number = large_number;
  form_of_star = form_of_star;
  cuts_of_put = cuts_of_put;
}
