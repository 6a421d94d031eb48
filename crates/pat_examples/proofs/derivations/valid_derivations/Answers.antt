use Rattle.pat_examples.proofs.Rows.{pair_valid, one_message_valid, pairs_valid, grid_two, grid_form, delegation_valid, future_valid, sends_any}
use Rattle.pat_examples.proofs.derivations.valid_derivations.Goals as goal

pub returns : goal.returns
returns c = record {
  pair_valid = pair_valid;
  one_message_valid = one_message_valid;
  pairs_valid = pairs_valid;
  grid_two = grid_two;
  grid_form = grid_form;
  delegation_valid = delegation_valid;
  future_valid = future_valid;
  sends_any = sends_any;
}
