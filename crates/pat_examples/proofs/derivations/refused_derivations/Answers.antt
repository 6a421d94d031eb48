use Rattle.pat_examples.proofs.Rows.{one_message_cert, one_line_more, variable_of_nothing, second_class, pairs_wrong, pairs_left_over, grid_one, grid_form_short, grid_form_descends, grid_form_other_bound, future_without_cert, leak_drops, alias_refused, beside_refused, uncovered_refused, sends_nothing, no_value, missing_line, payload_returnable, foreign_tag, cut_off, cut_off_unnamed, name_in_bound_part, variable_of_another_interface, out_of_order}
use Rattle.pat_examples.proofs.derivations.refused_derivations.Goals as goal

pub returns : goal.returns
returns c = record { one_message_cert = one_message_cert; one_line_more = one_line_more; variable_of_nothing = variable_of_nothing; second_class = second_class; pairs_wrong = pairs_wrong; pairs_left_over = pairs_left_over; grid_one = grid_one; grid_form_short = grid_form_short; grid_form_descends = grid_form_descends; grid_form_other_bound = grid_form_other_bound; future_without_cert = future_without_cert; leak_drops = leak_drops; alias_refused = alias_refused; beside_refused = beside_refused; uncovered_refused = uncovered_refused; sends_nothing = sends_nothing; no_value = no_value; missing_line = missing_line; payload_returnable = payload_returnable; foreign_tag = foreign_tag; cut_off = cut_off; cut_off_unnamed = cut_off_unnamed; name_in_bound_part = name_in_bound_part; variable_of_another_interface = variable_of_another_interface; out_of_order = out_of_order }
