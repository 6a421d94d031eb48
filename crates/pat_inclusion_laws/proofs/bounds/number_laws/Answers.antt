use Rattle.pat_inclusion_laws.proofs.NumberLaws.{number_small, number_point, point_fits, point_number, place_within, place_past, place_apart, write_steps, write_falls, pass_closed, passed_closed}
use Rattle.pat_inclusion_laws.proofs.Order.{number_order}
use Rattle.pat_inclusion_laws.proofs.GridPoints.{listed_fit, listed_to, listed_back}
use Rattle.pat_inclusion_laws.proofs.bounds.number_laws.Goals as goal

pub returns : goal.returns
returns c = record {
  numbers = λ k n. (λ u p. (number_small k n u p, number_point k n u p), λ x l. (point_fits k n x, point_number k n x l));
  places = λ g entries all. (
    λ s u p l. place_within g entries s u all p l,
    λ s u p l. place_past g entries s u all l,
    λ s t u v p q e. place_apart g s t u v p q e,
  );
  write = write_steps;
  fall = write_falls;
  pass = pass_closed;
  passed = passed_closed;
  order = number_order;
  listed = λ k n test fits. (listed_fit k n test fits, λ u p. (listed_to k n test u p, listed_back k n test u p));
}
