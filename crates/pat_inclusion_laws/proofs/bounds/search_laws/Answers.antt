use Rattle.pat_inclusion_laws.proofs.SearchLaws.{known_given, given_known, found_at, known_derivable, derivable_known, inside_by_table, table_inside, large_by_table, table_large}
use Rattle.pat_inclusion_laws.proofs.GridLaws.{grids_solve}
use Rattle.pat_inclusion_laws.proofs.AnswerLaws.{answers_exact}
use Rattle.pat_inclusion_laws.proofs.InBounds.{solved_unbroken, unbroken_solved}
use Rattle.pat_inclusion_laws.proofs.bounds.search_laws.Goals as goal

pub returns : goal.returns
returns c = record {
  derivable = λ g table lower e s u done flat st p. (
    known_derivable g table lower e s flat st done u p,
    derivable_known g table lower e s flat st done u,
  );
  given = λ g table e s u done st p. (known_given g table e s u done st p, given_known g table e s u done st p);
  inside = λ g table lower left right s done flat st fr dr. (
    inside_by_table g table lower left s flat st done right fr dr,
    table_inside g table lower left s flat st done right fr dr,
  );
  found = λ g table lower left right s u b flat st. found_at g table lower left s flat st right u b;
  large = λ g table lower left right s done flat st fr dr. (
    large_by_table g table lower left s flat st done right fr dr,
    table_large g table lower left s flat st done right fr dr,
  );
  grids = λ k n points cs least. grids_solve k n points cs least;
  answers = answers_exact;
  in_bounds = λ k n m cs fits all. (solved_unbroken cs, unbroken_solved k n m cs fits all);
}
