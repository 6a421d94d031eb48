use Rattle.pat_solve_closed_forms.proofs.checking.find.Goals as goal

pub find_by-requires-clause-by : goal.find_by-requires-clause-by
find_by-requires-clause-by c = record { ascending = c.requires.ascending; as_many = c.requires.as_many }
