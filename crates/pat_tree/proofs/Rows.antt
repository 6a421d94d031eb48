-- The clauses of a guard in the code are those of its list.
use Rattle.std.proofs.Common.{◌≡◌, refl, ap, map}
use Rattle.pat_parser_spec.specs.Trees as trees
use Rattle.pat_parser_spec.specs.Trees.{listed}
use Rattle.pat_tree.specs.declared.term.Form.{Row_of-TreeClause, end_of-TreeClause, more_of-TreeClause, items-the_row-TreeClause}
use Rattle.pat_tree.specs.Views.{clause_view, clauses_view}

pub rows_are : {n : _} (k : Row_of-TreeClause n) → clauses_view k ≡ listed (map clause_view (items-the_row-TreeClause n k))
rows_are end_of-TreeClause = refl
rows_are (more_of-TreeClause c k) = ap (λ (r : trees.Clauses). trees.with_clause (clause_view c) r) (rows_are k)
