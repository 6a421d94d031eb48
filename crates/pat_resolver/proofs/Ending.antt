-- Results, and guards as the code has them.
use Rattle.std.proofs.Common.{◌≡◌, map, Vec, Global, Result, Ok, Err, rules}
use Rattle.std.specs.Prelude.{OnOk}
use Rattle.pat_parser_spec.specs.Trees as trees
use Rattle.pat_parser_spec.specs.Trees.{GuardTerm, listed}
use Rattle.pat_tree.specs.declared.pattern.Name.{Name}
use Rattle.pat_tree.specs.declared.pattern.TreePattern.{TreePattern}
use Rattle.pat_tree.specs.declared.term.Form.{Guard}
use Rattle.pat_tree.specs.declared.term.Form.TheViews.{the_lemmas}
use Rattle.pat_tree.specs.declared.term.TreeClause.{TreeClause}
use Rattle.pat_tree.specs.Views.{name_view, pattern_view, term_at, clause_view}
use Rattle.pat_tree.proofs.Rows.{rows_are}

pub ok_then : {A E : Type 0} (r : Result A E) (P Q : Type 0) → OnOk r P → (P → Q) → OnOk r Q
ok_then (Ok x) P Q h f = f h
ok_then (Err e) P Q h f = h

pub guard_view : (x : Name) (p : TreePattern) (cs : Vec TreeClause Global) (at : trees.Span) → term_at (Guard x p cs) at ≡ GuardTerm (name_view x) (pattern_view p) (listed (map clause_view cs.items)) at
guard_view x p cs at = search (rules, the_lemmas, rows_are)
