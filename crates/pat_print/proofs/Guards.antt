-- A guard in the code is that of its list of clauses.
use Rattle.std.proofs.Common.{◌≡◌, ◌++◌, ◌∷◌, [], ℕ, List, ap, sym, ◌∙◌, rules, map, Vec, Global}
use Rattle.pat_parser_spec.specs.Trees as trees
use Rattle.pat_parser_spec.specs.Trees.{GuardTerm, listed}
use Rattle.pat_tree.specs.declared.pattern.Name.{Name}
use Rattle.pat_tree.specs.declared.pattern.TreePattern.{TreePattern}
use Rattle.pat_tree.specs.declared.term.Form.{Guard}
use Rattle.pat_tree.specs.declared.term.Form.TheViews.{the_lemmas}
use Rattle.pat_tree.specs.declared.term.TreeClause.{TreeClause}
use Rattle.pat_tree.specs.Views.{name_view, pattern_view, term_at, clause_view}
use Rattle.pat_tree.proofs.Rows.{rows_are}
use Rattle.pat_print_spec.specs.Canonical.{term_onto, clauses_onto}
use Rattle.pat_print_spec.specs.Text.{text_of}
use Rattle.pat_print.specs.Parts.{guarded_onto}
use Rattle.pat_print.proofs.Lines.{guard_is}

pub guard_view : (x : Name) (p : TreePattern) (cs : Vec TreeClause Global) (at : trees.Span) → term_at (Guard x p cs) at ≡ GuardTerm (name_view x) (pattern_view p) (listed (map clause_view cs.items)) at
guard_view x p cs at = search (rules, the_lemmas, rows_are)

-- a guard, from the test to the closing brace
pub guard_put : (out one two three whole : List ℕ) (x : trees.Name) (p : trees.Pattern) (cs : trees.Clauses) (m : trees.Term) (at : trees.Span) → m ≡ GuardTerm x p cs at → one ≡ out ++ text_of (guarded_onto x p []) → two ≡ one ++ text_of (clauses_onto cs []) → three ≡ two ++ 125 ∷ [] → out ++ text_of (term_onto m []) ≡ whole → three ≡ whole
guard_put out one two three whole x p cs m at same a b d w =
    d ∙ ap (λ l. l ++ 125 ∷ []) b ∙ ap (λ l. l ++ text_of (clauses_onto cs []) ++ 125 ∷ []) a ∙ guard_is out x p cs ∙ ap (λ n. out ++ text_of (term_onto n [])) (sym same) ∙ w
