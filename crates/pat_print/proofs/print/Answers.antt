use Rattle.std.proofs.Common.{◌≡◌, ℕ, Result, Ok, Err, sym, subst, Vec, Global}
use Rattle.std.specs.Prelude.{IfOk}
use Rattle.pat_parser_spec.specs.Trees.{Tree}
use Rattle.pat_parser_spec.specs.Items.{Limits}
use Rattle.pat_print_spec.specs.Text.{canonical_text}
use Rattle.pat_print_laws.specs.ReadAgain.{CanBeSpelled, ReadsAs}
use Rattle.pat_print_laws.proofs.BareText.{bare_again}
use Rattle.pat_tree.specs.Views.{tree_view}
use Rattle.pat_print.proofs.print.Goals as goal

-- what is printed is read as the tree, if anything is
reads : {E : Type 0} (lim : Limits) (m : Tree) → CanBeSpelled lim m → (r : Result (Vec ℕ Global) E) → IfOk r (λ text. text.items ≡ canonical_text m) → IfOk r (λ text. ReadsAs lim text.items m)
reads lim m s (Ok text) e = subst (λ l. ReadsAs lim l m) (sym e) (bare_again lim m s)
reads lim m s (Err x) e = e

pub returns-clause-read_again : goal.returns-clause-read_again
returns-clause-read_again c = λ lim s. reads lim (tree_view c.args.tree.now) s c.tree_lines.result c.tree_lines.ensures
