use Rattle.std.proofs.Common.{◌≤◌, ◌*◌, map, subst}
use Rattle.std.specs.Prelude.{IfOk}
use Rattle.std.proofs.lemmas.List.{length-map}
use Rattle.pat_parser_laws.specs.Counts.{tree_size}
use Rattle.pat_syntax.specs.Views.{token_view}
use Rattle.pat_tree.specs.Views.{tree_view}
use Rattle.pat_parser.proofs.Answered.{answered, answered_tree, answered_unexpected, answered_too_deep, answered_size, answered_names}
use Rattle.pat_parser.proofs.parsing.parse.Goals as goal

pub returns-clause-answers : goal.returns-clause-answers
returns-clause-answers c = answered c.args.end (map token_view c.args.tokens.items) c.whole_text.result c.whole_text.ensures

pub returns-clause-tree : goal.returns-clause-tree
returns-clause-tree c = answered_tree c.args.end (map token_view c.args.tokens.items) c.whole_text.result c.whole_text.ensures

pub returns-clause-unexpected : goal.returns-clause-unexpected
returns-clause-unexpected c = answered_unexpected c.args.end (map token_view c.args.tokens.items) c.whole_text.result c.whole_text.ensures

pub returns-clause-too_deep : goal.returns-clause-too_deep
returns-clause-too_deep c = answered_too_deep c.args.end (map token_view c.args.tokens.items) c.whole_text.result c.whole_text.ensures

pub returns-clause-size : goal.returns-clause-size
returns-clause-size c = subst (λ n. IfOk c.whole_text.result (λ t. tree_size (tree_view t) ≤ 4 * n)) (length-map c.args.tokens.items token_view) (answered_size c.args.end (map token_view c.args.tokens.items) c.whole_text.result c.whole_text.ensures)

pub returns-clause-named : goal.returns-clause-named
returns-clause-named c = answered_names c.args.end (map token_view c.args.tokens.items) c.whole_text.result c.whole_text.ensures
