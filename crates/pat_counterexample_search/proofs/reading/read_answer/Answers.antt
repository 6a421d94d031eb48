use Rattle.std.proofs.Common.{arith}
use Rattle.pat_bags.specs.Views.{word_of}
use Rattle.pat_witnesses.specs.Views.{bound_view}
use Rattle.pat_grid.specs.tables.Views.{setting_of}
use Rattle.pat_counterexample_search.proofs.Search.{found_room, found_read, larger_alone, within_limit}
use Rattle.pat_counterexample_search.proofs.reading.read_answer.Goals as goal

pub entry-requires-clause-number : goal.entry-requires-clause-number
entry-requires-clause-number c = let points = c.requires.board.points in let l = c.in-Some.ensures.some.missing.0 in omega arith

pub returns-then-entry-board : goal.returns-then-entry-board
returns-then-entry-board c =
    let e = c.entry.ensures in
    let more = c.if-entry-board.true in
    larger_alone c.args.board.now c.args.entries.now c.args.left c.args.right c.in-Some.number c.in-Some.ensures.some (omega arith)

pub rebuild-requires-clause-place : goal.rebuild-requires-clause-place
rebuild-requires-clause-place c =
    let e = c.entry.ensures in
    let few = c.if-entry-board.false in
    let best = within_limit (setting_of c.args.board.now) c.args.entries.now c.args.left c.args.right c.in-Some.number c.in-Some.ensures.some (omega arith) in
    found_room c.args.board.now c.args.entries.now c.args.left c.args.right c.in-Some.number (word_of c.empty-word.result) c.requires best.missing c.empty-word.ensures

pub returns-in_ok-tree-in-Some : goal.returns-in_ok-tree-in-Some
returns-in_ok-tree-in-Some c =
    let e = c.entry.ensures in
    let few = c.if-entry-board.false in
    let best = within_limit (setting_of c.args.board.now) c.args.entries.now c.args.left c.args.right c.in-Some.number c.in-Some.ensures.some (omega arith) in
    found_read c.args.board.now c.args.entries.now c.args.left c.args.right c.in-Some.number (word_of c.empty-word.result) _ (bound_view c.in_ok-tree-in-Some.tree) best c.empty-word.ensures c.in_ok-tree-in-Some.ensures
