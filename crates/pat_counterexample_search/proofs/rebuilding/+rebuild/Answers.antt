use Rattle.std.proofs.Common.{◌≡◌, ap, ◌∙◌, arith}
use Rattle.pat_words_spec.specs.Words.{plus}
use Rattle.pat_bags.specs.Views.{word_of}
use Rattle.pat_inclusion_spec.specs.bounds.Trees.{LeftTree, RightTree, BothTree, StarMoreTree, LowerTree}
use Rattle.pat_witnesses.specs.Views.{bound_view}
use Rattle.pat_counterexample_search.proofs.Trees.{if_ok, root_step, tag_small, tag_room, second_falls, second_room, empty_tree, end_tree, tag_tree, left_tree, right_tree, lower_tree, both_tree, star_tree}
use Rattle.pat_counterexample_search.proofs.rebuilding.+rebuild.Goals as goal

pub choose-requires-clause-step : goal.choose-requires-clause-step
choose-requires-clause-step t c =
    root_step c.args.board.now c.args.entries.now c.requires.ready c.args.place (word_of c.args.word.now) c.requires.place

pub one-requires : goal.one-requires
one-requires t c = tag_small c.args.board.now c.args.entries.now c.requires.ready c.args.place c.in-Tag.tag c.in-Tag.ensures

pub add-requires : goal.add-requires
add-requires t c =
    tag_room c.args.board.now c.args.entries.now c.requires.ready c.args.place c.in-Tag.tag (word_of c.args.word.now) (word_of c.one.result) c.requires.place c.one.ensures

pub returns-in-Empty : goal.returns-in-Empty
returns-in-Empty t c =
    empty_tree c.args.board.now c.args.entries.now c.requires.ready c.args.place (word_of c.args.word.now) c.in-Empty.ensures

pub returns-in-StarEnd : goal.returns-in-StarEnd
returns-in-StarEnd t c =
    end_tree c.args.board.now c.args.entries.now c.requires.ready c.args.place (word_of c.args.word.now) c.in-StarEnd.ensures

pub returns-in-Tag : goal.returns-in-Tag
returns-in-Tag t c =
    tag_tree c.args.board.now c.args.entries.now c.requires.ready c.args.place c.in-Tag.tag (word_of c.args.word.now) _ c.in-Tag.ensures (c.add.ensures ∙ ap (plus (word_of c.args.word.now)) c.one.ensures)

pub returns-in_ok-tree-in-Left : goal.returns-in_ok-tree-in-Left
returns-in_ok-tree-in-Left t c =
    let part = bound_view c.in_ok-tree-in-Left.tree in
    if_ok (λ x. bound_view x ≡ LeftTree part) _ c.join_left.result c.join_left.ensures
    (λ x e. left_tree c.args.board.now c.args.entries.now c.requires.ready c.args.place c.in-Left.part (word_of c.args.word.now) _ part (bound_view x) c.in-Left.ensures c.in_ok-tree-in-Left.ensures e)

pub returns-in_ok-tree-in-Right : goal.returns-in_ok-tree-in-Right
returns-in_ok-tree-in-Right t c =
    let part = bound_view c.in_ok-tree-in-Right.tree in
    if_ok (λ x. bound_view x ≡ RightTree part) _ c.join_right.result c.join_right.ensures
    (λ x e. right_tree c.args.board.now c.args.entries.now c.requires.ready c.args.place c.in-Right.part (word_of c.args.word.now) _ part (bound_view x) c.in-Right.ensures c.in_ok-tree-in-Right.ensures e)

pub returns-in_ok-tree-in-Lower : goal.returns-in_ok-tree-in-Lower
returns-in_ok-tree-in-Lower t c =
    let part = bound_view c.in_ok-tree-in-Lower.tree in
    if_ok (λ x. bound_view x ≡ LowerTree part) _ c.join_lower.result c.join_lower.ensures
    (λ x e. lower_tree c.args.board.now c.args.entries.now c.requires.ready c.args.place c.in-Lower.part (word_of c.args.word.now) _ part (bound_view x) c.in-Lower.ensures c.in_ok-tree-in-Lower.ensures e)

pub rebuild-requires-in-Both-2 : goal.rebuild-requires-in-Both-2
rebuild-requires-in-Both-2 t c =
    let f = second_falls c.args.board.now c.args.entries.now c.requires.ready c.args.place c.in-Both.one c.in-Both.other c.in-Both.ensures.1 in
    (omega arith, (c.requires.ready, second_room c.args.board.now c.args.entries.now c.requires.ready c.args.place c.in-Both.one c.in-Both.other (word_of c.args.word.now) _ (bound_view c.in_ok-first-in-Both.first) c.requires.place c.in-Both.ensures.1 c.in_ok-first-in-Both.ensures))

pub returns-in_ok-second-in-Both : goal.returns-in_ok-second-in-Both
returns-in_ok-second-in-Both t c =
    let one = bound_view c.in_ok-first-in-Both.first in
    let other = bound_view c.in_ok-second-in-Both.second in
    if_ok (λ x. bound_view x ≡ BothTree one other) _ c.join_both.result c.join_both.ensures
    (λ x e. both_tree c.args.board.now c.args.entries.now c.requires.ready c.args.place c.in-Both.one c.in-Both.other (word_of c.args.word.now) _ _ one other (bound_view x) c.in-Both.ensures c.in_ok-first-in-Both.ensures c.in_ok-second-in-Both.ensures e)

pub rebuild-requires-in-StarMore-2 : goal.rebuild-requires-in-StarMore-2
rebuild-requires-in-StarMore-2 t c =
    let f = second_falls c.args.board.now c.args.entries.now c.requires.ready c.args.place c.in-StarMore.one c.in-StarMore.other c.in-StarMore.ensures.2 in
    (omega arith, (c.requires.ready, second_room c.args.board.now c.args.entries.now c.requires.ready c.args.place c.in-StarMore.one c.in-StarMore.other (word_of c.args.word.now) _ (bound_view c.in_ok-first-in-StarMore.first) c.requires.place c.in-StarMore.ensures.2 c.in_ok-first-in-StarMore.ensures))

pub returns-in_ok-rest-in-StarMore : goal.returns-in_ok-rest-in-StarMore
returns-in_ok-rest-in-StarMore t c =
    let one = bound_view c.in_ok-first-in-StarMore.first in
    let other = bound_view c.in_ok-rest-in-StarMore.rest in
    if_ok (λ x. bound_view x ≡ StarMoreTree one other) _ c.join_star.result c.join_star.ensures
    (λ x e. star_tree c.args.board.now c.args.entries.now c.requires.ready c.args.place c.in-StarMore.one c.in-StarMore.other (word_of c.args.word.now) _ _ one other (bound_view x) c.in-StarMore.ensures c.in_ok-first-in-StarMore.ensures c.in_ok-rest-in-StarMore.ensures e)
