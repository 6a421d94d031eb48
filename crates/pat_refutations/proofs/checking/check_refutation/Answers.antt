use Rattle.std.proofs.Common.{◌≡◌, Some}
use Rattle.pat_words_spec.specs.Patterns.{In}
use Rattle.pat_bags.specs.Views.{word_of}
use Rattle.pat_patterns.specs.Views.{pattern_view, patterns_view}
use Rattle.pat_inclusion_spec.specs.bounds.Trees.{bounds_of, tree_word, Shows}
use Rattle.pat_witnesses.specs.Views.{bound_view}
use Rattle.pat_refutations.proofs.Walks.{not_shown, outside}
use Rattle.pat_refutations.proofs.checking.check_refutation.Goals as goal

pub returns-then-not-branch : goal.returns-then-not-branch
returns-then-not-branch c =
    let lower = bounds_of (patterns_view c.args.system.now) in
    let tree = bound_view c.args.refutation.now.tree in
    let left = pattern_view c.args.left.now in
    let word = word_of c.args.refutation.now.word in
    not_shown c.in_ok-shows.field-0 (tree_word lower tree left ≡ Some word) (Shows lower tree left word) (In (pattern_view c.args.right.now) word → ⊥)
    c.if-not-branch.true
    c.in_ok-shows.ensures
    (c.derivable_laws.ensures.words lower tree left word)

pub returns : goal.returns
returns c =
    let lower = bounds_of (patterns_view c.args.system.now) in
    let tree = bound_view c.args.refutation.now.tree in
    let left = pattern_view c.args.left.now in
    let word = word_of c.args.refutation.now.word in
    outside c.in_ok-shows.field-0 c.in_ok-inside.inside (tree_word lower tree left ≡ Some word) (Shows lower tree left word) (In (pattern_view c.args.right.now) word)
    c.if-not-branch.false
    c.in_ok-shows.ensures
    (c.derivable_laws.ensures.words lower tree left word)
    c.in_ok-inside.ensures
