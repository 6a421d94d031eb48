use Rattle.pat_patterns.specs.Views.{pattern_view}
use Rattle.pat_grid_certificates.specs.Shows.{WordsLie}
use Rattle.pat_grid_certificates.proofs.Meaning.{found_at, grids_like, tags_like, one_lies, none_there}
use Rattle.pat_grid_certificates.proofs.check.words_lie_in_one.Goals as goal

pub words_lie_in-requires-clause-tags : goal.words_lie_in-requires-clause-tags
words_lie_in-requires-clause-tags c =
    let own = c.index-grids-place.result in
    tags_like c.args.tags (pattern_view c.args.p.now) own c.requires.tags (c.requires.grids c.args.place own (found_at c.args.grids.now c.args.place own c.if-place-grids.true c.index-grids-place.is)).1

pub words_lie_in-requires-clause-grids : goal.words_lie_in-requires-clause-grids
words_lie_in-requires-clause-grids c =
    let own = c.index-grids-place.result in
    grids_like c.args.k c.args.tags c.args.grids.now own c.requires.grids (c.requires.grids c.args.place own (found_at c.args.grids.now c.args.place own c.if-place-grids.true c.index-grids-place.is))

pub returns-then-place-grids : goal.returns-then-place-grids
returns-then-place-grids c =
    one_lies (λ x. WordsLie c.args.grids.now (pattern_view c.args.p.now) x) c.args.grids.now c.args.place c.index-grids-place.result c.words_lie_in.result c.if-place-grids.true c.index-grids-place.is c.words_lie_in.ensures

pub returns-else-place-grids : goal.returns-else-place-grids
returns-else-place-grids c =
    none_there (λ x. WordsLie c.args.grids.now (pattern_view c.args.p.now) x) c.args.grids.now c.args.place c.if-place-grids.false
