use Rattle.std.proofs.Common.{subst, sym}
use Rattle.pat_grid.specs.tables.Views.{setting_of}
use Rattle.pat_counterexample_search.specs.Choices.{ArePair}
use Rattle.pat_counterexample_search.proofs.Steps.{product_none}
use Rattle.pat_counterexample_search.proofs.choosing.choose_product.Goals as goal

pub unreachable-requires : goal.unreachable-requires
unreachable-requires c =
    let b = c.args.board.now in
    product_none b c.requires.board c.args.entries.now c.args.place c.requires.step c.args.first c.args.second c.requires.symbol
    (λ i j l h. c.in-None.ensures.none i j l
    (subst (λ n. ArePair (setting_of b) c.args.entries.now c.args.place.number n c.args.first i c.args.second j) (sym c.entry-size.ensures) h))
