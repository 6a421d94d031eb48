use Rattle.std.proofs.Common.{subst, sym}
use Rattle.pat_grid.specs.tables.Views.{setting_of}
use Rattle.pat_counterexample_search.specs.Choices.{ArePair}
use Rattle.pat_counterexample_search.proofs.Steps.{end_chosen, more_chosen}
use Rattle.pat_counterexample_search.proofs.choosing.choose_star.Goals as goal

pub returns-in-Some : goal.returns-in-Some
returns-in-Some c =
    let b = c.args.board.now in
    let h = c.in-Some.ensures.some in
    more_chosen b c.requires.board c.args.entries.now c.args.place c.requires.step c.args.part c.in-Some.one c.in-Some.other c.requires.symbol h.0
    (subst (λ n. ArePair (setting_of b) c.args.entries.now c.args.place.number n c.args.part c.in-Some.one c.args.place.symbol c.in-Some.other) c.entry-size.ensures h.1)

pub returns-in-None : goal.returns-in-None
returns-in-None c =
    let b = c.args.board.now in
    end_chosen b c.requires.board c.args.entries.now c.args.place c.requires.step c.args.part c.requires.symbol
    (λ i j l h. c.in-None.ensures.none i j l
    (subst (λ n. ArePair (setting_of b) c.args.entries.now c.args.place.number n c.args.part i c.args.place.symbol j) (sym c.entry-size.ensures) h))
