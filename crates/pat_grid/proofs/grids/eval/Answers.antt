use Rattle.std.proofs.Common.{ap, ◌∙◌, refl}
use Rattle.pat_patterns.specs.Views.{pattern_view}
use Rattle.pat_inclusion_spec.specs.bounds.Symbols.{GivenSymbol}
use Rattle.pat_inclusion_spec.specs.bounds.Layouts.{laid, last_of}
use Rattle.pat_grid_points.specs.symbols.Views.{symbols_view}
use Rattle.pat_grid.proofs.Meaning.{eval_board, eval_point}
use Rattle.pat_grid.proofs.grids.eval.Goals as goal

pub least_sizes-requires : goal.least_sizes-requires
least_sizes-requires c =
    let e = pattern_view c.args.p.now in
    eval_board _ e c.requires.fits c.requires.tags c.requires.grids c.count_points.ensures refl refl
    (ap symbols_view c.as_slice.ensures ∙ c.in_ok-root.ensures.symbols ∙ ap (λ ys. laid GivenSymbol (symbols_view ys) e) c.new-symbols.ensures)

pub returns-clause-points : goal.returns-clause-points
returns-clause-points c =
    let e = pattern_view c.args.p.now in
    eval_point _ e c.in_ok-entries.entries c.in_ok-entries.entries c.in_ok-root.root c.in_ok-grid.grid c.in_ok-grid.ensures refl c.count_points.ensures c.in_ok-entries.ensures.done
    (ap symbols_view c.as_slice.ensures ∙ c.in_ok-root.ensures.symbols ∙ ap (λ ys. laid GivenSymbol (symbols_view ys) e) c.new-symbols.ensures)
    (c.in_ok-root.ensures.last ∙ ap (λ ys. last_of (laid GivenSymbol (symbols_view ys) e)) c.new-symbols.ensures)
