use Rattle.std.proofs.Common.{ap, ◌∙◌, refl}
use Rattle.pat_patterns.specs.Views.{patterns_view}
use Rattle.pat_grid_points.specs.symbols.Views.{symbols_view}
use Rattle.pat_grid.proofs.Meaning.{least_board, least_point, least_count, least_like}
use Rattle.pat_grid.proofs.grids.least.Goals as goal

pub least_sizes-requires : goal.least_sizes-requires
least_sizes-requires c =
    least_board _ (patterns_view c.args.system.now) c.requires.fits c.requires.tags c.count_points.ensures refl refl
    (ap symbols_view c.as_slice.ensures ∙ c.in_ok-lay_out_all.ensures.symbols)

pub returns-clause-count : goal.returns-clause-count
returns-clause-count c =
    least_count _ c.in_ok-entries.entries c.in_ok-grids.grids c.args.system.now c.in_ok-grids.ensures (c.as_slice-2.ensures ∙ c.in_ok-lay_out_all.ensures.roots)

pub returns-clause-like : goal.returns-clause-like
returns-clause-like c = least_like _ c.in_ok-entries.entries c.in_ok-grids.grids c.in_ok-grids.ensures

pub returns-clause-points : goal.returns-clause-points
returns-clause-points c =
    least_point _ (patterns_view c.args.system.now) c.in_ok-entries.entries c.in_ok-entries.entries c.in_ok-grids.grids c.in_ok-grids.ensures refl c.count_points.ensures c.in_ok-entries.ensures.done
    (ap symbols_view c.as_slice.ensures ∙ c.in_ok-lay_out_all.ensures.symbols)
    (c.as_slice-2.ensures ∙ c.in_ok-lay_out_all.ensures.roots)
