use Rattle.std.proofs.Common.{◌≡◌, get_or, []}
use Rattle.pat_inclusion_spec.specs.bounds.Tables.{IsKnown}
use Rattle.pat_grid_points.specs.Chains.{from_on}
use Rattle.pat_grid.specs.tables.Views.{setting_of}
use Rattle.pat_grid.specs.tables.Moves.{entry_at, Lists}
use Rattle.pat_grid.proofs.Relaxing.{known_listed}
use Rattle.pat_grid.proofs.Waiting.{on_ok}
use Rattle.pat_grid.proofs.tables.listing.known.Goals as goal

pub returns : goal.returns
returns c =
    let b = c.args.board.now in
    let g = setting_of b in
    let x = c.args.sizes.now in
    let numbers = c.list_from.new.numbers in
    on_ok c.list_from.result (numbers ≡ from_on c.args.from (get_or x.reached c.args.s [])) (Lists (λ n. IsKnown g.limit (entry_at g x.entries c.args.s n)) c.args.from b.points numbers)
    (λ e. known_listed b x c.args.s c.args.from numbers c.requires.board c.requires.all c.requires.lists e)
    c.list_from.ensures
