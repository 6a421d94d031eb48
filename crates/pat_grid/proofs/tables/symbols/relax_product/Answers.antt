use Rattle.std.proofs.Common.{subst, sym}
use Rattle.pat_inclusion_spec.specs.bounds.Tables.{IsKnown}
use Rattle.pat_grid.specs.tables.Views.{setting_of}
use Rattle.pat_grid.specs.tables.Moves.{entry_at, Lists}
use Rattle.pat_grid.proofs.Turns.{product_moved}
use Rattle.pat_grid.proofs.Waiting.{on_ok}
use Rattle.pat_grid.proofs.tables.symbols.relax_product.Goals as goal

pub returns : goal.returns
returns c =
    let b = c.args.board.now in
    let g = setting_of b in
    on_ok _ _ _
    (λ m. product_moved b c.requires.board c.args.s c.args.sizes.now c.args.changed.now c.args.parts.0 c.args.parts.1 c.as_slice.result.now c.as_slice-2.result.now c.relax_either.new.sizes c.relax_either.new.changed c.requires.symbol
    (subst (Lists (λ i. IsKnown g.limit (entry_at g c.args.sizes.now.entries c.args.parts.0 i)) 0 b.points) (sym c.as_slice.ensures) c.in_ok-known.ensures)
    (subst (Lists (λ i. IsKnown g.limit (entry_at g c.args.sizes.now.entries c.args.parts.1 i)) 0 b.points) (sym c.as_slice-2.ensures) c.in_ok-known-2.ensures)
    m)
    c.relax_either.ensures
