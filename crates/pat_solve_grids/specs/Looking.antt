-- Symbols that are looked for.
use Rattle.std.specs.Prelude.{◌≡◌, List, Some, slice_get}
use Rattle.pat_grid_points.specs.declared.symbols.symbol.Symbol.{Symbol}
use Rattle.pat_solve_grids.specs.declared.shared.Looked.{Looked}
use Rattle.pat_solve_grids.specs.declared.shared.Looked.TheVariants.{Found, Missing}

-- where the symbol is found, it stands
abbrev pub IsLooked : List Symbol → Symbol → Looked → Type 0
IsLooked symbols y (Found s) = slice_get symbols s ≡ Some y
IsLooked symbols y (Missing slot) = Unit {0}
