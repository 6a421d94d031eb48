-- Symbols as the definitions see them.
use Rattle.std.specs.Prelude.{ℕ, List, map}
use Rattle.pat_inclusion_spec.specs.bounds.Symbols.{Symbol, NoSymbol, OneSymbol, TagSymbol, SumSymbol, ProdSymbol, StarSymbol, LowerSymbol, GivenSymbol}
use Rattle.pat_grid_points.specs.declared.symbols.symbol.Symbol.{Symbol as CodeSymbol}
use Rattle.pat_grid_points.specs.declared.symbols.symbol.Symbol.TheVariants.{Zero, One, Tag, Sum, Prod, Star, Lower, Given}
use Rattle.pat_grid_points.specs.declared.symbols.symbol.Role.{Role}
use Rattle.pat_grid_points.specs.declared.symbols.symbol.Role.TheVariants.{Lower as LowerRole, Given as GivenRole}

abbrev pub symbol_view : CodeSymbol → Symbol
symbol_view Zero = NoSymbol
symbol_view One = OneSymbol
symbol_view (Tag m) = TagSymbol m
symbol_view (Sum a b) = SumSymbol a b
symbol_view (Prod a b) = ProdSymbol a b
symbol_view (Star a) = StarSymbol a
symbol_view (Lower k) = LowerSymbol k
symbol_view (Given k) = GivenSymbol k

abbrev pub symbols_view : List CodeSymbol → List Symbol
symbols_view symbols = map symbol_view symbols

-- the symbol of a variable in this role
abbrev pub var_symbol : Role → ℕ → Symbol
var_symbol LowerRole k = LowerSymbol k
var_symbol GivenRole k = GivenSymbol k
