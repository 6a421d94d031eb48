use Rattle.std.proofs.Common.{◌≡◌, length, [], ◌∷◌}
use Rattle.pat_patterns.specs.Views.{pattern_view}
use Rattle.pat_inclusion_spec.specs.bounds.Layouts.{laid, last_of}
use Rattle.pat_grid_points.specs.symbols.Views.{symbols_view, var_symbol}
use Rattle.pat_grid_points.specs.symbols.Laying.{lay}
use Rattle.pat_grid_points.proofs.symbols.laying.lay_out.Given as goal

abbrev pub invariant-loop-head : goal.invariant-loop-head
invariant-loop-head l =
    let whole = laid (var_symbol l.role) (symbols_view l.initial.symbols) (pattern_view l.p) in
    lay (var_symbol l.role) l.heads (symbols_view l.symbols) l.numbers ≡ (whole, last_of whole ∷ [])

abbrev pub decreases-loop-head : goal.decreases-loop-head
decreases-loop-head l = length l.heads
