-- What the definitions see of patterns with sizes, and of parts.
use Rattle.std.specs.Prelude.{Option, List, map, option_map}
use Rattle.pat_words_spec.specs.Patterns.{Pat}
use Rattle.pat_patterns.specs.Views.{pattern_view}
use Rattle.pat_solve_bounded.specs.declared.measured.Measured.{Measured}
use Rattle.pat_solve_bounded.specs.declared.part.Part.{Part}
use Rattle.pat_solve_bounded.specs.declared.part.Part.TheVariants.{Made, Held}

abbrev pub measured_view : Measured → Pat
measured_view m = pattern_view m.pattern

-- patterns with their sizes, in order
abbrev pub measured_list : List Measured → List Pat
measured_list ms = map measured_view ms

abbrev pub part_view : Part → Pat
part_view (Made m) = measured_view m
part_view (Held m) = measured_view m.now

-- the pattern of a part, unless it is too large
abbrev pub limited_view : Option Part → Option Pat
limited_view p = option_map part_view p

-- the parts of a stack
abbrev pub parts_view : List (Option Part) → List (Option Pat)
parts_view ps = map limited_view ps
