-- What is read so far, as the definitions see it.
use Rattle.std.specs.Prelude.{ℕ, List, map}
use Rattle.pat_patterns.specs.Views.{pattern_view}
use Rattle.pat_core.specs.declared.program.TagDecl.{TagDecl}
use Rattle.pat_derivation_text_spec.specs.patterns.PatternReading as reading
use Rattle.pat_derivation_lines.specs.declared.patterns.parts.Op.{Op}
use Rattle.pat_derivation_lines.specs.declared.patterns.parts.Op.TheVariants as op
use Rattle.pat_derivation_lines.specs.declared.patterns.parts.Part.{Part}
use Rattle.pat_derivation_lines.specs.declared.patterns.parts.Stage.{Stage}

-- the names of tags
abbrev pub names_of : List TagDecl → List (List ℕ)
names_of tags = map (λ t. t.name) tags

abbrev pub op_view : Op → reading.Op
op_view op.Star = reading.Stars
op_view op.Open = reading.Opens
op_view op.Sum = reading.Sums
op_view op.Product = reading.Prods

abbrev pub ops_view : List Op → List reading.Op
ops_view ops = map op_view ops

abbrev pub part_view : Part → reading.Part
part_view p = record { pattern = pattern_view p.pattern; levels = p.levels; bracketed = p.bracketed }

abbrev pub parts_view : List Part → List reading.Part
parts_view ps = map part_view ps

abbrev pub stage_view : Stage → reading.Stage
stage_view s = record { wants = s.wants; ops = ops_view s.ops; parts = parts_view s.parts }
