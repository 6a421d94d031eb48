-- What the ends of terms give besides a state.
use Rattle.std.specs.Prelude.{List, Result, Ok}
use Rattle.pat_parser_spec.specs.Trees.{Term as AnyTerm}
use Rattle.pat_parser_spec.specs.Machine as m

-- what stands below a term, and the term
abbrev pub standing : List m.Frame → AnyTerm → Result (List m.Frame × AnyTerm) m.Fault
standing fs x = Ok (fs, x)
