-- Derivations that a reader takes: a text can spell them, each point of a grid is written out for all tags, and lines have numbers.
use Rattle.std.specs.Prelude.{Bool, true, ◌&&◌, nat_eq, nat_le, length}
use Rattle.std.specs.List.{list_all}
use Rattle.pat_semantics_spec.specs.Programs.{Program}
use Rattle.pat_inclusion_spec.specs.Values.{VarValue, PatternForm, GridForm}
use Rattle.pat_derivation_spec.specs.Derivations.{Derivation}
use Rattle.pat_derivation_spec.specs.Spelled.{is_number, can_be_spelled}
use Rattle.pat_limits.specs.Limits.{number_count}

-- each point has a count for every tag that an interface may have: those of the interface's tags are written, the others are zero
abbrev pub has_whole_points : VarValue → Bool
has_whole_points (PatternForm e) = true
has_whole_points (GridForm k points) = list_all (λ q. nat_eq (length q) 32) points

-- variables are numbered from 1, and nodes from 0
abbrev pub lines_have_numbers : Derivation → Bool
lines_have_numbers d = is_number (length d.vars) && nat_le (length d.lines) number_count

abbrev pub can_be_read : Program → Derivation → Bool
can_be_read p d = can_be_spelled p d && (list_all (λ v. has_whole_points v.value) d.vars && lines_have_numbers d)
