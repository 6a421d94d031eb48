-- Derivations that a text can spell: interfaces are there, patterns are of their interfaces, values are ones that variables may have,
-- environments are in order, and no number and no pattern is too large.
use Rattle.std.specs.Prelude.{ℕ, Bool, true, ◌&&◌, nat_lt, nat_le, List, length}
use Rattle.std.specs.List.{list_all}
use Rattle.pat_words_spec.specs.Patterns.{Pat, Sum, Prod, Star, Var}
use Rattle.pat_words_spec.specs.Sizes.{levels_of}
use Rattle.pat_type_system_spec.specs.Programs.{Program}
use Rattle.pat_words_spec.specs.Tags.{tags_below}
use Rattle.pat_type_system_spec.specs.Types.{MailboxType, TypeOf, BaseTerm, MailboxTerm}
use Rattle.pat_type_schemes_spec.specs.Covers.{CoverEntry}
use Rattle.pat_type_schemes_spec.specs.Values.{VarValue, PatternForm, GridForm, VarLine, value_fits}
use Rattle.pat_type_schemes_spec.specs.Certificates.{Cert, CoverCert, GridCert}
use Rattle.pat_derivation_spec.specs.Derivations.{Line, Derivation, ascends_from, scope_of}
use Rattle.pat_limits.specs.Limits.{most_levels, most_number}

-- the number is one that a text may have
abbrev pub is_number : ℕ → Bool
is_number n = nat_le n most_number

abbrev pub are_numbers : List ℕ → Bool
are_numbers ns = list_all is_number ns

-- the numbers of the pattern's variables are ones that a text may have
abbrev pub has_numbers : Pat → Bool
has_numbers (Var k) = is_number k
has_numbers (Sum e f) = has_numbers e && has_numbers f
has_numbers (Prod e f) = has_numbers e && has_numbers f
has_numbers (Star e) = has_numbers e
has_numbers _ = true

-- no more levels than a reader takes
abbrev pub is_shallow : Pat → Bool
is_shallow e = nat_le (levels_of e) most_levels

-- the interface is there, and the pattern's tags are its
abbrev pub spells_pattern : Program → Derivation → ℕ → Pat → Bool
spells_pattern p d i e =
    nat_lt i (length p.interfaces) && (tags_below ((scope_of p d).tags i) e && (has_numbers e && is_shallow e))

-- the numbers and the levels of a value
abbrev pub is_plain_value : VarValue → Bool
is_plain_value (PatternForm e) = is_shallow e
is_plain_value (GridForm k points) = is_number k && list_all are_numbers points

abbrev pub spells_var : Program → Derivation → VarLine → Bool
spells_var p d v =
    nat_lt v.interface (length p.interfaces) && (value_fits ((scope_of p d).tags v.interface) v.value && is_plain_value v.value)

abbrev pub spells_type : Program → Derivation → TypeOf → Bool
spells_type p d (BaseTerm b) = true
spells_type p d (MailboxTerm i q e) = spells_pattern p d i e

abbrev pub spells_named : Program → Derivation → ℕ × MailboxType → Bool
spells_named p d e = is_number e.0 && spells_pattern p d e.1.interface e.1.pattern

abbrev pub spells_entry : CoverEntry → Bool
spells_entry c = is_number c.set && (are_numbers c.base && list_all are_numbers c.periods)

abbrev pub spells_cert : Cert → Bool
spells_cert (CoverCert entries) = list_all spells_entry entries
spells_cert (GridCert k) = is_number k

abbrev pub spells_line : Program → Derivation → Line → Bool
spells_line p d l =
    spells_type p d l.of.result && (ascends_from 0 l.of.needs && (list_all (spells_named p d) l.of.needs && list_all spells_cert l.certs))

-- a text can spell the derivation, and a reader takes it
abbrev pub can_be_spelled : Program → Derivation → Bool
can_be_spelled p d = list_all (spells_var p d) d.vars && list_all (spells_line p d) d.lines
