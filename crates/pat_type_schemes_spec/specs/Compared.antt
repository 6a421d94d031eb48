-- Tests whether polarities and usages are the same.
use Rattle.std.specs.Prelude.{Bool, true, false, not, ◌||◌}
use Rattle.pat_type_system_spec.specs.Programs.{Polarity, Sending, Receiving}
use Rattle.pat_type_system_spec.specs.Types.{Usage, Second, Returnable}

-- whether the polarity is that of receiving
abbrev pub is_receiver : Polarity → Bool
is_receiver Sending = false
is_receiver Receiving = true

-- whether the two polarities are the same
abbrev pub polarity_eq : Polarity → Polarity → Bool
polarity_eq Sending q = not (is_receiver q)
polarity_eq Receiving q = is_receiver q

-- whether the usage is second-class
abbrev pub is_second : Usage → Bool
is_second Second = true
is_second Returnable = false

-- whether the first usage may stand for the second: a returnable mailbox may stand for a second-class one, and not the other way round
abbrev pub usage_fits : Usage → Usage → Bool
usage_fits u v = not (is_second u) || is_second v
