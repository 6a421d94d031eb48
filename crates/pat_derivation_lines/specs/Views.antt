-- Parts of a text as the definitions see them.
use Rattle.std.specs.Prelude.{ℕ, List, Option, option_map}
use Rattle.std.specs.Borrow.{Bor}
use Rattle.pat_words_spec.specs.Patterns.{Pat}
use Rattle.pat_semantics_spec.specs.Programs as programs
use Rattle.pat_type_system_spec.specs.Types as types
use Rattle.pat_patterns.specs.Views.{pattern_view}
use Rattle.pat_primitives.specs.declared.Polarity.{Polarity}
use Rattle.pat_primitives.specs.Views.{polarity_view}
use Rattle.pat_core.specs.declared.program.Interface.{Interface}
use Rattle.pat_derivation_lines.specs.patterns.Views.{names_of}
use Rattle.pat_types.specs.declared.types.Usage.{Usage}
use Rattle.pat_types.specs.Views.{usage_view}
use Rattle.pat_derivation_lines.specs.declared.types.Mailbox.{Mailbox}

-- a mailbox type without its usage
abbrev pub mailbox_view : Mailbox → ℕ × programs.Polarity × Pat
mailbox_view m = (m.interface, polarity_view m.polarity, pattern_view m.pattern)

-- what stands before a polarity, which, and what behind it
abbrev pub cut_view : Option (Bor (List ℕ) × Polarity × Bor (List ℕ)) → Option (List ℕ × programs.Polarity × List ℕ)
cut_view o = option_map (λ r. (r.0.now, polarity_view r.1, r.2.now)) o

-- what stands before a usage, and which
abbrev pub used_view : Option (Bor (List ℕ) × Usage) → Option (List ℕ × types.Usage)
used_view o = option_map (λ r. (r.0.now, usage_view r.1)) o

-- an interface that was found: its place, and the names of its tags
abbrev pub found_view : Option (ℕ × Bor Interface) → Option (ℕ × List (List ℕ))
found_view o = option_map (λ r. (r.0, names_of r.1.now.tags)) o
