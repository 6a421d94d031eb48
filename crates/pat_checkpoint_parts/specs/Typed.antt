-- What a program with its types is in the definitions.
use Rattle.pat_semantics_spec.specs.Programs.{Program}
use Rattle.pat_inclusion_spec.specs.Values.{Scope}
use Rattle.pat_type_system_spec.specs.Typings as typings
use Rattle.pat_derivation_spec.specs.Derivations.{written_typing, scope_of}
use Rattle.pat_core.specs.Views.{program_view}
use Rattle.pat_derivations.specs.Views.{derivation_view}
use Rattle.pat_checkpoint_parts.specs.declared.typing.Typing.{Typing}

abbrev pub program_in : Typing → Program
program_in t = program_view t.program.now

-- the typing that the derivation gives, as it is written
abbrev pub typing_in : Typing → typings.Typing
typing_in t = written_typing (program_view t.program.now) (derivation_view t.derivation.now)

abbrev pub scope_in : Typing → Scope
scope_in t = scope_of (program_view t.program.now) (derivation_view t.derivation.now)
