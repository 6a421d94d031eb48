-- What parts are held against, in the definitions.
use Rattle.std.specs.Prelude.{◌≡◌, ℕ, Bool, ◌&&◌, List}
use Rattle.pat_semantics_spec.specs.Programs.{Program, option_list}
use Rattle.pat_semantics_spec.specs.Configs.{Frame}
use Rattle.pat_semantics_spec.specs.WellFormed.{WellFormed}
use Rattle.pat_type_system_spec.specs.Typings as typings
use Rattle.pat_type_system_spec.specs.Holdings.{wanted}
use Rattle.pat_derivation_spec.specs.Validity.{IsValid}
use Rattle.pat_patterns.specs.declared.Pattern.{Pattern}
use Rattle.pat_patterns.specs.Views.{patterns_view}
use Rattle.pat_core.specs.Views.{program_view}
use Rattle.pat_derivations.specs.Views.{derivation_view}
use Rattle.pat_certificate_checks.specs.Plain.{all_plain}
use Rattle.pat_checkpoint_spec.specs.Checkpoints.{interface_at}
use Rattle.pat_checkpoint_spec.specs.Kinds.{is_frame_of_let, part_fits, types_agree}
use Rattle.pat_checkpoint_parts.specs.declared.typing.Typing.{Typing}
use Rattle.pat_checkpoint_parts.specs.declared.parts.Parts.{Parts}
use Rattle.pat_checkpoint_parts.specs.Typed.{program_in}

-- the derivation is valid, and these are its plain values
pub record CanShow (t : Typing) (plain : List Pattern) : Type 0 where
  pub well : WellFormed (program_in t)
  pub valid : IsValid (program_view t.program.now) (derivation_view t.derivation.now)
  pub plain_are : patterns_view plain ≡ all_plain (derivation_view t.derivation.now).vars

abbrev pub interfaces_in : Parts → ℕ → ℕ
interfaces_in x a = interface_at x.live.now x.interfaces.now a

-- whether the frame is that of a let, has its values, and gives what the frames below want but for the inclusion
abbrev pub frame_fits : Program → typings.Typing → (ℕ → ℕ) → Frame → List Frame → Bool
frame_fits p y interfaces f fs =
    is_frame_of_let p f && (part_fits p interfaces f.body (option_list f.var) f.env && types_agree (y.results f.body) (wanted p y fs))
