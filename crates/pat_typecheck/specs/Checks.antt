-- What the code comes to.
use Rattle.std.specs.Prelude.{◌≡◌, ℕ, List}
use Rattle.pat_semantics_spec.specs.Faults.{IsSafe}
use Rattle.pat_semantics_spec.specs.WellFormed.{WellFormed}
use Rattle.pat_type_system_spec.specs.Typings.{IsTypable}
use Rattle.pat_parser_spec.specs.Trees.{Tree}
use Rattle.pat_core.specs.declared.program.Program.{Program}
use Rattle.pat_core.specs.Views.{program_view}
use Rattle.pat_derivations.specs.Views.{derivation_view}
use Rattle.pat_resolver_heads.specs.results.Views.{places_view}
use Rattle.pat_front.specs.Texts.{IsProgramText}
use Rattle.pat_front.specs.declared.reason.Reason.{Reason}
use Rattle.pat_front.specs.declared.verdict.Verdict.{Verdict}
use Rattle.pat_front.specs.declared.verdict.Verdict.TheVariants as verdict
use Rattle.pat_front.specs.exit_answers.Answers.{SaysVerdictWith}
use Rattle.pat_front.specs.declared.exit_answers.status.Status.TheVariants as status
use Rattle.pat_typecheck.specs.declared.accepting.Unaccepted.{Unaccepted}
use Rattle.pat_typecheck.specs.declared.accepting.Unaccepted.TheVariants as unaccepted
use Rattle.pat_typecheck.specs.declared.inputs.Checked.{Checked}
use Rattle.pat_typecheck.specs.declared.inputs.Checked.TheVariants.{Accepted, Refused}
use Rattle.pat_typecheck.specs.Reasons.{IsMade, IsUnaccepted}
use Rattle.pat_typecheck.specs.Inputs.{IsCheckRefusal}

-- the line says the reason, and what is behind it
abbrev pub SaysReason : Unaccepted → Checked → Type 0
SaysReason (unaccepted.Refused r more) (Refused a) = SaysVerdictWith (verdict.Unaccepted r) more.items a.text.items a.status
SaysReason _ _ = ⊥

-- the program is accepted with this derivation, or the line refuses it
abbrev pub IsCheckedProgram : Program → Checked → Type 0
IsCheckedProgram program (Accepted p d) =
    (p ≡ program) × IsMade (program_view program) (derivation_view d) × IsTypable (program_view program) × IsSafe (program_view program)
IsCheckedProgram program (Refused a) =
    (r : Reason) × (more : List ℕ) × IsUnaccepted (program_view program) (places_view program) r more × SaysVerdictWith (verdict.Unaccepted r) more a.text.items a.status

-- the bytes are the text of the program, which is accepted with this derivation; or the line refuses them
abbrev pub IsChecked : List ℕ → Checked → Type 0
IsChecked bytes (Accepted p d) =
    (t : Tree)
    × IsProgramText bytes t (program_view p)
    × WellFormed (program_view p)
    × IsMade (program_view p) (derivation_view d)
    × IsTypable (program_view p)
    × IsSafe (program_view p)
IsChecked bytes (Refused a) = (v : Verdict) × (a.status ≡ status.Refused v) × IsCheckRefusal bytes v a.text.items
