-- What texts come to.
use Rattle.std.proofs.Common.{◌≡◌, ℕ, List, Result, Ok, Err, refl, sym, subst, inl, inr}
use Rattle.std.specs.Prelude.{IfOk}
use Rattle.pat_semantics_spec.specs.WellFormed.{WellFormed}
use Rattle.pat_parser_spec.specs.Trees.{Tree}
use Rattle.pat_resolver_spec.specs.Places.{places}
use Rattle.pat_core.specs.declared.program.Program.{Program}
use Rattle.pat_core.specs.Views.{program_view}
use Rattle.pat_resolver_heads.specs.results.Views.{places_view}
use Rattle.pat_front.specs.Texts.{IsProgramText}
use Rattle.pat_front.specs.declared.verdict.Verdict.TheVariants as verdict
use Rattle.pat_front.specs.exit_answers.Answers.{Refuses}
use Rattle.pat_front.specs.declared.exit_answers.answer.Answer.{Answer}
use Rattle.pat_typecheck.specs.declared.accepting.Unaccepted.{Unaccepted}
use Rattle.pat_typecheck.specs.declared.accepting.Unaccepted.TheVariants as unaccepted
use Rattle.pat_typecheck.specs.declared.inputs.Checked.{Checked}
use Rattle.pat_typecheck.specs.declared.inputs.Checked.TheVariants.{Accepted, Refused}
use Rattle.pat_typecheck.specs.Explains.{Explains}
use Rattle.pat_typecheck.specs.Reasons.{IsUnaccepted}
use Rattle.pat_typecheck.specs.Checks.{SaysReason, IsCheckedProgram, IsChecked}

-- a line that refuses the bytes
pub refused_text : (bytes : List ℕ) (a : Answer) → Refuses bytes a.text.items a.status → IsChecked bytes (Refused a)
refused_text bytes a (v, refusal, says) = (v, says.0, inl (refusal, says.1))

-- a line that refuses the program
pub refused_program : {E : Type 0} (p : Program) (e : Unaccepted) (r : Result Checked E) → Explains p e → IfOk r (SaysReason e) → IfOk r (IsCheckedProgram p)
refused_program p e (Err x) why says = tt
refused_program p (unaccepted.Refused r more) (Ok (Refused a)) why says = (r, more.items, why, says)
refused_program p (unaccepted.Refused r more) (Ok (Accepted q d)) why says = absurd says
refused_program p unaccepted.NoMemory (Ok (Refused a)) why says = absurd says
refused_program p unaccepted.NoMemory (Ok (Accepted q d)) why says = absurd says

-- so of the text of the program
checked_text : (bytes : List ℕ) (t : Tree) (p : Program) (c : Checked) → IsProgramText bytes t (program_view p) → WellFormed (program_view p) → places_view p ≡ places t → IsCheckedProgram p c → IsChecked bytes c
checked_text bytes t p (Accepted q d) spelled well at (same, made, typable, safe) =
    subst (λ k. IsChecked bytes (Accepted k d)) (sym same) (t, spelled, well, made, typable, safe)
checked_text bytes t p (Refused a) spelled well at (r, more, why, says) = (
  verdict.Unaccepted r,
  says.0,
  inr (
    r,
    more,
    refl,
    record { tree = t; program = program_view p; spelled = spelled; unaccepted = subst (λ q. IsUnaccepted (program_view p) q r more) at why },
    says.1,
  ),
)

pub checked_program_text : {E : Type 0} (bytes : List ℕ) (t : Tree) (p : Program) (r : Result Checked E) → IsProgramText bytes t (program_view p) → WellFormed (program_view p) → places_view p ≡ places t → IfOk r (IsCheckedProgram p) → IfOk r (IsChecked bytes)
checked_program_text bytes t p (Err e) spelled well at h = tt
checked_program_text bytes t p (Ok c) spelled well at h = checked_text bytes t p c spelled well at h
