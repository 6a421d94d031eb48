-- What parts of an answer allow.
use Rattle.std.proofs.Common.{◌≡◌, ◌≤◌, ◌+◌, ℕ, List, length, take, Result, Ok as Done, Err as Failed, sym, subst, inl, inr}
use Rattle.std.specs.Prelude.{IfOk}
use Rattle.std.proofs.lemmas.List.{length-take-le}
use Rattle.pat_semantics_spec.specs.Programs.{Program}
use Rattle.pat_semantics_spec.specs.Faults.{IsSafe}
use Rattle.pat_derivation_spec.specs.Validity.{IsValid}
use Rattle.pat_derivation_spec.specs.Derivations.{Derivation}
use Rattle.pat_derivation_text_spec.specs.DerivationText.{marker}
use Rattle.pat_derivation_text_spec.specs.Reading.{ReadsAs, Unread}
use Rattle.pat_input_split.specs.program_with_text.MarkedPrograms.{HasProgram, IsMarkedRefusal}
use Rattle.pat_front.specs.declared.verdict.Verdict.{Verdict}
use Rattle.pat_front.specs.declared.verdict.Verdict.TheVariants as verdict
use Rattle.pat_front.specs.exit_answers.Answers.{SaysAccepted, SaysVerdict}
use Rattle.pat_front.specs.declared.exit_answers.answer.Answer.{Answer}
use Rattle.pat_front.specs.declared.exit_answers.status.Status.{Status}
use Rattle.pat_front.specs.declared.exit_answers.status.Status.TheVariants.{Ok, Refused, Usage, ReadFault, WriteFault, NoMemory, Budget, Waiting, Full}
use Rattle.pat_command_verify.specs.Allowed.{AllowedVerify, AnswersText, AnswersJudged}

-- ---- whole inputs

module _ (bytes : List ℕ) where
  of_text : (front text : List ℕ) (p : Program) → HasProgram marker bytes front text p → (out : List ℕ) (s : Status) → AnswersText p (length front) text out s → AllowedVerify bytes out s
  of_text front text p has out Ok a = (record { front = front; text = text; program = p; has = has; valid = a.0 }, a.1)
  of_text front text p has out (Refused v) a = (inr (record { front = front; text = text; program = p; has = has; unaccepted = a.0 }), a.1)
  of_text front text p has out Usage a = absurd a
  of_text front text p has out ReadFault a = absurd a
  of_text front text p has out WriteFault a = absurd a
  of_text front text p has out NoMemory a = absurd a
  of_text front text p has out Budget a = absurd a
  of_text front text p has out Waiting a = absurd a
  of_text front text p has out Full a = absurd a

  pub answered : {E : Type 0} (at : ℕ) (text : List ℕ) (p : Program) (r : Result Answer E) → HasProgram marker bytes (take at bytes) text p → at ≤ length bytes → IfOk r (λ a. AnswersText p at text a.text.items a.status) → IfOk r (λ a. AllowedVerify bytes a.text.items a.status)
  answered at text p (Failed e) has within h = tt
  answered at text p (Done a) has within h =
      of_text (take at bytes) text p has a.text.items a.status (subst (λ n. AnswersText p n text a.text.items a.status) (sym (length-take-le at bytes within)) h)

  pub refused : {E : Type 0} (v : Verdict) (r : Result Answer E) → IsMarkedRefusal marker bytes v → IfOk r (λ a. SaysVerdict v a.text.items a.status) → IfOk r (λ a. AllowedVerify bytes a.text.items a.status)
  refused v (Failed e) why says = tt
  refused v (Done a) why says = subst (λ k. AllowedVerify bytes a.text.items k) (sym says.0) (inl why, says.1)

-- ---- texts

-- what is answered of the derivation that the text spells
pub judged_answered : {E : Type 0} (p : Program) (from : ℕ) (text : List ℕ) (d : Derivation) (r : Result Answer E) → ReadsAs p text d → IfOk r (λ a. AnswersJudged p d a.text.items a.status) → IfOk r (λ a. AnswersText p from text a.text.items a.status)
judged_answered p from text d (Failed e) read h = tt
judged_answered p from text d (Done a) read h = go a.status h
  where
    by_verdict : (v : Verdict) → AnswersJudged p d a.text.items (Refused v) → AnswersText p from text a.text.items (Refused v)
    by_verdict (verdict.Rejected n rule) k = ((d, read, k.0), k.1)
    by_verdict verdict.TooLong k = absurd k
    by_verdict (verdict.Syntax o) k = absurd k
    by_verdict (verdict.NumberTooWide o) k = absurd k
    by_verdict (verdict.TooDeep o) k = absurd k
    by_verdict (verdict.Resolve w s) k = absurd k
    by_verdict (verdict.BadText o) k = absurd k
    by_verdict (verdict.RefusedAt i) k = absurd k
    by_verdict verdict.TooManyEntries k = absurd k
    by_verdict (verdict.Unshown line) k = absurd k
    by_verdict (verdict.BadCheckpoint rule) k = absurd k
    by_verdict (verdict.Unaccepted reason) k = absurd k

    go : (s : Status) → AnswersJudged p d a.text.items s → AnswersText p from text a.text.items s
    go Ok k = (record { derivation = d; read = read; valid = k.0; safe = k.1 }, k.2)
    go (Refused v) k = by_verdict v k
    go Usage k = absurd k
    go ReadFault k = absurd k
    go WriteFault k = absurd k
    go NoMemory k = absurd k
    go Budget k = absurd k
    go Waiting k = absurd k
    go Full k = absurd k

-- a valid derivation is accepted
pub accepted_judged : {E : Type 0} (p : Program) (d : Derivation) (r : Result Answer E) → IsValid p d → IsSafe p → IfOk r (λ a. SaysAccepted a.text.items a.status) → IfOk r (λ a. AnswersJudged p d a.text.items a.status)
accepted_judged p d (Done a) valid safe says = subst (λ k. AnswersJudged p d a.text.items k) (sym says.0) (valid, safe, says.1)
accepted_judged p d (Failed e) valid safe says = tt

-- a line that isn't read
pub unread_answered : {E : Type 0} (p : Program) (from : ℕ) (text : List ℕ) (o : ℕ) (r : Result Answer E) → ((offset : ℕ) × (o ≡ from + offset) × Unread p text offset) → IfOk r (λ a. SaysVerdict (verdict.BadText o) a.text.items a.status) → IfOk r (λ a. AnswersText p from text a.text.items a.status)
unread_answered p from text o (Done a) why says = subst (λ k. AnswersText p from text a.text.items k) (sym says.0) (why, says.1)
unread_answered p from text o (Failed e) why says = tt
