-- Bytes have one answer.
use Rattle.std.proofs.Common.{◌≡◌, ℕ, List, Some, None, sym, ap, ◌∙◌, subst}
use Rattle.pat_semantics_spec.specs.Programs.{Program}
use Rattle.pat_semantics_spec.specs.Runs.{Outcome, EndDone, EndWaiting, EndFull, EndBudget, replay_from, outcome, step_count}
use Rattle.pat_derivation_spec.specs.Derivations.{Derivation}
use Rattle.pat_checkpoint_spec.specs.Checkpoints.{Checkpoint}
use Rattle.pat_checkpoint_input.specs.OneCheckpoint.{OneCheckpoint}
use Rattle.pat_history.specs.run_reports.RunText.{run_text}
use Rattle.pat_front.specs.declared.exit_answers.status.Status.{Status}
use Rattle.pat_command_resume.specs.Allowed.{GoesOn, EndsWith, IsResumption}
use Rattle.pat_command_resume.specs.Answers.{OneAnswer}

-- what goes on goes on in one way
one_goes : (p : Program) (d e : Derivation) (x : Checkpoint) (steps : ℕ) (out other : List ℕ) (o q : Outcome) → GoesOn p d x steps o out → GoesOn p e x steps q other → (o ≡ q) × (out ≡ other)
one_goes p d e x steps out other o q a b =
    let r = a.resumed in
    let s = b.resumed in
    let entries : a.entries ≡ b.entries = r.entries ∙ sym s.entries in
    let reached : Some a.config ≡ Some b.config = sym r.reached ∙ ap (replay_from p x.config) entries ∙ s.reached in
    let config : a.config ≡ b.config = cc in
    let ends : Some o ≡ Some q =
    sym r.ends ∙ ap (λ c. outcome p c (step_count a.entries) steps None) config ∙ ap (λ l. outcome p b.config (step_count l) steps None) entries ∙ s.ends
    in
    let same : o ≡ q = cc in (
      same,
      a.shown
          ∙ ap (λ l. run_text l a.config o) entries
          ∙ ap (λ c. run_text b.entries c o) config
          ∙ ap (run_text b.entries b.config) same
          ∙ sym b.shown,
    )

one_status : (o : Outcome) (s t : Status) → EndsWith o s → EndsWith o t → s ≡ t
one_status EndDone s t a b = a ∙ sym b
one_status EndBudget s t a b = a ∙ sym b
one_status EndWaiting s t a b = a ∙ sym b
one_status EndFull s t a b = absurd a

module _ (bytes : List ℕ) (one : OneCheckpoint bytes) where
  one_run : (steps : ℕ) (out other : List ℕ) (s t : Status) → IsResumption steps bytes out s → IsResumption steps bytes other t → (out ≡ other) × (s ≡ t)
  one_run steps out other s t a b =
      let same = one.same a.program b.program a.shown b.shown a.from b.from a.parts b.parts in
      let goes : GoesOn a.program b.shown a.from steps b.outcome other =
      subst (λ p. GoesOn p b.shown a.from steps b.outcome other) (sym same.0)
      (subst (λ x. GoesOn b.program b.shown x steps b.outcome other) (sym same.2) b.goes)
      in
      let way = one_goes a.program a.shown b.shown a.from steps out other a.outcome b.outcome a.goes goes in
      (way.1, one_status b.outcome s t (subst (λ o. EndsWith o s) way.0 a.ends) b.ends)

  pub one_answer : OneAnswer bytes
  one_answer = record {
    not_both = λ steps out s v a r. one.not_both a.program a.shown a.from v a.parts r;
    not_refused = λ v a r. one.not_both a.program a.shown a.from v a.parts r;
    one_refusal = one.one_refusal;
    one_run = one_run;
  }
