-- What a run that goes on from a checked checkpoint is.
use Rattle.std.proofs.Common.{◌≡◌, ℕ, ◌<◌, ◌≤◌, List, [], ◌∷◌, length, map, Option, Some, None, Result, Ok as Done, Err as Failed, sym, subst, arith}
use Rattle.std.specs.Prelude.{◌≢◌, IfOk, option_and_then}
use Rattle.std.proofs.lemmas.List.{length-map}
use Rattle.pat_semantics_spec.specs.Programs.{Program}
use Rattle.pat_semantics_spec.specs.WellFormed.{WellFormed}
use Rattle.pat_semantics_spec.specs.Configs.{Config}
use Rattle.pat_semantics_spec.specs.Steps.{Step}
use Rattle.pat_semantics_spec.specs.Runs.{Entry, IsHistory, Outcome, EndFull, entry_steps, entry_from, replay_from, step_count, outcome}
use Rattle.pat_semantics_laws.specs.Laws.{OutcomeIsExact}
use Rattle.pat_derivation_spec.specs.Derivations.{Derivation}
use Rattle.pat_reduce.specs.declared.history.Entry.{Entry as CodeEntry}
use Rattle.pat_reduce.specs.Views.{config_view, entry_view}
use Rattle.pat_history.specs.run_reports.Gives.{outcome_view}
use Rattle.pat_checkpoint_spec.specs.Checkpoints.{Checkpoint}
use Rattle.pat_checkpoint_spec.specs.Checked.{IsChecked}
use Rattle.pat_checkpoint_spec.specs.Resumed.{IsResumed}
use Rattle.pat_checkpoint_spec.specs.Turns.{turns}
use Rattle.pat_checkpoint_laws.specs.Laws.{CheckedIsTyped}
use Rattle.pat_checkpoint_laws.specs.resuming.Laws.{TurnsReach, TurnsEnd}
use Rattle.pat_checkpoint_run.specs.declared.resumed.Resumed.{Resumed}
use Rattle.pat_front.specs.declared.exit_answers.answer.Answer.{Answer}
use Rattle.pat_command_resume.specs.Gives.{TellsOf, ShowsFrom}
use Rattle.pat_limits.specs.Limits.{most_steps, number_count}

-- `run` owes this of its own histories; commands know nothing of one another.

-- each entry of a history that replays has a step
some_step : (p : Program) (c d : Config) (es : List Entry) (ks : List Step) → option_and_then (λ m. replay_from p m es) (entry_from p c ks) ≡ Some d → 0 < length ks
some_step p c d es [] h = let clash : None ≡ Some d = h in cc
some_step p c d es (k ∷ ks) h = omega arith

record Goes (p : Program) (es : List Entry) (d : Config) : Type 0 where
  from : Config
  is : replay_from p from es ≡ Some d

goes : (p : Program) (d : Config) (es : List Entry) (o : Option Config) → option_and_then (λ m. replay_from p m es) o ≡ Some d → Goes p es d
goes p d es None h = let clash : None ≡ Some d = h in absurd cc
goes p d es (Some m) h = record { from = m; is = h }

entries_few : (p : Program) (c d : Config) (es : List Entry) → replay_from p c es ≡ Some d → length es ≤ step_count es
entries_few p c d [] h = omega arith
entries_few p c d (e ∷ es) h =
    let more = goes p d es (entry_from p c (entry_steps e)) h in
    let some = some_step p c d es (entry_steps e) h in
    let others = entries_few p more.from d es more.is in
    omega (arith, some, others)

module _ (p : Program) (d : Derivation) (x : Checkpoint) (steps : ℕ) where
  module _ (ends : TurnsEnd) (typed : CheckedIsTyped) (w : WellFormed p) (k : IsChecked p d x) where
    reach : TurnsReach p x.config steps (turns p x.config steps)
    reach = let own = typed p d x w k in let numbers = own.numbers in ends p x.config steps numbers.ordered

    pub history_of : (es : List Entry) (c : Config) (interfaces : List ℕ) (o : Outcome) → IsResumed p d x steps es c interfaces o → IsHistory es
    history_of es c interfaces o r = subst IsHistory (sym r.entries) reach.history

    pub few_of : (es : List CodeEntry) (c : Config) (interfaces : List ℕ) (o : Outcome) → steps ≤ most_steps → IsResumed p d x steps (map entry_view es) c interfaces o → length es < number_count
    few_of es c interfaces o small r =
        let long = length-map es entry_view in
        let few = entries_few p x.config c (map entry_view es) r.reached in
        let within : step_count (map entry_view es) ≤ steps = subst (λ l. step_count l ≤ steps) (sym r.entries) reach.within in
        omega (arith, long, few, within, small)

  -- without a limit on messages none is full
  pub not_full : OutcomeIsExact → (es : List Entry) (c : Config) (interfaces : List ℕ) (o : Outcome) → IsResumed p d x steps es c interfaces o → o ≢ EndFull
  not_full exact es c interfaces o r is =
      let full = (exact p c (step_count es) steps None EndFull).0 (subst (λ q. outcome p c (step_count es) steps None ≡ Some q) is r.ends) in
      let clash : None ≡ Some (length c.messages) = full.1.0 in
      cc

  -- what is told of it is what is shown
  pub shows_from : {E : Type 0} (r : Resumed) (a : Result Answer E) → IsResumed p d x steps (map entry_view r.entries) (config_view r.config) r.interfaces (outcome_view r.outcome) → IfOk a (TellsOf r) → IfOk a (λ b. ShowsFrom p d x steps b.text.items b.status)
  shows_from r (Failed e) is tells = tt
  shows_from r (Done b) is tells = record {
    outcome = outcome_view r.outcome;
    ends = tells.0;
    entries = map entry_view r.entries;
    config = config_view r.config;
    interfaces = r.interfaces;
    resumed = is;
    shown = tells.1;
  }
