-- The start of a program is a checkpoint from which a run goes on.
use Rattle.std.proofs.Common.{◌≡◌, ◌≤◌, ℕ, map, Option, Some, None, Result, Ok as Done, Err as Failed, sym, subst, arith}
use Rattle.std.specs.Prelude.{IfOk}
use Rattle.pat_semantics_spec.specs.Programs.{Function, Program, function_at}
use Rattle.pat_semantics_spec.specs.WellFormed.{WellFormed}
use Rattle.pat_semantics_spec.specs.Configs.{start_of}
use Rattle.pat_derivation_spec.specs.Derivations.{Derivation}
use Rattle.pat_derivation_spec.specs.Validity.{IsValid}
use Rattle.pat_reduce.specs.Views.{config_view, entry_view}
use Rattle.pat_checkpoint_run.specs.Gives.{outcome_view}
use Rattle.pat_checkpoint_spec.specs.Checkpoints.{Checkpoint}
use Rattle.pat_checkpoint_spec.specs.Checked.{IsChecked}
use Rattle.pat_checkpoint_spec.specs.Resumed.{IsResumed, start_checkpoint}
use Rattle.pat_checkpoint_laws.specs.resuming.Laws.{StartIsChecked}
use Rattle.pat_checkpoint_run.specs.declared.resumed.Resumed.{Resumed}
use Rattle.pat_checkpoint_run.specs.NextNumbers.{most_next_number}
use Rattle.pat_command_checkpoint.specs.Allowed.{HasReached}

threads_few : (f : Option Function) → (start_of f).next_thread ≤ most_next_number
threads_few None = omega arith
threads_few (Some g) = omega arith

mailboxes_few : (f : Option Function) → (start_of f).next_mailbox ≤ most_next_number
mailboxes_few None = omega arith
mailboxes_few (Some g) = omega arith

messages_few : (f : Option Function) → (start_of f).next_message ≤ most_next_number
messages_few None = omega arith
messages_few (Some g) = omega arith

module _ (p : Program) (x : Checkpoint) (is : x ≡ start_checkpoint p) where
  pub started_threads : x.config.next_thread ≤ most_next_number
  started_threads = subst (λ (z : Checkpoint). z.config.next_thread ≤ most_next_number) (sym is) (threads_few (function_at p p.main))

  pub started_mailboxes : x.config.next_mailbox ≤ most_next_number
  started_mailboxes = subst (λ (z : Checkpoint). z.config.next_mailbox ≤ most_next_number) (sym is) (mailboxes_few (function_at p p.main))

  pub started_messages : x.config.next_message ≤ most_next_number
  started_messages = subst (λ (z : Checkpoint). z.config.next_message ≤ most_next_number) (sym is) (messages_few (function_at p p.main))

  module _ (checks : StartIsChecked) (w : WellFormed p) where
    -- it is checked by each valid derivation
    checked_by : (d : Derivation) → IsValid p d → IsChecked p d x
    checked_by d valid = subst (IsChecked p d) (sym is) (checks p d w valid)

    pub started_checked : ((d : Derivation) × IsValid p d) → (d : Derivation) × IsChecked p d x
    started_checked (d, valid) = (d, checked_by d valid)

    -- and what goes on from it is a run from the start
    pub started_reached : {E : Type 0} (steps : ℕ) (r : Result Resumed E) → IfOk r (λ s. (d : Derivation) → IsChecked p d x → IsResumed p d x steps (map entry_view s.entries) (config_view s.config) s.interfaces (outcome_view s.outcome)) → IfOk r (λ s. (d : Derivation) → IsValid p d → HasReached p d steps s)
    started_reached steps (Failed e) resumes = tt
    started_reached steps (Done s) resumes = λ d valid.
        subst (λ (z : Checkpoint). IsResumed p d z steps (map entry_view s.entries) (config_view s.config) s.interfaces (outcome_view s.outcome)) is (resumes d (checked_by d valid))
