-- Local steps in the place of a thread.
use Rattle.std.proofs.Common.{◌≡◌, ℕ, ◌<◌, Some, sym, ap, ◌∙◌, subst, get_or, Result, Ok, Err, IfOk}
use Rattle.std.specs.Prelude.{slice_get, slice_set}
use Rattle.std.specs.Map.{keys_of}
use Rattle.std.proofs.lemmas.List.{length-set, get_or-set_same}
use Rattle.std.proofs.lemmas.Option.{slice_get-get_or}
use Rattle.pat_semantics_spec.specs.Programs.{Program}
use Rattle.pat_semantics_spec.specs.Configs.{with_thread}
use Rattle.pat_semantics_spec.specs.Orders.{AscendsFrom, IsOrdered}
use Rattle.pat_semantics_laws.proofs.Ascending.{keys_of-set}
use Rattle.pat_machine_spec.specs.Commits.{IsLocalRun}
use Rattle.pat_reduce.specs.declared.threads.state.ThreadState.{ThreadState}
use Rattle.pat_reduce.specs.declared.config.Config.{Config as CodeConfig}
use Rattle.pat_reduce.specs.Places.{IsPlace}
use Rattle.pat_reduce.specs.threads.ThreadViews.{thread_view}
use Rattle.pat_reduce.specs.Views.{config_view, threads_view}
use Rattle.pat_checkpoint_run.specs.declared.next.Turn.{Turn}
use Rattle.pat_checkpoint_run.specs.Courses.{TakesLocals}
use Rattle.pat_reduce.proofs.Ascending.{Threads, stands_there}

module _ (old : CodeConfig) (turn : Turn) (e : ℕ × ThreadState) (s : ThreadState) (place : IsPlace old.threads turn.thread turn.place) (there : slice_get old.threads turn.place ≡ Some e) where
  abbrev after : Threads
  after = slice_set old.threads turn.place (e.0, s)

  number : e.0 ≡ turn.thread
  number = (place.state e there).0

  threads_are : threads_view after ≡ (with_thread (config_view old) turn.thread (thread_view s)).threads
  threads_are = ap (λ (n : ℕ). threads_view (slice_set old.threads turn.place (n, s))) number ∙ sym (place.changed s)

  ascends : IsOrdered (config_view old) → AscendsFrom 0 (keys_of (threads_view after))
  ascends ordered = subst (AscendsFrom 0) (sym (ap keys_of threads_are ∙ keys_of-set (threads_view old.threads) turn.thread (thread_view s))) ordered.threads

  still : IsOrdered (config_view old) → IsPlace after turn.thread turn.place
  still ordered =
      stands_there after turn.thread turn.place (e.0, s) (ascends ordered)
      (subst (λ n. turn.place < n) (sym (length-set old.threads turn.place (e.0, s))) place.within)
      (slice_get-get_or after turn.place (e.0, s) (subst (λ n. turn.place < n) (sym (length-set old.threads turn.place (e.0, s))) place.within)
      ∙ ap Some (get_or-set_same old.threads turn.place (e.0, s) (e.0, s) place.within))
      number

  locals_taken : (p : Program) (allowance n : ℕ) → IsOrdered (config_view old) → IsLocalRun p allowance (thread_view e.1) n (thread_view s) → TakesLocals p allowance turn n old (record old { threads = after })
  locals_taken p allowance n ordered run = record {
    kept = thread_view e.1;
    middle = thread_view s;
    there = (place.state e there).1;
    local = run;
    config = ap (λ l. record (config_view old) { threads = l }) threads_are;
    place = still ordered;
  }

-- the same of a configuration that is seen by its fields
pub taken_in_place : (p : Program) (allowance n : ℕ) (k c : CodeConfig) (turn : Turn) (e : ℕ × ThreadState) (s : ThreadState) → k ≡ c → IsOrdered (config_view c) → IsPlace c.threads turn.thread turn.place
    → e ≡ get_or k.threads turn.place e → IsLocalRun p allowance (thread_view e.1) n (thread_view s) → TakesLocals p allowance turn n c (record k { threads = slice_set k.threads turn.place (e.0, s) })
taken_in_place p allowance n k c turn e s same ordered at value run =
    let own = subst (λ (d : CodeConfig). IsPlace d.threads turn.thread turn.place) (sym same) at in
    subst (λ (d : CodeConfig). TakesLocals p allowance turn n d (record k { threads = slice_set k.threads turn.place (e.0, s) })) same
    (locals_taken k turn e s own (slice_get-get_or k.threads turn.place e own.within ∙ ap Some (sym value)) p allowance n (subst (λ (d : CodeConfig). IsOrdered (config_view d)) (sym same) ordered) run)

pub taken_if_ok : {E : Type 0} (p : Program) (allowance : ℕ) (r : Result ℕ E) (k c : CodeConfig) (turn : Turn) (e : ℕ × ThreadState) (s : ThreadState) → k ≡ c → IsOrdered (config_view c) → IsPlace c.threads turn.thread turn.place
    → e ≡ get_or k.threads turn.place e → IfOk r (λ n. IsLocalRun p allowance (thread_view e.1) n (thread_view s))
    → IfOk r (λ n. TakesLocals p allowance turn n c (record k { threads = slice_set k.threads turn.place (e.0, s) }))
taken_if_ok p allowance (Ok n) k c turn e s same ordered at value run = taken_in_place p allowance n k c turn e s same ordered at value run
taken_if_ok p allowance (Err x) k c turn e s same ordered at value run = tt
