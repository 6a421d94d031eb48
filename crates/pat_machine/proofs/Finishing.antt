-- The end of a commit.
use Rattle.std.proofs.Common.{◌≡◌, ℕ, ◌+◌, ◌-◌, ◌<◌, Bool, true, false, cond, nat_eq, List, [], ◌∷◌, ◌++◌, length, map, Option, Some, None, refl, sym, ap, ◌∙◌, subst, arith}
use Rattle.std.specs.Prelude.{◌↔◌}
use Rattle.std.proofs.lemmas.Bool.{eqb-true, eqb-false}
use Rattle.std.proofs.lemmas.List.{map-append}
use Rattle.pat_semantics_spec.specs.Programs.{Program}
use Rattle.pat_semantics_spec.specs.Configs.{Thread, Message, Config, thread_at, thread_refers, with_thread}
use Rattle.pat_semantics_spec.specs.Steps.{Act, ActReceive, message_at}
use Rattle.pat_core.specs.Views.{program_view}
use Rattle.pat_semantics_spec.specs.Runs.{Entry, entry_steps, run_from, shared_step}
use Rattle.pat_reduce.specs.declared.history.Entry.{Entry as CodeEntry}
use Rattle.pat_reduce.specs.Views.{entry_view}
use Rattle.pat_machine_spec.specs.Opens.{IsStill}
use Rattle.pat_machine_spec.specs.Commits.{IsCommit, noted}
use Rattle.pat_machine_spec.specs.Lendings.{Out, allowance_of, allowances, committed_out}
use Rattle.pat_machine_spec.specs.Machines.{MachineInvariant}
use Rattle.pat_machine_spec.specs.Tops.{below, over}
use Rattle.pat_machine_laws.proofs.Idle.{idle_still, step_open}
use Rattle.pat_machine_laws.proofs.Runs.{commit_shared, commit_stands}
use Rattle.pat_machine_threads.specs.declared.settling.Settled.{Settled}
use Rattle.pat_machine_steps.specs.shared_steps.Settling.{IsSettled, half_way, Finishes}
use Rattle.pat_machine_steps.specs.wakeups.Counting.{AreCounted}
use Rattle.pat_machine_steps.proofs.Settled.{run_of, commit_of}
use Rattle.pat_machine_steps.proofs.Listed.{listed_from_top}
use Rattle.pat_machine_indexes.specs.ready_sets.Noted.{AreNoted}
use Rattle.pat_machine.specs.declared.job.Job.{Job}
use Rattle.pat_machine.specs.declared.parts.Parts.{Parts}
use Rattle.pat_machine.specs.Shown.{places_for, steps_in, noted_in, place_of}
use Rattle.pat_machine.specs.Entering.{ListsTop, WentFrom}

-- what a machine keeps stands after the end of a commit, whoever takes it
pub stands_after : (p : Program) (budget limit allowance : ℕ) (c d : Config) (es : List Entry) (left : ℕ) (out : Out) (t : ℕ) (s : Settled) (e : Entry) → MachineInvariant p budget limit c es left out → allowance_of out t ≡ Some allowance → (h : IsSettled p c t allowance s) → e.thread ≡ t → e.local_steps ≡ s.steps
    → Finishes p allowance limit (half_way c t h.kept s) t s.steps e.shared d → MachineInvariant p budget limit d (noted es e) (left + (allowance - length (entry_steps e))) (committed_out out e.thread e.shared)
stands_after p budget limit allowance c d es left out t s e stands lent h thread steps f =
    commit_stands p budget limit allowance c d es left out e stands (ap (allowance_of out) thread ∙ lent) (commit_of p c t allowance s h limit d e thread steps f)

-- the noted entry, as the definitions see it
pub noted_view : (es : List CodeEntry) (e : CodeEntry) → map entry_view (noted_in es e) ≡ noted (map entry_view es) (entry_view e)
noted_view es e =
    elim (nat_eq (steps_in e) 0) as (λ b. map entry_view (cond b es (es ++ e ∷ [])) ≡ cond b (map entry_view es) (map entry_view es ++ entry_view e ∷ [])) [
      | true ↦ refl
      | false ↦ map-append entry_view es (e ∷ [])
    ]

no_place : (es : List CodeEntry) (e : CodeEntry) (b : Bool) → nat_eq (steps_in e) 0 ≡ b → cond b None (Some (length es)) ≡ None → steps_in e ≡ 0
no_place es e true is h = eqb-true (steps_in e) 0 is
no_place es e false is h = cc

no_steps : (es : List CodeEntry) (e : CodeEntry) (b : Bool) → nat_eq (steps_in e) 0 ≡ b → (0 < steps_in e → ⊥) → cond b None (Some (length es)) ≡ None
no_steps es e true is h = refl
no_steps es e false is h = absurd (h (let some = eqb-false (steps_in e) 0 is in omega arith))

-- there is no place just where no step of the thread was open
pub idle_so : (p : Program) (allowance limit : ℕ) (c d : Config) (es : List CodeEntry) (e : CodeEntry) (i : Option ℕ) (t : ℕ) → IsCommit p allowance limit c (entry_view e) d → 0 < allowance → i ≡ place_of es e → e.thread ≡ t
    → (i ≡ None) ↔ IsStill p c limit t
idle_so p allowance limit c d es e i t j some is thread = (
  λ none. subst (λ u. IsStill p c limit u) thread (idle_still p allowance limit c d (entry_view e) j some (no_place es e (nat_eq (steps_in e) 0) refl (sym is ∙ none))),
  λ still.
      is ∙ no_steps es e (nat_eq (steps_in e) 0) refl
      (λ more. let b = step_open p allowance limit c d (entry_view e) j some more in subst (λ u. IsStill p c limit u) (sym thread) still b.0 b.1),
)

-- ---- a commit that is to be entered

abbrev pub entry_of : (worker : ℕ) → Job → (steps : ℕ) → Option Act → Entry
entry_of worker j steps a = record { worker = worker; thread = j.thread; local_steps = steps; shared = a }

-- the end of a commit leads from the settled state on
pub commit_run : (p : Program) (allowance limit : ℕ) (c d : Config) (e : Entry) (j : IsCommit p allowance limit c e d) → run_from p (with_thread c e.thread j.middle) (shared_step e.thread e.shared) ≡ Some d
commit_run p allowance limit c d e j = run_of p allowance limit (with_thread c e.thread j.middle) d e.thread e.local_steps e.shared (record { shared = j.shared; spent = j.spent }) j.local.within

same_kept : (o : Option Thread) (x y : Thread) → o ≡ Some x → o ≡ Some y → x ≡ y
same_kept o x y at is =
    let both : Some x ≡ Some y = sym at ∙ is in
    cc

-- names of the old top are listed, so each that the thread let go is
pub went_after : (m : Parts) (c : Config) (worker : ℕ) (j : Job) (steps newcomer gone : ℕ) (kept end : Thread) (a : Option Act) (received : Option Message)
    → MachineInvariant (program_view m.code.program) m.budget m.limit c (map entry_view m.history.items) m.left m.out.items → m.lent ≡ allowances m.out.items
    → AreNoted (program_view m.code.program) c m.waits.awake.numbers.items m.waits.senders.numbers.items m.waits.sleepers.items → allowance_of m.out.items j.thread ≡ Some j.allowance → newcomer ≡ c.next_thread
    → IsCommit (program_view m.code.program) j.allowance m.limit c (entry_of worker j steps a) m.state.config → thread_at c j.thread ≡ Some kept
    → run_from (program_view m.code.program) (with_thread c j.thread (over end (below gone kept))) (shared_step j.thread a) ≡ Some m.state.config → m.state.places ≡ places_for m.budget m.limit → AreCounted m.names.times.items m.state.config → ListsTop c j.thread gone m.named.items
    → ((k : ℕ) → a ≡ Some (ActReceive k) → received ≡ message_at c k) → WentFrom m c worker j steps newcomer a received
went_after m c worker j steps newcomer gone kept end a received stands lent noted out next commit there run places counted lists brought =
    let p = program_view m.code.program in
    let listed = listed_from_top p c m.state.config j.thread gone kept end a m.named.items there (commit_shared p j.allowance m.limit c m.state.config (entry_of worker j steps a) commit) run (λ b some. lists kept b there some) in
    record {
      stands = stands;
      lent = lent;
      noted = noted;
      out = out;
      commit = commit;
      next = next;
      places = places;
      counted = counted;
      listed = λ b had gone. listed b (subst (λ x. thread_refers b x ≡ true) (same_kept (thread_at c j.thread) commit.kept kept commit.there there) had) gone;
      brought = brought;
    }
