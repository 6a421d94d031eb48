-- What is known of names from what a machine keeps.
use Rattle.std.proofs.Common.{◌≡◌, ℕ, ◌<◌, ◌≤◌, true, false, cond, nat_eq, List, [], ◌∷◌, length, Option, Some, None, refl, sym, ap, ◌∙◌, arith, ⊎_elim, length-append}
use Rattle.std.specs.Prelude.{replicate}
use Rattle.std.specs.Map.{lookup}
use Rattle.std.proofs.lemmas.Bool.{cases_lt}
use Rattle.std.proofs.lemmas.List.{length-map, length-replicate}
use Rattle.pat_semantics_spec.specs.Programs.{Program, Function, function_at}
use Rattle.pat_semantics_spec.specs.Configs.{Thread, Config, with_thread, start, start_of}
use Rattle.pat_semantics_spec.specs.Runs.{Entry}
use Rattle.pat_core.specs.Views.{program_view}
use Rattle.pat_reduce.specs.threads.ThreadViews.{frame_view, thread_view}
use Rattle.pat_machine_spec.specs.Commits.{local_of}
use Rattle.pat_machine_spec.specs.Lendings.{Out, allowance_of}
use Rattle.pat_machine_spec.specs.Machines.{MachineInvariant}
use Rattle.pat_machine_spec.specs.Tops.{below}
use Rattle.pat_machine_laws.proofs.Locals.{there_after, locals_run}
use Rattle.pat_machine_laws.proofs.Tables.{allowances_without}
use Rattle.pat_machine_steps.specs.wakeups.Naming.{sum_of_threads, parts_of}
use Rattle.pat_machine_steps.specs.wakeups.Counting.{count_at, AreCounted, TellOfEach}
use Rattle.pat_machine_steps.proofs.Freed.{counts_tell}
use Rattle.pat_machine_steps.proofs.Live.{start_names, next_not_named}
use Rattle.pat_machine_steps.proofs.Parts.{run_parts, replay_parts, machine_names}
use Rattle.pat_machine_threads.specs.declared.settling.Settled.{Settled}
use Rattle.pat_machine_threads.specs.Settling.{settled_thread}
use Rattle.pat_machine_steps.specs.shared_steps.Settling.{IsSettled}
use Rattle.pat_machine_steps.specs.shared_steps.Leaving.{CanBeCounted}
use Rattle.pat_machine.specs.declared.parts.Parts.{Parts}
use Rattle.pat_machine.specs.Parted.{IsKept}
use Rattle.pat_limits.specs.Limits.{number_count}

-- the counts tell of each thread whether it may free its mailbox
pub told : (m : Parts) → IsKept m → TellOfEach (program_view m.code.program) m.state.config m.names.times.items
told m k = counts_tell (program_view m.code.program) m.state.config m.names.times.items k.stands.well k.stands.facts.typed.typed.numbers.ordered k.stands.facts.typed k.counted

made_at_start : (o : Option Function) → (start_of o).next_mailbox ≡ 0
made_at_start None = refl
made_at_start (Some f) = refl

-- at the start nothing is counted
pub none_counted : (p : Program) (ns : List ℕ) → ns ≡ [] → AreCounted ns (start p)
none_counted p ns none = record {
  whole = ap length none ∙ sym (made_at_start (function_at p p.main));
  times = λ a. let zero = ap (λ l. count_at l a) none in let start = start_names p a in omega arith;
}

within_sum : (f : Thread → ℕ) (ts : List (ℕ × Thread)) (t : ℕ) (s : Thread) → lookup (nat_eq t) ts ≡ Some s → f s ≤ sum_of_threads f ts
within_sum f [] t s h = cc
within_sum f (e ∷ es) t s h =
    (elim (nat_eq t e.0) as (λ b. cond b (Some e.1) (lookup (nat_eq t) es) ≡ Some s → f s ≤ sum_of_threads f (e ∷ es)) [
      | true ↦ λ k. let same : e.1 ≡ s = cc in let number = ap f same in omega arith
      | false ↦ λ k. let rest = within_sum f es t s k in omega arith
    ]) h

module _ (p : Program) (budget limit : ℕ) (c : Config) (es : List Entry) (left : ℕ) (out : Out) (k : MachineInvariant p budget limit c es left out) where
  -- no mailbox is named too often, and none that wasn't made
  pub can_be_counted : CanBeCounted c
  can_be_counted = record {
    few = λ a. let few = machine_names p budget limit c es left out a k in let small = k.small in omega arith;
    made = λ a some. ⊎_elim
        (λ less. less)
        (λ beyond. let none = next_not_named p c a k.facts.typed beyond in absurd (omega arith))
        (cases_lt a c.next_mailbox);
  }

  -- a job's thread has few frames, since each took a step
  pub few_frames : (t allowance : ℕ) (s : Settled) → allowance_of out t ≡ Some allowance → IsSettled p c t allowance s → length s.end.frames < number_count
  few_frames t allowance s lent h =
      let middle = settled_thread h.kept s in
      let half = with_thread c t middle in
      let parts = run_parts p (replicate s.steps (local_of t)) c half (locals_run p s.steps c t h.kept middle h.there h.run.local.taken) in
      let before = replay_parts p es c k.facts.replayed in
      let own = within_sum parts_of half.threads t middle (there_after c t h.kept middle h.there) in
      let count = length-replicate s.steps (local_of t) in
      let long = length-append (thread_view s.end).frames (below s.gone h.kept) in
      let same = length-map s.end.frames frame_view in
      let within = h.run.local.within in
      let lends = allowances_without out t allowance lent in
      let counted = k.facts.counted in
      let small = k.small in
      omega arith
