-- In order, the first message that is received and the first thread that can step are the least.
use Rattle.std.proofs.Common.{◌≡◌, ◌+◌, ◌<◌, ◌≤◌, ℕ, Bool, true, false, List, ◌∷◌, length, drop, get_or, Option, Some, None, refl, sym, ap, ◌∙◌}
use Rattle.std.specs.Prelude.{option_map, find, is_some}
use Rattle.std.proofs.lemmas.Bool.{cond-true}
use Rattle.std.proofs.lemmas.List.{drop_more}
use Rattle.pat_semantics_spec.specs.Programs.{Program}
use Rattle.pat_semantics_spec.specs.Configs.{Thread, Config, thread_at}
use Rattle.pat_semantics_spec.specs.Orders.{IsOrdered}
use Rattle.pat_semantics_spec.specs.Steps.{Act, ActLocal, ActNew, ActSend, ActSpawn, ActPrint, ActEnd, ActFree, ActReceive}
use Rattle.pat_semantics_spec.specs.Runs.{can_step_thread}
use Rattle.pat_semantics_laws.proofs.Leasts.{first_receive, first_thread}
use Rattle.pat_reduce.specs.declared.threads.state.ThreadState.{ThreadState}
use Rattle.pat_reduce.specs.threads.ThreadViews.{thread_view}
use Rattle.pat_reduce.specs.declared.config.Config.{Config as CodeConfig}
use Rattle.pat_reduce.specs.declared.history.Act.{Act as CodeAct}
use Rattle.pat_reduce.specs.Views.{act_view, config_view, threads_view}
use Rattle.pat_reduce.specs.Acts.{EnabledAct, IsFirst, IsLeast}
use Rattle.pat_reduce.proofs.Candidates.{absent}

pub least_of : (p : Program) (c : Config) (t : ℕ) (o : Option Act) → IsOrdered c → IsFirst p c t o → IsLeast p c t o
least_of p c t None ordered first = tt
least_of p c t (Some ActLocal) ordered first = tt
least_of p c t (Some ActNew) ordered first = tt
least_of p c t (Some ActSend) ordered first = tt
least_of p c t (Some ActSpawn) ordered first = tt
least_of p c t (Some ActPrint) ordered first = tt
least_of p c t (Some ActEnd) ordered first = tt
least_of p c t (Some ActFree) ordered first = tt
least_of p c t (Some (ActReceive k)) ordered first = λ m enabled. first_receive p c t k m ordered first enabled

-- a thread that can step is there
pub stands_there : (p : Program) (c : Config) (u : ℕ) → can_step_thread p c u ≡ true → (s : Thread) × (thread_at c u ≡ Some s)
stands_there p c u ready =
    (elim (thread_at c u) as (λ o. thread_at c u ≡ o → (s : Thread) × (thread_at c u ≡ Some s)) [
      | None ↦ λ is. let clash : true ≡ false = sym ready ∙ absent p c u is in absurd cc
      | Some s ↦ λ is. (s, is)
    ]) refl

-- of the threads that pass, the first is the least
pub first_of_ready : (p : Program) (c : Config) (test : ℕ → Bool) (t u : ℕ) → IsOrdered c → option_map (λ e. e.0) (find (λ e. test e.0) c.threads) ≡ Some t → can_step_thread p c u ≡ true → test u ≡ true → t ≤ u
first_of_ready p c test t u ordered found ready pass =
    let s = stands_there p c u ready in
    first_thread c test t u s.0 ordered found s.1 pass

-- a thread of which an act is enabled can step
pub ready_by : (p : Program) (c : Config) (t : ℕ) (o : Option CodeAct) → EnabledAct p c t (option_map act_view o) → is_some o ≡ true → can_step_thread p c t ≡ true
ready_by p c t None none some = absurd cc
ready_by p c t (Some a) (enabled, can) some = can

-- where the first from a place on is the first, and the thread there can step, it is the one
pub found_here : (p : Program) (c : CodeConfig) (items : List (ℕ × ThreadState)) (i : ℕ) (e : ℕ × ThreadState) → i < length items → e ≡ get_or items i e → can_step_thread p (config_view c) e.0 ≡ true
    → option_map (λ e. e.0) (find (λ e. can_step_thread p (config_view c) e.0) (threads_view (drop i items))) ≡ option_map (λ e. e.0) (find (λ e. can_step_thread p (config_view c) e.0) (threads_view c.threads))
    → option_map (λ e. e.0) (find (λ e. can_step_thread p (config_view c) e.0) (threads_view c.threads)) ≡ Some e.0
found_here p c items i e within read can first =
    let front : drop i items ≡ e ∷ drop (i + 1) items = drop_more items i e within ∙ ap (λ x. x ∷ drop (i + 1) items) (sym read) in
    let rest = find (λ e. can_step_thread p (config_view c) e.0) (threads_view (drop (i + 1) items)) in
    sym first
    ∙ ap (λ l. option_map (λ e. e.0) (find (λ e. can_step_thread p (config_view c) e.0) (threads_view l))) front
    ∙ ap (option_map (λ e. e.0)) (cond-true (can_step_thread p (config_view c) e.0) (Some (e.0, thread_view e.1)) rest can)
