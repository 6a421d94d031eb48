-- How a run ends, where no thread is out.
use Rattle.std.proofs.Common.{◌≡◌, ℕ, ◌+◌, ◌<◌, ◌≤◌, List, [], length, map, Option, Some, None, refl, sym, ap, ◌∙◌, arith, inl, inr, ◌⊎◌}
use Rattle.std.specs.Prelude.{option_and_then}
use Rattle.pat_semantics_spec.specs.Programs.{Program}
use Rattle.pat_semantics_spec.specs.Steps.{Step, step}
use Rattle.pat_semantics_spec.specs.Runs.{Outcome, EndDone, EndWaiting, EndFull, EndBudget, step_count, outcome}
use Rattle.pat_semantics_laws.specs.Laws.{IsEnabled, Ends, OutcomeIsExact}
use Rattle.pat_core.specs.Views.{program_view}
use Rattle.pat_reduce.specs.Views.{entry_view}
use Rattle.pat_machine_spec.specs.Opens.{IsOpen}
use Rattle.pat_machine_spec.specs.Lendings.{NoneOut, SomeOut}
use Rattle.pat_machine_laws.proofs.Runs.{limited_now}
use Rattle.pat_machine_laws.proofs.Takings.{someone_out}
use Rattle.pat_machine_laws.proofs.Endings.{full_so, open_no_full}
use Rattle.pat_machine.specs.declared.parts.Parts.{Parts}
use Rattle.pat_machine.specs.Parted.{shown, IsKept}
use Rattle.pat_machine.specs.Gives.{MayTake, Rests}
use Rattle.pat_machine.proofs.Lending.{nobody}

module _ (laws : OutcomeIsExact) (m : Parts) (k : IsKept m) where
  abbrev p : Program
  p = program_view m.code.program

  abbrev es : List Rattle.pat_semantics_spec.specs.Runs.Entry
  es = map entry_view m.history.items

  abbrev ends_as : Outcome → Type 0
  ends_as o = NoneOut m.out.items × Rests (shown m) × (outcome p m.state.config (step_count es) m.budget (Some m.limit) ≡ Some o)

  pub lent_out : 0 < m.lent → SomeOut m.out.items
  lent_out more = let all = k.lent in someone_out m.out.items (omega arith)

  none : m.lent ≤ 0 → NoneOut m.out.items
  none h = nobody m.out.items m.lent k.lent h k.stands.table.some

  ended : (o : Outcome) → m.lent ≤ 0 → Rests (shown m) → Ends p m.state.config (step_count es) m.budget (Some m.limit) o → ends_as o
  ended o h rests e = (none h, rests, (laws p m.state.config (step_count es) m.budget (Some m.limit) o).1 e)

  pub over : m.lent ≤ 0 → m.state.config.threads ≡ [] → ends_as EndDone
  over h threads =
      ended EndDone h
      (inr (λ t (none, (a, (e, space))).
      let gone : step p m.state.config (record { thread = t; act = a }) ≡ None = ap (λ ts. option_and_then (λ s. Rattle.pat_semantics_spec.specs.Steps.thread_step p m.state.config t s a) (Rattle.std.specs.Map.lookup (Rattle.std.proofs.Common.nat_eq t) ts)) threads in
      let at = e.1 in
      cc))
      threads

  pub stuck : m.lent ≤ 0 → (m.state.config.threads ≡ [] → ⊥) × ((s : Step) → step p m.state.config s ≡ None) → ends_as EndWaiting
  stuck h (some, off) =
      ended EndWaiting h
      (inr (λ t (none, (a, (e, space))). let gone = off (record { thread = t; act = a }) in let at = e.1 in cc))
      (some, off)

  pub full : m.lent ≤ 0 → ((s : Step) × IsEnabled p m.state.config s) × ((s : Step) → IsOpen p m.state.config m.limit s → ⊥) → ends_as EndFull
  full h (some, closed) =
      ended EndFull h
      (inr (λ t (none, (a, may)). closed (record { thread = t; act = a }) may))
      (some, full_so p m.state.config m.limit (limited_now p m.limit m.state.config es k.stands.facts.limited k.stands.facts.replayed) some closed)

  pub spent : m.lent ≤ 0 → m.left ≡ 0 → (s : Step) × IsOpen p m.state.config m.limit s → ends_as EndBudget
  spent h zero (s, may) =
      let counted = k.stands.facts.counted in
      let all = k.lent in
      ended EndBudget h (inl zero) ((s, may.0), open_no_full p m.state.config m.limit s may, omega arith)

  -- a step is open and a step is left
  pub goes_on : m.lent ≤ 0 → (m.left ≡ 0 → ⊥) → (s : Step) × IsOpen p m.state.config m.limit s → SomeOut m.out.items ⊎ ((0 < m.left) × ((t : ℕ) × MayTake (shown m) t))
  goes_on h some (s, may) = inr (omega arith, (s.thread, (none h s.thread, (s.act, may))))
