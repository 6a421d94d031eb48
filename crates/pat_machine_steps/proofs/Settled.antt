-- The end of a commit is one of the definitions.
use Rattle.std.proofs.Common.{◌≡◌, ℕ, ◌<◌, ◌≤◌, Option, Some, refl, sym, ap, ◌∙◌, subst, arith, ⊎_elim}
use Rattle.std.specs.Prelude.{nat_lt}
use Rattle.std.proofs.lemmas.Bool.{ltb-true, ltb-false, cases_Bool}
use Rattle.pat_semantics_spec.specs.Programs.{Program}
use Rattle.pat_semantics_spec.specs.Configs.{Thread, Config, thread_at, with_thread}
use Rattle.pat_semantics_spec.specs.Steps.{Act}
use Rattle.pat_semantics_spec.specs.Runs.{Entry, IsSharedOrNone, run_from, shared_step}
use Rattle.pat_machine_spec.specs.Commits.{IsLocalRun, Shares, IsCommit}
use Rattle.pat_machine_threads.proofs.Runs.{commit_shared}
use Rattle.pat_machine_states.proofs.Locals.{with_same}
use Rattle.pat_machine_threads.specs.declared.settling.Settled.{Settled}
use Rattle.pat_machine_threads.specs.Settling.{IsRunOnTop, settled_thread}
use Rattle.pat_machine_steps.specs.shared_steps.Settling.{IsSettled, StandsStill, half_way, Finishes}

-- the end leads from the settled state on
pub run_of : (p : Program) (allowance limit : ℕ) (half d : Config) (t k : ℕ) (a : Option Act) → Finishes p allowance limit half t k a d → k ≤ allowance → run_from p half (shared_step t a) ≡ Some d
run_of p allowance limit half d t k a f within = ⊎_elim
    (λ less. (f.shared (ltb-true k allowance less)).taken)
    (λ more.
    let beyond = ltb-false k allowance more in
    let q = f.spent (omega arith) in
    ap (λ o. run_from p half (shared_step t o)) q.0 ∙ ap (λ (x : Config). Some x) (sym q.1))
    (cases_Bool (nat_lt k allowance))

module _ (p : Program) (c : Config) (t allowance : ℕ) (s : Settled) (h : IsSettled p c t allowance s) where
  -- the thread is the one that is there
  pub kept_is : (x : Thread) → thread_at c t ≡ Some x → h.kept ≡ x
  kept_is x at =
      let both : Some h.kept ≡ Some x = sym h.there ∙ at in
      cc

  pub settled_run : (x : Thread) → thread_at c t ≡ Some x → IsRunOnTop p allowance x s
  settled_run x at = subst (λ w. IsRunOnTop p allowance w s) (kept_is x at) h.run

  -- the settled state and its end are a commit
  pub commit_of : (limit : ℕ) (d : Config) (e : Entry) → e.thread ≡ t → e.local_steps ≡ s.steps → Finishes p allowance limit (half_way c t h.kept s) t s.steps e.shared d → IsCommit p allowance limit c e d
  commit_of limit d e thread steps f =
      let middle = settled_thread h.kept s in
      record {
        kept = h.kept;
        middle = middle;
        there = ap (thread_at c) thread ∙ h.there;
        local = subst (λ k. IsLocalRun p allowance h.kept k middle) (sym steps) h.run.local;
        shared = λ less.
            subst (λ u. Shares p limit (with_thread c u middle) u e.shared d) (sym thread)
            (f.shared (subst (λ k. k < allowance) steps less));
        spent = λ all.
            let q = f.spent (sym steps ∙ all) in
            (q.0, q.1 ∙ ap (λ u. with_thread c u middle) (sym thread));
      }

  -- so its shared step is no local one
  pub shared_or_none : (limit : ℕ) (a : Option Act) (d : Config) → Finishes p allowance limit (half_way c t h.kept s) t s.steps a d → IsSharedOrNone a
  shared_or_none limit a d f =
      let e : Entry = record { worker = 0; thread = t; local_steps = s.steps; shared = a } in
      commit_shared p allowance limit c d e (commit_of limit d e refl refl f)

-- a shared step of a thread that has no local step, and no step before it
module _ (p : Program) (c : Config) (t : ℕ) (h : StandsStill p c t) where
  -- they are a commit
  pub commit_in_place : (worker allowance limit : ℕ) (d : Config) (a : Option Act) → 0 < allowance → Shares p limit c t a d → IsCommit p allowance limit c (record { worker = worker; thread = t; local_steps = 0; shared = a }) d
  commit_in_place worker allowance limit d a some f = record {
    kept = h.kept;
    middle = h.kept;
    there = h.there;
    local = record { taken = refl; within = omega arith; whole = λ less. h.still };
    shared = λ less. subst (λ x. Shares p limit x t a d) (sym (with_same c t h.kept h.there)) f;
    spent = λ all. absurd (omega arith);
  }

  -- so it is no local one
  pub shared_in_place : (limit : ℕ) (d : Config) (a : Option Act) → Shares p limit c t a d → IsSharedOrNone a
  shared_in_place limit d a f = commit_shared p 1 limit c d (record { worker = 0; thread = t; local_steps = 0; shared = a }) (commit_in_place 0 1 limit d a (omega arith) f)
