-- Local steps of a thread's top, put in its place.
use Rattle.std.proofs.Common.{◌≡◌, ℕ, ◌<◌, ◌≤◌, Some, None, refl, sym, ap, ◌∙◌, subst, arith}
use Rattle.std.specs.Prelude.{option_and_then, replicate}
use Rattle.pat_semantics_spec.specs.Programs.{Program}
use Rattle.pat_semantics_spec.specs.Configs.{Thread, Config, thread_at, with_thread}
use Rattle.pat_semantics_spec.specs.Steps.{ActLocal, step, thread_step}
use Rattle.pat_semantics_spec.specs.Runs.{run_from}
use Rattle.pat_machine_spec.specs.Commits.{local_of}
use Rattle.pat_machine_laws.proofs.Locals.{there_after, locals_run, no_local_there}
use Rattle.pat_machine_threads.specs.declared.settling.Settled.{Settled}
use Rattle.pat_machine_threads.specs.Settling.{IsRunOnTop, settled_thread}
use Rattle.pat_replay.specs.Replays.{StopsBefore}

-- no local step
pub none_taken : (p : Program) (c : Config) (t n : ℕ) → n ≡ 0 → run_from p c (replicate n (local_of t)) ≡ Some c
none_taken p c t n is = ap (λ k. run_from p c (replicate k (local_of t))) is

-- a thread that isn't there has none
pub none_there : (p : Program) (c : Config) (t n : ℕ) → 0 < n → thread_at c t ≡ None → StopsBefore p c t n
none_there p c t n some none = record {
  taken = 0;
  fewer = some;
  last = c;
  run = refl;
  no_more = ap (option_and_then (λ s. thread_step p c t s ActLocal)) none;
}

module _ (p : Program) (c : Config) (t n : ℕ) (s : Thread) (there : thread_at c t ≡ Some s) (settled : Settled) (run : IsRunOnTop p n s settled) where
  abbrev after : Config
  after = with_thread c t (settled_thread s settled)

  leads : run_from p c (replicate settled.steps (local_of t)) ≡ Some after
  leads = locals_run p settled.steps c t s (settled_thread s settled) there run.local.taken

  -- fewer steps than asked for
  pub stops_before : settled.steps < n → StopsBefore p c t n
  stops_before less = record {
    taken = settled.steps;
    fewer = less;
    last = after;
    run = leads;
    no_more = no_local_there p after t (settled_thread s settled) (there_after c t s (settled_thread s settled) there) (run.local.whole less);
  }

  -- all of them
  pub all_taken : n ≤ settled.steps → (d : Config) → d ≡ after → run_from p c (replicate n (local_of t)) ≡ Some d
  all_taken enough d is =
      let within = run.local.within in
      let same : n ≡ settled.steps = omega arith in
      ap (λ k. run_from p c (replicate k (local_of t))) same ∙ leads ∙ ap (λ (x : Config). Some x) (sym is)
