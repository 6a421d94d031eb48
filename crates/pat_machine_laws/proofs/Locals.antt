-- Local steps of a thread, on its own and in a configuration.
use Rattle.std.proofs.Common.{◌≡◌, ℕ, suc, zero, Option, Some, None, refl, sym, ap, ◌∙◌}
use Rattle.std.specs.Prelude.{option_map, option_and_then, replicate}
use Rattle.pat_semantics_spec.specs.Programs.{Program}
use Rattle.pat_semantics_spec.specs.Configs.{Thread, Config, thread_at, with_thread}
use Rattle.pat_semantics_spec.specs.Steps.{ActLocal, step, local_step, thread_step}
use Rattle.pat_semantics_spec.specs.Runs.{run_from}
use Rattle.pat_machine_spec.specs.Commits.{local_of, locally}
use Rattle.pat_machine_laws.proofs.CommitsLookUps.{lookup_set, set_twice, set_same}

-- a local step of a thread that is there
pub local_there : (p : Program) (c : Config) (t : ℕ) (s : Thread) → thread_at c t ≡ Some s → step p c (local_of t) ≡ option_map (with_thread c t) (local_step p s)
local_there p c t s h = ap (λ o. option_and_then (λ r. thread_step p c t r ActLocal) o) h

-- the thread that was put there
pub there_after : (c : Config) (t : ℕ) (s r : Thread) → thread_at c t ≡ Some s → thread_at (with_thread c t r) t ≡ Some r
there_after c t s r h = lookup_set c.threads t s r h

pub with_twice : (c : Config) (t : ℕ) (r q : Thread) → with_thread (with_thread c t r) t q ≡ with_thread c t q
with_twice c t r q = ap (λ l. record c { threads = l }) (set_twice c.threads t r q)

pub with_same : (c : Config) (t : ℕ) (s : Thread) → thread_at c t ≡ Some s → with_thread c t s ≡ c
with_same c t s h = ap (λ l. record c { threads = l }) (set_same c.threads t s h)

-- the first step of several, if there is one
pub first_local : (p : Program) (k : ℕ) (s r : Thread) → locally p (suc k) s ≡ Some r → (q : Thread) × (local_step p s ≡ Some q) × (locally p k q ≡ Some r)
first_local p k s r h = go (local_step p s) refl h
  where
    go : (o : Option Thread) → local_step p s ≡ o → option_and_then (locally p k) o ≡ Some r → (q : Thread) × (local_step p s ≡ Some q) × (locally p k q ≡ Some r)
    go None is g = cc
    go (Some q) is g = (q, is, g)

-- one more local step
pub one_more_local : (p : Program) (k : ℕ) (s r q : Thread) → locally p k s ≡ Some r → local_step p r ≡ Some q → locally p (suc k) s ≡ Some q
one_more_local p zero s r q h g = let same : s ≡ r = cc in ap (option_and_then (locally p zero)) (ap (local_step p) same ∙ g)
one_more_local p (suc k) s r q h g =
    let f = first_local p k s r h in
    ap (option_and_then (locally p (suc k))) f.1 ∙ one_more_local p k f.0 r q f.2 g

-- the local steps of a kept thread are steps of the configuration
pub locals_run : (p : Program) (k : ℕ) (c : Config) (t : ℕ) (s r : Thread) → thread_at c t ≡ Some s → locally p k s ≡ Some r → run_from p c (replicate k (local_of t)) ≡ Some (with_thread c t r)
locals_run p zero c t s r there h =
    let same : s ≡ r = cc in
    ap Some (sym (ap (with_thread c t) (sym same) ∙ with_same c t s there))
locals_run p (suc k) c t s r there h =
    let f = first_local p k s r h in
    ap (option_and_then (λ d. run_from p d (replicate k (local_of t)))) (local_there p c t s there ∙ ap (option_map (with_thread c t)) f.1)
    ∙ locals_run p k (with_thread c t f.0) t f.0 r (there_after c t s f.0 there) f.2
    ∙ ap Some (with_twice c t f.0 r)

-- a local step in the configuration is one of the thread
pub no_local_there : (p : Program) (c : Config) (t : ℕ) (s : Thread) → thread_at c t ≡ Some s → local_step p s ≡ None → step p c (local_of t) ≡ None
no_local_there p c t s there h = local_there p c t s there ∙ ap (option_map (with_thread c t)) h
