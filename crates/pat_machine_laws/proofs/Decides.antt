-- A guard that is offered no more can do no more.
use Rattle.std.proofs.Common.{◌≡◌, ℕ, true, Some, refl, sym, ap, ◌∙◌}
use Rattle.pat_semantics_spec.specs.Programs.{Program}
use Rattle.pat_semantics_spec.specs.Configs.{Thread, Config, thread_at}
use Rattle.pat_semantics_spec.specs.Steps.{Act, thread_step}
use Rattle.pat_semantics_spec.specs.Runs.{can_step_thread}
use Rattle.pat_semantics_laws.specs.Laws.{IsEnabled}
use Rattle.pat_semantics_laws.proofs.Inversion.{step_of}
use Rattle.pat_semantics_laws.proofs.Enabled.{thread_exact}
use Rattle.std.proofs.lemmas.Bool.{ltb-true, lt-ltb}
use Rattle.std.proofs.Common.{length}
use Rattle.pat_machine_spec.specs.Opens.{has_space, can_go_on}
use Rattle.pat_machine_laws.proofs.Opens.{open_exact}
use Rattle.pat_machine_laws.specs.wakeups.Wakings.{guarded, OffersNoMore}
use Rattle.pat_machine_laws.proofs.Needs.{Needs, nothing, freeing, message, needs, enabled_at}

-- what an enabled act of a thread that stands there needs
pub needs_of : (p : Program) (d : Config) (u : ℕ) (s : Thread) (b : Act) → thread_at d u ≡ Some s → IsEnabled p d (record { thread = u; act = b }) → Needs p d u s b
needs_of p d u s b there h =
    let o = step_of p d (record { thread = u; act = b }) h.0 h.1 in
    let both : Some o.thread ≡ Some s = sym o.there ∙ there in
    let same : o.thread ≡ s = cc in
    needs p d u s b h.0 (ap (λ w. thread_step p d u w b) (sym same) ∙ o.gives)

pub decides : (p : Program) (c d : Config) (u : ℕ) (s : Thread) (b : Act) → thread_at c u ≡ Some s → thread_at d u ≡ Some s → ((a : ℕ) → guarded p s ≡ Some a → OffersNoMore c d u a) → IsEnabled p d (record { thread = u; act = b }) → IsEnabled p c (record { thread = u; act = b })
decides p c d u s b before after offers h = go (needs_of p d u s b after h)
  where
    go : Needs p d u s b → IsEnabled p c (record { thread = u; act = b })
    go (nothing plain) = enabled_at p c u s b before (plain c)
    go (freeing a is at may gives) = enabled_at p c u s b before (gives c ((offers a at).free may))
    go (message k m is at there gives) = enabled_at p c u s b before (gives c ((offers m.mailbox at).messages k m there refl))

pub guard_decides : (p : Program) (c d : Config) (u : ℕ) (s : Thread) → thread_at c u ≡ Some s → thread_at d u ≡ Some s → ((a : ℕ) → guarded p s ≡ Some a → OffersNoMore c d u a) → can_step_thread p d u ≡ true → can_step_thread p c u ≡ true
guard_decides p c d u s before after offers h =
    let e = (thread_exact p d u).0 h in (thread_exact p c u).1 (e.0, decides p c d u s e.0 before after offers e.1)

pub space_decides : (p : Program) (c d : Config) (limit u : ℕ) (s : Thread) → thread_at c u ≡ Some s → thread_at d u ≡ Some s → ((a : ℕ) → guarded p s ≡ Some a → OffersNoMore c d u a) → (has_space d limit ≡ true → has_space c limit ≡ true) → can_go_on p d limit u ≡ true → can_go_on p c limit u ≡ true
space_decides p c d limit u s before after offers space h =
    let e = (open_exact p d limit u).0 h in
    (open_exact p c limit u).1 (
      e.0,
      (
        decides p c d u s e.0 before after offers e.1.0,
        λ send. ltb-true (length c.messages) limit (space (lt-ltb (length d.messages) limit (e.1.1 send))),
      ),
    )
