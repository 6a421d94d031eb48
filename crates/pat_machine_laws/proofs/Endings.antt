-- How a machine's run ends.
use Rattle.std.proofs.Common.{◌≡◌, ℕ, ◌<◌, ◌≤◌, length, Some, refl, ap, arith, ⊎_elim, ◌⊎◌, inl, inr}
use Rattle.std.proofs.lemmas.Bool.{cases_lt}
use Rattle.pat_semantics_spec.specs.Programs.{Program}
use Rattle.pat_semantics_spec.specs.Configs.{Config}
use Rattle.pat_semantics_spec.specs.Steps.{Act, ActLocal, ActNew, ActSend, ActSpawn, ActPrint, ActEnd, ActFree, ActReceive, Step}
use Rattle.pat_semantics_laws.specs.Laws.{IsEnabled, IsFull}
use Rattle.pat_machine_spec.specs.Opens.{IsOpen}

send_or_not : (a : Act) → (a ≡ ActSend) ⊎ (a ≡ ActSend → ⊥)
send_or_not ActSend = inl refl
send_or_not ActLocal = inr (λ h. cc)
send_or_not ActNew = inr (λ h. cc)
send_or_not ActSpawn = inr (λ h. cc)
send_or_not ActPrint = inr (λ h. cc)
send_or_not ActEnd = inr (λ h. cc)
send_or_not ActFree = inr (λ h. cc)
send_or_not (ActReceive k) = inr (λ h. cc)

-- where a step is enabled and none is open, the limit is met and each enabled step is a send
pub full_so : (p : Program) (c : Config) (limit : ℕ) → length c.messages ≤ limit → (k : Step) × IsEnabled p c k → ((k : Step) → IsOpen p c limit k → ⊥) → IsFull p c (Some limit)
full_so p c limit within (k, enabled) closed = (
  ⊎_elim
      (λ less. absurd (closed k (enabled, λ sends. less)))
      (λ full. let same : limit ≡ length c.messages = omega arith in ap (λ n. Some n) same)
      (cases_lt (length c.messages) limit),
  λ j e. ⊎_elim (λ sends. sends) (λ other. absurd (closed j (e, λ sends. absurd (other sends)))) (send_or_not j.act),
)

-- where a step is open, the limit isn't met, or something else than a send is enabled
pub open_no_full : (p : Program) (c : Config) (limit : ℕ) (k : Step) → IsOpen p c limit k → IsFull p c (Some limit) → ⊥
open_no_full p c limit k (enabled, space) full =
    let less : length c.messages < limit = space (full.1 k enabled) in
    let is : Some limit ≡ Some (length c.messages) = full.0 in
    let same : limit ≡ length c.messages = cc in
    omega arith
