-- The open act, from the enabled one.
use Rattle.std.proofs.Common.{◌≡◌, ℕ, ◌<◌, ◌≤◌, true, false, not, ◌&&◌, length, Option, Some, None, refl, sym, ap, ◌∙◌, subst, ⊎_elim, arith}
use Rattle.std.specs.Prelude.{is_some, option_and_then, []}
use Rattle.std.proofs.lemmas.Bool.{and_parts, and_cases, not-true, not-false, ltb-true, ltb-false, false_from_ne_true}
use Rattle.pat_semantics_spec.specs.Programs.{Program}
use Rattle.pat_semantics_spec.specs.Configs.{Config, thread_at}
use Rattle.pat_semantics_spec.specs.Orders.{IsOrdered}
use Rattle.pat_semantics_spec.specs.Steps.{Act, ActLocal, ActNew, ActSend, ActSpawn, ActPrint, ActEnd, ActFree, ActReceive, step}
use Rattle.pat_semantics_spec.specs.Runs.{run_from, can_step_thread}
use Rattle.pat_semantics_laws.specs.Laws.{IsEnabled}
use Rattle.pat_semantics_laws.proofs.Lists.{clash}
use Rattle.pat_semantics_laws.proofs.Enabled.{thread_exact}
use Rattle.pat_reduce.specs.Acts.{EnabledAct, IsLeast}
use Rattle.pat_machine_spec.specs.Opens.{has_space, can_go_on, IsStill}
use Rattle.pat_machine_spec.specs.Commits.{ReceivesLeast, Shares}
use Rattle.pat_machine_laws.proofs.Opens.{some_of, send_alone, open_exact}
use Rattle.pat_machine_states.specs.Opening.{OpenAct, is_sending}

-- a thread that isn't there has no step
pub absent : (p : Program) (c : Config) (t : ℕ) → thread_at c t ≡ None → can_step_thread p c t ≡ false
absent p c t none = false_from_ne_true (can_step_thread p c t) (λ can.
    let a = (thread_exact p c t).0 can in
    cc)

-- the least that is received, with the message named
pub least_named : (p : Program) (c : Config) (t : ℕ) (o : Option Act) → IsLeast p c t o → ReceivesLeast p c t o
least_named p c t o least k m is e = subst (IsLeast p c t) is least m e

-- whether there is an enabled act says whether the thread can step
pub enabled_tells : (p : Program) (c : Config) (t : ℕ) (o : Option Act) → EnabledAct p c t o → is_some o ≡ can_step_thread p c t
enabled_tells p c t None h = sym h
enabled_tells p c t (Some a) h = sym h.1

module _ (p : Program) (c : Config) (limit t : ℕ) where
  enabled_of : (o : Option Act) (b : Act) → EnabledAct p c t o → o ≡ Some b → IsEnabled p c (record { thread = t; act = b })
  enabled_of None b h is = cc
  enabled_of (Some a) b (enabled, can) is =
      let same : a ≡ b = cc in
      some_of (step p c (record { thread = t; act = b })) (ap (λ x. is_some (step p c (record { thread = t; act = x }))) (sym same) ∙ enabled)

  none_enabled : (o : Option Act) → EnabledAct p c t o → o ≡ None → IsStill p c limit t
  none_enabled None h is a (e, space) = clash ((thread_exact p c t).1 (a, e)) h
  none_enabled (Some b) h is a open_now = cc

  -- the enabled act is no send, or there is space
  pub open_as_it_is : (o : Option Act) → EnabledAct p c t o → (IsOrdered c → IsLeast p c t o) → (is_sending o && not (has_space c limit)) ≡ false → OpenAct p c limit t o
  open_as_it_is o h least may = record {
    allowed = λ b is. (
      enabled_of o b h is,
      λ sends.
          let sending : is_sending o ≡ true = ap is_sending (is ∙ ap (λ (x : Act). Some x) sends) in
          ⊎_elim
          (λ no. absurd (clash sending no))
          (λ space. ltb-true (length c.messages) limit (not-false (has_space c limit) space))
          (and_cases (is_sending o) (not (has_space c limit)) may),
    );
    least = λ ordered. least_named p c t o (least ordered);
    none = none_enabled o h;
  }

  sends_only : (o : Option Act) → is_sending o ≡ true → o ≡ Some ActSend
  sends_only None h = cc
  sends_only (Some ActSend) h = refl
  sends_only (Some ActLocal) h = cc
  sends_only (Some ActNew) h = cc
  sends_only (Some ActSpawn) h = cc
  sends_only (Some ActPrint) h = cc
  sends_only (Some ActEnd) h = cc
  sends_only (Some ActFree) h = cc
  sends_only (Some (ActReceive k)) h = cc

  -- the enabled act is a send, and there is no space
  pub held_back : (o : Option Act) → EnabledAct p c t o → (is_sending o && not (has_space c limit)) ≡ true → OpenAct p c limit t None
  held_back o h may =
      let both = and_parts (is_sending o) (not (has_space c limit)) may in
      let send = enabled_of o ActSend h (sends_only o both.0) in
      record {
        allowed = λ b is. cc;
        least = λ ordered k m is. cc;
        none = λ is a (e, space).
            let less : length c.messages < limit = space (send_alone p c t a send.0 e.0 send.1 e.1) in
            let more : limit ≤ length c.messages = ltb-false (length c.messages) limit (not-true (has_space c limit) both.1) in
            absurd (omega arith);
      }

  -- whether there is an open act says whether the thread can go on
  pub open_tells : (o : Option Act) → OpenAct p c limit t o → is_some o ≡ can_go_on p c limit t
  open_tells None h = sym (false_from_ne_true (can_go_on p c limit t) (λ can. let a = (open_exact p c limit t).0 can in h.none refl a.0 a.1))
  open_tells (Some a) h = sym ((open_exact p c limit t).1 (a, h.allowed a refl))

-- the open act, taken in order, is shared
pub takes : (p : Program) (c d : Config) (limit t : ℕ) (a : Act) → IsOrdered c → OpenAct p c limit t (Some a) → step p c (record { thread = t; act = a }) ≡ Some d → Shares p limit c t (Some a) d
takes p c d limit t a ordered h is = record {
  taken = ap (option_and_then (λ x. run_from p x [])) is;
  allowed = h.allowed;
  least = h.least ordered;
  none = h.none;
}
