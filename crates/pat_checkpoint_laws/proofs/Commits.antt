-- A turn commits a job.
use Rattle.std.proofs.Common.{◌≡◌, ℕ, ◌<◌, true, false, nat_lt, if◌then◌else◌, [], length, Option, Some, None, refl, sym, ap, ◌∙◌, subst, arith}
use Rattle.std.specs.Prelude.{option_and_then, unwrap_or, min, replicate}
use Rattle.std.proofs.lemmas.Bool.{ltb-true, ltb-false}
use Rattle.pat_semantics_spec.specs.Programs.{Program}
use Rattle.pat_semantics_spec.specs.Configs.{Thread, Config, thread_at, with_thread}
use Rattle.pat_semantics_spec.specs.Orders.{IsOrdered}
use Rattle.pat_semantics_spec.specs.Steps.{Act, ActReceive}
use Rattle.pat_semantics_spec.specs.Runs.{run_from}
use Rattle.pat_machine_spec.specs.Opens.{IsOpen}
use Rattle.pat_machine_spec.specs.Commits.{local_of, IsLocalRun, Shares, IsCommit}
use Rattle.pat_machine_laws.proofs.Locals.{locals_run}
use Rattle.pat_semantics_laws.proofs.Ordered.{run_keeps_order}
use Rattle.pat_checkpoint_spec.specs.Turns.{Locals, take_locals, first_act, after_act, Turn, turn_with, turn_by, turn_of, turn_at}
use Rattle.pat_checkpoint_laws.proofs.Acts.{first_enabled, none_enabled, first_least, locals_taken}

-- the shared act of a turn
first_shares : (p : Program) (m : Config) (t limit : ℕ) (o : Option Act) → IsOrdered m → length m.messages < limit → first_act p m t ≡ o → Shares p limit m t o (after_act p m t o)
first_shares p m t limit None order space is = record {
  taken = refl;
  allowed = λ b h. cc;
  least = λ k n h e. cc;
  none = λ h a may. none_enabled p m t a is may.0;
}
first_shares p m t limit (Some a) order space is =
    let e = first_enabled p m t a is in
    record {
      taken =
          ap (option_and_then (λ d. run_from p d [])) e.1
          ∙ sym (ap (λ o. Some (unwrap_or o m)) e.1);
      allowed = λ b h. let same : a ≡ b = cc in subst (λ x. IsOpen p m limit (record { thread = t; act = x })) same (e, λ sends. space);
      least = λ k n h other. let same : a ≡ ActReceive k = cc in first_least p m t k n order (is ∙ ap Some same) other;
      none = λ h. cc;
    }

-- the turn after the local steps
turn_commits_by : (p : Program) (c : Config) (t allowance limit : ℕ) (s : Thread) (l : Locals) → IsOrdered c → thread_at c t ≡ Some s → length c.messages < limit → IsLocalRun p allowance s l.count l.thread → IsCommit p allowance limit c (turn_by p allowance c t l).entry (turn_by p allowance c t l).after
turn_commits_by p c t allowance limit s l order there space run =
    let middle = with_thread c t l.thread in
    let ordered : IsOrdered middle = run_keeps_order p (replicate l.count (local_of t)) c middle order (locals_run p l.count c t s l.thread there run.taken) in
    elim (nat_lt l.count allowance) as (λ b. nat_lt l.count allowance ≡ b → IsCommit p allowance limit c (turn_with p middle t l.count (if b then first_act p middle t else None)).entry (turn_with p middle t l.count (if b then first_act p middle t else None)).after) [
      | true ↦ λ q. record {
        kept = s;
        middle = l.thread;
        there = there;
        local = run;
        shared = λ less. first_shares p middle t limit (first_act p middle t) ordered space refl;
        spent = λ all. let less = ltb-true l.count allowance q in absurd (omega arith);
      }
      | false ↦ λ q. record {
        kept = s;
        middle = l.thread;
        there = there;
        local = run;
        shared = λ less. let past = ltb-false l.count allowance q in absurd (omega arith);
        spent = λ all. (refl, refl);
      }
    ] refl

pub turn_commits : (p : Program) (c : Config) (t left limit : ℕ) (s : Thread) → IsOrdered c → thread_at c t ≡ Some s → length c.messages < limit → IsCommit p (min 256 left) limit c (turn_at p left c t).entry (turn_at p left c t).after
turn_commits p c t left limit s order there space =
    let is : turn_at p left c t ≡ turn_by p (min 256 left) c t (take_locals p (min 256 left) s) = ap (turn_of p (min 256 left) c t) there in
    subst (λ (u : Turn). IsCommit p (min 256 left) limit c u.entry u.after) (sym is)
    (turn_commits_by p c t (min 256 left) limit s (take_locals p (min 256 left) s) order there space (locals_taken p (min 256 left) s))
