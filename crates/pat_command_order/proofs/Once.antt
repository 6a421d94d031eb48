-- Bytes have one answer, but for the order that is found.
use Rattle.std.proofs.Common.{◌≡◌, ◌≤◌, ◌<◌, ℕ, List, length, sym, ap, ◌∙◌, ⊎_elim, arith}
use Rattle.pat_semantics_spec.specs.Programs.{Program}
use Rattle.pat_semantics_spec.specs.Configs.{Config}
use Rattle.pat_semantics_spec.specs.Runs.{Entry}
use Rattle.pat_front.specs.declared.verdict.Verdict.{Verdict}
use Rattle.pat_front.specs.declared.verdict.Verdict.TheVariants as verdict
use Rattle.pat_replay_input.specs.Histories.{Replays, IsReplayRefusal}
use Rattle.pat_replay_input.specs.OneReplay.{OneReplay}
use Rattle.pat_command_order.specs.Allowed.{HasTooMany, IsOrderRefusal}
use Rattle.pat_command_order.specs.Answers.{OneAnswer}
use Rattle.pat_limits.specs.Limits.{most_entries}

not_few : (es fs : List Entry) → es ≡ fs → length es ≤ most_entries → most_entries < length fs → ⊥
not_few es fs same few many = let sizes = ap length same in absurd (omega (arith, sizes, few, many))

module _ (bytes : List ℕ) (one : OneReplay bytes) where
  -- too many are still a history that replays
  not_refused : (v : Verdict) → HasTooMany bytes → IsReplayRefusal bytes v → ⊥
  not_refused v a r = one.not_both a.program a.entries a.config v a.replays r

  not_many : (p : Program) (es : List Entry) (c : Config) → Replays bytes p es c → length es ≤ most_entries → HasTooMany bytes → ⊥
  not_many p es c replays few b =
      let same = one.same p b.program es b.entries c b.config replays b.replays in
      not_few es b.entries same.1 few b.many

  complete : (p : Program) (es : List Entry) (c : Config) (v : Verdict) → Replays bytes p es c → length es ≤ most_entries → IsOrderRefusal bytes v → ⊥
  complete p es c v replays few r =
      ⊎_elim
      (λ (m : IsReplayRefusal bytes v). one.not_both p es c v replays m)
      (λ (m : (v ≡ verdict.TooManyEntries) × HasTooMany bytes). not_many p es c replays few m.1)
      r

  pub one_answer : OneAnswer bytes
  one_answer = record {
    one_history = λ out other a b.
        let same = one.same a.program b.program a.entries b.entries a.config b.config a.replays b.replays in
        record { program = same.0; entries = same.1; config = same.2 };
    not_both = λ out v a r. complete a.program a.entries a.config v a.replays a.few r;
    not_refused = complete;
    one_refusal = λ v w x y.
        ⊎_elim
        (λ (m : IsReplayRefusal bytes v).
        ⊎_elim
        (λ (n : IsReplayRefusal bytes w). one.one_refusal v w m n)
        (λ (n : (w ≡ verdict.TooManyEntries) × HasTooMany bytes). absurd (not_refused v n.1 m))
        y)
        (λ (m : (v ≡ verdict.TooManyEntries) × HasTooMany bytes).
        ⊎_elim
        (λ (n : IsReplayRefusal bytes w). absurd (not_refused w m.1 n))
        (λ (n : (w ≡ verdict.TooManyEntries) × HasTooMany bytes). m.0 ∙ sym n.0)
        y)
        x;
  }
