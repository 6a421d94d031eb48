-- What parts of an answer allow.
use Rattle.std.proofs.Common.{◌≡◌, ◌≤◌, ◌<◌, ℕ, List, [], ◌∷◌, length, Option, Result, Ok as Done, Err as Failed, refl, sym, ap, ◌∙◌, subst, inl, inr}
use Rattle.std.specs.Prelude.{IfOk}
use Rattle.pat_semantics_spec.specs.Programs.{Program}
use Rattle.pat_semantics_spec.specs.Configs.{Config}
use Rattle.pat_semantics_spec.specs.Runs.{Entry, Outcome, IsHistory}
use Rattle.pat_history_laws.specs.Readable.{AreReadable}
use Rattle.pat_causal_spec.specs.Reordered.{exchanged, LeadsTo}
use Rattle.pat_causal_laws.proofs.Histories.{leads_replays, leads_count}
use Rattle.pat_causal_laws.proofs.Moves.{exchanged_length}
use Rattle.pat_causal.specs.Order.{HasOrder}
use Rattle.pat_replay_input.specs.RunText.{order_text}
use Rattle.pat_front.specs.declared.verdict.Verdict.{Verdict}
use Rattle.pat_front.specs.declared.verdict.Verdict.TheVariants as verdict
use Rattle.pat_front.specs.exit_answers.Answers.{SaysVerdict}
use Rattle.pat_front.specs.declared.exit_answers.answer.Answer.{Answer}
use Rattle.pat_replay_input.specs.Histories.{standing, Replays, IsReplayRefusal}
use Rattle.pat_command_order.specs.Allowed.{IsOrdered, HasTooMany, AllowedOrder}
use Rattle.pat_limits.specs.Limits.{most_entries}

-- no entry that a reader takes has a local step as its shared act
pub readable_history : (es : List Entry) → AreReadable es → IsHistory es
readable_history [] h = tt
readable_history (e ∷ es) h = (h.0.shared, readable_history es h.1)

-- exchanges keep the number of entries
pub leads_length : (places : List ℕ) (es fs : List Entry) → LeadsTo places es fs → length fs ≡ length es
leads_length [] es fs led = ap length (sym led)
leads_length (i ∷ places) es fs led = leads_length places (exchanged i es) fs led.1 ∙ exchanged_length i es

module _ (bytes : List ℕ) (p : Program) (es : List Entry) (c : Config) (replays : Replays bytes p es c) where
  pub ordered_is : (fs : List Entry) (o : Option Outcome) (out : List ℕ) → length es ≤ most_entries → HasOrder es fs → o ≡ standing p c → out ≡ order_text fs c o → IsOrdered bytes out
  ordered_is fs o out few order stands shown =
      record {
        program = p;
        entries = es;
        config = c;
        replays = replays;
        few = few;
        ordered = fs;
        places = order.places;
        reordered = order.reordered;
        same = leads_replays p order.places es fs c order.reordered.led replays.leads.replayed;
        steps = leads_count order.places es fs order.reordered.led;
        shown = shown ∙ ap (order_text fs c) stands;
      }

  pub too_many : {E : Type 0} (r : Result Answer E) → most_entries < length es → IfOk r (λ a. SaysVerdict verdict.TooManyEntries a.text.items a.status) → IfOk r (λ a. AllowedOrder bytes a.text.items a.status)
  too_many (Failed e) many says = tt
  too_many (Done a) many says =
      let has : HasTooMany bytes = record { program = p; entries = es; config = c; replays = replays; many = many } in
      subst (λ k. AllowedOrder bytes a.text.items k) (sym says.0) (inr (refl, has), says.1)

pub refused : {E : Type 0} (bytes : List ℕ) (v : Verdict) (r : Result Answer E) → IsReplayRefusal bytes v → IfOk r (λ a. SaysVerdict v a.text.items a.status) → IfOk r (λ a. AllowedOrder bytes a.text.items a.status)
refused bytes v (Failed e) why says = tt
refused bytes v (Done a) why says = subst (λ k. AllowedOrder bytes a.text.items k) (sym says.0) (inl why, says.1)
