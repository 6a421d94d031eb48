-- What parts of an answer allow.
use Rattle.std.proofs.Common.{◌≡◌, ℕ, List, Option, Result, Ok as Done, Err as Failed, sym, ap, ◌∙◌, subst}
use Rattle.std.specs.Prelude.{IfOk}
use Rattle.pat_semantics_spec.specs.Programs.{Program}
use Rattle.pat_semantics_spec.specs.Configs.{Config}
use Rattle.pat_semantics_spec.specs.Runs.{Entry, Outcome}
use Rattle.pat_replay_input.specs.RunText.{replay_text}
use Rattle.pat_front.specs.declared.verdict.Verdict.{Verdict}
use Rattle.pat_front.specs.exit_answers.Answers.{SaysVerdict}
use Rattle.pat_front.specs.declared.exit_answers.answer.Answer.{Answer}
use Rattle.pat_replay_input.specs.Histories.{standing}
use Rattle.pat_command_replay.specs.Pieces.{ReplaysInput, IsInputRefusal}
use Rattle.pat_command_replay.specs.Allowed.{IsReplayed, AllowedReplay}

pub replayed_is : (bytes : List ℕ) (p : Program) (es : List Entry) (c : Config) (o : Option Outcome) (out : List ℕ) → ReplaysInput bytes p es c → o ≡ standing p c → out ≡ replay_text es c o → IsReplayed bytes out
replayed_is bytes p es c o out replays stands shown = record { program = p; entries = es; config = c; replays = replays; shown = shown ∙ ap (replay_text es c) stands }

pub refused : {E : Type 0} (bytes : List ℕ) (v : Verdict) (r : Result Answer E) → IsInputRefusal bytes v → IfOk r (λ a. SaysVerdict v a.text.items a.status) → IfOk r (λ a. AllowedReplay bytes a.text.items a.status)
refused bytes v (Failed e) why says = tt
refused bytes v (Done a) why says = subst (λ k. AllowedReplay bytes a.text.items k) (sym says.0) (why, says.1)
