-- The program that waits for a message that nobody can send reaches a failing guard.
use Rattle.std.proofs.Common.{◌≡◌, ℕ, true, List, [], ◌∷◌, Some, None, refl}
use Rattle.pat_words_spec.specs.Patterns.{Tag}
use Rattle.pat_semantics_spec.specs.Values.{Mailbox}
use Rattle.pat_semantics_spec.specs.Programs.{is_free}
use Rattle.pat_semantics_spec.specs.WellFormed.{WellFormed}
use Rattle.pat_semantics_spec.specs.Configs.{is_reached_by_none_but}
use Rattle.pat_semantics_spec.specs.Steps.{ActLocal, ActNew, ActFree, ActReceive, Step}
use Rattle.pat_semantics_spec.specs.Runs.{run}
use Rattle.pat_semantics_spec.specs.Faults.{GuardOn, IsDisabled, starved}
use Rattle.pat_examples.specs.safety.Build.{main_step, led_by, clause}
use Rattle.pat_examples.specs.safety.Unsafe.{waiting, ReachesFailingGuard}
use Rattle.pat_examples.proofs.FitTests.{program_fits, well_formed}

waiting_steps : List Step
waiting_steps = main_step ActLocal ∷ main_step ActNew ∷ main_step ActLocal ∷ []

waiting_leads : run waiting waiting_steps ≡ Some (led_by waiting waiting_steps)
unfolding is_free waiting_steps
waiting_leads = refl

waiting_guard : GuardOn waiting (led_by waiting waiting_steps) 0 0
unfolding is_free waiting_steps
waiting_guard = record {
  guard = record { node = 2; env = (0, Mailbox 0) ∷ []; frames = []; var = 0; pattern = Tag 0; free = None; receives = clause 0 [] 1 3 ∷ []; stands = refl; term = refl };
  names = refl;
}

no_receive : (k : ℕ) → IsDisabled waiting (led_by waiting waiting_steps) 0 (ActReceive k)
unfolding is_free waiting_steps
no_receive k = refl

no_free : IsDisabled waiting (led_by waiting waiting_steps) 0 ActFree
unfolding is_free waiting_steps
no_free = refl

alone : is_reached_by_none_but (led_by waiting waiting_steps) 0 0 ≡ true
unfolding is_free waiting_steps
alone = refl

pub waiting_fails : ReachesFailingGuard waiting
waiting_fails = (waiting_steps, led_by waiting waiting_steps, waiting_leads, starved 0 0 waiting_guard no_receive no_free alone)

waiting_fits : program_fits 2 waiting ≡ true
unfolding is_free
waiting_fits = refl

pub waiting_formed : WellFormed waiting
waiting_formed = well_formed 2 waiting waiting_fits
