-- What the turns from a checkpoint give is a run that goes on from it.
use Rattle.std.proofs.Common.{◌≡◌, ℕ, List, [], ◌∷◌, map, Some, None, refl, sym, ap, ap₂, ◌∙◌, subst}
use Rattle.pat_semantics_spec.specs.Programs.{Program}
use Rattle.pat_semantics_spec.specs.WellFormed.{WellFormed}
use Rattle.pat_semantics_spec.specs.Configs.{Config}
use Rattle.pat_semantics_spec.specs.Orders.{IsOrdered}
use Rattle.pat_semantics_spec.specs.Runs.{Entry, replay_from, Outcome, outcome}
use Rattle.pat_semantics_laws.specs.Laws.{history_steps}
use Rattle.pat_semantics_laws.proofs.Replays.{replay_runs}
use Rattle.pat_type_system_spec.specs.Interfaces.{interfaces_along}
use Rattle.pat_derivation_spec.specs.Derivations.{Derivation}
use Rattle.pat_checkpoint_spec.specs.Checkpoints.{Checkpoint, interface_at, interfaces_of}
use Rattle.pat_checkpoint_spec.specs.Checked.{IsChecked}
use Rattle.pat_checkpoint_spec.specs.Resumed.{made_along, interface_made, interfaces_after_history, IsResumed}
use Rattle.pat_checkpoint_spec.specs.Turns.{turns}
use Rattle.pat_checkpoint_laws.specs.Laws.{CheckedIsTyped}
use Rattle.pat_checkpoint_laws.specs.resuming.Laws.{InterfacesMade, TurnsResume}

-- a checked checkpoint is in order
pub checked_in_order : (p : Program) (x : Checkpoint) → CheckedIsTyped → WellFormed p → ((d : Derivation) × IsChecked p d x) → IsOrdered x.config
checked_in_order p x typed well (d, checked) = (typed p d x well checked).numbers.ordered

-- the interfaces, where all that they are made of is seen by other names
pub kept_is : (live live_is old old_is : List ℕ) (next next_is : ℕ) (made made_is after after_is interfaces : List ℕ) → live ≡ live_is → old ≡ old_is → next ≡ next_is → made ≡ made_is → after ≡ after_is
    → interfaces ≡ map (interface_made (interface_at live old) next made) after → interfaces ≡ map (interface_made (interface_at live_is old_is) next_is made_is) after_is
kept_is live live_is old old_is next next_is made made_is after after_is interfaces a b c d e is =
    is
    ∙ ap (λ l. map (interface_made (interface_at l old) next made) after) a
    ∙ ap (λ l. map (interface_made (interface_at live_is l) next made) after) b
    ∙ ap (λ n. map (interface_made (interface_at live_is old_is) n made) after) c
    ∙ ap (λ l. map (interface_made (interface_at live_is old_is) next_is l) after) d
    ∙ ap (map (interface_made (interface_at live_is old_is) next_is made_is)) e

map_same : {A B : Type 0} (f g : A → B) → ((a : A) → f a ≡ g a) → (xs : List A) → map f xs ≡ map g xs
map_same f g h [] = refl
map_same f g h (x ∷ xs) = ap₂ (λ b bs. b ∷ bs) (h x) (map_same f g h xs)

module _ (p : Program) (x : Checkpoint) (steps : ℕ) (es : List Entry) (c : Config) (made interfaces : List ℕ) (o : Outcome)
    (entries : es ≡ turns p x.config steps)
    (reached : replay_from p x.config (turns p x.config steps) ≡ Some c)
    (made_is : made ≡ made_along p x.config (history_steps (turns p x.config steps)))
    (kept : interfaces ≡ map (interface_made (interface_at x.config.live x.interfaces) x.config.next_mailbox made) c.live)
    (ends : (steps budget : ℕ) (other : Outcome) → outcome p c steps budget None ≡ Some other → o ≡ other) where
  abbrev whole : List Entry
  whole = turns p x.config steps

  interfaces_are : InterfacesMade → interfaces ≡ interfaces_after_history p x whole c
  interfaces_are law =
      kept
      ∙ ap (λ l. map (interface_made (interface_at x.config.live x.interfaces) x.config.next_mailbox l) c.live) made_is
      ∙ sym (map_same (interfaces_along p x.config (history_steps whole) (interfaces_of x)) (interface_made (interfaces_of x) x.config.next_mailbox (made_along p x.config (history_steps whole)))
      (λ a. law p (history_steps whole) (interfaces_of x) x.config c a (replay_runs p x.config c whole reached).1) c.live)

  pub resumed : InterfacesMade → TurnsResume → WellFormed p → (d : Derivation) → IsChecked p d x → IsResumed p d x steps es c interfaces o
  resumed law resumes well d checked =
      let (k, other, r) = resumes p d x steps well checked in
      let both : Some k ≡ Some c = sym r.reached ∙ reached in
      let same : k ≡ c = cc in
      let here : IsResumed p d x steps whole c (interfaces_after_history p x whole c) other = subst (λ q. IsResumed p d x steps whole q (interfaces_after_history p x whole q) other) same r in
      subst (λ l. IsResumed p d x steps l c interfaces o) (sym entries)
      (subst (λ l. IsResumed p d x steps whole c l o) (sym (interfaces_are law))
      (subst (IsResumed p d x steps whole c (interfaces_after_history p x whole c)) (sym (ends _ _ other here.ends)) here))
