-- What goes on from a checked checkpoint is typed.
use Rattle.std.proofs.Common.{◌≡◌, ℕ, true, false, ◌&&◌, nat_eq, if◌then◌else◌, List, [], ◌∷◌, map, Option, Some, None, refl, sym, ap, ⊎_elim}
use Rattle.std.proofs.lemmas.Bool.{or_cases, eqb-true}
use Rattle.pat_semantics_spec.specs.Programs.{Program, Function, function_at, is_among}
use Rattle.pat_semantics_spec.specs.WellFormed.{WellFormed}
use Rattle.pat_semantics_spec.specs.Configs.{Config, start, start_of}
use Rattle.pat_semantics_spec.specs.Runs.{Entry, Outcome, replay_from}
use Rattle.pat_semantics_laws.specs.Laws.{history_steps}
use Rattle.pat_semantics_laws.proofs.Ordered.{printed_ordered}
use Rattle.pat_type_system_spec.specs.Typings.{Typing}
use Rattle.pat_type_system_spec.specs.Typed.{IsTyped}
use Rattle.pat_type_system_spec.specs.Interfaces.{interfaces_along}
use Rattle.pat_derivation_spec.specs.Derivations.{Derivation, scope_of, written_typing, typing_of}
use Rattle.pat_derivation_spec.specs.Validity.{IsValid}
use Rattle.pat_safety_laws.specs.preservation.Laws.{StartTyped, ReplayKeeps, LiveInterfacesMatter}
use Rattle.pat_derivation_laws.specs.Laws.{ValidGivesTyping}
use Rattle.pat_checkpoint_laws.specs.Laws.{CheckedIsTyped, ShownIsChecked}
use Rattle.pat_type_system_spec.specs.Types.{TypeOf, BaseTerm, MailboxTerm}
use Rattle.pat_type_system_spec.specs.Values.{BaseUnit}
use Rattle.pat_checkpoint_spec.specs.Checkpoints.{Checkpoint, interface_at, interfaces_of}
use Rattle.pat_checkpoint_spec.specs.Kinds.{type_needs, is_certified, threads_shown}
use Rattle.pat_checkpoint_spec.specs.Balances.{balance_needs, balances_shown}
use Rattle.pat_checkpoint_spec.specs.Checked.{IsChecked}
use Rattle.pat_checkpoint_spec.specs.Resumed.{interfaces_after_history, IsResumed, no_certs, silent, start_checkpoint}
use Rattle.pat_checkpoint_spec.specs.Turns.{turns}
use Rattle.pat_checkpoint_laws.proofs.TurnsEnd.{turns_end}

-- the interface at the place of a mailbox that is in the list
pub mapped_at : (f : ℕ → ℕ) (live : List ℕ) (a : ℕ) → is_among a live ≡ true → interface_at live (map f live) a ≡ f a
mapped_at f [] a h = cc
mapped_at f (b ∷ bs) a h =
    (elim (nat_eq a b) as (λ t. nat_eq a b ≡ t → (if t then f b else interface_at bs (map f bs) a) ≡ f a) [
      | true ↦ λ q. ap f (sym (eqb-true a b q))
      | false ↦ λ q. ⊎_elim (λ here. absurd (apart q here)) (λ rest. mapped_at f bs a rest) (or_cases (nat_eq a b) (is_among a bs) h)
    ]) refl
  where
    apart : nat_eq a b ≡ false → nat_eq a b ≡ true → ⊥
    apart q r = cc

-- without its printed lines a configuration is as typed as it was
pub silent_typed : (p : Program) (y : Typing) (f : ℕ → ℕ) (c : Config) → IsTyped p y f c → IsTyped p y f (silent c)
silent_typed p y f c t = record {
  typing = t.typing;
  numbers = record { ordered = printed_ordered c [] t.numbers.ordered; threads_live = t.numbers.threads_live; messages_live = t.numbers.messages_live };
  threads = t.threads;
  messages = t.messages;
  balanced = t.balanced;
}

module _ (checked : CheckedIsTyped) (replays : ReplayKeeps) (live : LiveInterfacesMatter) where
  pub resumed_typed : (p : Program) (d : Derivation) (x : Checkpoint) (es : List Entry) (c : Config) → WellFormed p → IsChecked p d x → replay_from p x.config es ≡ Some c → IsTyped p (typing_of p d) (interface_at c.live (interfaces_after_history p x es c)) c
  resumed_typed p d x es c w k h =
      let f = interfaces_along p x.config (history_steps es) (interfaces_of x) in
      live p (typing_of p d) f (interface_at c.live (map f c.live)) c
      (replays p (typing_of p d) (interfaces_of x) es x.config c w (checked p d x w k) h)
      (λ a l. mapped_at f c.live a l)

  pub turns_resume : (p : Program) (d : Derivation) (x : Checkpoint) (steps : ℕ) → WellFormed p → IsChecked p d x → (c : Config) × (o : Outcome) × IsResumed p d x steps (turns p x.config steps) c (interfaces_after_history p x (turns p x.config steps) c) o
  turns_resume p d x steps w k =
      let r = turns_end p x.config steps (checked p d x w k).numbers.ordered in (
        r.config,
        r.ends.0,
        record {
          entries = refl;
          reached = r.reached;
          kept = refl;
          typed = resumed_typed p d x (turns p x.config steps) r.config w k r.reached;
          ends = r.ends.1;
        },
      )

-- ---- the start

unit_needs : (t : TypeOf) → type_needs t (BaseTerm BaseUnit) ≡ None
unit_needs (BaseTerm b) = refl
unit_needs (MailboxTerm i q e) = refl

pub start_checked : StartTyped → ValidGivesTyping → ShownIsChecked → (p : Program) (d : Derivation) → WellFormed p → IsValid p d → IsChecked p d (start_checkpoint p)
start_checked starts typings shown p d w v =
    shown p d (start_checkpoint p) w v (starts p (typing_of p d) (interfaces_of (start_checkpoint p)) w (typings p d w v)) (parts (function_at p p.main)) (balances (function_at p p.main))
  where
    parts : (o : Option Function) → threads_shown p (written_typing p d) (scope_of p d) (start_of o).threads (map (λ e. no_certs) (start_of o).threads) ≡ true
    parts None = refl
    parts (Some g) = ap (λ o. (is_certified (scope_of p d) o None && true) && true) (unit_needs ((written_typing p d).results g.body))

    balances : (o : Option Function) → balances_shown (scope_of p d) (balance_needs p (written_typing p d) (interfaces_of (start_checkpoint p)) (start p)) (start_of o).live [] [] ≡ true
    balances None = refl
    balances (Some g) = refl
