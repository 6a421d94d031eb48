-- Runs that go on from a checkpoint.
use Rattle.std.specs.Prelude.{◌≡◌, ℕ, ◌-◌, nat_lt, if◌then◌else◌, List, [], ◌∷◌, ◌++◌, map, Option, Some, None, option_map, unwrap_or, slice_get}
use Rattle.pat_semantics_spec.specs.Programs.{Program, option_list}
use Rattle.pat_semantics_spec.specs.Configs.{Config, start, thread_at}
use Rattle.pat_semantics_spec.specs.Steps.{Step, step}
use Rattle.pat_semantics_spec.specs.Runs.{Entry, replay_from, step_count, Outcome, outcome}
use Rattle.pat_semantics_laws.specs.Laws.{history_steps}
use Rattle.pat_inclusion_spec.specs.Certificates.{Cert}
use Rattle.pat_type_system_spec.specs.Typed.{IsTyped}
use Rattle.pat_type_system_spec.specs.Interfaces.{made_by, interfaces_along}
use Rattle.pat_derivation_spec.specs.Derivations.{Derivation, typing_of}
use Rattle.pat_checkpoint_spec.specs.Checkpoints.{PartCerts, Checkpoint, interface_at, interfaces_of}
use Rattle.pat_checkpoint_spec.specs.Turns.{turns}

-- the interfaces of the mailboxes that steps make, in the order in which they are made, as far as the steps are enabled
abbrev pub made_along : Program → Config → List Step → List ℕ
made_along p c [] = []
made_along p c (k ∷ ks) =
    option_list (made_by p k.act (thread_at c k.thread)) ++ unwrap_or (option_map (λ d. made_along p d ks) (step p c k)) []

-- the interface of a mailbox: below number n that which it had, and from there on that with which it was made
abbrev pub interface_made : (ℕ → ℕ) → ℕ → List ℕ → ℕ → ℕ
interface_made interfaces n made a = if nat_lt a n then interfaces a else unwrap_or (slice_get made (a - n)) (interfaces a)

-- the interface of each live mailbox after a history: that in the checkpoint, or that of the `new` that made it
abbrev pub interfaces_after_history : Program → Checkpoint → List Entry → Config → List ℕ
interfaces_after_history p x es c = map (interfaces_along p x.config (history_steps es) (interfaces_of x)) c.live

-- the run from the checkpoint, with so many steps, has this history, leads to this configuration, whose live mailboxes have these interfaces,
-- and ends so; and the configuration is typed
pub record IsResumed (p : Program) (d : Derivation) (x : Checkpoint) (steps : ℕ) (es : List Entry) (c : Config) (interfaces : List ℕ) (o : Outcome) : Type 0 where
  pub entries : es ≡ turns p x.config steps
  pub reached : replay_from p x.config es ≡ Some c
  pub kept : interfaces ≡ interfaces_after_history p x es c
  pub typed : IsTyped p (typing_of p d) (interface_at c.live interfaces) c
  pub ends : outcome p c (step_count es) steps None ≡ Some o

-- the configuration without its printed lines
abbrev pub silent : Config → Config
silent c = record c { printed = [] }

-- a part that needs no certificate
abbrev pub no_certs : PartCerts
no_certs = record { control = None; frames = [] }

-- the start of a program, as a checkpoint: nothing is live, and main's thread needs no certificate
abbrev pub start_checkpoint : Program → Checkpoint
start_checkpoint p = record { config = start p; interfaces = []; mailbox_certs = []; part_certs = map (λ e. no_certs) (start p).threads }

-- the configuration with these interfaces and certificates
abbrev pub silent_checkpoint : Config → List ℕ → List (Option Cert) → List PartCerts → Checkpoint
silent_checkpoint c interfaces mailboxes parts =
    record { config = silent c; interfaces = interfaces; mailbox_certs = mailboxes; part_certs = parts }
