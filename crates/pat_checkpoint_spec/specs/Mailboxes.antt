-- Four rules on mailboxes: different names are different mailboxes, what may be returned is in no later part, one place receives, and messages
-- are as they are declared.
use Rattle.std.specs.Prelude.{ℕ, Bool, true, false, not, ◌&&◌, ◌||◌, List, [], ◌∷◌, map, Option, Some, None}
use Rattle.std.specs.List.{list_all}
use Rattle.pat_semantics_spec.specs.Values.{Value, Kind, Env}
use Rattle.pat_semantics_spec.specs.Programs.{TagDecl, Program, tag_at, kind_of}
use Rattle.pat_semantics_spec.specs.Configs.{Control, Running, Returned, Frame, Thread, Message, Config}
use Rattle.pat_inclusion_spec.specs.Patterns.{Pat}
use Rattle.pat_type_system_spec.specs.Typings.{Typing}
use Rattle.pat_type_system_spec.specs.Holdings.{Holding, control_held, frame_held, receivers}
use Rattle.pat_type_system_spec.specs.Typed.{mailboxes_of, frames_refer}
use Rattle.pat_type_schemes_spec.specs.Compared.{is_second}
use Rattle.pat_derivation_spec.specs.Same.{all_differ}
use Rattle.pat_derivation_spec.specs.Derivations.{Derivation, written_typing}
use Rattle.pat_checkpoint_spec.specs.Checkpoints.{Checkpoint, interfaces_of}
use Rattle.pat_checkpoint_spec.specs.HoldingsInOrder.{lines_held}
use Rattle.pat_checkpoint_spec.specs.Kinds.{value_fits}

-- the values of an environment
abbrev pub values_of : Env → List Value
values_of env = map (λ e. e.1) env

-- the values of a control
abbrev pub control_values : Control → List Value
control_values (Running n env) = values_of env
control_values (Returned v) = v ∷ []

-- ---- Distinct

abbrev pub env_differs : Env → Bool
env_differs env = all_differ (mailboxes_of (values_of env))

abbrev pub control_differs : Control → Bool
control_differs k = all_differ (mailboxes_of (control_values k))

-- within each part different variables name different mailboxes
abbrev pub thread_differs : Thread → Bool
thread_differs s = control_differs s.control && list_all (λ f. env_differs f.env) s.frames

-- a message's mailbox and those of its payload are all different
abbrev pub message_differs : Message → Bool
message_differs m = all_differ (m.mailbox ∷ mailboxes_of m.values)

abbrev pub mailboxes_differ : Config → Bool
mailboxes_differ c = list_all (λ e. thread_differs e.1) c.threads && list_all message_differs c.messages

-- ---- Order

-- whether it is held as returnable
abbrev pub is_returnable : Holding → Bool
is_returnable None = false
is_returnable (Some a) = not (is_second a.usage)

-- those of the mailboxes that are held here as returnable are in none of the frames
abbrev pub keeps_from : (ℕ → Holding) → List ℕ → List Frame → Bool
keeps_from holds bs fs = list_all (λ b. not (is_returnable (holds b)) || not (frames_refer b fs)) bs

abbrev pub frames_keep : Typing → List Frame → Bool
frames_keep y [] = true
frames_keep y (f ∷ fs) = keeps_from (λ b. frame_held y b f) (mailboxes_of (values_of f.env)) fs && frames_keep y fs

abbrev pub thread_keeps : Program → Typing → Thread → Bool
thread_keeps p y s =
    keeps_from (λ b. control_held p y b s.control s.frames) (mailboxes_of (control_values s.control)) s.frames && frames_keep y s.frames

abbrev pub order_holds : Program → Derivation → Config → Bool
order_holds p d c = list_all (λ e. thread_keeps p (written_typing p d) e.1) c.threads

-- ---- Holder

abbrev pub is_single : List Pat → Bool
is_single (e ∷ []) = true
is_single _ = false

-- each live mailbox has one receiving holding
abbrev pub holders_hold : Program → Derivation → Checkpoint → Bool
holders_hold p d x =
    list_all (λ a. is_single (receivers (lines_held p (written_typing p d) (interfaces_of x) x.config a))) x.config.live

-- ---- Messages

abbrev pub values_fit : (ℕ → ℕ) → List Value → List Kind → Bool
values_fit interfaces [] [] = true
values_fit interfaces (v ∷ vs) (k ∷ ks) = value_fits interfaces v k && values_fit interfaces vs ks
values_fit interfaces _ _ = false

abbrev pub fits_declared : (ℕ → ℕ) → List Value → Option TagDecl → Bool
fits_declared interfaces vs None = false
fits_declared interfaces vs (Some decl) = values_fit interfaces vs (map kind_of decl.payloads)

abbrev pub message_fits : Program → (ℕ → ℕ) → Message → Bool
message_fits p interfaces m = fits_declared interfaces m.values (tag_at p (interfaces m.mailbox) m.tag)

-- each message's tag is of its mailbox's interface, and its values are as declared
abbrev pub messages_hold : Program → Checkpoint → Bool
messages_hold p x = list_all (message_fits p (interfaces_of x)) x.config.messages
