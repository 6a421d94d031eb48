-- What is gathered of each live mailbox.
use Rattle.std.specs.Prelude.{◌≡◌, ℕ, nat_eq, if◌then◌else◌, List, [], ◌∷◌, ◌++◌, map, drop, get_or, set, Bool}
use Rattle.pat_words_spec.specs.Patterns.{Pat}
use Rattle.pat_semantics_spec.specs.Programs.{Program}
use Rattle.pat_semantics_spec.specs.Configs.{Message}
use Rattle.pat_type_system_spec.specs.Holdings.{receivers}
use Rattle.pat_derivation_spec.specs.Derivations.{Derivation, scope_of, written_typing}
use Rattle.pat_patterns.specs.declared.pattern.Pattern.{Pattern}
use Rattle.pat_patterns.specs.Views.{patterns_view}
use Rattle.pat_checkpoint_spec.specs.Checkpoints.{Checkpoint, interfaces_of}
use Rattle.pat_checkpoint_spec.specs.HoldingsInOrder.{Held, lines_held, types_of, sending, receiving}
use Rattle.pat_checkpoint_spec.specs.Balances.{pending_tags, senders, balance_needs, balances_shown}
use Rattle.pat_checkpoint_balances.specs.declared.gathering.Sides.{Sides}

-- ---- rows of patterns

abbrev pub rows_view : List (List Pattern) → List (List Pat)
rows_view rows = map patterns_view rows

-- one more item at the end of the row at the place, if it is there
abbrev pub put_at : {A : Type 0} → List (List A) → ℕ → A → List (List A)
put_at rows k x = set rows k (get_or rows k [] ++ x ∷ [])

-- what each mailbox has, with one more pattern for mailbox a
abbrev pub with_one : (ℕ → List Pat) → ℕ → Pat → ℕ → List Pat
with_one row a e b = if nat_eq a b then row b ++ e ∷ [] else row b

-- ---- sides

-- the tags that are pending in a mailbox
abbrev pub tags_of : List Message → ℕ → List Pat
tags_of ms a = pending_tags a ms

-- what may come to a mailbox, where these messages are pending and this is held
abbrev pub coming : List Message → List Held → ℕ → List Pat
coming ms hs a = pending_tags a ms ++ sending (types_of a hs)

-- the patterns of its receivers
abbrev pub expected : List Held → ℕ → List Pat
expected hs a = receiving (types_of a hs)

-- the sides of these mailboxes, where these messages are pending and this is held
pub record Parted (live : List ℕ) (ms : List Message) (hs : List Held) (s : Sides) : Type 0 where
  pub coming_rows : rows_view s.coming ≡ map (coming ms hs) live
  pub receiver_rows : rows_view s.receivers ≡ map (expected hs) live

-- the sides of the balances of all live mailboxes
pub record IsGathered (p : Program) (d : Derivation) (x : Checkpoint) (s : Sides) : Type 0 where
  pub left : rows_view s.coming
      ≡ map (λ a. pending_tags a x.config.messages ++ senders (lines_held p (written_typing p d) (interfaces_of x) x.config a)) x.config.live
  pub right : rows_view s.receivers ≡ map (λ a. receivers (lines_held p (written_typing p d) (interfaces_of x) x.config a)) x.config.live

-- the rest of the rule Balance, from the mailbox at place k on
abbrev pub shown_from : Program → Derivation → Checkpoint → ℕ → Bool
shown_from p d x k =
    balances_shown (scope_of p d) (balance_needs p (written_typing p d) (interfaces_of x) x.config) (drop k x.config.live) (drop k x.interfaces) (drop k x.mailbox_certs)
