-- Checked checkpoints: the first broken rule, and a checkpoint that breaks none.
use Rattle.std.specs.Prelude.{◌≡◌, Bool, ◌&&◌, if◌then◌else◌, Option, Some, None}
use Rattle.pat_semantics_spec.specs.Programs.{Program}
use Rattle.pat_derivation_spec.specs.Derivations.{Derivation}
use Rattle.pat_derivation_spec.specs.Validity.{IsValid}
use Rattle.pat_checkpoint_spec.specs.Checkpoints.{Checkpoint}
use Rattle.pat_checkpoint_spec.specs.Numbers.{numbers_hold}
use Rattle.pat_checkpoint_spec.specs.Kinds.{kinds_fit, kinds_hold}
use Rattle.pat_checkpoint_spec.specs.Mailboxes.{mailboxes_differ, order_holds, holders_hold, messages_hold}
use Rattle.pat_checkpoint_spec.specs.Balances.{balances_hold}

-- the rules, in the order in which they are examined
pub data CheckRule : Type 0 where
  NumbersRule : CheckRule
  KindsRule : CheckRule
  DistinctRule : CheckRule
  OrderRule : CheckRule
  HolderRule : CheckRule
  MessagesRule : CheckRule
  BalanceRule : CheckRule

-- the rule if the test fails, and otherwise what comes after it
abbrev pub breaks_or : Bool → CheckRule → Option CheckRule → Option CheckRule
breaks_or passes rule after = if passes then after else Some rule

-- the first broken rule
abbrev pub broken_check : Program → Derivation → Checkpoint → Option CheckRule
broken_check p d x =
    breaks_or (numbers_hold x.config) NumbersRule
    (breaks_or (kinds_hold p d x) KindsRule
    (breaks_or (mailboxes_differ x.config) DistinctRule
    (breaks_or (order_holds p d x.config) OrderRule
    (breaks_or (holders_hold p d x) HolderRule
    (breaks_or (messages_hold p x) MessagesRule (breaks_or (balances_hold p d x) BalanceRule None))))))

-- the derivation is valid, and with its typing the checkpoint breaks no rule
pub record IsChecked (p : Program) (d : Derivation) (x : Checkpoint) : Type 0 where
  pub valid : IsValid p d
  pub none : broken_check p d x ≡ None

-- all rules but for the inclusions: what a checkpoint has to be before certificates are sought
abbrev pub stands_typed : Program → Derivation → Checkpoint → Bool
stands_typed p d x =
    numbers_hold x.config
    && (kinds_fit p d x && (mailboxes_differ x.config && (order_holds p d x.config && (holders_hold p d x && messages_hold p x))))
