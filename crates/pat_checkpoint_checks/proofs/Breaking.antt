-- Which rule is the first that is broken, by the tests before it.
use Rattle.std.proofs.Common.{◌≡◌, Bool, true, false, Option, Some, None, ap, ◌∙◌}
use Rattle.std.specs.Prelude.{IsTrue}
use Rattle.std.proofs.lemmas.Bool.{and_parts}
use Rattle.pat_semantics_spec.specs.Programs.{Program}
use Rattle.pat_derivation_spec.specs.Derivations.{Derivation}
use Rattle.pat_checkpoint_spec.specs.Checkpoints.{Checkpoint}
use Rattle.pat_checkpoint_spec.specs.Numbers.{numbers_hold}
use Rattle.pat_checkpoint_spec.specs.Kinds.{kinds_fit, parts_shown, kinds_hold}
use Rattle.pat_checkpoint_spec.specs.Mailboxes.{mailboxes_differ, order_holds, holders_hold, messages_hold}
use Rattle.pat_checkpoint_spec.specs.Balances.{balances_hold}
use Rattle.pat_checkpoint_spec.specs.Checked.{CheckRule, NumbersRule, KindsRule, DistinctRule, OrderRule, HolderRule, MessagesRule, BalanceRule, breaks_or, broken_check}

passes : (b : Bool) (rule : CheckRule) (after : Option CheckRule) → b ≡ true → breaks_or b rule after ≡ after
passes b rule after h = ap (λ t. breaks_or t rule after) h

breaks : (b : Bool) (rule : CheckRule) (after : Option CheckRule) → b ≡ false → breaks_or b rule after ≡ Some rule
breaks b rule after h = ap (λ t. breaks_or t rule after) h

-- what parts give is part of their kinds
pub kinds_do_fit : (p : Program) (d : Derivation) (x : Checkpoint) → kinds_hold p d x ≡ true → IsTrue (kinds_fit p d x)
kinds_do_fit p d x h = (and_parts (kinds_fit p d x) (parts_shown p d x) h).0

module _ (p : Program) (d : Derivation) (x : Checkpoint) where
  abbrev from_balance : Option CheckRule
  from_balance = breaks_or (balances_hold p d x) BalanceRule None

  abbrev from_messages : Option CheckRule
  from_messages = breaks_or (messages_hold p x) MessagesRule from_balance

  abbrev from_holder : Option CheckRule
  from_holder = breaks_or (holders_hold p d x) HolderRule from_messages

  abbrev from_order : Option CheckRule
  from_order = breaks_or (order_holds p d x.config) OrderRule from_holder

  abbrev from_distinct : Option CheckRule
  from_distinct = breaks_or (mailboxes_differ x.config) DistinctRule from_order

  abbrev from_kinds : Option CheckRule
  from_kinds = breaks_or (kinds_hold p d x) KindsRule from_distinct

  pub breaks_numbers : numbers_hold x.config ≡ false → broken_check p d x ≡ Some NumbersRule
  breaks_numbers h = breaks (numbers_hold x.config) NumbersRule from_kinds h

  module _ (numbers : numbers_hold x.config ≡ true) where
    reach_kinds : broken_check p d x ≡ from_kinds
    reach_kinds = passes (numbers_hold x.config) NumbersRule from_kinds numbers

    pub breaks_kinds : kinds_hold p d x ≡ false → broken_check p d x ≡ Some KindsRule
    breaks_kinds h = reach_kinds ∙ breaks (kinds_hold p d x) KindsRule from_distinct h

    module _ (kinds : kinds_hold p d x ≡ true) where
      reach_distinct : broken_check p d x ≡ from_distinct
      reach_distinct = reach_kinds ∙ passes (kinds_hold p d x) KindsRule from_distinct kinds

      pub breaks_distinct : mailboxes_differ x.config ≡ false → broken_check p d x ≡ Some DistinctRule
      breaks_distinct h = reach_distinct ∙ breaks (mailboxes_differ x.config) DistinctRule from_order h

      module _ (differ : mailboxes_differ x.config ≡ true) where
        reach_order : broken_check p d x ≡ from_order
        reach_order = reach_distinct ∙ passes (mailboxes_differ x.config) DistinctRule from_order differ

        pub breaks_order : order_holds p d x.config ≡ false → broken_check p d x ≡ Some OrderRule
        breaks_order h = reach_order ∙ breaks (order_holds p d x.config) OrderRule from_holder h

        module _ (order : order_holds p d x.config ≡ true) where
          reach_holder : broken_check p d x ≡ from_holder
          reach_holder = reach_order ∙ passes (order_holds p d x.config) OrderRule from_holder order

          pub breaks_holder : holders_hold p d x ≡ false → broken_check p d x ≡ Some HolderRule
          breaks_holder h = reach_holder ∙ breaks (holders_hold p d x) HolderRule from_messages h

          module _ (holder : holders_hold p d x ≡ true) where
            reach_messages : broken_check p d x ≡ from_messages
            reach_messages = reach_holder ∙ passes (holders_hold p d x) HolderRule from_messages holder

            pub breaks_messages : messages_hold p x ≡ false → broken_check p d x ≡ Some MessagesRule
            breaks_messages h = reach_messages ∙ breaks (messages_hold p x) MessagesRule from_balance h

            module _ (messages : messages_hold p x ≡ true) where
              reach_balance : broken_check p d x ≡ from_balance
              reach_balance = reach_messages ∙ passes (messages_hold p x) MessagesRule from_balance messages

              pub breaks_balance : balances_hold p d x ≡ false → broken_check p d x ≡ Some BalanceRule
              breaks_balance h = reach_balance ∙ breaks (balances_hold p d x) BalanceRule None h

              pub breaks_none : balances_hold p d x ≡ true → broken_check p d x ≡ None
              breaks_none h = reach_balance ∙ passes (balances_hold p d x) BalanceRule None h
