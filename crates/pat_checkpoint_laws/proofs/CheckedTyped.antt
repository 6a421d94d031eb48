-- A checked checkpoint is a typed configuration, and a typed configuration whose inclusions are shown is checked.
use Rattle.std.proofs.Common.{◌≡◌, Bool, true, false, ◌&&◌, List, [], ◌∷◌, Option, None, refl}
use Rattle.std.specs.List.{AllByRecursion, list_all}
use Rattle.std.proofs.lemmas.Bool.{and_parts, and_from}
use Rattle.pat_semantics_spec.specs.Programs.{Program}
use Rattle.pat_semantics_spec.specs.WellFormed.{WellFormed}
use Rattle.pat_semantics_spec.specs.Configs.{Message}
use Rattle.pat_type_system_spec.specs.Holdings.{receivers}
use Rattle.pat_checkpoint_spec.specs.HoldingsInOrder.{lines_held}
use Rattle.pat_type_system_spec.specs.Typed.{ThreadFits, MessageFits, IsTyped}
use Rattle.pat_derivation_spec.specs.Derivations.{Derivation, scope_of, written_typing, typing_of}
use Rattle.pat_derivation_laws.specs.Laws.{ValidGivesTyping}
use Rattle.pat_checkpoint_laws.proofs.ValidParts.{values_do_fit}
use Rattle.pat_checkpoint_spec.specs.Checkpoints.{Checkpoint, interfaces_of}
use Rattle.pat_checkpoint_spec.specs.Numbers.{numbers_hold}
use Rattle.pat_checkpoint_spec.specs.Kinds.{thread_fits, kinds_fit, parts_shown, kinds_hold}
use Rattle.pat_checkpoint_spec.specs.Mailboxes.{thread_differs, message_differs, mailboxes_differ, thread_keeps, order_holds, is_single, holders_hold, message_fits, messages_hold}
use Rattle.pat_checkpoint_spec.specs.Balances.{balance_needs, balances_hold}
use Rattle.pat_checkpoint_spec.specs.Checked.{CheckRule, NumbersRule, KindsRule, DistinctRule, OrderRule, HolderRule, MessagesRule, BalanceRule, breaks_or, broken_check, IsChecked, stands_typed}
use Rattle.pat_checkpoint_laws.proofs.Lists.{all_tested, all_in, in_all, among_in, in_among}
use Rattle.pat_checkpoint_laws.proofs.NumberTests.{numbers_so, so_numbers}
use Rattle.pat_checkpoint_laws.proofs.ThreadTests.{threads_so, so_thread_fits, so_thread_differs, so_thread_keeps}
use Rattle.pat_checkpoint_laws.proofs.MessageTests.{message_so, so_message_fits, so_message_differs, shown_at, balance_so, so_holder}

-- ---- all rules

passed : (b : Bool) (r : CheckRule) (o : Option CheckRule) → breaks_or b r o ≡ None → (b ≡ true) × (o ≡ None)
passed true r o h = (refl, h)
passed false r o h = cc

passes : (b : Bool) (r : CheckRule) (o : Option CheckRule) → b ≡ true → o ≡ None → breaks_or b r o ≡ None
passes true r o h k = k
passes false r o h k = cc

-- each test passes
pub record AllHold (p : Program) (d : Derivation) (x : Checkpoint) : Type 0 where
  pub numbers : numbers_hold x.config ≡ true
  pub kinds : kinds_hold p d x ≡ true
  pub distinct : mailboxes_differ x.config ≡ true
  pub order : order_holds p d x.config ≡ true
  pub holder : holders_hold p d x ≡ true
  pub messages : messages_hold p x ≡ true
  pub balance : balances_hold p d x ≡ true

module _ (p : Program) (d : Derivation) (x : Checkpoint) where
  abbrev o7 : Option CheckRule
  o7 = breaks_or (balances_hold p d x) BalanceRule None

  abbrev o6 : Option CheckRule
  o6 = breaks_or (messages_hold p x) MessagesRule o7

  abbrev o5 : Option CheckRule
  o5 = breaks_or (holders_hold p d x) HolderRule o6

  abbrev o4 : Option CheckRule
  o4 = breaks_or (order_holds p d x.config) OrderRule o5

  abbrev o3 : Option CheckRule
  o3 = breaks_or (mailboxes_differ x.config) DistinctRule o4

  abbrev o2 : Option CheckRule
  o2 = breaks_or (kinds_hold p d x) KindsRule o3

  pub none_broken : broken_check p d x ≡ None → AllHold p d x
  none_broken h =
      let a1 = passed (numbers_hold x.config) NumbersRule o2 h in
      let a2 = passed (kinds_hold p d x) KindsRule o3 a1.1 in
      let a3 = passed (mailboxes_differ x.config) DistinctRule o4 a2.1 in
      let a4 = passed (order_holds p d x.config) OrderRule o5 a3.1 in
      let a5 = passed (holders_hold p d x) HolderRule o6 a4.1 in
      let a6 = passed (messages_hold p x) MessagesRule o7 a5.1 in
      let a7 = passed (balances_hold p d x) BalanceRule None a6.1 in
      record { numbers = a1.0; kinds = a2.0; distinct = a3.0; order = a4.0; holder = a5.0; messages = a6.0; balance = a7.0 }

  pub all_hold : AllHold p d x → broken_check p d x ≡ None
  all_hold a =
      passes (numbers_hold x.config) NumbersRule o2 a.numbers
      (passes (kinds_hold p d x) KindsRule o3 a.kinds
      (passes (mailboxes_differ x.config) DistinctRule o4 a.distinct
      (passes (order_holds p d x.config) OrderRule o5 a.order
      (passes (holders_hold p d x) HolderRule o6 a.holder
      (passes (messages_hold p x) MessagesRule o7 a.messages (passes (balances_hold p d x) BalanceRule None a.balance refl))))))

  abbrev k6 : Bool
  k6 = messages_hold p x

  abbrev k5 : Bool
  k5 = holders_hold p d x && k6

  abbrev k4 : Bool
  k4 = order_holds p d x.config && k5

  abbrev k3 : Bool
  k3 = mailboxes_differ x.config && k4

  abbrev k2 : Bool
  k2 = kinds_fit p d x && k3

  -- what stands typed, with its inclusions shown, breaks no rule
  pub stands_holds : stands_typed p d x ≡ true → parts_shown p d x ≡ true → balances_hold p d x ≡ true → AllHold p d x
  stands_holds h parts balance =
      let a1 = and_parts (numbers_hold x.config) k2 h in
      let a2 = and_parts (kinds_fit p d x) k3 a1.1 in
      let a3 = and_parts (mailboxes_differ x.config) k4 a2.1 in
      let a4 = and_parts (order_holds p d x.config) k5 a3.1 in
      let a5 = and_parts (holders_hold p d x) k6 a4.1 in
      record {
        numbers = a1.0;
        kinds = and_from (kinds_fit p d x) (parts_shown p d x) a2.0 parts;
        distinct = a3.0;
        order = a4.0;
        holder = a5.0;
        messages = a5.1;
        balance = balance;
      }

  -- and the other way round
  pub holds_stands : AllHold p d x → (stands_typed p d x ≡ true) × (parts_shown p d x ≡ true) × (balances_hold p d x ≡ true)
  holds_stands a =
      let k = and_parts (kinds_fit p d x) (parts_shown p d x) a.kinds in (
        and_from (numbers_hold x.config) k2 a.numbers
            (and_from (kinds_fit p d x) k3 k.0
            (and_from (mailboxes_differ x.config) k4 a.distinct
            (and_from (order_holds p d x.config) k5 a.order (and_from (holders_hold p d x) k6 a.holder a.messages)))),
        k.1,
        a.balance,
      )

-- ---- typed

module _ (p : Program) (wf : WellFormed p) (d : Derivation) (x : Checkpoint) where
  messages_so : (ms : List Message) → list_all (message_fits p (interfaces_of x)) ms ≡ true → list_all message_differs ms ≡ true → AllByRecursion (MessageFits p (interfaces_of x)) ms
  messages_so [] h k = tt
  messages_so (m ∷ ms) h k =
      let a = and_parts (message_fits p (interfaces_of x) m) (list_all (message_fits p (interfaces_of x)) ms) h in
      let b = and_parts (message_differs m) (list_all message_differs ms) k in
      (message_so p (interfaces_of x) m a.0 b.0, messages_so ms a.1 b.1)

  -- given that valid derivations give typings
  pub checked_typed : ValidGivesTyping → IsChecked p d x → IsTyped p (typing_of p d) (interfaces_of x) x.config
  checked_typed typings c =
      let a = none_broken p d x c.none in
      let numbers = numbers_so x.config a.numbers in
      let kinds = and_parts (kinds_fit p d x) (parts_shown p d x) a.kinds in
      let distinct = and_parts (list_all (λ e. thread_differs e.1) x.config.threads) (list_all message_differs x.config.messages) a.distinct in
      let fit = values_do_fit p d wf c.valid in
      record {
        typing = typings p d wf c.valid;
        numbers = numbers;
        threads = threads_so p wf d (interfaces_of x) x.config.threads x.part_certs fit kinds.0 kinds.1 numbers.ordered.environments distinct.0 a.order;
        messages = messages_so x.config.messages a.messages distinct.1;
        balanced = λ b live.
            let k = shown_at (scope_of p d) (balance_needs p (written_typing p d) (interfaces_of x) x.config) x.config.live x.interfaces x.mailbox_certs b a.balance live in
            let one = in_all (λ a. is_single (receivers (lines_held p (written_typing p d) (interfaces_of x) x.config a))) x.config.live b a.holder (among_in b x.config.live live) in
            balance_so p wf d (interfaces_of x) x.config b k.0 fit one k.1;
      }

  -- a typed configuration breaks no rule but for the inclusions
  pub typed_stands : IsTyped p (typing_of p d) (interfaces_of x) x.config → stands_typed p d x ≡ true
  typed_stands t =
      let i = interfaces_of x in
      let w = written_typing p d in
      and_from (numbers_hold x.config) (k2 p d x) (so_numbers x.config t.numbers)
      (and_from (kinds_fit p d x) (k3 p d x)
      (all_tested (λ e. ThreadFits p (typing_of p d) i e.1) (λ e. thread_fits p w i e.1) (λ e h. so_thread_fits p wf d i e.1 h) x.config.threads t.threads)
      (and_from (mailboxes_differ x.config) (k4 p d x)
      (and_from (list_all (λ e. thread_differs e.1) x.config.threads) (list_all message_differs x.config.messages)
      (all_tested (λ e. ThreadFits p (typing_of p d) i e.1) (λ e. thread_differs e.1) (λ e h. so_thread_differs p wf d i e.1 h) x.config.threads t.threads)
      (all_tested (MessageFits p i) message_differs (λ m h. so_message_differs p i m h) x.config.messages t.messages))
      (and_from (order_holds p d x.config) (k5 p d x)
      (all_tested (λ e. ThreadFits p (typing_of p d) i e.1) (λ e. thread_keeps p w e.1) (λ e h. so_thread_keeps p wf d i e.1 h) x.config.threads t.threads)
      (and_from (holders_hold p d x) (k6 p d x)
      (all_in (λ a. is_single (receivers (lines_held p w i x.config a))) x.config.live (λ a l. so_holder p wf d i x.config a (t.balanced a (in_among a x.config.live l))))
      (all_tested (MessageFits p i) (message_fits p i) (λ m h. so_message_fits p i m h) x.config.messages t.messages)))))
