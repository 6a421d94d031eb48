-- The rows, by computation.
use Rattle.std.proofs.Common.{◌≡◌, Some, None, [], refl}
use Rattle.pat_semantics_spec.specs.Programs.{is_free}
use Rattle.pat_semantics_spec.specs.Configs.{start}
use Rattle.pat_semantics_spec.specs.Runs.{replay_from}
use Rattle.pat_inclusion_spec.specs.Certificates.{GridCert}
use Rattle.pat_examples.specs.safety.Safe.{one_message}
use Rattle.pat_examples.specs.derivations.Derivations.{one_message_derived}
use Rattle.pat_checkpoint_spec.specs.Checked.{NumbersRule, KindsRule, DistinctRule, OrderRule, HolderRule, MessagesRule, BalanceRule, broken_check}
use Rattle.pat_checkpoint_spec.specs.Turns.{turns}
use Rattle.pat_examples.specs.checkpoints.Checkpoints.{sent, low_number, other_kind, left_over, left_over_balance, in_itself, twice_there, no_receiver, foreign_tag, lost, ended, then_received}

pub sent_is : broken_check one_message one_message_derived sent ≡ None
unfolding is_free
sent_is = refl

pub ended_is : broken_check one_message one_message_derived ended ≡ None
unfolding is_free
ended_is = refl

pub numbers_is : broken_check one_message one_message_derived low_number ≡ Some NumbersRule
unfolding is_free
numbers_is = refl

pub kinds_is : broken_check one_message one_message_derived other_kind ≡ Some KindsRule
unfolding is_free
kinds_is = refl

pub certificate_is : broken_check one_message one_message_derived (left_over (GridCert 2)) ≡ Some KindsRule
unfolding is_free
certificate_is = refl

pub distinct_is : broken_check one_message one_message_derived in_itself ≡ Some DistinctRule
unfolding is_free
distinct_is = refl

pub order_is : broken_check one_message one_message_derived twice_there ≡ Some OrderRule
unfolding is_free
order_is = refl

pub holder_is : broken_check one_message one_message_derived no_receiver ≡ Some HolderRule
unfolding is_free
holder_is = refl

pub messages_is : broken_check one_message one_message_derived foreign_tag ≡ Some MessagesRule
unfolding is_free
messages_is = refl

pub balance_is : broken_check one_message one_message_derived lost ≡ Some BalanceRule
unfolding is_free
balance_is = refl

pub trivial_is : broken_check one_message one_message_derived (left_over_balance (GridCert 2)) ≡ Some BalanceRule
unfolding is_free
trivial_is = refl

pub on_is : turns one_message sent.config 100 ≡ then_received
unfolding is_free
on_is = refl

pub there_is : replay_from one_message (start one_message) (turns one_message (start one_message) 5) ≡ Some sent.config
unfolding is_free
there_is = refl

pub none_is : turns one_message ended.config 100 ≡ []
unfolding is_free
none_is = refl
