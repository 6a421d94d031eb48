use Rattle.pat_examples.proofs.CheckpointRows.{sent_is, ended_is, numbers_is, kinds_is, certificate_is, distinct_is, order_is, holder_is, messages_is, balance_is, trivial_is}
use Rattle.pat_examples.proofs.checkpoints.checkpoints_examined.Goals as goal

pub returns : goal.returns
returns c = record {
  sent = sent_is;
  ended = ended_is;
  numbers = numbers_is;
  kinds = kinds_is;
  certificate = certificate_is;
  distinct = distinct_is;
  order = order_is;
  holder = holder_is;
  messages = messages_is;
  balance = balance_is;
  trivial = trivial_is;
}
