use Rattle.std.proofs.Common.{ap, ◌∙◌}
use Rattle.pat_checkpoint_spec.specs.Checkpoints.{interfaces_of}
use Rattle.pat_checkpoint_spec.specs.HoldingsInOrder.{lines_held, sending, receiving}
use Rattle.pat_checkpoint_laws.proofs.Gathers.{gathers, senders_are, receivers_are}
use Rattle.pat_checkpoint_laws.proofs.Lets.{bound_with, frame_with}
use Rattle.std.proofs.lemmas.Bool.{and_parts, and_from}
use Rattle.pat_checkpoint_spec.specs.Kinds.{parts_shown}
use Rattle.pat_checkpoint_spec.specs.Balances.{balances_hold}
use Rattle.pat_checkpoint_laws.proofs.Levels.{product_levels}
use Rattle.pat_checkpoint_laws.proofs.LineCerts.{lines_to, to_lines}
use Rattle.pat_checkpoint_laws.proofs.Formed.{sides_formed, result_formed, wanted_formed}
use Rattle.pat_checkpoint_laws.proofs.examining_laws.Goals as goal

pub returns : goal.returns
returns c = record {
  gathers = λ p y interfaces c a d. (
    senders_are (lines_held p y interfaces c a) ∙ ap sending (gathers p y interfaces c a d),
    receivers_are (lines_held p y interfaces c a) ∙ ap receiving (gathers p y interfaces c a d),
  );
  lets = λ p f core w at. (bound_with p.nodes f.body, frame_with p f core w at);
  sides = λ p d x a w v kinds differ messages. sides_formed p d (interfaces_of x) x.config a w v kinds differ messages;
  lines = λ p d x l. (
    λ h. let q = and_parts (parts_shown p d x) (balances_hold p d x) h in lines_to p d x q.0 q.1,
    λ h. let q = to_lines p d x l h in and_from (parts_shown p d x) (balances_hold p d x) q.0 q.1,
  );
  levels = product_levels;
  types = λ p d w v. (result_formed p w d v (λ a. a), wanted_formed p w d v (λ a. a));
}
