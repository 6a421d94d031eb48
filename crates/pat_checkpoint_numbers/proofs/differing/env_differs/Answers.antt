use Rattle.pat_type_system_spec.specs.Typed.{mailboxes_of}
use Rattle.pat_reduce_values.specs.ValueViews.{env_view}
use Rattle.pat_checkpoint_spec.specs.Mailboxes.{values_of}
use Rattle.pat_checkpoint_numbers.specs.Marked.{is_marked}
use Rattle.pat_checkpoint_numbers.proofs.News.{none_marked}
use Rattle.pat_checkpoint_numbers.proofs.differing.env_differs.Goals as goal

pub loop-value-init : goal.loop-value-init
loop-value-init c = record {
  live = c.in_ok-clear.ensures.live;
  lives = c.requires;
  same = none_marked (is_marked c.clear.new.self) (mailboxes_of (values_of (env_view c.args.env.now))) c.in_ok-clear.ensures.none;
}
