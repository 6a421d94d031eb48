use Rattle.std.proofs.Common.{refl, sym, ap, map, subst, arith, []}
use Rattle.pat_reduce.specs.threads.ThreadViews.{message_view}
use Rattle.pat_reduce.specs.Views.{threads_view}
use Rattle.pat_checkpoint_data.specs.Views.{end_view, part_certs_view}
use Rattle.pat_checkpoint_text.specs.Gathered.{Ascends}
use Rattle.pat_checkpoint_text.proofs.gathering.start.Goals as goal

none_ascend : Ascends []
none_ascend i j l m = absurd (omega (arith, m))

pub returns : goal.returns
returns c = record {
  next_thread = refl;
  next_mailbox = refl;
  next_message = refl;
  live = sym c.new-3.ensures;
  interfaces = sym c.new-5.ensures;
  mailbox_certs = ap (map end_view) (sym c.new-6.ensures);
  messages = ap (map message_view) (sym c.new-2.ensures);
  threads = ap threads_view (sym c.new.ensures);
  part_certs = ap (map part_certs_view) (sym c.new-7.ensures);
  silent = sym c.new-4.ensures;
  ascends = subst Ascends (sym c.new-3.ensures) none_ascend;
}
