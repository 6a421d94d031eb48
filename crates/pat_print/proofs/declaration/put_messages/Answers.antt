use Rattle.pat_print_spec.specs.Canonical.{message_onto}
use Rattle.pat_tree.specs.Views.{message_view}
use Rattle.pat_print.proofs.Keeping.{message_keeps}
use Rattle.pat_print.proofs.Lines.{list_put}
use Rattle.pat_print.proofs.declaration.put_messages.Goals as goal

pub returns : goal.returns
returns c = list_put message_onto message_view message_keeps c.args.out.now.items _ c.args.messages.now c.as_slice.result.now c.as_slice.ensures c.in_ok-put_list.ensures
