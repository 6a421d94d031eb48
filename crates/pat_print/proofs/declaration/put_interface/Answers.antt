use Rattle.std.proofs.Common.{map}
use Rattle.pat_tree.specs.Views.{name_view, message_view}
use Rattle.pat_print.proofs.Lines.{interface_is}
use Rattle.pat_print.proofs.declaration.put_interface.Goals as goal

pub returns : goal.returns
returns c =
    let e = interface_is c.args.out.now.items (name_view c.args.name.now) (map message_view c.args.messages.now) in
    cc (e, c.in_ok-extend_from_slice.ensures.items, c.in_ok-put_name.ensures, c.in_ok-extend_from_slice-2.ensures.items, c.in_ok-put_messages.ensures, c.in_ok-extend_from_slice-3.ensures.items)
