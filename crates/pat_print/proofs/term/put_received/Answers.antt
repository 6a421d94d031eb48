use Rattle.pat_tree.specs.Views.{name_view}
use Rattle.std.proofs.Common.{map}
use Rattle.pat_print.proofs.Lines.{received_is}
use Rattle.pat_print.proofs.term.put_received.Goals as goal

pub returns : goal.returns
returns c = let e = received_is c.args.out.now.items (name_view c.args.tag.now) (map name_view c.args.names.now) (name_view c.args.from.now) in cc (e, c.in_ok-extend_from_slice.ensures.items, c.in_ok-put_name.ensures, c.in_ok-put_names.ensures, c.in_ok-extend_from_slice-2.ensures.items, c.in_ok-put_name-2.ensures, c.in_ok-extend_from_slice-3.ensures.items)
