use Rattle.pat_tree.specs.Views.{name_view, pattern_view}
use Rattle.pat_print.proofs.Lines.{guarded_is}
use Rattle.pat_print.proofs.term.put_guarded.Goals as goal

pub returns : goal.returns
returns c = let e = guarded_is c.args.out.now.items (name_view c.args.name.now) (pattern_view c.args.pattern.now) in cc (e, c.in_ok-extend_from_slice.ensures.items, c.in_ok-put_name.ensures, c.in_ok-extend_from_slice-2.ensures.items, c.in_ok-put_pattern.ensures, c.in_ok-extend_from_slice-3.ensures.items)
