use Rattle.pat_print_spec.specs.Canonical.{expr_onto}
use Rattle.pat_tree.specs.Views.{expr_view}
use Rattle.pat_print.proofs.Keeping.{expr_keeps}
use Rattle.pat_print.proofs.Lines.{bracketed_list_put}
use Rattle.pat_print.proofs.term.put_arguments.Goals as goal

pub returns : goal.returns
returns c = bracketed_list_put expr_onto expr_view expr_keeps c.args.out.now.items _ _ _ c.args.args.now c.as_slice.result.now c.as_slice.ensures c.in_ok-push.ensures.items c.in_ok-put_list.ensures c.in_ok-push-2.ensures.items
