use Rattle.pat_print_spec.specs.Canonical.{param_onto}
use Rattle.pat_tree.specs.Views.{param_view}
use Rattle.pat_print.proofs.Keeping.{param_keeps}
use Rattle.pat_print.proofs.Lines.{bracketed_list_put}
use Rattle.pat_print.proofs.declaration.put_params.Goals as goal

pub returns : goal.returns
returns c = bracketed_list_put param_onto param_view param_keeps c.args.out.now.items _ _ _ c.args.params.now c.as_slice.result.now c.as_slice.ensures c.in_ok-push.ensures.items c.in_ok-put_list.ensures c.in_ok-push-2.ensures.items
