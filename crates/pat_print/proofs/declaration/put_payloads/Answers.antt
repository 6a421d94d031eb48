use Rattle.pat_print_spec.specs.Canonical.{type_onto}
use Rattle.pat_tree.specs.Views.{type_view}
use Rattle.pat_print.proofs.Keeping.{type_keeps}
use Rattle.pat_print.proofs.Lines.{bracketed_list_put}
use Rattle.pat_print.proofs.declaration.put_payloads.Goals as goal

pub returns : goal.returns
returns c = bracketed_list_put type_onto type_view type_keeps c.args.out.now.items _ _ _ c.args.payloads.now c.as_slice.result.now c.as_slice.ensures c.in_ok-push.ensures.items c.in_ok-put_list.ensures c.in_ok-push-2.ensures.items
