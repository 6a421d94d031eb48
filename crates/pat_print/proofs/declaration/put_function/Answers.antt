use Rattle.std.proofs.Common.{map}
use Rattle.pat_tree.specs.Views.{name_view, param_view, type_view, term_view}
use Rattle.pat_print.proofs.Lines.{function_is}
use Rattle.pat_print.proofs.declaration.put_function.Goals as goal

pub returns : goal.returns
returns c =
    let e = function_is c.args.out.now.items (name_view c.args.name.now) (map param_view c.args.params.now) (type_view c.args.of.now) (term_view c.args.body.now) in
    cc (e, c.in_ok-extend_from_slice.ensures.items, c.in_ok-put_name.ensures, c.in_ok-put_params.ensures, c.in_ok-extend_from_slice-2.ensures.items, c.in_ok-put_type.ensures, c.in_ok-push.ensures.items, c.in_ok-put_block.ensures)
