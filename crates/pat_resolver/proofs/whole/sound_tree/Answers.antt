use Rattle.std.proofs.Common.{ap, map}
use Rattle.pat_tree.specs.Views.{tree_view, decl_view}
use Rattle.pat_resolver_heads.specs.Names.{names_view}
use Rattle.pat_resolver_heads.specs.Views.{heads_view}
use Rattle.pat_resolver.proofs.Wholes.{meets_bodies}
use Rattle.pat_resolver.proofs.whole.sound_tree.Goals as goal

pub returns : goal.returns
returns c =
    let made = c.in_ok-heads in
    meets_bodies c.check_functions.result c.args.end (tree_view c.args.tree.now) (names_view made.heads.names) (heads_view made.heads) c.as_slice.result.now made.ensures.found made.ensures.names made.ensures.heads (ap (map decl_view) c.as_slice.ensures) c.check_functions.ensures
