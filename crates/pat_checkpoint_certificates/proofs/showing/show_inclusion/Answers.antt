use Rattle.std.proofs.Common.{Some, subst}
use Rattle.std.specs.Prelude.{IfOk}
use Rattle.pat_patterns.specs.Views.{pattern_view}
use Rattle.pat_checkpoint_certificates.specs.Searches.{scope_in, bounds_in}
use Rattle.pat_checkpoint_certificates.specs.Found.{IsFound}
use Rattle.pat_checkpoint_certificates.proofs.Singles.{none_there, side_formed, same_inclusion}
use Rattle.pat_checkpoint_certificates.proofs.showing.show_inclusion.Goals as goal

pub unreachable-requires : goal.unreachable-requires
unreachable-requires c = none_there c.in-None.is c.requires.formed.1

pub show_one-requires-clause-left : goal.show_one-requires-clause-left
show_one-requires-clause-left c =
    let q = c.args.needed.now in
    side_formed (scope_in c.args.search.now) q.interface c.requires.formed.0 c.in-Some.interface (pattern_view q.left.now) c.requires.formed.1 c.in-Some.is c.requires.formed.2

pub show_one-requires-clause-right : goal.show_one-requires-clause-right
show_one-requires-clause-right c =
    let q = c.args.needed.now in
    side_formed (scope_in c.args.search.now) q.interface c.requires.formed.0 c.in-Some.interface (pattern_view q.right.now) c.requires.formed.1 c.in-Some.is c.requires.formed.3

pub returns : goal.returns
returns c =
    let q = c.args.needed.now in
    subst (λ x. IfOk c.show_one.result (IsFound (scope_in c.args.search.now) (bounds_in c.args.search.now) (Some x)))
    (same_inclusion q.interface c.in-Some.interface (pattern_view q.left.now) (pattern_view q.right.now) c.in-Some.is)
    c.show_one.ensures
