use Rattle.pat_tree.specs.Views.{tree_view}
use Rattle.pat_core.specs.Views.{program_view}
use Rattle.pat_resolver_heads.specs.results.Views.{places_view}
use Rattle.pat_front.proofs.Resolved.{program_text, is_resolved}
use Rattle.pat_front.proofs.front.program_of.Goals as goal

pub returns-in-Ok-clause-is_resolved : goal.returns-in-Ok-clause-is_resolved
returns-in-Ok-clause-is_resolved c = λ bytes text end.
    let t = tree_view c.args.tree.now in
    let p = program_view c.in-Ok.program in
    is_resolved bytes t p (places_view c.in-Ok.program) (program_text bytes t p c.args.end text end c.in-Ok.ensures.found c.in-Ok.ensures.program) c.in-Ok.ensures.places

pub returns-in-Err-clause-refused : goal.returns-in-Err-clause-refused
returns-in-Err-clause-refused c = λ bytes text end.
    c.of_resolver.ensures bytes (tree_view c.args.tree.now) c.args.end text end c.in-Err.ensures.refused
