use Rattle.std.proofs.Common.{sym, ◌∙◌}
use Rattle.pat_core.specs.Views.{program_view}
use Rattle.pat_types.specs.Views.{needs_view}
use Rattle.pat_judge_nodes.proofs.Above.{scoped_if_named}
use Rattle.pat_judge_nodes.proofs.scopes.looking.is_in_scope_near.Goals as goal

pub returns-then-is_named_near : goal.returns-then-is_named_near
returns-then-is_named_near c =
    c.if-is_named_near.true
    ∙ sym (scoped_if_named (program_view c.args.program.now) c.args.node c.args.name (needs_view c.args.outer.now) c.requires.outer (c.is_named_near.ensures c.if-is_named_near.true))
