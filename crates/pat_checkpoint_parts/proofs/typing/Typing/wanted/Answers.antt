use Rattle.std.proofs.Common.{None, Some, ap, sym, ◌∙◌}
use Rattle.std.specs.Prelude.{option_map}
use Rattle.pat_checkpoint_parts.specs.Tables.{binding_view}
use Rattle.pat_checkpoint_parts.specs.Typed.{program_in, typing_in}
use Rattle.pat_checkpoint_parts.proofs.Wanting.{wants}
use Rattle.pat_checkpoint_parts.proofs.typing.Typing.wanted.Goals as goal

pub returns-in-None-let_of : goal.returns-in-None-let_of
returns-in-None-let_of c =
    let t = c.args.self.now in
    let top = c.in-Some.ensures.some in
    wants (program_in t) (typing_in t) c.args.frames.now top.0 c.in-Some.frame.now None top.1 (ap (option_map binding_view) (sym c.in-None-let_of.is) ∙ c.let_of.ensures)

pub returns-in-Some-let_of : goal.returns-in-Some-let_of
returns-in-Some-let_of c =
    let t = c.args.self.now in
    let top = c.in-Some.ensures.some in
    c.type_of.ensures
    ∙ wants (program_in t) (typing_in t) c.args.frames.now top.0 c.in-Some.frame.now (Some c.in-Some-let_of.binding) top.1 (ap (option_map binding_view) (sym c.in-Some-let_of.is) ∙ c.let_of.ensures)
