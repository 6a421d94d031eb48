use Rattle.std.proofs.Common.{ap, sym, ◌∙◌}
use Rattle.std.specs.Prelude.{option_and_then}
use Rattle.pat_core.specs.Views.{program_view}
use Rattle.pat_checkpoint_spec.specs.text.LineReading.{tag_of}
use Rattle.pat_checkpoint_text.proofs.messages.tag_in.Goals as goal

pub returns-in-Some : goal.returns-in-Some
returns-in-Some c = λ lines g.
    c.tag_of.ensures ∙ ap (option_and_then (tag_of (program_view c.args.program.now) c.args.name.now)) (sym c.in-Some.is ∙ c.interface_of.ensures lines g)

pub returns-in-None : goal.returns-in-None
returns-in-None c = λ lines g.
    ap (option_and_then (tag_of (program_view c.args.program.now) c.args.name.now)) (sym c.in-None.is ∙ c.interface_of.ensures lines g)
