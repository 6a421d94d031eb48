use Rattle.std.proofs.Common.{rules, refl, length, ap, sym, ◌∙◌, slice_get}
use Rattle.std.proofs.lemmas.Option.{slice_get_read, slice_get_past}
use Rattle.pat_derivation_lines.specs.patterns.Views.{names_of}
use Rattle.pat_checkpoint_text.proofs.Tags.{tags_are, tags_beyond}
use Rattle.pat_checkpoint_text.proofs.messages.tags_in.Goals as goal

pub returns-in-Some : goal.returns-in-Some
returns-in-Some c =
    ap names_of c.as_slice-in-Some.ensures
    ∙ tags_are c.args.program.now.interfaces c.args.interface c.in-Some.declared.now
    (ap (λ l. slice_get l c.args.interface) (sym c.as_slice.ensures) ∙ slice_get_read c.as_slice.result.now (length c.as_slice.result.now) c.args.interface c.in-Some.declared.now refl c.in-Some.ensures.lookup.3.0 c.in-Some.ensures.lookup.1)

pub returns-in-None : goal.returns-in-None
returns-in-None c = tags_beyond c.args.program.now.interfaces c.args.interface (slice_get_past c.args.program.now.interfaces c.args.interface (search rules))
