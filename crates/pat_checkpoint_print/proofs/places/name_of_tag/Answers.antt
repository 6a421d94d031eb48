use Rattle.std.proofs.Common.{arith, [], map, ap, ◌∙◌}
use Rattle.std.specs.Prelude.{slice_get, slice_index_or}
use Rattle.std.proofs.lemmas.Bool.Decides.{nat_tests}
use Rattle.pat_core.specs.Views.{interface_view}
use Rattle.pat_derivation_text_spec.specs.DerivationText.{tags_named}
use Rattle.pat_checkpoint_print.proofs.Names.{tags_there, tags_beyond}
use Rattle.pat_checkpoint_print.proofs.places.name_of_tag.Goals as goal

pub returns-then-place-interfaces : goal.returns-then-place-interfaces
returns-then-place-interfaces c =
    let i = c.args.interface in
    c.name_within.ensures
    ∙ ap (λ ns. slice_index_or ns c.args.tag [])
    (tags_there c.as_slice-interfaces.result.now i c.index-interfaces-place.result c.if-place-interfaces.true c.index-interfaces-place.is
    ∙ ap (λ l. tags_named (slice_get (map interface_view l) i)) c.as_slice-interfaces.ensures)

pub returns-else-place-interfaces : goal.returns-else-place-interfaces
returns-else-place-interfaces c =
    ap (λ ns. slice_index_or ns c.args.tag []) (tags_beyond c.args.program.now.interfaces c.args.interface (grind (arith, nat_tests)))
