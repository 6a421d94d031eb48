use Rattle.std.proofs.Common.{sym, subst}
use Rattle.std.specs.Prelude.{IsTrue}
use Rattle.pat_inclusion_spec.specs.Values.{is_formed}
use Rattle.pat_derivation_spec.specs.Rules.{type_is_formed}
use Rattle.pat_patterns.specs.Views.{pattern_view}
use Rattle.pat_types.specs.Views.{result_view}
use Rattle.pat_checkpoint_parts.specs.Typed.{scope_in}
use Rattle.pat_checkpoint_parts.proofs.showing.pattern_fits.Goals as goal

pub fits_by-requires-clause-wanted : goal.fits_by-requires-clause-wanted
fits_by-requires-clause-wanted c =
    let s = scope_in c.args.typing.now in
    subst (λ i. IsTrue (is_formed s i (pattern_view c.in-Mailbox.pattern))) (sym c.if-interface-other.false)
    (subst (λ k. IsTrue (type_is_formed s (result_view k))) c.in-Mailbox.is c.requires.wanted)
