use Rattle.std.proofs.Common.{rules, arith, ◌≡◌, ◌++◌, subst}
use Rattle.std.specs.Prelude.{OnOk}
use Rattle.std.proofs.lemmas.Bool.Decides.{nat_tests}
use Rattle.pat_patterns.specs.Views.{pattern_view}
use Rattle.pat_primitives.specs.Views.{polarity_view}
use Rattle.pat_derivation_text_spec.specs.DerivationText.{polarity_mark}
use Rattle.pat_deriv.proofs.Names.{mailbox_beyond}
use Rattle.pat_deriv.proofs.types.put_mailbox.Goals as goal

pub returns-else-place-interfaces : goal.returns-else-place-interfaces
returns-else-place-interfaces c =
    subst (λ t. OnOk c.put_mailbox_of-else-place-interfaces.result (c.put_mailbox_of-else-place-interfaces.new.out.items ≡ c.args.out.now.items ++ t))
    (mailbox_beyond c.args.program.now.interfaces c.args.number c.no_interface.result (polarity_mark (polarity_view c.args.polarity)) (pattern_view c.args.pattern.now) (grind (arith, nat_tests)) c.no_interface.ensures.name c.no_interface.ensures.tags)
    c.put_mailbox_of-else-place-interfaces.ensures
