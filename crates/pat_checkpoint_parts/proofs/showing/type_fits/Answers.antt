use Rattle.std.proofs.Common.{sym, ap, ◌∙◌, subst}
use Rattle.std.specs.Prelude.{IsTrue, option_copied}
use Rattle.std.proofs.lemmas.Result.{IfOk-weaker}
use Rattle.pat_derivation_spec.specs.Rules.{type_is_formed}
use Rattle.pat_primitives.specs.Views.{polarity_view}
use Rattle.pat_types.specs.Views.{result_view}
use Rattle.pat_checkpoint_spec.specs.Kinds.{type_needs, is_certified}
use Rattle.pat_checkpoint_data.specs.Views.{end_view}
use Rattle.pat_checkpoint_parts.specs.Typed.{scope_in}
use Rattle.pat_checkpoint_parts.proofs.showing.type_fits.Goals as goal

pub pattern_fits-requires-clause-given : goal.pattern_fits-requires-clause-given
pattern_fits-requires-clause-given c = subst (λ k. IsTrue (type_is_formed (scope_in c.args.typing.now) (result_view k))) c.in-Mailbox.is c.requires.given

pub returns-in-Mailbox : goal.returns-in-Mailbox
returns-in-Mailbox c =
    let s = scope_in c.args.typing.now in
    IfOk-weaker c.pattern_fits.result _ _ (λ answer h.
    h (polarity_view c.in-Mailbox.polarity)
    ∙ ap (λ k. is_certified s (type_needs (result_view k) (result_view c.args.wanted.now)) (end_view (option_copied c.args.cert))) (sym c.in-Mailbox.is)) c.pattern_fits.ensures
