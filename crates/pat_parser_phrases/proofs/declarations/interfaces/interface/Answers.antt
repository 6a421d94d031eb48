use Rattle.std.proofs.Common.{◌∙◌}
use Rattle.std.proofs.lemmas.Result.{err_from_is_err_and}
use Rattle.pat_parser_spec.specs.Machine as m
use Rattle.pat_tree.specs.Views.{name_view}
use Rattle.pat_parser_phrases.proofs.Steps.{fails_from_front}
use Rattle.pat_parser_phrases.proofs.DeclarationsMarks.{behind_interface_name}
use Rattle.pat_parser_phrases.proofs.declarations.interfaces.interface.Goals as goal

pub returns-in_err-mark-clause-read : goal.returns-in_err-mark-clause-read
returns-in_err-mark-clause-read c = λ fs ds.
    let q = err_from_is_err_and c.from_residual-in_err-mark.result c.from_residual-in_err-mark.ensures.1 in
    rw (q.1, q.2) (fails_from_front _ _ _ (c.in_ok-name.ensures.named (m.InterfaceName ds) fs 0 0) (c.in_err-mark.ensures.taken _ (behind_interface_name fs ds (name_view c.in_ok-name.name))))

pub returns-in_err-messages-clause-read : goal.returns-in_err-messages-clause-read
returns-in_err-messages-clause-read c = λ fs ds.
    let q = err_from_is_err_and c.from_residual-in_err-messages.result c.from_residual-in_err-messages.ensures.1 in
    let x = name_view c.in_ok-name.name in
    rw (q.1, q.2) (fails_from_front _ _ _ (c.in_ok-name.ensures.named (m.InterfaceName ds) fs 0 0 ∙ c.in_ok-mark.ensures.taken _ (behind_interface_name fs ds x)) (c.in_err-messages.ensures.read fs ds x))
