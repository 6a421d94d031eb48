use Rattle.std.proofs.Common.{◌∙◌}
use Rattle.std.proofs.lemmas.Result.{err_from_is_err_and}
use Rattle.pat_parser_spec.specs.Machine as m
use Rattle.pat_tree.specs.Views.{name_view}
use Rattle.pat_parser_phrases.proofs.Steps.{fails_from_front}
use Rattle.pat_parser_phrases.proofs.DeclarationsMarks.{behind_function_name}
use Rattle.pat_parser_phrases.proofs.declarations.functions.signature.Goals as goal

pub returns-in_err-mark-clause-read : goal.returns-in_err-mark-clause-read
returns-in_err-mark-clause-read c = λ fs ds.
    let q = err_from_is_err_and c.from_residual-in_err-mark.result c.from_residual-in_err-mark.ensures.1 in
    rw (q.1, q.2) (fails_from_front _ _ _ (c.in_ok-name.ensures.named (m.FunctionName ds) fs 0 0) (c.in_err-mark.ensures.taken _ (behind_function_name fs ds (name_view c.in_ok-name.name))))

pub returns-in_err-params-clause-read : goal.returns-in_err-params-clause-read
returns-in_err-params-clause-read c = λ fs ds.
    let q = err_from_is_err_and c.from_residual-in_err-params.result c.from_residual-in_err-params.ensures.1 in
    let x = name_view c.in_ok-name.name in
    rw (q.1, q.2) (fails_from_front _ _ _ (c.in_ok-name.ensures.named (m.FunctionName ds) fs 0 0 ∙ c.in_ok-mark.ensures.taken _ (behind_function_name fs ds x)) (c.in_err-params.ensures.read fs ds x))

pub returns-in_err-result-clause-read : goal.returns-in_err-result-clause-read
returns-in_err-result-clause-read c = λ fs ds.
    let q = err_from_is_err_and c.from_residual-in_err-result.result c.from_residual-in_err-result.ensures.1 in
    let x = name_view c.in_ok-name.name in
    rw (q.1, q.2) (fails_from_front _ _ _ (c.in_ok-name.ensures.named (m.FunctionName ds) fs 0 0 ∙ c.in_ok-mark.ensures.taken _ (behind_function_name fs ds x) ∙ c.in_ok-params.ensures.read fs ds x) (c.in_err-result.ensures.read fs _))
