use Rattle.std.proofs.Common.{◌∷◌, refl, ap}
use Rattle.std.proofs.lemmas.Result.{err_from_is_err_and}
use Rattle.pat_parser_spec.specs.Machine as m
use Rattle.pat_syntax.specs.declared.token.TokenKind.{TokenKind}
use Rattle.pat_syntax.specs.Views.{kind_view}
use Rattle.pat_tree.specs.Views.{span_view}
use Rattle.pat_parser_phrases.specs.tokens.Answers.{after}
use Rattle.pat_parser_phrases.proofs.Steps.{fails_from_front}
use Rattle.pat_parser_phrases.proofs.DeclarationsMarks.{behind_param_name}
use Rattle.pat_parser_phrases.proofs.declarations.functions.param.Goals as goal

pub returns-in_err-read-in-Name-clause-read : goal.returns-in_err-read-in-Name-clause-read
returns-in_err-read-in-Name-clause-read c = λ fs d.
    let q = err_from_is_err_and c.from_residual.result c.from_residual.ensures.1 in
    let w = span_view c.args.first.span in
    let x = m.name_at c.in-Name.text w in
    let is = ap (λ (k : TokenKind). after (m.want_name fs 1 0 (m.ParamName d) (kind_view k) w) c.args.first.span.from c.args.tokens.now) c.in-Name.is in
    rw (q.1, q.2) (fails_from_front _ _ _ is (c.in_err-read-in-Name.ensures.read (m.state (m.GotName (m.ParamName d) x) fs 1 0 0) (m.AtType (m.InParam d x) ∷ fs) (behind_param_name fs d x) (λ w. refl) refl))
