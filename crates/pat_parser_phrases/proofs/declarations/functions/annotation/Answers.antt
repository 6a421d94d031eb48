use Rattle.std.proofs.Common.{refl, ap, ◌∙◌}
use Rattle.std.proofs.lemmas.Result.{err_from_is_err_and}
use Rattle.pat_parser_spec.specs.Machine as m
use Rattle.pat_tree.specs.Views.{span_view}
use Rattle.pat_parser_phrases.specs.tokens.Answers.{after}
use Rattle.pat_parser_phrases.proofs.Steps.{from_front, fails_from_front}
use Rattle.pat_parser_phrases.proofs.declarations.functions.annotation.Goals as goal

pub returns-in_err-mark-clause-read : goal.returns-in_err-mark-clause-read
returns-in_err-mark-clause-read c = λ x fs only leads p.
    let q = err_from_is_err_and c.from_residual.result c.from_residual.ensures.1 in
    rw (q.1, q.2) (c.in_err-mark.ensures.taken x only)

pub returns-in_err-first-clause-read : goal.returns-in_err-first-clause-read
returns-in_err-first-clause-read c = λ x fs only leads p.
    let q = err_from_is_err_and c.from_residual-in_err-first.result c.from_residual-in_err-first.ensures.1 in
    let w = c.in_ok-mark.field-0 in
    let front = c.in_ok-mark.ensures.taken x only ∙ ap (λ (y : m.Move). after y w.from c.mark.new.self) (leads (span_view w)) in
    rw (q.1, q.2) (fails_from_front _ _ _ front (c.in_err-first.ensures.taken (m.state m.WantType fs c.args.opened 0 0) refl))

pub returns-clause-read : goal.returns-clause-read
returns-clause-read c = λ x fs only leads p.
    let w = c.in_ok-mark.field-0 in
    let front = c.in_ok-mark.ensures.taken x only ∙ ap (λ (y : m.Move). after y w.from c.mark.new.self) (leads (span_view w)) in
    from_front c.written_type.result _ _ _ (front ∙ c.in_ok-first.ensures.taken (m.state m.WantType fs c.args.opened 0 0) refl) (c.written_type.ensures.read fs p)
