use Rattle.pat_syntax.specs.Views.{kind_view, mark_view}
use Rattle.pat_tree.specs.Views.{span_view}
use Rattle.pat_parser_phrases.proofs.Steps.{refused}
use Rattle.pat_parser_phrases.proofs.tokens.tokens.Tokens.mark.Goals as goal

pub returns-clause-taken : goal.returns-clause-taken
returns-clause-taken c = λ x only.
    let t = c.in_ok-kind.field-0 in
    refused x (mark_view c.args.mark) (kind_view t.kind) (span_view t.span) t.span.from c.args.self.now c.next.new.self only (λ e. let h = c.is_mark.ensures.1 e in cc) (c.in_ok-kind.ensures.taken x only.goes_on)
