use Rattle.std.proofs.Common.{◌∷◌, ap, ◌∙◌, sym}
use Rattle.std.proofs.lemmas.Result.{err_from_is_err_and}
use Rattle.pat_parser_spec.specs.Machine as m
use Rattle.pat_syntax.specs.Views.{kind_view}
use Rattle.pat_primitives.specs.Views.{polarity_view}
use Rattle.pat_tree.specs.Views.{span_view, name_view, pattern_view}
use Rattle.pat_parser_phrases.specs.tokens.Answers.{after}
use Rattle.pat_parser_phrases.proofs.Steps.{fails_from_front}
use Rattle.pat_parser_phrases.proofs.Typed.{typed_end, at_pattern}
use Rattle.pat_parser_phrases.proofs.types.types.polarized.Goals as goal

pub returns-in_err-read-clause-read : goal.returns-in_err-read-clause-read
returns-in_err-read-clause-read c = λ fs.
    let q = err_from_is_err_and c.from_residual-in_err-read.result c.from_residual-in_err-read.ensures.1 in
    let begins = at_pattern c.args.payload fs c.args.opened (name_view c.args.name) (polarity_view c.args.polarity) c.args.place.from (span_view c.args.place) c.in_ok-token.token c.args.tokens.now c.next.new.self (sym c.leaves_pattern_out.ensures ∙ c.if-leaves_pattern_out.false) c.in_ok-token.ensures.taken in
    rw (q.1, q.2) (fails_from_front _ _ _ begins (c.in_err-read.ensures.read (m.AtPattern (m.InTyped (name_view c.args.name) (polarity_view c.args.polarity)) ∷ fs) 0))

pub returns-in_ok-read-clause-read : goal.returns-in_ok-read-clause-read
returns-in_ok-read-clause-read c = λ fs.
    let x = name_view c.args.name in
    let r = polarity_view c.args.polarity in
    let q = c.in_ok-read.read in
    let begins = at_pattern c.args.payload fs c.args.opened x r c.args.place.from (span_view c.args.place) c.in_ok-token.token c.args.tokens.now c.next.new.self (sym c.leaves_pattern_out.ensures ∙ c.if-leaves_pattern_out.false) c.in_ok-token.ensures.taken in
    let ends = typed_end fs c.args.opened q.operators x r (pattern_view q.pattern) q.to (kind_view q.token.kind) (span_view q.token.span) in
    let typed = ap (λ a. after (m.type_step fs c.args.opened a (kind_view q.token.kind) (span_view q.token.span)) q.token.span.from c.pattern.new.tokens) (sym c.mailbox_type-else-leaves_pattern_out.ensures) in
    begins ∙ c.in_ok-read.ensures.read (m.AtPattern (m.InTyped x r) ∷ fs) 0 ∙ ap (λ y. after y q.token.span.from c.pattern.new.tokens) ends ∙ typed
