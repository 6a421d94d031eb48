use Rattle.std.proofs.Common.{rules, ◌≡◌, ◌+◌, ◌∷◌, ◌∙◌}
use Rattle.std.proofs.lemmas.Result.{err_from_is_err_and}
use Rattle.pat_parser_spec.specs.Machine as m
use Rattle.pat_syntax.specs.declared.token.TokenKind.TheVariants as kinds
use Rattle.pat_syntax.specs.declared.mark.Mark.TheVariants as marks
use Rattle.pat_parser_phrases.proofs.Steps.{from_front, fails_from_front}
use Rattle.pat_parser_phrases.proofs.Openings.{starrier, at_star, at_bracket, star_read}
use Rattle.pat_parser_phrases.proofs.types.patterns.+pattern.Goals as goal

pub factor-returns-in_err-read-in-Mark-Star-clause-read : goal.factor-returns-in_err-read-in-Mark-Star-clause-read
factor-returns-in_err-read-in-Mark-Star-clause-read t c = λ fs s p.
    let q = err_from_is_err_and c.from_residual-in_err-read-in-Mark-Star.result c.from_residual-in_err-read-in-Mark-Star.ensures.1 in
    let is : c.args.kind ≡ kinds.Mark marks.Star = search rules in
    let opens = at_star fs c.args.opened c.args.operators s c.args.span.from p c.args.kind c.args.span c.in_ok-first-in-Mark-Star.first c.args.tokens.now c.after_opening.new.tokens is c.in_ok-first-in-Mark-Star.ensures.taken in
    rw (q.1, q.2) (fails_from_front _ _ _ opens (c.in_err-read-in-Mark-Star.ensures.read fs s (starrier p)))

pub factor-returns-in-Mark-Star-clause-read : goal.factor-returns-in-Mark-Star-clause-read
factor-returns-in-Mark-Star-clause-read t c = λ fs s p.
    let is : c.args.kind ≡ kinds.Mark marks.Star = search rules in
    let opens = at_star fs c.args.opened c.args.operators s c.args.span.from p c.args.kind c.args.span c.in_ok-first-in-Mark-Star.first c.args.tokens.now c.after_opening.new.tokens is c.in_ok-first-in-Mark-Star.ensures.taken in
    star_read fs c.args.opened s p c.in_ok-read-in-Mark-Star.read c.in_ok-starred-in-Mark-Star.field-0 _ _ c.in_ok-starred-in-Mark-Star.ensures (opens ∙ c.in_ok-read-in-Mark-Star.ensures.read fs s (starrier p))

pub factor-returns-in_err-read-in-Mark-RoundOpen-clause-read : goal.factor-returns-in_err-read-in-Mark-RoundOpen-clause-read
factor-returns-in_err-read-in-Mark-RoundOpen-clause-read t c = λ fs s p.
    let q = err_from_is_err_and c.from_residual-in_err-read-in-Mark-RoundOpen.result c.from_residual-in_err-read-in-Mark-RoundOpen.ensures.1 in
    let is : c.args.kind ≡ kinds.Mark marks.RoundOpen = search rules in
    let opens = at_bracket fs c.args.opened c.args.operators s c.args.span.from p c.args.kind c.args.span c.in_ok-first-in-Mark-RoundOpen.first c.args.tokens.now c.after_opening-in-Mark-RoundOpen.new.tokens is c.in_ok-first-in-Mark-RoundOpen.ensures.taken in
    rw (q.1, q.2) (fails_from_front _ _ _ opens (c.in_err-read-in-Mark-RoundOpen.ensures.read (m.AtPattern (m.InPatternBracket p c.args.opened) ∷ fs) s))

pub factor-returns-in-Mark-RoundOpen-clause-read : goal.factor-returns-in-Mark-RoundOpen-clause-read
factor-returns-in-Mark-RoundOpen-clause-read t c = λ fs s p.
    let is : c.args.kind ≡ kinds.Mark marks.RoundOpen = search rules in
    let opens = at_bracket fs c.args.opened c.args.operators s c.args.span.from p c.args.kind c.args.span c.in_ok-first-in-Mark-RoundOpen.first c.args.tokens.now c.after_opening-in-Mark-RoundOpen.new.tokens is c.in_ok-first-in-Mark-RoundOpen.ensures.taken in
    from_front c.closed.result _ _ _ (opens ∙ c.in_ok-read-in-Mark-RoundOpen.ensures.read (m.AtPattern (m.InPatternBracket p c.args.opened) ∷ fs) s) (c.closed.ensures.read fs (c.args.opened + 1) c.args.opened s p)
