use Rattle.std.proofs.Common.{rules, ◌≡◌, ◌↔◌, true, sym, subst}
use Rattle.std.specs.Prelude.{IfOk}
use Rattle.pat_patterns.specs.Views.{pattern_view}
use Rattle.pat_grid_certificates.specs.Shows.{WordsLie}
use Rattle.pat_grid_certificates.proofs.Meaning.{sum_rest}
use Rattle.pat_grid_certificates.proofs.check.+words_lie_in.Goals as goal

pub returns-else-not-branch : goal.returns-else-not-branch
returns-else-not-branch t c =
    let shown : c.in_ok-words_lie_in-in-Sum.field-0 ≡ true = search rules in
    let first = subst (λ p. (c.in_ok-words_lie_in-in-Sum.field-0 ≡ true) ↔ WordsLie c.args.env.now (pattern_view p) c.args.other.now) c.deref.ensures c.in_ok-words_lie_in-in-Sum.ensures in
    let rest = subst (λ p. IfOk c.words_lie_in-in-Sum.result (λ yes. (yes ≡ true) ↔ WordsLie c.args.env.now (pattern_view p) c.args.other.now)) c.deref-in-Sum.ensures c.words_lie_in-in-Sum.ensures in
    subst (λ p. IfOk c.words_lie_in-in-Sum.result (λ yes. (yes ≡ true) ↔ WordsLie c.args.env.now (pattern_view p) c.args.other.now)) (sym c.in-Sum.is)
    (sum_rest c.args.env.now c.args.other.now (pattern_view c.in-Sum.left.value) (pattern_view c.in-Sum.right.value) c.in_ok-words_lie_in-in-Sum.field-0 c.words_lie_in-in-Sum.result shown first rest)
