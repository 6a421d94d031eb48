use Rattle.std.proofs.Common.{◌≡◌, ◌∙◌, ℕ, List, ap, sym, subst}
use Rattle.pat_lexer_spec.specs.Held.{IsHeld}
use Rattle.pat_lexer.specs.Lexed.{Lexed}
use Rattle.pat_lexer.proofs.Holding.{holds, is_held}
use Rattle.pat_lexer.proofs.lexer.Lexer.held.Goals as goal

pub returns-clause-known : goal.returns-clause-known
returns-clause-known c = λ bytes h none. holds bytes _ h none

pub returns-clause-end : goal.returns-clause-end
returns-clause-end c = λ bytes h none.
    let held : Lexed → List ℕ = λ l. l.progress.held in
    let same : c.args.self.now.progress.held ≡ c.as_slice.result.now = ap held (sym c.self.view_is) ∙ sym c.as_slice.ensures.value in
    subst (IsHeld bytes c.args.self.now.progress.whole) same (is_held bytes c.args.self.now h none)
