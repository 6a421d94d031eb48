use Rattle.std.proofs.Common.{rules, ◌∷◌, [], List, ℕ, ap, subst, ◌∙◌}
use Rattle.pat_lexer.specs.declared.unfinished.Unfinished.TheVariants.{Escape}
use Rattle.pat_lexer.specs.Progress.{Progress, Stands}
use Rattle.pat_lexer.specs.Changes.{with_held}
use Rattle.pat_lexer.specs.Reads.{progress}
use Rattle.pat_lexer.proofs.Slices.{at_first, moved, take_one}
use Rattle.pat_lexer.proofs.Inside.{string_escapes}
use Rattle.pat_lexer.proofs.reader.Reader.open_escape.Goals as goal

pub returns : goal.returns
returns c =
    let p = progress c.args.self.now in
    let bytes = c.args.text.now in
    let first : Progress → Progress = λ q. record q { unfinished = Escape } in
    let second : List ℕ → Progress = λ l. record (with_held p l) { unfinished = Escape } in
    let third : ℕ → Progress = λ b. record (with_held p (b ∷ [])) { unfinished = Escape } in
    (search rules, search rules, search rules, at_first p _ bytes c.requires.some (λ text more s. moved _ _ text more (ap first c.in_ok-hold.ensures.held ∙ ap second (take_one bytes c.requires.some) ∙ ap third c.requires.backslash) (string_escapes p text more c.requires.kind c.requires.characters (subst (λ b. Stands p text (b ∷ more)) c.requires.backslash s))))
