use Rattle.std.proofs.Common.{rules, ◌∷◌, [], List, ℕ, get_or, ap, ◌∙◌}
use Rattle.pat_lexer.specs.declared.unfinished.Unfinished.TheVariants.{Str}
use Rattle.pat_lexer.specs.Progress.{Progress}
use Rattle.pat_lexer.specs.Changes.{with_held}
use Rattle.pat_lexer.specs.Reads.{progress}
use Rattle.pat_lexer.proofs.Slices.{at_first, moved, take_one}
use Rattle.pat_lexer.proofs.Inside.{escape_held}
use Rattle.pat_lexer.proofs.reader.Reader.close_escape.Goals as goal

pub returns : goal.returns
returns c =
    let p = progress c.args.self.now in
    let bytes = c.args.text.now in
    let b = get_or bytes 0 0 in
    let first : Progress → Progress = λ q. record q { unfinished = Str } in
    let second : List ℕ → Progress = λ l. record (with_held (record p { text = c.push.new.self.items }) l) { unfinished = Str } in
    let third : List ℕ → Progress = λ l. record (with_held (record p { text = l }) (b ∷ [])) { unfinished = Str } in
    (search rules, search rules, search rules, at_first p _ bytes c.requires.some (λ text more s. moved _ _ text more (ap first c.in_ok-hold.ensures.held ∙ ap second (take_one bytes c.requires.some) ∙ ap third c.in_ok-push.ensures.items) (escape_held p text more b c.requires.kind c.requires.characters c.requires.pair s)))
