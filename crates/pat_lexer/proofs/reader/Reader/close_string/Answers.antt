use Rattle.std.proofs.Common.{rules, ◌≡◌, ◌+◌, ◌∷◌, [], List, ℕ, ap, subst, ◌∙◌}
use Rattle.pat_lexer_spec.specs.Tokens.{Str}
use Rattle.pat_lexer.specs.Progress.{Progress, Stands}
use Rattle.pat_lexer.specs.Changes.{with_token}
use Rattle.pat_lexer.specs.Reads.{progress}
use Rattle.pat_lexer.proofs.Slices.{at_first, moved}
use Rattle.pat_lexer.proofs.Inside.{string_closes}
use Rattle.pat_lexer.proofs.reader.Reader.close_string.Goals as goal

pub returns : goal.returns
returns c =
    let p = progress c.args.self.now in
    let bytes = c.args.text.now in
    let content : c.in_ok-content.content ≡ p.text = search rules in
    let first : List ℕ → Progress = λ l. with_token (record p { position = p.position + 1; text = l }) (Str c.in_ok-content.content) in
    let second : List ℕ → Progress = λ l. with_token (record p { position = p.position + 1; text = [] }) (Str l) in
    (search rules, search rules, search rules, at_first p (progress c.push.new.self) bytes c.requires.some (λ text more s. moved _ (progress c.push.new.self) text more (c.in_ok-push.ensures.pushed ∙ ap first c.clear.ensures.items ∙ ap second content) (string_closes p text more c.requires.kind c.requires.characters (subst (λ b. Stands p text (b ∷ more)) c.requires.quote s))))
