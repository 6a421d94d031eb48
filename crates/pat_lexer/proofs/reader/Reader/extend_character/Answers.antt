use Rattle.std.proofs.Common.{◌+◌, ℕ, List, [], ◌∷◌, ◌++◌, ap, sym, subst, ◌∙◌}
use Rattle.pat_lexer.specs.Progress.{Progress}
use Rattle.pat_lexer.specs.Reads.{progress, Judges}
use Rattle.pat_lexer.proofs.Characters.{extended}
use Rattle.pat_lexer.proofs.reader.Reader.extend_character.Goals as goal

pub returns-clause-extended : goal.returns-clause-extended
returns-clause-extended c = λ text more s.
    let p = progress c.args.self.now in
    let b = c.args.byte in
    let start = c.character_place-self.result in
    let first : List ℕ → Progress = λ l. record p { position = p.position + 1; held = l; character = c.push.new.self.items; character_start = start } in
    let second : List ℕ → Progress = λ l. record p { position = p.position + 1; held = p.held ++ b ∷ []; character = l; character_start = start } in
    subst (λ q. Judges q text more) (sym (ap first c.in_ok-push-2.ensures.items ∙ ap second c.in_ok-push.ensures.items)) (extended p text more b start c.requires.may c.character_place-self.ensures.fresh c.character_place-self.ensures.kept s)
