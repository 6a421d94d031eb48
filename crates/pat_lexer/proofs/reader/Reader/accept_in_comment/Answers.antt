use Rattle.std.proofs.Common.{ℕ, List, [], ap, ◌∙◌}
use Rattle.pat_lexer.specs.Progress.{Progress}
use Rattle.pat_lexer.specs.Reads.{progress}
use Rattle.pat_lexer.proofs.Slices.{moved}
use Rattle.pat_lexer.proofs.Characters.{comment_goes_on}
use Rattle.pat_lexer.proofs.reader.Reader.accept_in_comment.Goals as goal

pub returns-clause-taken : goal.returns-clause-taken
returns-clause-taken c = λ f text more j.
    let p = progress c.args.self.now in
    let first : List ℕ → Progress = λ l. record p { held = l; character = c.clear-2.new.self.items } in
    let second : List ℕ → Progress = λ l. record p { held = []; character = l } in
    moved _ _ text more (ap first c.clear.ensures.items ∙ ap second c.clear-2.ensures.items) (comment_goes_on p text more c.args.character c.requires.kind f.0 f.1 j)
