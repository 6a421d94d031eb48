use Rattle.std.proofs.Common.{rules, ◌≡◌, ◌∷◌, [], ◌++◌, ℕ, get_or, ap, sym, ◌∙◌, append-nil}
use Rattle.std.proofs.lemmas.Str.{IsUtf8-nil}
use Rattle.pat_lexer_spec.specs.Characters.{nothing}
use Rattle.pat_lexer.specs.declared.unfinished.Unfinished.{Unfinished}
use Rattle.pat_lexer.specs.declared.unfinished.Unfinished.TheVariants.{Nothing, Name, Integer, Str, Escape, Equals, Minus, Slash, Comment}
use Rattle.pat_lexer.specs.Progress.{Progress, HasKind}
use Rattle.pat_lexer.specs.Changes.{with_piece}
use Rattle.pat_lexer.specs.Reads.{progress, OpensWith}
use Rattle.pat_lexer.proofs.Slices.{at_first, moved, take_one}
use Rattle.pat_lexer.proofs.Between.{piece_stands}
use Rattle.pat_lexer.proofs.reader.Reader.open_at.Goals as goal

-- the piece is of its kind
opens : (p : Progress) (u : Unfinished) (b : ℕ) → OpensWith u b → p.character ≡ [] → p.held ≡ [] → p.text ≡ [] → HasKind u (with_piece p u (b ∷ [])) (b ∷ [])
opens p Str b is none held empty = ([], ap (λ x. x ∷ []) is, IsUtf8-nil, rw empty nothing, ap (λ l. l ++ b ∷ []) held ∙ sym (append-nil (b ∷ [])) ∙ ap (λ l. (b ∷ []) ++ l) (sym none))
opens p Equals b is none held empty = (ap (λ x. x ∷ []) is, ap (λ l. l ++ b ∷ []) held, none, empty)
opens p Minus b is none held empty = (ap (λ x. x ∷ []) is, ap (λ l. l ++ b ∷ []) held, none, empty)
opens p Slash b is none held empty = (ap (λ x. x ∷ []) is, ap (λ l. l ++ b ∷ []) held, none, empty)
opens p Nothing b is none held empty = absurd is
opens p Name b is none held empty = absurd is
opens p Integer b is none held empty = absurd is
opens p Escape b is none held empty = absurd is
opens p Comment b is none held empty = absurd is

pub returns : goal.returns
returns c =
    let p = progress c.args.self.now in
    let u = c.args.unfinished in
    let bytes = c.args.text.now in
    let b = get_or bytes 0 0 in
    (search rules, search rules, search rules, at_first p (progress c.open.new.self) bytes c.requires.some (λ text more s. moved _ (progress c.open.new.self) text more (c.in_ok-open.ensures.opened ∙ ap (with_piece p u) (take_one bytes c.requires.some)) (piece_stands p text (b ∷ []) more u c.requires.kind c.requires.characters (λ held empty. opens p u b c.requires.opens c.requires.characters held empty) s)))
