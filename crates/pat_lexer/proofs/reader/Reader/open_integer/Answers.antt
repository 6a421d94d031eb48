use Rattle.std.proofs.Common.{rules, ◌≡◌, ◌-◌, ◌≤◌, ◌∷◌, [], ◌++◌, ℕ, true, get_or, ap, ◌∙◌, arith}
use Rattle.std.proofs.lemmas.Bool.Decides.{nat_tests}
use Rattle.pat_lexer_spec.specs.Characters.{is_digit}
use Rattle.pat_lexer_spec.specs.Lexemes.{greatest}
use Rattle.pat_lexer.specs.declared.unfinished.Unfinished.TheVariants.{Integer}
use Rattle.pat_lexer.specs.Progress.{Progress, HasKind}
use Rattle.pat_lexer.specs.Changes.{with_piece}
use Rattle.pat_lexer.specs.Reads.{progress}
use Rattle.pat_lexer.proofs.Slices.{at_first, moved, take_one}
use Rattle.pat_lexer.proofs.Between.{piece_stands, renumbered}
use Rattle.pat_lexer.proofs.reader.Reader.open_integer.Goals as goal

small : (b : ℕ) → is_digit b ≡ true → b - 48 ≤ greatest
small b h = grind (arith, nat_tests)

-- one digit
opens : (p : Progress) (b : ℕ) → is_digit b ≡ true → p.number ≡ b - 48 → p.character ≡ [] → p.held ≡ [] → p.text ≡ [] → HasKind Integer (with_piece p Integer (b ∷ [])) (b ∷ [])
opens p b digit is none held empty =
    ((λ e. let no : ⊥ = cc in no), (digit, tt), omega (arith, is), (let low = small b digit in omega (arith, is, low)), ap (λ l. l ++ b ∷ []) held, none, empty)

pub returns : goal.returns
returns c =
    let p = progress c.args.self.now in
    let bytes = c.args.text.now in
    let b = get_or bytes 0 0 in
    let n = c.from-self.result in
    let q = record p { number = n } in
    (search rules, search rules, search rules, at_first p (progress c.open.new.self) bytes c.requires.some (λ text more s. moved _ (progress c.open.new.self) text more (c.in_ok-open.ensures.opened ∙ ap (with_piece q Integer) (take_one bytes c.requires.some)) (piece_stands q text (b ∷ []) more Integer c.requires.kind c.requires.characters (λ held empty. opens q b c.requires.digit c.from-self.ensures c.requires.characters held empty) (renumbered p text (b ∷ more) n c.requires.kind c.requires.characters s))))
