use Rattle.std.proofs.Common.{rules, ◌≡◌, ◌+◌, ◌==◌, not, false, [], ◌∷◌, List, get_or, ℕ, refl, subst, arith}
use Rattle.std.proofs.lemmas.Bool.Decides.{nat_tests}
use Rattle.pat_lexer_spec.specs.Tokens.{Mark as MarkToken}
use Rattle.pat_syntax.specs.declared.mark.Mark.{Mark}
use Rattle.pat_syntax.specs.declared.mark.Mark.TheVariants.{DoubleEquals, Arrow}
use Rattle.pat_syntax.specs.Views.{mark_view}
use Rattle.pat_lexer.specs.declared.unfinished.Unfinished.{Unfinished}
use Rattle.pat_lexer.specs.declared.unfinished.Unfinished.TheVariants.{Nothing, Name, Integer, Str, Escape, Equals, Minus, Slash, Comment}
use Rattle.pat_lexer.specs.Ends.{ends}
use Rattle.pat_lexer.specs.Progress.{Progress, Stands}
use Rattle.pat_lexer.specs.Changes.{with_token}
use Rattle.pat_lexer.specs.Reads.{progress, Completes}
use Rattle.pat_lexer.proofs.Slices.{at_first, moved}
use Rattle.pat_lexer.proofs.Inside.{equals_pairs, minus_pairs}
use Rattle.pat_lexer.proofs.reader.Reader.read_second.Goals as goal

equals_second : (b : ℕ) → not (b == 61) ≡ false → b ≡ 61
equals_second b h = grind (arith, nat_tests)

minus_second : (b : ℕ) → not (b == 62) ≡ false → b ≡ 62
minus_second b h = grind (arith, nat_tests)

-- the piece and the byte are the mark
pairs : (p : Progress) (text more : List ℕ) (b : ℕ) (u : Unfinished) (m : Mark) → Completes u m → p.unfinished ≡ u → p.character ≡ [] → ends u b ≡ false → Stands p text (b ∷ more) → Stands (with_token (record p { position = p.position + 1 }) (MarkToken (mark_view m))) text more
pairs p text more b Equals DoubleEquals h is none goes_on s = equals_pairs p text more is none (subst (λ x. Stands p text (x ∷ more)) (equals_second b goes_on) s)
pairs p text more b Minus Arrow h is none goes_on s = minus_pairs p text more is none (subst (λ x. Stands p text (x ∷ more)) (minus_second b goes_on) s)
pairs p text more b Equals _ h is none goes_on s = absurd h
pairs p text more b Minus _ h is none goes_on s = absurd h
pairs p text more b Nothing _ h is none goes_on s = absurd h
pairs p text more b Name _ h is none goes_on s = absurd h
pairs p text more b Integer _ h is none goes_on s = absurd h
pairs p text more b Str _ h is none goes_on s = absurd h
pairs p text more b Escape _ h is none goes_on s = absurd h
pairs p text more b Slash _ h is none goes_on s = absurd h
pairs p text more b Comment _ h is none goes_on s = absurd h

pub returns : goal.returns
returns c =
    let p = progress c.args.self.now in
    let bytes = c.args.text.now in
    (search rules, search rules, search rules, at_first p (progress c.push.new.self) bytes c.requires.some (λ text more s. moved _ (progress c.push.new.self) text more c.in_ok-push.ensures.pushed (pairs p text more (get_or bytes 0 0) p.unfinished c.args.mark c.requires.completes refl c.requires.characters c.requires.goes_on s)))
