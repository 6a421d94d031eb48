use Rattle.std.proofs.Common.{◌≡◌, ◌≤◌, ◌==◌, ◌∷◌, ℕ, false, get_or, arith}
use Rattle.std.proofs.lemmas.Bool.Decides.{nat_tests}
use Rattle.pat_lexer_spec.specs.Characters.{is_plain}
use Rattle.pat_lexer_spec.specs.Divisions.{IsRefused, BadToken}
use Rattle.pat_lexer_laws.proofs.Faults.{no_end_control}
use Rattle.pat_lexer.specs.Reads.{progress}
use Rattle.pat_lexer.proofs.Slices.{by_first}
use Rattle.pat_lexer.proofs.Inside.{string_refused}
use Rattle.pat_lexer.proofs.reader.Reader.read_string.Goals as goal

not_plain : (b : ℕ) → b ≤ 31 → is_plain b ≡ false
not_plain b h = grind (arith, nat_tests)

no_quote : (b : ℕ) → b ≤ 31 → (b == 34) ≡ false
no_quote b h = grind (arith, nat_tests)

no_backslash : (b : ℕ) → b ≤ 31 → (b == 92) ≡ false
no_backslash b h = grind (arith, nat_tests)

pub returns-in-0-to-31 : goal.returns-in-0-to-31
returns-in-0-to-31 c =
    let p = progress c.args.self.now in
    let bytes = c.args.text.now in
    let b = get_or bytes 0 0 in
    let low : b ≤ 31 = omega arith in
    by_first p (λ text. IsRefused text (BadToken p.start)) bytes c.requires.some (λ text more s. string_refused p text (b ∷ more) c.requires.kind c.requires.characters (no_end_control b more (not_plain b low) (no_quote b low) (no_backslash b low)) s)
