use Rattle.std.proofs.Common.{rules, ◌≡◌, ◌≢◌, ◌==◌, ◌+◌, ◌∷◌, ℕ, false, List, get_or, ap, subst, arith}
use Rattle.std.proofs.lemmas.Bool.Decides.{nat_tests}
use Rattle.pat_lexer_spec.specs.Divisions.{IsRefused, BadToken}
use Rattle.pat_lexer.specs.declared.unfinished.Unfinished.TheVariants.{Comment}
use Rattle.pat_lexer.specs.Progress.{Progress, Stands}
use Rattle.pat_lexer.specs.Reads.{progress}
use Rattle.pat_lexer.proofs.Slices.{at_first, by_first, moved}
use Rattle.pat_lexer.proofs.Inside.{slash_refused, slash_opens}
use Rattle.pat_lexer.proofs.reader.Reader.read_slash.Goals as goal

differs : (b : ℕ) → b ≢ 47 → (b == 47) ≡ false
differs b h = grind (arith, nat_tests)

pub returns-then-text-ne47 : goal.returns-then-text-ne47
returns-then-text-ne47 c =
    let p = progress c.args.self.now in
    let bytes = c.args.text.now in
    by_first p (λ text. IsRefused text (BadToken p.start)) bytes c.requires.some (λ text more s. slash_refused p text (get_or bytes 0 0 ∷ more) c.requires.kind c.requires.characters (differs (get_or bytes 0 0) c.if-text-ne47.true) s)

pub returns : goal.returns
returns c =
    let p = progress c.args.self.now in
    let bytes = c.args.text.now in
    let cleared : List ℕ → Progress = λ l. record p { position = p.position + 1; unfinished = Comment; held = l } in
    (search rules, search rules, search rules, at_first p _ bytes c.requires.some (λ text more s. moved _ _ text more (ap cleared c.clear.ensures.items) (slash_opens p text more c.requires.kind c.requires.characters (subst (λ b. Stands p text (b ∷ more)) c.if-text-ne47.false s))))
