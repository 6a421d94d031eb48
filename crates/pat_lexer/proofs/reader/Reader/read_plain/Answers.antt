use Rattle.std.proofs.Common.{rules, ◌≡◌, ◌++◌, nat_lt, true, ℕ, List, take, drop, ap, ◌∙◌, arith}
use Rattle.std.proofs.lemmas.Bool.Decides.{nat_tests}
use Rattle.pat_lexer_spec.specs.Characters.{is_plain}
use Rattle.pat_lexer_laws.proofs.Runs.{Each-weaker}
use Rattle.pat_lexer.specs.fronts.Bytes.{is_plain_ascii}
use Rattle.pat_lexer.specs.Progress.{Progress}
use Rattle.pat_lexer.specs.Changes.{with_held}
use Rattle.pat_lexer.specs.Reads.{progress}
use Rattle.pat_lexer.proofs.Slices.{at_run, moved, ascii_utf8}
use Rattle.pat_lexer.proofs.Inside.{string_held}
use Rattle.pat_lexer.proofs.reader.Reader.read_plain.Goals as goal

plain_of : (b : ℕ) → is_plain_ascii b ≡ true → is_plain b ≡ true
plain_of b h = grind (arith, nat_tests)

low_of : (b : ℕ) → is_plain_ascii b ≡ true → nat_lt b 128 ≡ true
low_of b h = grind (arith, nat_tests)

pub returns : goal.returns
returns c =
    let p = progress c.args.self.now in
    let bytes = c.args.text.now in
    let n = c.plain_run-n.result in
    let run = take n bytes in
    let each = c.plain_run-n.ensures.each in
    let texts : List ℕ → Progress = λ l. with_held (record p { text = l }) run in
    (search rules, search rules, search rules, at_run p (progress c.hold.new.self) bytes n (λ text more s. moved _ (progress c.hold.new.self) text (drop n bytes ++ more) (c.in_ok-hold.ensures.held ∙ ap texts c.in_ok-extend_from_slice.ensures.items) (string_held p text run (drop n bytes ++ more) c.requires.kind c.requires.characters (ascii_utf8 run (Each-weaker is_plain_ascii (λ b. nat_lt b 128) low_of run each)) (Each-weaker is_plain_ascii is_plain plain_of run each) s)))
