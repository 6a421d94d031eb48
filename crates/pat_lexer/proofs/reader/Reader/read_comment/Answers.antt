use Rattle.std.proofs.Common.{rules, ◌≡◌, ◌++◌, nat_lt, true, ℕ, take, drop, arith}
use Rattle.std.proofs.lemmas.Bool.Decides.{nat_tests}
use Rattle.pat_lexer_spec.specs.Characters.{is_in_line}
use Rattle.pat_lexer_laws.proofs.Runs.{Each-weaker}
use Rattle.pat_lexer.specs.fronts.Bytes.{is_comment_byte}
use Rattle.pat_lexer.specs.Reads.{progress}
use Rattle.pat_lexer.proofs.Slices.{at_run, run_length, ascii_utf8}
use Rattle.pat_lexer.proofs.Inside.{comment_passes}
use Rattle.pat_lexer.proofs.reader.Reader.read_comment.Goals as goal

line_of : (b : ℕ) → is_comment_byte b ≡ true → is_in_line b ≡ true
line_of b h = grind (arith, nat_tests)

low_of : (b : ℕ) → is_comment_byte b ≡ true → nat_lt b 128 ≡ true
low_of b h = grind (arith, nat_tests)

pub returns : goal.returns
returns c =
    let p = progress c.args.self.now in
    let bytes = c.args.text.now in
    let n = c.comment_run-n.result in
    let run = take n bytes in
    let each = c.comment_run-n.ensures.each in
    (search rules, search rules, search rules, at_run p _ bytes n (λ text more s. comment_passes p text run (drop n bytes ++ more) n c.requires.kind c.requires.characters (run_length bytes n c.comment_run-n.ensures.within) (ascii_utf8 run (Each-weaker is_comment_byte (λ b. nat_lt b 128) low_of run each)) (Each-weaker is_comment_byte is_in_line line_of run each) s))
