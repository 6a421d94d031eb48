use Rattle.std.proofs.Common.{rules, ◌++◌, take, drop}
use Rattle.pat_lexer_spec.specs.Divisions.{IsRefused, NumberTooWide}
use Rattle.pat_lexer.specs.Reads.{progress}
use Rattle.pat_lexer.proofs.Slices.{at_run, by_run, moved}
use Rattle.pat_lexer.proofs.Inside.{integer_held, integer_wide}
use Rattle.pat_lexer.proofs.reader.Reader.read_integer.Goals as goal

pub returns-in_ok-hold-in-Some : goal.returns-in_ok-hold-in-Some
returns-in_ok-hold-in-Some c =
    let p = progress c.args.self.now in
    let bytes = c.args.text.now in
    let n = c.digit_run-n.result in
    (search rules, search rules, search rules, at_run p (progress c.hold.new.self) bytes n (λ text more s. moved _ (progress c.hold.new.self) text (drop n bytes ++ more) c.in_ok-hold-in-Some.ensures.held (integer_held p text (take n bytes) (drop n bytes ++ more) c.in-Some.number c.requires.kind c.requires.characters c.digit_run-n.ensures.each c.in-Some.ensures.narrow.0 c.in-Some.ensures.narrow.1 s)))

pub returns-in-None : goal.returns-in-None
returns-in-None c =
    let p = progress c.args.self.now in
    let bytes = c.args.text.now in
    let n = c.digit_run-n.result in
    by_run p (λ text. IsRefused text (NumberTooWide p.start)) bytes n (λ text more s. integer_wide p text (take n bytes) (drop n bytes ++ more) c.requires.kind c.requires.characters c.digit_run-n.ensures.each c.in-None.ensures.wide s)
