use Rattle.std.proofs.Common.{rules, ◌++◌, take, drop}
use Rattle.pat_lexer.specs.Reads.{progress}
use Rattle.pat_lexer.proofs.Slices.{at_run, moved}
use Rattle.pat_lexer.proofs.Inside.{name_held}
use Rattle.pat_lexer.proofs.reader.Reader.read_name.Goals as goal

pub returns : goal.returns
returns c =
    let p = progress c.args.self.now in
    let bytes = c.args.text.now in
    let n = c.name_run-n.result in
    (search rules, search rules, search rules, at_run p (progress c.hold.new.self) bytes n (λ text more s. moved _ (progress c.hold.new.self) text (drop n bytes ++ more) c.in_ok-hold.ensures.held (name_held p text (take n bytes) (drop n bytes ++ more) c.requires.kind c.requires.characters c.name_run-n.ensures.each s)))
