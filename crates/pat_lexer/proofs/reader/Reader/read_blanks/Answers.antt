use Rattle.std.proofs.Common.{rules, ◌++◌, take, drop}
use Rattle.pat_lexer.specs.Reads.{progress}
use Rattle.pat_lexer.proofs.Slices.{at_run, run_length}
use Rattle.pat_lexer.proofs.Between.{blanks_stand}
use Rattle.pat_lexer.proofs.reader.Reader.read_blanks.Goals as goal

pub returns : goal.returns
returns c =
    let bytes = c.args.text.now in
    let n = c.blank_run-n.result in
    (search rules, search rules, search rules, at_run (progress c.args.self.now) _ bytes n (λ text more s. blanks_stand (progress c.args.self.now) text (take n bytes) (drop n bytes ++ more) n c.requires.kind c.requires.characters c.blank_run-n.ensures.each (run_length bytes n c.blank_run-n.ensures.within) s))
