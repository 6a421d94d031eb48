use Rattle.std.proofs.Common.{◌++◌, take, drop}
use Rattle.pat_syntax.specs.Views.{kind_view}
use Rattle.pat_lexer.specs.Reads.{progress}
use Rattle.pat_lexer.proofs.Slices.{at_run, moved, run_length, run_name, stops_name}
use Rattle.pat_lexer.proofs.Between.{token_stands, name_token_begins}
use Rattle.pat_lexer.proofs.Endings.{ok_then}
use Rattle.pat_lexer.proofs.reader.Reader.read_whole_name.Goals as goal

pub returns-clause-read : goal.returns-clause-read
returns-clause-read c =
    let p = progress c.args.self.now in
    let bytes = c.args.text.now in
    let n = c.args.n in
    let t = kind_view c.in_ok-kind.kind in
    ok_then c.push.result _ _ c.push.ensures.pushed (λ _ e. at_run p (progress c.push.new.self) bytes n (λ text more s. moved _ (progress c.push.new.self) text (drop n bytes ++ more) e (token_stands p text (take n bytes) (drop n bytes ++ more) t n c.requires.kind c.requires.characters (run_length bytes n c.requires.run.within) (name_token_begins (drop n bytes ++ more) c.in_ok-kind.ensures (run_name bytes n c.requires.some c.requires.start c.requires.run) (stops_name bytes more n c.requires.low.0 c.requires.low.1 c.requires.run)) s)))
