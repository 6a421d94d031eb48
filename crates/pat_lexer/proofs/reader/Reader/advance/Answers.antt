use Rattle.pat_lexer.proofs.Endings.{advance_then}
use Rattle.pat_lexer.proofs.reader.Reader.advance.Goals as goal

pub returns : goal.returns
returns c = advance_then c.args.self.now c.settle.new.self c.read_on.new.self c.args.text.now c.read_on.result c.in_ok-settle.ensures.position c.in_ok-settle.ensures.read c.read_on.ensures
