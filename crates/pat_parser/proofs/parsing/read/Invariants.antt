use Rattle.std.proofs.Common.{◌≡◌, length}
use Rattle.pat_parser_spec.specs.Machine as m
use Rattle.pat_parser_phrases.specs.tokens.Answers.{answer}
use Rattle.pat_parser.specs.states.Views.{state_view}
use Rattle.pat_parser.proofs.parsing.read.Given as goal

-- the answer to what is left, in this state, is the one to all tokens
abbrev pub invariant-loop-token : goal.invariant-loop-token
invariant-loop-token l = answer m.begin l.fn.tokens ≡ answer (state_view l.state) l.tokens

abbrev pub decreases-loop-token : goal.decreases-loop-token
decreases-loop-token l = length l.tokens.0
