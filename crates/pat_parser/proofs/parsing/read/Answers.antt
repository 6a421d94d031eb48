use Rattle.std.proofs.Common.{◌∙◌}
use Rattle.pat_parser.specs.states.Views.{state_view}
use Rattle.pat_parser_phrases.proofs.Steps.{taken, failed, fails_from_front}
use Rattle.pat_parser.proofs.parsing.read.Goals as goal

pub returns-in_err-state-clause-read : goal.returns-in_err-state-clause-read
returns-in_err-state-clause-read c = failed _ c.in_err-state.field-0.0 _ _ c.from_residual.ensures.1 (fails_from_front c.in_err-state.field-0.0 _ _ (c.loop-token.invariant ∙ taken (state_view c.loop-token.state) c.in-Some.token c.loop-token.tokens c.pop.new.self c.in-Some.ensures.some) c.in_err-state.ensures.read)

pub loop-token-preserved : goal.loop-token-preserved
loop-token-preserved c = c.loop-token.invariant ∙ (taken (state_view c.loop-token.state) c.in-Some.token c.loop-token.tokens c.pop.new.self c.in-Some.ensures.some ∙ c.in_ok-state.ensures.read)
