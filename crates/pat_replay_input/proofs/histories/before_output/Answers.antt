use Rattle.std.proofs.Common.{refl, inl, inr}
use Rattle.pat_replay_input.proofs.histories.before_output.Goals as goal

pub returns-in-Some-clause-part : goal.returns-in-Some-clause-part
returns-in-Some-clause-part c = inl (_, c.in-Some.ensures.marked)

pub returns-in-None-clause-part : goal.returns-in-None-clause-part
returns-in-None-clause-part c = inr (c.in-None.ensures.unmarked, refl)
