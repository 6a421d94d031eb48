use Rattle.pat_checkpoint_input.proofs.inputs.has_checkpoint.Goals as goal

pub returns-in-Some-clause-has : goal.returns-in-Some-clause-has
returns-in-Some-clause-has c = λ _. (_, _, c.in-Some.ensures.marked)
