use Rattle.std.proofs.Common.{drop, take, subst}
use Rattle.std.proofs.lemmas.List.{take_rest}
use Rattle.pat_derivation_text_spec.specs.DerivationText.{marker}
use Rattle.pat_checkpoint_spec.specs.text.CheckpointText.{marker as checkpoint_marker}
use Rattle.pat_input_split.specs.Marked.{IsUnmarked}
use Rattle.pat_checkpoint_input.specs.Parts.{HasCheckpoint}
use Rattle.pat_checkpoint_input.proofs.Giving.{no_marks_at}
use Rattle.pat_checkpoint_input.proofs.inputs.has_marks.Goals as goal

pub returns-in-Some-clause-has : goal.returns-in-Some-clause-has
returns-in-Some-clause-has c = λ yes. record {
  front = take c.in-Some.at c.args.bytes.now;
  text = drop c.in-Some.at c.args.bytes.now;
  marked = c.in-Some.ensures.marked;
  has = subst HasCheckpoint (take_rest c.args.bytes.now c.in-Some.at) (c.has_checkpoint.ensures.has yes);
}

pub returns-in-Some-clause-lacks : goal.returns-in-Some-clause-lacks
returns-in-Some-clause-lacks c = λ no marks.
    no_marks_at c.args.bytes.now c.in-Some.at c.in-Some.ensures.marked (c.split_law.ensures marker c.args.bytes.now) (c.split_law.ensures checkpoint_marker (drop c.in-Some.at c.args.bytes.now))
    (subst (IsUnmarked checkpoint_marker) (take_rest c.args.bytes.now c.in-Some.at) (c.has_checkpoint.ensures.lacks no)) marks

pub returns-in-None-clause-lacks : goal.returns-in-None-clause-lacks
returns-in-None-clause-lacks c = λ no marks. (c.split_law.ensures marker c.args.bytes.now).not_both marks.front marks.text marks.marked c.in-None.ensures.unmarked
