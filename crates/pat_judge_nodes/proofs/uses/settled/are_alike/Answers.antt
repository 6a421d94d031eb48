use Rattle.std.proofs.Common.{sym, ◌∙◌}
use Rattle.std.proofs.lemmas.Bool.{and_parts}
use Rattle.pat_words_laws.proofs.PatternLaws.{pat_eq_same}
use Rattle.pat_judge_nodes.proofs.uses.settled.are_alike.Goals as goal

pub returns-in_default : goal.returns-in_default
returns-in_default c = record {
  same = λ yes. pat_eq_same _ _ (and_parts _ _ (sym c.are_same_and_formed.ensures ∙ yes)).0;
  formed = λ yes. (and_parts _ _ (sym c.are_same_and_formed.ensures ∙ yes)).1;
}
