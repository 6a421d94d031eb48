use Rattle.pat_inclusion_laws.proofs.TreeLaws.{under_derivable, derivable_under, lower_derivable, derivable_lower, derivable_meets, word_shown, shown_word, small_word}
use Rattle.pat_inclusion_laws.proofs.AssignmentLaws.{patterns_solve}
use Rattle.pat_inclusion_laws.proofs.AnswerLaws.{usable_patterns, usable_exact}
use Rattle.pat_inclusion_laws.proofs.bounds.derivable_laws.Goals as goal

pub returns : goal.returns
returns c = record {
  meets = λ lower. (
    derivable_meets lower,
    λ e w. (under_derivable lower e w, derivable_under lower e w),
    λ k w. (lower_derivable lower k w, derivable_lower lower k w),
  );
  patterns = patterns_solve;
  words = λ lower b e w. (word_shown lower b e w, shown_word lower b e w);
  usable = λ lower tests sound. (usable_patterns lower tests sound, λ closed k. (sound k, usable_exact lower tests closed k));
  small = small_word;
}
