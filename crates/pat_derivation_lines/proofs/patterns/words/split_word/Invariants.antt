use Rattle.std.proofs.Common.{◌≡◌, ◌++◌, drop, take}
use Rattle.pat_derivation_text_spec.specs.patterns.PatternReading.{word_front, word_rest}
use Rattle.pat_derivation_lines.proofs.patterns.words.split_word.Given as goal

abbrev pub invariant-loop-i : goal.invariant-loop-i
invariant-loop-i l = record {
  front : take l.i l.text ++ word_front (drop l.i l.text) ≡ word_front l.text;
  rest : word_rest (drop l.i l.text) ≡ word_rest l.text;
}
