use Rattle.std.proofs.Common.{◌≡◌, ◌++◌, drop, map}
use Rattle.pat_bags.specs.Views.{word_of}
use Rattle.pat_core.specs.declared.program.TagDecl.{TagDecl}
use Rattle.pat_typecheck.specs.Words.{tags_words}
use Rattle.pat_typecheck.proofs.words.push_tags.Given as goal

abbrev pub invariant-loop-tag : goal.invariant-loop-tag
invariant-loop-tag l =
    l.text.items ++ tags_words (map (λ (t : TagDecl). t.name) (drop l.tag l.tags)) l.tag (word_of l.word) ≡ l.fn.text.items ++ tags_words (map (λ (t : TagDecl). t.name) l.tags) 0 (word_of l.word)
