use Rattle.std.proofs.Common.{◌≡◌, ◌++◌, drop, map}
use Rattle.pat_core.specs.Views.{tag_view}
use Rattle.pat_core.specs.Spans.{tag_spans}
use Rattle.pat_core.proofs.copying.copy_tags.Given as goal

-- what is copied, and what is left, are the whole
abbrev pub invariant-loop-tag : goal.invariant-loop-tag
invariant-loop-tag l = record {
  same : map tag_view l.copied ++ map tag_view (drop l.tag-index l.tag-items) ≡ map tag_view l.tags;
  spans : map tag_spans l.copied ++ map tag_spans (drop l.tag-index l.tag-items) ≡ map tag_spans l.tags;
}
