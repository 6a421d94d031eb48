use Rattle.std.proofs.Common.{◌≡◌, true, drop, map}
use Rattle.std.specs.List.{list_all}
use Rattle.pat_reduce.specs.threads.ThreadViews.{frame_view}
use Rattle.pat_checkpoint_spec.specs.Numbers.{env_lives}
use Rattle.pat_checkpoint_spec.specs.Mailboxes.{env_differs}
use Rattle.pat_checkpoint_numbers.proofs.differing.frames_differ.Given as goal

-- what is left decides it
abbrev pub invariant-loop-frame : goal.invariant-loop-frame
invariant-loop-frame l = record {
  live : l.marks.live.now ≡ l.fn.marks.live.now;
  lives : list_all (λ f. env_lives l.fn.marks.live.now f.env) (map frame_view (drop l.frame-index l.frames)) ≡ true;
  same : list_all (λ f. env_differs f.env) (map frame_view (drop l.frame-index l.frames)) ≡ list_all (λ f. env_differs f.env) (map frame_view l.frames);
}
