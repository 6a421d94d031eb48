use Rattle.std.proofs.Common.{◌≡◌, drop, map}
use Rattle.std.specs.List.{list_any}
use Rattle.pat_semantics_spec.specs.Configs.{env_refers}
use Rattle.pat_reduce.specs.threads.ThreadViews.{frame_view}
use Rattle.pat_reduce.proofs.threads.references.frames_refer.Given as goal

-- what is left decides it
abbrev pub invariant-loop-frame : goal.invariant-loop-frame
invariant-loop-frame l = list_any (λ f. env_refers l.mailbox f.env) (map frame_view (drop l.frame-index l.frames)) ≡ list_any (λ f. env_refers l.mailbox f.env) (map frame_view l.frames)
