use Rattle.std.proofs.Common.{◌≡◌, true, drop}
use Rattle.pat_type_system_spec.specs.Typed.{mailboxes_of}
use Rattle.pat_reduce_values.specs.ValueViews.{env_view}
use Rattle.pat_checkpoint_spec.specs.Numbers.{env_lives}
use Rattle.pat_checkpoint_spec.specs.Mailboxes.{values_of, env_differs}
use Rattle.pat_checkpoint_numbers.specs.Marked.{is_marked, are_new}
use Rattle.pat_checkpoint_numbers.proofs.differing.env_differs.Given as goal

-- what is left decides it, with the marks
abbrev pub invariant-loop-value : goal.invariant-loop-value
invariant-loop-value l = record {
  live : l.marks.live.now ≡ l.fn.marks.live.now;
  lives : env_lives l.fn.marks.live.now (env_view (drop l.value-index l.env)) ≡ true;
  same : are_new (is_marked l.marks) (mailboxes_of (values_of (env_view (drop l.value-index l.env)))) ≡ env_differs (env_view l.env);
}
