use Rattle.std.proofs.Common.{◌≡◌, ℕ, Bool, ◌&&◌, leb, Option, sym, subst, rules}
use Rattle.std.proofs.lemmas.List.Sorted.{IsPartitionPoint-from_clause, IsPartitionedBy-leb}
use Rattle.pat_machine_spec.specs.Turns.{is_above}
use Rattle.pat_reduce.specs.declared.threads.state.ThreadState.{ThreadState}
use Rattle.pat_checkpoint_run.specs.Searches.{first_from}
use Rattle.pat_checkpoint_run.proofs.Halves.{numbers_rise, above_from}
use Rattle.pat_checkpoint_run.proofs.next.place_above.Goals as goal

pub returns-in-Some : goal.returns-in-Some
returns-in-Some c =
    let last = c.in-Some.last in
    let parted = IsPartitionedBy-leb (λ (e : ℕ × ThreadState). e.0) _ last (numbers_rise 0 c.args.threads.now c.requires) in
    let point = IsPartitionPoint-from_clause (λ (e : ℕ × ThreadState). leb e.0 last) _ _ c.partition_point.ensures.partitioned parted (λ a r q k. search rules) in
    subst (λ (o : Option ℕ). (can : ℕ → Bool) → first_from (λ t. is_above o t && can t) c.args.threads.now 0 ≡ first_from can c.args.threads.now c.partition_point.result) (sym c.in-Some.is)
    (λ can. above_from last can c.args.threads.now c.partition_point.result c.partition_point.ensures.bound point)
