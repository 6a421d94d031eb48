use Rattle.std.proofs.Common.{sym, ap, ◌∙◌, subst}
use Rattle.std.specs.Prelude.{option_map, option_copied}
use Rattle.pat_reduce.specs.threads.ThreadViews.{thread_view}
use Rattle.pat_machine_laws.specs.refcounts.Naming.{times_in_thread}
use Rattle.pat_machine_laws.specs.refcounts.Counting.{times_if_thread}
use Rattle.pat_machine_states.specs.Changes.{HasPlaces}
use Rattle.pat_machine_steps.proofs.Left.{bare_top}
use Rattle.pat_machine_steps.proofs.shared_steps.counting.count_spawned.Goals as goal

pub count_top-requires : goal.count_top-requires
count_top-requires c =
    let there = sym c.thread.ensures ∙ ap (λ o. option_map thread_view (option_copied o)) c.in-Some.is in
    let s = thread_view c.in-Some.spawned.now in
    subst (λ x. HasPlaces c.args.names.now (λ a. times_in_thread a x)) (bare_top s (c.requires.bare s there))
    (subst (λ o. HasPlaces c.args.names.now (λ a. times_if_thread a o)) there c.requires.places)
