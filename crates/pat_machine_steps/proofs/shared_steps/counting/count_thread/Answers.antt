use Rattle.std.proofs.Common.{sym, ap, ◌∙◌, subst}
use Rattle.std.specs.Prelude.{option_map, option_copied}
use Rattle.pat_reduce.specs.threads.ThreadViews.{thread_view}
use Rattle.pat_machine_laws.specs.refcounts.Counting.{times_if_top}
use Rattle.pat_machine_states.specs.Changes.{HasPlaces}
use Rattle.pat_machine_steps.proofs.shared_steps.counting.count_thread.Goals as goal

pub count_top-requires : goal.count_top-requires
count_top-requires c =
    let there = sym c.thread.ensures ∙ ap (λ o. option_map thread_view (option_copied o)) c.in-Some.is in
    subst (λ o. HasPlaces c.args.names.now (λ a. times_if_top c.args.frames a o)) there c.requires
