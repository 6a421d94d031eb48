use Rattle.std.proofs.Common.{refl, sym, ap, ◌∙◌, subst}
use Rattle.std.specs.Prelude.{option_map, option_copied}
use Rattle.pat_reduce.specs.threads.ThreadViews.{thread_view}
use Rattle.pat_machine_laws.specs.refcounts.Counting.{times_if_thread}
use Rattle.pat_replay.specs.declared.names.Change.TheVariants.{Come}
use Rattle.pat_replay.specs.Naming.{Changes}
use Rattle.pat_replay.proofs.Walks.{changes_none}
use Rattle.pat_replay.proofs.counting.count_spawned.Goals as goal

pub returns-in-Some : goal.returns-in-Some
returns-in-Some c = λ yes.
    let there = sym c.thread.ensures ∙ ap (λ o. option_map thread_view (option_copied o)) c.in-Some.is in
    subst (λ o. Changes Come c.args.times.now.items (λ a. times_if_thread a o) c.change_thread.new.times.items) (sym there) (c.change_thread.ensures yes)

pub returns-in-None : goal.returns-in-None
returns-in-None c = λ yes.
    let none = sym c.thread.ensures ∙ ap (λ o. option_map thread_view (option_copied o)) c.in-None.is in
    subst (λ o. Changes Come c.args.times.now.items (λ a. times_if_thread a o) c.args.times.now.items) (sym none) (changes_none Come c.args.times.now.items (λ a. 0) (λ a. refl))
