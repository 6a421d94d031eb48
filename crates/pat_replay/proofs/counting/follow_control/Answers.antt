use Rattle.std.proofs.Common.{◌≡◌, Some, None, refl, sym, ap, ◌∙◌, subst}
use Rattle.std.specs.Prelude.{option_map, option_copied}
use Rattle.pat_reduce.specs.threads.ThreadViews.{thread_view}
use Rattle.pat_machine_laws.specs.refcounts.Counting.{times_if_top}
use Rattle.pat_replay.specs.declared.names.Change.TheVariants.{Come}
use Rattle.pat_replay.specs.Naming.{Changes}
use Rattle.pat_replay.proofs.Walks.{changes_none}
use Rattle.pat_replay.proofs.counting.follow_control.Goals as goal

pub returns-in-Some-clause-counted : goal.returns-in-Some-clause-counted
returns-in-Some-clause-counted c = λ yes.
    let there = sym c.thread.ensures ∙ ap (λ o. option_map thread_view (option_copied o)) c.in-Some.is in
    subst (λ o. Changes Come c.args.times.now.items (λ a. times_if_top 0 a o) c.change_top.new.times.items) (sym there) (c.change_top.ensures yes)

pub returns-in-End-clause-counted : goal.returns-in-End-clause-counted
returns-in-End-clause-counted c = λ yes.
    let none = sym c.thread.ensures ∙ ap (λ o. option_map thread_view (option_copied o)) c.in-None.is in
    subst (λ o. Changes Come c.args.times.now.items (λ a. times_if_top 0 a o) c.args.times.now.items) (sym none) (changes_none Come c.args.times.now.items (λ a. 0) (λ a. refl))
