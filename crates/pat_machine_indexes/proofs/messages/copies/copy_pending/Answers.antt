use Rattle.std.proofs.Common.{rules, map, ap, ◌∙◌}
use Rattle.std.proofs.lemmas.List.Sorted.{IsNonDecreasingBy-from_sort_by_key}
use Rattle.pat_reduce.specs.threads.ThreadViews.{message_view}
use Rattle.pat_machine_indexes.proofs.Sorting.{copied_all}
use Rattle.pat_machine_indexes.proofs.messages.copies.copy_pending.Goals as goal

pub returns : goal.returns
returns c =
    let up = IsNonDecreasingBy-from_sort_by_key (λ m. m.number) c.sort_by_key.new.self.items c.in_ok-sort_by_key.ensures.sorted (λ a r f called. search rules) in
    copied_all c.args.mailboxes.now.mailboxes c.own.inside.items.items c.sort_by_key.new.self.items c.args.count c.requires.kept c.requires.all (ap (map message_view) c.own.view_is ∙ c.in_ok-own.ensures) c.sort_by_key.ensures.permutation up
