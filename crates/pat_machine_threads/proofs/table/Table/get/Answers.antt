use Rattle.std.proofs.Common.{◌∙◌, ap, None, get_or}
use Rattle.std.specs.Prelude.{option_map}
use Rattle.pat_reduce.specs.threads.ThreadViews.{thread_view}
use Rattle.pat_machine_threads.proofs.Slots.{found}
use Rattle.pat_machine_threads.proofs.table.Table.get.Goals as goal

pub returns : goal.returns
returns c =
    ap (option_map thread_view) c.state_at.ensures
    ∙ ap (λ l. option_map thread_view (get_or l c.args.thread None)) c.as_slice.ensures.value
    ∙ found c.self.inside.slots.items c.self.inside.spare c.args.self.now c.args.thread c.self.view_is
