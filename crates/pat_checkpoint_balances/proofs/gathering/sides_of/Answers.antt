use Rattle.std.proofs.Common.{ap, ◌∙◌, map, subst}
use Rattle.pat_core.specs.Views.{program_view}
use Rattle.pat_types.specs.Views.{needs_view}
use Rattle.pat_derivations.specs.Views.{derivation_view}
use Rattle.pat_reduce.specs.threads.ThreadViews.{message_view}
use Rattle.pat_checkpoint_data.specs.Views.{checkpoint_view}
use Rattle.pat_checkpoint_balances.specs.Gathered.{tags_of, Parted}
use Rattle.pat_checkpoint_balances.proofs.Parting.{ok_so, gathered}
use Rattle.pat_checkpoint_balances.proofs.gathering.sides_of.Goals as goal

pub returns : goal.returns
returns c =
    let x = checkpoint_view c.args.checkpoint.now in
    let live = c.as_slice-live.result.now in
    let held = c.as_slice-2.result.now in
    let tags = c.in_ok-tags.ensures ∙ ap (λ l. map (tags_of (map message_view l)) live) c.as_slice.ensures in
    ok_so c.parted.result (λ s h.
    gathered (program_view c.args.program.now) (derivation_view c.args.derivation.now) x (needs_view held) s c.examining_laws.ensures.gathers c.requires.differ (ap needs_view c.as_slice-2.ensures ∙ c.in_ok-held.ensures)
    (subst (λ l. Parted l x.config.messages (needs_view held) s) c.as_slice-live.ensures (h x.config.messages tags))) c.parted.ensures
