use Rattle.std.proofs.Common.{◌≡◌, Some, sym, ap, ◌∙◌}
use Rattle.std.specs.Prelude.{option_map, option_copied}
use Rattle.pat_semantics_spec.specs.Configs.{thread_at}
use Rattle.pat_semantics_spec.specs.Steps.{redex}
use Rattle.pat_core.specs.Views.{program_view}
use Rattle.pat_reduce.specs.threads.ThreadViews.{thread_view}
use Rattle.pat_reduce.specs.threads.GuardViews.{guard_view}
use Rattle.pat_reduce.specs.threads.ThreadActs.{guard_at}
use Rattle.pat_reduce.specs.Views.{act_view}
use Rattle.pat_machine_states.proofs.Awaiting.{waits}
use Rattle.pat_machine_indexes.specs.declared.refcounts.freed.Counted.TheVariants.{All}
use Rattle.pat_machine_states.proofs.Reaching.{tells_guard}
use Rattle.pat_machine_states.proofs.state.IndexedConfig.awaited.Goals as goal

pub returns-in-None : goal.returns-in-None
returns-in-None c =
    let p = program_view c.args.code.now.program in
    let d = c.args.self.now.config in
    let t = c.args.thread in
    let s = thread_view c.in_ok-state.state.now in
    let g = guard_view c.in_ok-guard.guard in
    let there : thread_at d t ≡ Some s = sym c.thread.ensures ∙ ap (λ o. option_map thread_view (option_copied o)) c.in_ok-state.was in
    let at : guard_at (redex p s.control) ≡ Some g = sym c.guard_of.ensures ∙ ap (option_map guard_view) c.in_ok-guard.was in
    waits p d t s g there at (sym (c.guard_act.ensures t (tells_guard p d t s (All c.args.names) g at (c.requires.told t s there))) ∙ ap (option_map act_view) c.in-None.is)
