use Rattle.std.proofs.Common.{◌≡◌, Some, sym, ap, ◌∙◌, subst}
use Rattle.std.specs.Prelude.{IsTrue, ◌↔◌, option_map}
use Rattle.pat_semantics_spec.specs.Configs.{thread_at}
use Rattle.pat_semantics_spec.specs.Steps.{ActFree, redex}
use Rattle.pat_semantics_laws.specs.Laws.{IsEnabled}
use Rattle.pat_core.specs.Views.{program_view}
use Rattle.pat_reduce.specs.threads.ThreadViews.{thread_view}
use Rattle.pat_reduce.specs.threads.GuardViews.{guard_view}
use Rattle.pat_reduce.specs.threads.ThreadActs.{guard_at}
use Rattle.pat_reduce.specs.Views.{act_view}
use Rattle.pat_machine_indexes.specs.declared.refcounts.freed.Counted.TheVariants.{All}
use Rattle.pat_machine_states.proofs.Reaching.{tells_guard, frees_exactly}
use Rattle.pat_machine_states.proofs.state.IndexedConfig.may_free_now.Goals as goal

pub returns-in-Some-guard_of : goal.returns-in-Some-guard_of
returns-in-Some-guard_of c =
    let p = program_view c.args.code.now.program in
    let d = c.args.self.now.config in
    let t = c.args.thread in
    let s = thread_view c.in-Some.state.now in
    let g = guard_view c.in-Some-guard_of.guard in
    let there : thread_at d t ≡ Some s = sym c.in-Some.ensures in
    let at : guard_at (redex p s.control) ≡ Some g = sym c.guard_of.ensures ∙ ap (option_map guard_view) c.in-Some-guard_of.is in
    let act = c.free_act.ensures t (tells_guard p d t s (All c.args.names) g at (c.requires.told t s there)) in
    subst (λ b. IsTrue b ↔ IsEnabled p d (record { thread = t; act = ActFree })) (sym c.is_some.ensures) (frees_exactly act_view p d t s g c.free_act.result there at act)
