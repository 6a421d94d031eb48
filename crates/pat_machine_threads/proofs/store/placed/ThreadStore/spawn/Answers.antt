use Rattle.std.proofs.Common.{◌≡◌, ◌+◌, nat_eq, [], ◌∷◌, ◌++◌, map, Some, sym, ap, ◌∙◌, subst}
use Rattle.std.specs.Map.{lookup, set_value}
use Rattle.pat_semantics_spec.specs.Values.{Const, UnitConst}
use Rattle.pat_semantics_spec.specs.Configs.{Config, Returned, thread_at}
use Rattle.pat_semantics_spec.specs.Steps.{ActSpawn, thread_of}
use Rattle.pat_core.specs.Views.{program_view}
use Rattle.pat_reduce.specs.threads.ThreadViews.{control_view, frame_view, thread_view}
use Rattle.pat_reduce.specs.Views.{threads_view}
use Rattle.pat_machine_threads.specs.table.Entries.{Threads}
use Rattle.pat_machine_threads.specs.store.ThreadStore.{placed_view}
use Rattle.pat_machine_threads.specs.store.Steps.{IsTaken}
use Rattle.pat_machine_threads.proofs.InPlace.{is_spawned, come_behind}
use Rattle.pat_machine_threads.proofs.store.placed.ThreadStore.spawn.Goals as goal

pub set_control-requires : goal.set_control-requires
set_control-requires c =
    (thread_view c.in-Some.state.now, ap (λ l. lookup (nat_eq c.args.thread) (threads_view l)) c.reserve.ensures.entries ∙ sym c.in-Some.ensures)

pub returns-in_ok-reserve-in-Ok : goal.returns-in_ok-reserve-in-Ok
returns-in_ok-reserve-in-Ok c =
    let i = c.self.inside in
    let p = program_view c.args.code.now.program in
    let t = c.args.thread in
    let s = thread_view c.in-Some.state.now in
    let k = control_view c.in-Ok.control in
    let n = i.config.next_thread in
    let there : thread_at (placed_view i.config i.table) t ≡ Some s = sym c.in-Some.ensures in
    let none = ap (λ (d : Config). d.messages) c.self.view_is ∙ c.requires.none in
    let goes = thread_of (Returned (Const UnitConst)) s.frames in
    let before = c.reserve.ensures.entries in
    let set = c.set_control.ensures.after s (ap (λ l. lookup (nat_eq t) (threads_view l)) before ∙ sym c.in-Some.ensures) ∙ ap (λ l. set_value (nat_eq t) (threads_view l) goes) before in
    let more = ap (λ (x : Threads). x.entries) c.add.ensures in
    let made = c.set_control.ensures.made ∙ c.reserve.ensures.made ∙ c.self.invariant.made in
    let came = come_behind i.table c.set_control.new.self c.add.new.self t n goes _ set more made ∙ ap (λ l. set_value (nat_eq t) (threads_view i.table.entries) goes ++ (n, thread_of k (map frame_view l)) ∷ []) c.new-frames.ensures in
    subst (λ d. IsTaken p d (record { thread = t; act = ActSpawn }) (placed_view (record i.config { next_thread = n + 1 }) c.add.new.self)) c.self.view_is
    (is_spawned p i.config i.table c.add.new.self t s there k c.in-Ok.ensures none came)
