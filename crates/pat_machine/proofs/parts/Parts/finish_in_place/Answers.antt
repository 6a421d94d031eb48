use Rattle.std.proofs.Common.{◌≡◌, Some, ◌-◌, ◌+◌, map, sym, subst, length, ◌∙◌}
use Rattle.pat_semantics_spec.specs.Runs.{entry_steps, run_from, shared_step}
use Rattle.pat_core.specs.Views.{program_view}
use Rattle.pat_reduce.specs.Views.{entry_view}
use Rattle.pat_machine_spec.specs.Commits.{noted}
use Rattle.pat_machine_spec.specs.Lendings.{committed_out}
use Rattle.pat_machine_laws.proofs.Rooms.{room_of}
use Rattle.pat_machine_spec.specs.Tops.{top_of}
use Rattle.pat_machine_laws.proofs.Locals.{with_same}
use Rattle.pat_machine_laws.proofs.Runs.{commit_stands}
use Rattle.pat_machine_steps.specs.shared_steps.Taking.{taken_act, taken_message}
use Rattle.pat_machine_steps.specs.shared_steps.Settling.{StandsStill}
use Rattle.pat_machine_steps.proofs.Settled.{commit_in_place}
use Rattle.pat_machine.specs.Shown.{program_of}
use Rattle.pat_machine.specs.Parted.{shown}
use Rattle.pat_machine.specs.Gives.{IsLent, Committed}
use Rattle.pat_machine.proofs.Finishing.{entry_of, went_after}
use Rattle.pat_machine.proofs.Lending.{place_there}
use Rattle.pat_machine.proofs.Naming.{can_be_counted}
use Rattle.pat_machine.proofs.parts.Parts.finish_in_place.Goals as goal

-- `finish` owes the same of a value that it takes; each answer names the steps of its own function.
pub share_in_place-requires-clause-well : goal.share_in_place-requires-clause-well
share_in_place-requires-clause-well c = c.in_ok-prepare.ensures.kept.stands.well

pub share_in_place-requires-clause-ordered : goal.share_in_place-requires-clause-ordered
share_in_place-requires-clause-ordered c = c.in_ok-prepare.ensures.kept.stands.facts.typed.typed.numbers.ordered

pub share_in_place-requires-clause-room : goal.share_in_place-requires-clause-room
share_in_place-requires-clause-room c =
    let m = c.prepare.new.self in
    room_of (program_view m.code.program) m.budget m.limit m.state.config (map entry_view m.history.items) m.left m.out.items c.in_ok-prepare.ensures.kept.stands

pub share_in_place-requires-clause-space : goal.share_in_place-requires-clause-space
share_in_place-requires-clause-space c =
    let m = c.prepare.new.self in
    let kept = c.in_ok-prepare.ensures.kept in
    let lent = subst (λ x. IsLent x c.args.job) (sym c.in_ok-prepare.ensures.same) c.requires.lent in
    place_there (program_view m.code.program) m.budget m.limit m.state (map entry_view m.history.items) m.left m.out.items c.args.job.thread c.args.job.allowance kept.stands kept.places lent

pub share_in_place-requires-clause-counted : goal.share_in_place-requires-clause-counted
share_in_place-requires-clause-counted c = c.in_ok-prepare.ensures.kept.counted

pub share_in_place-requires-clause-before : goal.share_in_place-requires-clause-before
share_in_place-requires-clause-before c =
    let m = c.prepare.new.self in
    can_be_counted (program_view m.code.program) m.budget m.limit m.state.config (map entry_view m.history.items) m.left m.out.items c.in_ok-prepare.ensures.kept.stands

pub enter-requires-clause-room : goal.enter-requires-clause-room
enter-requires-clause-room c =
    let r = c.in_ok-prepare.ensures.room in
    record { history = r.history; out = r.out; space = r.space; hold = r.hold; room = r.room }

pub share_in_place-requires-clause-still : goal.share_in_place-requires-clause-still
share_in_place-requires-clause-still c = subst (λ x. StandsStill (program_of x) x.config c.args.job.thread) (sym c.in_ok-prepare.ensures.same) c.requires.still

pub share_in_place-requires-clause-typed : goal.share_in_place-requires-clause-typed
share_in_place-requires-clause-typed c = c.in_ok-prepare.ensures.kept.stands.facts.typed

pub share_in_place-requires-clause-after : goal.share_in_place-requires-clause-after
share_in_place-requires-clause-after c = λ a d f.
    let m = c.prepare.new.self in
    let p = program_view m.code.program in
    let es = map entry_view m.history.items in
    let t = c.args.job.thread in
    let n = c.args.job.allowance in
    let kept = c.in_ok-prepare.ensures.kept in
    let lent = subst (λ x. IsLent x c.args.job) (sym c.in_ok-prepare.ensures.same) c.requires.lent in
    let h = subst (λ x. StandsStill (program_of x) x.config t) (sym c.in_ok-prepare.ensures.same) c.requires.still in
    let e = entry_of c.args.worker c.args.job 0 a in
    let commit = commit_in_place p m.state.config t h c.args.worker n m.limit d a (kept.stands.table.some t n lent) f in
    can_be_counted p m.budget m.limit d (noted es e) (m.left + (n - length (entry_steps e))) (committed_out m.out.items t a) (commit_stands p m.budget m.limit n m.state.config d es m.left m.out.items e kept.stands lent commit)

pub enter-requires-clause-went : goal.enter-requires-clause-went
enter-requires-clause-went c =
    let m = c.prepare.new.self in
    let p = program_view m.code.program in
    let es = map entry_view m.history.items in
    let t = c.args.job.thread in
    let n = c.args.job.allowance in
    let kept = c.in_ok-prepare.ensures.kept in
    let lent = subst (λ x. IsLent x c.args.job) (sym c.in_ok-prepare.ensures.same) c.requires.lent in
    let h = subst (λ x. StandsStill (program_of x) x.config t) (sym c.in_ok-prepare.ensures.same) c.requires.still in
    let d = c.share_in_place.new.state.config in
    let commit = commit_in_place p m.state.config t h c.args.worker n m.limit d (taken_act c.share_in_place.new.taken) (kept.stands.table.some t n lent) c.in_ok-share_in_place.ensures.ok in
    let run = subst (λ x. run_from p x (shared_step t (taken_act c.share_in_place.new.taken)) ≡ Some d) (sym (with_same m.state.config t h.kept h.there)) c.in_ok-share_in_place.ensures.ok.taken in
    (m.state.config, went_after _ m.state.config c.args.worker c.args.job 0 c.threads_made-newcomer.result 0 h.kept (top_of 0 h.kept) (taken_act c.share_in_place.new.taken) (taken_message c.share_in_place.new.taken) kept.stands kept.lent kept.noted lent c.threads_made-newcomer.ensures commit h.there run (c.in_ok-share_in_place.ensures.places ∙ kept.places) c.in_ok-share_in_place.ensures.counted c.in_ok-prepare.ensures.listed c.in_ok-share_in_place.ensures.message)

pub returns-clause-ok : goal.returns-clause-ok
returns-clause-ok c =
    let m = c.prepare.new.self in
    let p = program_view m.code.program in
    let es = map entry_view m.history.items in
    let t = c.args.job.thread in
    let n = c.args.job.allowance in
    let kept = c.in_ok-prepare.ensures.kept in
    let lent = subst (λ x. IsLent x c.args.job) (sym c.in_ok-prepare.ensures.same) c.requires.lent in
    let h = subst (λ x. StandsStill (program_of x) x.config t) (sym c.in_ok-prepare.ensures.same) c.requires.still in
    let d = c.share_in_place.new.state.config in
    let commit = commit_in_place p m.state.config t h c.args.worker n m.limit d (taken_act c.share_in_place.new.taken) (kept.stands.table.some t n lent) c.in_ok-share_in_place.ensures.ok in
    let run = subst (λ x. run_from p x (shared_step t (taken_act c.share_in_place.new.taken)) ≡ Some d) (sym (with_same m.state.config t h.kept h.there)) c.in_ok-share_in_place.ensures.ok.taken in
    subst (λ x. Committed x c.args.worker c.args.job c.enter.result (shown c.enter.new.self)) c.in_ok-prepare.ensures.same
    (c.enter.ensures.committed m.state.config (went_after _ m.state.config c.args.worker c.args.job 0 c.threads_made-newcomer.result 0 h.kept (top_of 0 h.kept) (taken_act c.share_in_place.new.taken) (taken_message c.share_in_place.new.taken) kept.stands kept.lent kept.noted lent c.threads_made-newcomer.ensures commit h.there run (c.in_ok-share_in_place.ensures.places ∙ kept.places) c.in_ok-share_in_place.ensures.counted c.in_ok-prepare.ensures.listed c.in_ok-share_in_place.ensures.message))
