use Rattle.std.proofs.Common.{◌-◌, ◌+◌, map, refl, sym, subst, length, ◌∙◌}
use Rattle.pat_semantics_spec.specs.Runs.{entry_steps}
use Rattle.pat_core.specs.Views.{program_view}
use Rattle.pat_reduce.specs.Views.{entry_view}
use Rattle.pat_machine_spec.specs.Commits.{noted}
use Rattle.pat_machine_spec.specs.Lendings.{committed_out}
use Rattle.pat_machine_laws.proofs.Rooms.{room_of, half_typed}
use Rattle.pat_reduce.specs.threads.ThreadViews.{thread_view}
use Rattle.pat_machine_threads.specs.Settling.{settled_thread}
use Rattle.pat_machine_steps.specs.shared_steps.Taking.{taken_act, taken_message}
use Rattle.pat_machine_steps.specs.shared_steps.Settling.{IsSettled, half_way, Finishes}
use Rattle.pat_machine_steps.proofs.Settled.{run_of, kept_is, settled_run, commit_of}
use Rattle.pat_machine.specs.Shown.{program_of}
use Rattle.pat_machine.specs.Parted.{shown}
use Rattle.pat_machine.specs.Gives.{IsLent, Committed}
use Rattle.pat_machine.proofs.Finishing.{entry_of, stands_after, went_after}
use Rattle.pat_machine.proofs.Lending.{place_there}
use Rattle.pat_machine.proofs.Naming.{can_be_counted, few_frames}
use Rattle.pat_machine.proofs.parts.Parts.finish.Goals as goal

pub share-requires-clause-well : goal.share-requires-clause-well
share-requires-clause-well c = c.in_ok-prepare.ensures.kept.stands.well

pub share-requires-clause-ordered : goal.share-requires-clause-ordered
share-requires-clause-ordered c = c.in_ok-prepare.ensures.kept.stands.facts.typed.typed.numbers.ordered

pub share-requires-clause-room : goal.share-requires-clause-room
share-requires-clause-room c =
    let m = c.prepare.new.self in
    room_of (program_view m.code.program) m.budget m.limit m.state.config (map entry_view m.history.items) m.left m.out.items c.in_ok-prepare.ensures.kept.stands

pub share-requires-clause-space : goal.share-requires-clause-space
share-requires-clause-space c =
    let m = c.prepare.new.self in
    let kept = c.in_ok-prepare.ensures.kept in
    let lent = subst (λ x. IsLent x c.args.job) (sym c.in_ok-prepare.ensures.same) c.requires.lent in
    place_there (program_view m.code.program) m.budget m.limit m.state (map entry_view m.history.items) m.left m.out.items c.args.job.thread c.args.job.allowance kept.stands kept.places lent

pub share-requires-clause-counted : goal.share-requires-clause-counted
share-requires-clause-counted c = c.in_ok-prepare.ensures.kept.counted

pub share-requires-clause-before : goal.share-requires-clause-before
share-requires-clause-before c =
    let m = c.prepare.new.self in
    can_be_counted (program_view m.code.program) m.budget m.limit m.state.config (map entry_view m.history.items) m.left m.out.items c.in_ok-prepare.ensures.kept.stands

pub enter-requires-clause-room : goal.enter-requires-clause-room
enter-requires-clause-room c =
    let r = c.in_ok-prepare.ensures.room in
    record { history = r.history; out = r.out; space = r.space; hold = r.hold; room = r.room }

pub share-requires-clause-settled : goal.share-requires-clause-settled
share-requires-clause-settled c =
    let t = c.args.job.thread in
    subst (λ x. IsSettled (program_of x) x.config t c.args.job.allowance c.args.settled) (sym c.in_ok-prepare.ensures.same) c.requires.settled

pub share-requires-clause-frames : goal.share-requires-clause-frames
share-requires-clause-frames c =
    let m = c.prepare.new.self in
    let p = program_view m.code.program in
    let es = map entry_view m.history.items in
    let t = c.args.job.thread in
    let n = c.args.job.allowance in
    let kept = c.in_ok-prepare.ensures.kept in
    let lent = subst (λ x. IsLent x c.args.job) (sym c.in_ok-prepare.ensures.same) c.requires.lent in
    let s = c.args.settled in
    let h = subst (λ x. IsSettled (program_of x) x.config t n s) (sym c.in_ok-prepare.ensures.same) c.requires.settled in
    few_frames p m.budget m.limit m.state.config es m.left m.out.items kept.stands t n s lent h

pub share-requires-clause-typed : goal.share-requires-clause-typed
share-requires-clause-typed c = λ x at.
    let m = c.prepare.new.self in
    let p = program_view m.code.program in
    let es = map entry_view m.history.items in
    let t = c.args.job.thread in
    let n = c.args.job.allowance in
    let kept = c.in_ok-prepare.ensures.kept in
    let lent = subst (λ x. IsLent x c.args.job) (sym c.in_ok-prepare.ensures.same) c.requires.lent in
    let s = c.args.settled in
    let h = subst (λ x. IsSettled (program_of x) x.config t n s) (sym c.in_ok-prepare.ensures.same) c.requires.settled in
    half_typed p m.budget m.limit m.state.config es m.left m.out.items kept.stands t s.steps x (settled_thread x s) at (settled_run p m.state.config t n s h x at).local.taken

pub share-requires-clause-after : goal.share-requires-clause-after
share-requires-clause-after c = λ x a d at f.
    let m = c.prepare.new.self in
    let p = program_view m.code.program in
    let es = map entry_view m.history.items in
    let t = c.args.job.thread in
    let n = c.args.job.allowance in
    let kept = c.in_ok-prepare.ensures.kept in
    let lent = subst (λ x. IsLent x c.args.job) (sym c.in_ok-prepare.ensures.same) c.requires.lent in
    let s = c.args.settled in
    let h = subst (λ x. IsSettled (program_of x) x.config t n s) (sym c.in_ok-prepare.ensures.same) c.requires.settled in
    let e = entry_of c.args.worker c.args.job s.steps a in
    let g = subst (λ w. Finishes p n m.limit (half_way m.state.config t w s) t s.steps a d) (sym (kept_is p m.state.config t n s h x at)) f in
    can_be_counted p m.budget m.limit d (noted es e) (m.left + (n - length (entry_steps e))) (committed_out m.out.items t a) (stands_after p m.budget m.limit n m.state.config d es m.left m.out.items t s e kept.stands lent h refl refl g)

pub enter-requires-clause-went : goal.enter-requires-clause-went
enter-requires-clause-went c =
    let m = c.prepare.new.self in
    let p = program_view m.code.program in
    let es = map entry_view m.history.items in
    let t = c.args.job.thread in
    let n = c.args.job.allowance in
    let kept = c.in_ok-prepare.ensures.kept in
    let lent = subst (λ x. IsLent x c.args.job) (sym c.in_ok-prepare.ensures.same) c.requires.lent in
    let s = c.args.settled in
    let h = subst (λ x. IsSettled (program_of x) x.config t n s) (sym c.in_ok-prepare.ensures.same) c.requires.settled in
    let d = c.share.new.state.config in
    let commit = commit_of p m.state.config t n s h m.limit d (entry_of c.args.worker c.args.job s.steps (taken_act c.share.new.taken)) refl refl (c.in_ok-share.ensures.ok h.kept h.there) in
    let run = run_of p n m.limit (half_way m.state.config t h.kept s) d t s.steps (taken_act c.share.new.taken) (c.in_ok-share.ensures.ok h.kept h.there) h.run.local.within in
    (m.state.config, went_after _ m.state.config c.args.worker c.args.job s.steps c.threads_made-newcomer.result s.gone h.kept (thread_view s.end) (taken_act c.share.new.taken) (taken_message c.share.new.taken) kept.stands kept.lent kept.noted lent c.threads_made-newcomer.ensures commit h.there run (c.in_ok-share.ensures.places ∙ kept.places) c.in_ok-share.ensures.counted c.in_ok-prepare.ensures.listed c.in_ok-share.ensures.message)

pub returns-clause-ok : goal.returns-clause-ok
returns-clause-ok c =
    let m = c.prepare.new.self in
    let p = program_view m.code.program in
    let es = map entry_view m.history.items in
    let t = c.args.job.thread in
    let n = c.args.job.allowance in
    let kept = c.in_ok-prepare.ensures.kept in
    let lent = subst (λ x. IsLent x c.args.job) (sym c.in_ok-prepare.ensures.same) c.requires.lent in
    let s = c.args.settled in
    let h = subst (λ x. IsSettled (program_of x) x.config t n s) (sym c.in_ok-prepare.ensures.same) c.requires.settled in
    let d = c.share.new.state.config in
    let commit = commit_of p m.state.config t n s h m.limit d (entry_of c.args.worker c.args.job s.steps (taken_act c.share.new.taken)) refl refl (c.in_ok-share.ensures.ok h.kept h.there) in
    let run = run_of p n m.limit (half_way m.state.config t h.kept s) d t s.steps (taken_act c.share.new.taken) (c.in_ok-share.ensures.ok h.kept h.there) h.run.local.within in
    subst (λ x. Committed x c.args.worker c.args.job c.enter.result (shown c.enter.new.self)) c.in_ok-prepare.ensures.same
    (c.enter.ensures.committed m.state.config (went_after _ m.state.config c.args.worker c.args.job s.steps c.threads_made-newcomer.result s.gone h.kept (thread_view s.end) (taken_act c.share.new.taken) (taken_message c.share.new.taken) kept.stands kept.lent kept.noted lent c.threads_made-newcomer.ensures commit h.there run (c.in_ok-share.ensures.places ∙ kept.places) c.in_ok-share.ensures.counted c.in_ok-prepare.ensures.listed c.in_ok-share.ensures.message))
