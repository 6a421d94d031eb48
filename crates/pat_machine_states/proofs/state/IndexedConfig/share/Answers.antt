use Rattle.std.proofs.Common.{sym, ap, ◌∙◌, subst, arith}
use Rattle.std.proofs.lemmas.Result.{on_ok_weaker}
use Rattle.pat_semantics_spec.specs.Configs.{thread_at, with_thread}
use Rattle.pat_semantics_spec.specs.Orders.{IsOrdered}
use Rattle.pat_semantics_spec.specs.Steps.{message_at}
use Rattle.pat_core.specs.Views.{program_view}
use Rattle.pat_reduce.specs.threads.ThreadViews.{thread_view}
use Rattle.pat_machine_spec.specs.Tops.{below}
use Rattle.pat_machine_spec.specs.Commits.{Shares}
use Rattle.pat_machine_spec.specs.Machines.{IsTypedBySome}
use Rattle.pat_machine_laws.proofs.Exchanges.{frames_after, ordered_on_top, share_over}
use Rattle.pat_machine_threads.specs.Aside.{aside_view}
use Rattle.pat_machine_indexes.specs.refcounts.Counting.{TellsAlone}
use Rattle.pat_machine_indexes.specs.refcounts.Telling.{says_alone}
use Rattle.pat_machine_states.specs.Stepping.{ReferToLive}
use Rattle.pat_machine_states.specs.Taking.{taken_act}
use Rattle.pat_machine_states.proofs.Asides.{top_there, room_there, back_there, over_whole}
use Rattle.pat_machine_states.proofs.Referring.{refer_on_top}
use Rattle.pat_machine_states.proofs.Reaching.{stands_on_top}
use Rattle.pat_machine_states.proofs.Seen.{config_of, still_has_place}
use Rattle.pat_machine_states.proofs.state.IndexedConfig.share.Goals as goal

pub take_open-requires-clause-place : goal.take_open-requires-clause-place
take_open-requires-clause-place c =
    still_has_place c.args.self.now c.set_aside.new.self c.args.limit c.args.thread (thread_view c.args.top) c.in_ok-kept.ensures.ok.put c.in_ok-kept.ensures.places c.requires.place

pub take_open-requires-clause-ordered : goal.take_open-requires-clause-ordered
take_open-requires-clause-ordered c =
    let s = c.requires.there in
    let a = c.in_ok-kept.ensures.ok in
    subst IsOrdered (sym a.put)
    (ordered_on_top c.args.self.now.config c.args.thread (thread_view c.args.top) (below c.args.gone s.0) (c.requires.typed s.0 s.1).typed.numbers.ordered)

pub take_open-requires-clause-live : goal.take_open-requires-clause-live
take_open-requires-clause-live c =
    let s = c.requires.there in
    let a = c.in_ok-kept.ensures.ok in
    subst ReferToLive (sym a.put) (refer_on_top c.args.self.now.config c.args.thread (thread_view c.args.top) (below c.args.gone s.0) (c.requires.typed s.0 s.1).typed.numbers.threads_live)

pub take_open-requires-clause-alone : goal.take_open-requires-clause-alone
take_open-requires-clause-alone c =
    let s = c.requires.there in
    let a = c.in_ok-kept.ensures.ok in
    let there = top_there c.args.self.now.config c.set_aside.new.self.config c.args.thread c.args.top c.in_ok-kept.kept a in
    stands_on_top (program_view c.args.code.now.program) c.args.self.now.config c.set_aside.new.self.config c.args.thread (thread_view c.args.top) (below c.args.gone s.0) c.args.counted a.put there (c.requires.alone s.0 s.1)

pub cover-requires : goal.cover-requires
cover-requires c = λ r at.
    let middle = c.set_aside.new.self.config in
    let t = c.args.thread in
    let s = c.requires.there in
    let a = c.in_ok-kept.ensures.ok in
    let ordered = subst IsOrdered (sym a.put) (ordered_on_top c.args.self.now.config t (thread_view c.args.top) (below c.args.gone s.0) (c.requires.typed s.0 s.1).typed.numbers.ordered) in
    let there = top_there c.args.self.now.config middle t c.args.top c.in_ok-kept.kept a in
    let few = frames_after (program_view c.args.code.now.program) middle t (thread_view c.args.top) r ordered there (taken_act c.take_open.new.taken) c.take_open.new.self.config c.in-Ok.ensures.ok.taken at in
    let room = room_there c.args.self.now.config middle t c.args.top c.in_ok-kept.kept a in
    omega arith

pub swap-requires : goal.swap-requires
swap-requires c = (
  thread_view c.args.top,
  ap (λ d. thread_at d c.args.thread) c.in-Err.ensures.err ∙ top_there c.args.self.now.config c.set_aside.new.self.config c.args.thread c.args.top c.in_ok-kept.kept c.in_ok-kept.ensures.ok,
)

pub returns-in-Ok-clause-ok : goal.returns-in-Ok-clause-ok
returns-in-Ok-clause-ok c = λ s at.
    let a = c.in_ok-kept.ensures.ok in
    share_over (program_view c.args.code.now.program) c.args.limit c.args.self.now.config c.set_aside.new.self.config c.take_open.new.self.config c.cover.new.self.config c.args.thread c.args.gone (aside_view c.in_ok-kept.kept) (thread_view c.args.top) (taken_act c.take_open.new.taken)
    a.there a.put c.in-Ok.ensures.ok c.cover.ensures.covered s at (c.requires.frame s at)

pub returns-in-Err-clause-err : goal.returns-in-Err-clause-err
returns-in-Err-clause-err c =
    c.swap.ensures.after
    ∙ ap (λ x. with_thread c.take_open.new.self.config c.args.thread x) c.taken_up.ensures
    ∙ ap (λ d. with_thread d c.args.thread (aside_view c.in_ok-kept.kept)) c.in-Err.ensures.err
    ∙ back_there c.args.self.now.config c.set_aside.new.self.config c.args.thread c.args.top c.in_ok-kept.kept c.in_ok-kept.ensures.ok

pub returns-in-Ok-clause-message : goal.returns-in-Ok-clause-message
returns-in-Ok-clause-message c = λ k is. c.in-Ok.ensures.message k is ∙ ap (λ d. message_at d k) c.in_ok-kept.ensures.ok.put

pub share_whole-requires-clause-typed : goal.share_whole-requires-clause-typed
share_whole-requires-clause-typed c =
    let s = c.requires.there in
    let same = over_whole _ c.args.self.now.config c.args.thread c.args.gone (thread_view c.args.top) s.0 c.has_at_most.result (config_of c.self.view_is) c.has_at_most.ensures c.if-has_at_most.true s.1 in
    subst (λ x. IsTypedBySome (program_view c.args.code.now.program) (with_thread c.args.self.now.config c.args.thread x)) same (c.requires.typed s.0 s.1)

pub share_whole-requires-clause-alone : goal.share_whole-requires-clause-alone
share_whole-requires-clause-alone c =
    let s = c.requires.there in
    let p = program_view c.args.code.now.program in
    let t = c.args.thread in
    let same = over_whole _ c.args.self.now.config t c.args.gone (thread_view c.args.top) s.0 c.has_at_most.result (config_of c.self.view_is) c.has_at_most.ensures c.if-has_at_most.true s.1 in
    subst (λ x. TellsAlone p (with_thread c.args.self.now.config t x) t x (says_alone p c.args.counted (thread_view c.args.top))) same (c.requires.alone s.0 s.1)

pub returns-then-has_at_most-clause-ok : goal.returns-then-has_at_most-clause-ok
returns-then-has_at_most-clause-ok c =
    let p = program_view c.args.code.now.program in
    let t = c.args.thread in
    on_ok_weaker c.share_whole.result
    (λ shares. λ s at.
    let same = over_whole _ c.args.self.now.config t c.args.gone (thread_view c.args.top) s c.has_at_most.result (config_of c.self.view_is) c.has_at_most.ensures c.if-has_at_most.true at in
    subst (λ x. Shares p c.args.limit (with_thread c.args.self.now.config t x) t (taken_act c.share_whole.new.taken) c.share_whole.new.self.config) (sym same) shares)
    c.share_whole.ensures.ok
