use Rattle.std.proofs.Common.{◌≡◌, Some, sym, ap, ◌∙◌, subst}
use Rattle.pat_semantics_spec.specs.Configs.{thread_at, with_thread}
use Rattle.pat_reduce.specs.threads.ThreadViews.{thread_view}
use Rattle.pat_machine_spec.specs.Tops.{below, over, set_over}
use Rattle.pat_machine_threads.specs.Aside.{aside_view}
use Rattle.pat_machine_states.specs.Boxes.{state_view, IsState}
use Rattle.pat_machine_states.proofs.Seen.{config_of}
use Rattle.pat_machine_states.proofs.state.IndexedConfig.cover.Goals as goal

pub cover-requires-clause-there : goal.cover-requires-clause-there
cover-requires-clause-there c = (thread_view c.in-Some.field-0.now, sym c.in-Some.ensures)

pub invariant_of-self : goal.invariant_of-self
invariant_of-self c =
    let i = c.self.inside in
    let after = c.cover.ensures (thread_view c.in-Some.field-0.now) (sym c.in-Some.ensures) in
    let kept = c.self.invariant in
    subst (λ d. IsState d i.latest i.mailboxes.mailboxes) (sym after) (record { messages = kept.messages; live = kept.live; boxes = record { numbered = kept.boxes.numbered; kept = kept.boxes.kept; last = kept.boxes.last } })

pub returns-in-Some-clause-covered : goal.returns-in-Some-clause-covered
returns-in-Some-clause-covered c =
    let i = c.self.inside in
    let t = c.args.thread in
    let s = thread_view c.in-Some.field-0.now in
    let there : thread_at i.placed t ≡ Some s = sym c.in-Some.ensures in
    let rest = below c.args.gone (aside_view c.args.kept) in
    let now : thread_at c.args.self.now.config t ≡ Some s = subst (λ d. thread_at d t ≡ Some s) (config_of c.self.view_is) there in
    ap (λ d. state_view d i.mailboxes.mailboxes) (c.cover.ensures s there)
    ∙ ap (λ d. with_thread d t (over s rest)) (config_of c.self.view_is)
    ∙ sym (ap (set_over c.args.self.now.config t rest) now)
