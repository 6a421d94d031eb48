use Rattle.std.proofs.Common.{sym, ap, ◌∙◌}
use Rattle.std.specs.Prelude.{option_map, option_copied}
use Rattle.pat_core.specs.Views.{program_view}
use Rattle.pat_reduce.specs.threads.ThreadViews.{thread_view}
use Rattle.pat_reduce.specs.threads.GuardViews.{guard_view}
use Rattle.pat_machine.proofs.Guards.{guard_still}
use Rattle.pat_machine.proofs.parts.Parts.stands_at_guard.Goals as goal

pub returns-in-Some : goal.returns-in-Some
returns-in-Some c = λ yes.
    let s = thread_view c.in-Some.kept.now in
    record {
      kept = s;
      there = sym c.thread.ensures ∙ ap (λ o. option_map thread_view (option_copied o)) c.in-Some.is;
      still = guard_still guard_view (program_view c.args.self.now.code.program) s c.guard_of.result (sym c.is_some.ensures ∙ yes) c.guard_of.ensures;
    }
