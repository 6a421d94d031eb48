use Rattle.std.proofs.Common.{sym, subst}
use Rattle.pat_core.specs.Views.{program_view}
use Rattle.pat_resolver_heads.specs.results.Views.{places_view}
use Rattle.pat_solve_bounds.specs.results.Views.{IsRefusal, IsComplete}
use Rattle.pat_front.specs.declared.reason.Reason.TheVariants as reason
use Rattle.pat_typecheck.specs.Reasons.{IsUnaccepted}
use Rattle.pat_typecheck.proofs.Told.{unusable_reason, undecided_reason}
use Rattle.pat_typecheck.proofs.explaining.explain.Goals as goal

pub returns-in-Unusable : goal.returns-in-Unusable
returns-in-Unusable c =
    let p = program_view c.args.program.now in
    subst (λ l. IsUnaccepted p (places_view c.args.program.now) (reason.Unusable c.variable_span.result) l) (sym c.new.ensures.items)
    (unusable_reason c.args.program.now c.args.problem.now c.requires.problem c.requires.enough.clean c.in-Unusable.variable c.variable_span.result (subst (IsRefusal p) c.in-Unusable.is c.requires.refusal) (subst (IsComplete p) c.in-Unusable.is c.requires.complete) c.variable_span.ensures)

pub returns-in-Undecided : goal.returns-in-Undecided
returns-in-Undecided c =
    let p = program_view c.args.program.now in
    subst (λ l. IsUnaccepted p (places_view c.args.program.now) (reason.Undecided c.constraint_span.result) l) (sym c.new-in-Undecided.ensures.items)
    (undecided_reason c.args.program.now c.args.problem.now c.requires.problem c.requires.enough.clean c.in-Undecided.constraint c.constraint_span.result (subst (IsRefusal p) c.in-Undecided.is c.requires.refusal) (subst (IsComplete p) c.in-Undecided.is c.requires.complete) c.constraint_span.ensures)
