use Rattle.std.proofs.Common.{◌≡◌, sym, ap, subst}
use Rattle.pat_patterns.specs.Views.{pattern_view}
use Rattle.pat_solve_bounds.specs.productive.Users.{noted, Notes}
use Rattle.pat_solve_bounds.proofs.Noting.{on_ok, notes_var}
use Rattle.pat_solve_bounds.proofs.productive.users.+note.Goals as goal

pub returns-in-Var : goal.returns-in-Var
returns-in-Var t c =
    on_ok c.note_one.result (c.note_one.new.users ≡ noted c.args.users.now c.in-Var.variable c.args.number) (Notes (pattern_view c.args.p.now) c.args.number c.args.users.now c.note_one.new.users)
    (λ e. subst (λ q. Notes q c.args.number c.args.users.now c.note_one.new.users) (sym (ap pattern_view c.in-Var.is)) (notes_var c.args.number c.in-Var.variable c.args.users.now c.note_one.new.users e))
    c.note_one.ensures
