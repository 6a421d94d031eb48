use Rattle.std.proofs.Common.{sym, subst}
use Rattle.pat_solve_closed_forms.specs.Forms.{AreKept}
use Rattle.pat_solve_closed_forms.proofs.checking.find_one.Goals as goal

pub find_compared-requires-clause-forms : goal.find_compared-requires-clause-forms
find_compared-requires-clause-forms c =
    subst (AreKept c.args.by.now) (sym c.as_slice-kept.ensures) c.in_ok-keep_forms.ensures
