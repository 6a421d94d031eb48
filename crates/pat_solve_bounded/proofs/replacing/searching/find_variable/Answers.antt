use Rattle.std.proofs.Common.{◌≡◌, ◌<◌, ◌⊎◌, ⊎_elim, Err, arith}
use Rattle.std.proofs.lemmas.Bool.{cases_order}
use Rattle.std.proofs.lemmas.List.Sorted.{searched}
use Rattle.pat_solve_bounded.proofs.Lookups.{not_falling}
use Rattle.pat_solve_bounded.proofs.replacing.searching.find_variable.Goals as goal

pub returns-in-Err-clause-none : goal.returns-in-Err-clause-none
returns-in-Err-clause-none c place h same =
    let ks = c.args.variables.now in
    let gap = searched ks c.args.variable (Err c.in-Err.field-0) c.in-Err.ensures.position (not_falling ks c.requires) in
    ⊎_elim
    (λ (s : place ≡ c.in-Err.field-0). let above = gap.2 place (omega arith) h in omega arith)
    (λ (o : (place < c.in-Err.field-0) ⊎ (c.in-Err.field-0 < place)). ⊎_elim
    (λ (x : place < c.in-Err.field-0). let below = gap.1 place x in omega arith)
    (λ (x : c.in-Err.field-0 < place). let above = gap.2 place (omega arith) h in omega arith)
    o)
    (cases_order place c.in-Err.field-0)
