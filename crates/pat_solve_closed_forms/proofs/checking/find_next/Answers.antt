use Rattle.std.proofs.Common.{IfOk, sym, subst}
use Rattle.std.specs.Prelude.{IsTrue}
use Rattle.pat_words_spec.specs.Patterns.{subst_of}
use Rattle.pat_words_spec.specs.Tags.{tags_below}
use Rattle.pat_inclusion_spec.specs.Counts.{most_tags}
use Rattle.pat_patterns.specs.Views.{pattern_view}
use Rattle.pat_types.specs.Views.{right_view}
use Rattle.pat_infer_problems.specs.declared.problem.Constraint.{Constraint}
use Rattle.pat_solve_closed_forms.specs.Sides.{right_pattern, right_under}
use Rattle.pat_solve_closed_forms.specs.Forms.{values_by}
use Rattle.pat_solve_closed_forms.specs.Findings.{Follows}
use Rattle.pat_solve_closed_forms.proofs.Steps.{read_at}
use Rattle.pat_solve_closed_forms.proofs.checking.find_next.Goals as goal

pub find_one-requires-clause-left : goal.find_one-requires-clause-left
find_one-requires-clause-left c =
    let x = c.index-constraints-number.result in
    let is = read_at (λ (d : Constraint). pattern_view d.left) c.args.constraints.now c.args.number x c.requires.number c.index-constraints-number.is in
    subst (λ e. IsTrue (tags_below most_tags (subst_of (values_by c.args.by.now) e))) (sym is) c.requires.left

pub find_one-requires-clause-right : goal.find_one-requires-clause-right
find_one-requires-clause-right c =
    let x = c.index-constraints-number.result in
    let is = read_at (λ (d : Constraint). right_pattern (right_view d.right)) c.args.constraints.now c.args.number x c.requires.number c.index-constraints-number.is in
    subst (λ e. IsTrue (tags_below most_tags (subst_of (values_by c.args.by.now) e))) (sym is) c.requires.right

pub returns-clause-found : goal.returns-clause-found
returns-clause-found c =
    let x = c.index-constraints-number.result in
    let cs = c.args.constraints.now in
    let n = c.args.number in
    let values = values_by c.args.by.now in
    let left = read_at (λ (d : Constraint). pattern_view d.left) cs n x c.requires.number c.index-constraints-number.is in
    let right = read_at (λ (d : Constraint). right_pattern (right_view d.right)) cs n x c.requires.number c.index-constraints-number.is in
    subst (λ e. IfOk c.find_one.result (Follows n (subst_of values e) (right_under values cs n) c.args.before)) left
    (subst (λ e. IfOk c.find_one.result (Follows n (subst_of values (pattern_view x.left)) (subst_of values e) c.args.before)) right c.find_one.ensures.found)
