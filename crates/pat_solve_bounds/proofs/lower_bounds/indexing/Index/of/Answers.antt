use Rattle.std.proofs.Common.{◌≡◌, ◌+◌, [], length, replicate, Some, subst}
use Rattle.pat_infer_problems.specs.declared.problem.Constraint.{Constraint}
use Rattle.pat_infer_problems.specs.declared.problem.VarDecl.{VarDecl}
use Rattle.pat_solve_bounds.specs.lower_bounds.Rows.{put_all}
use Rattle.pat_solve_bounds.specs.lower_bounds.Indexes.{right_variable}
use Rattle.pat_solve_bounds.proofs.Indexed.{is_index}
use Rattle.pat_solve_bounds.proofs.lower_bounds.indexing.Index.of.Goals as goal

pub returns-clause-index : goal.returns-clause-index
returns-clause-index c =
    (is_index c.args.problem.now (record { constraints = c.in_ok-own.own; variables = c.in_ok-variables.variables; lefts = c.in_ok-lefts.lefts }) c.args.interfaces
    (subst (λ xs. c.in_ok-own.own ≡ put_all (λ (d : Constraint). Some d.interface) 0 xs (replicate c.args.interfaces [])) c.as_slice-constraints.ensures c.in_ok-own.ensures)
    (subst (λ xs. c.in_ok-variables.variables ≡ put_all (λ (v : VarDecl). Some v.interface) 1 xs (replicate c.args.interfaces [])) c.as_slice-vars.ensures c.in_ok-variables.ensures)
    (subst (λ xs. c.in_ok-lefts.lefts ≡ put_all (λ (d : Constraint). right_variable d.right) 0 xs (replicate (length c.args.problem.now.vars + 1) [])) c.as_slice-constraints.ensures
    (subst (λ vs. c.in_ok-lefts.lefts ≡ put_all (λ (d : Constraint). right_variable d.right) 0 c.as_slice-constraints.result.now (replicate (length vs + 1) [])) c.as_slice-vars.ensures c.in_ok-lefts.ensures))).0

pub returns-clause-count : goal.returns-clause-count
returns-clause-count c =
    (is_index c.args.problem.now (record { constraints = c.in_ok-own.own; variables = c.in_ok-variables.variables; lefts = c.in_ok-lefts.lefts }) c.args.interfaces
    (subst (λ xs. c.in_ok-own.own ≡ put_all (λ (d : Constraint). Some d.interface) 0 xs (replicate c.args.interfaces [])) c.as_slice-constraints.ensures c.in_ok-own.ensures)
    (subst (λ xs. c.in_ok-variables.variables ≡ put_all (λ (v : VarDecl). Some v.interface) 1 xs (replicate c.args.interfaces [])) c.as_slice-vars.ensures c.in_ok-variables.ensures)
    (subst (λ xs. c.in_ok-lefts.lefts ≡ put_all (λ (d : Constraint). right_variable d.right) 0 xs (replicate (length c.args.problem.now.vars + 1) [])) c.as_slice-constraints.ensures
    (subst (λ vs. c.in_ok-lefts.lefts ≡ put_all (λ (d : Constraint). right_variable d.right) 0 c.as_slice-constraints.result.now (replicate (length vs + 1) [])) c.as_slice-vars.ensures c.in_ok-lefts.ensures))).1
