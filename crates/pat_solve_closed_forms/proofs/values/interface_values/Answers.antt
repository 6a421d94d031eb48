use Rattle.std.proofs.Common.{◌<◌, length, sym, ◌∙◌, subst}
use Rattle.std.specs.Prelude.{get_or, IsTrue}
use Rattle.pat_words_spec.specs.Tags.{tags_below}
use Rattle.pat_inclusion_spec.specs.Counts.{most_tags}
use Rattle.pat_core.specs.Views.{program_view}
use Rattle.pat_solve_spec.specs.Assignments.{value_in}
use Rattle.pat_solve_spec.specs.Answers.{constraints_of}
use Rattle.pat_solve_bounded.specs.Views.{measured_list}
use Rattle.pat_solve_bounded.specs.replacing.Ascending.{paired}
use Rattle.pat_solve_closed_forms.specs.Sides.{left_under, right_under}
use Rattle.pat_solve_closed_forms.proofs.Meaning.{vars_ascend, vars_within, numbers_within, all_answered, none_answered, values_tagged, lefts_tagged, rights_tagged, lowers_tied, rounds_by, rounds_none}
use Rattle.pat_solve_closed_forms.proofs.values.interface_values.Goals as goal

pub variables_of-variables-requires : goal.variables_of-variables-requires
variables_of-variables-requires c = subst (λ n. c.args.interface < n) (sym c.requires.index.as_many) c.requires.interface

pub round_values-requires-clause-ascending : goal.round_values-requires-clause-ascending
round_values-requires-clause-ascending c =
    vars_ascend c.args.problem.now c.args.index.now c.args.interface c.requires.index c.requires.interface c.variables_of-variables.result.now c.variables_of-variables.ensures

pub round_values-requires-clause-each : goal.round_values-requires-clause-each
round_values-requires-clause-each c =
    vars_within c.args.problem.now c.args.index.now c.args.interface c.requires.index c.requires.interface c.variables_of-variables.result.now c.variables_of-variables.ensures

pub find_under-requires-clause-ascending : goal.find_under-requires-clause-ascending
find_under-requires-clause-ascending c =
    vars_ascend c.args.problem.now c.args.index.now c.args.interface c.requires.index c.requires.interface c.variables_of-variables.result.now c.variables_of-variables.ensures

pub find_under-requires-clause-as_many : goal.find_under-requires-clause-as_many
find_under-requires-clause-as_many c =
    let q = c.args.problem.now in
    let x = c.args.index.now in
    let i = c.args.interface in
    let p = c.requires.program.0 in
    let h = c.requires.program.1 in
    let vars = c.variables_of-variables.result.now in
    let ns = c.constraints_of-numbers.result.now in
    let d = c.index_law.ensures p q x h.problem c.requires.index in
    let vars_are = c.variables_of-variables.ensures ∙ d.variables i c.requires.interface in
    let ns_are = c.constraints_of-numbers.ensures ∙ d.constraints i c.requires.interface in
    let r = rounds_by (constraints_of (program_view p) i) vars c.in_ok-values.values c.in-Some.own c.in-Some.is
    (c.in_ok-values.ensures (constraints_of (program_view p) i) (lowers_tied p q i h c.found_laws.ensures.fits c.fits_law.ensures vars ns vars_are ns_are x c.requires.index c.index_law.ensures)) in
    sym r.1

pub find_under-requires-clause-values : goal.find_under-requires-clause-values
find_under-requires-clause-values c =
    let q = c.args.problem.now in
    let x = c.args.index.now in
    let i = c.args.interface in
    let p = c.requires.program.0 in
    let h = c.requires.program.1 in
    let vars = c.variables_of-variables.result.now in
    let ns = c.constraints_of-numbers.result.now in
    let d = c.index_law.ensures p q x h.problem c.requires.index in
    let vars_are = c.variables_of-variables.ensures ∙ d.variables i c.requires.interface in
    let ns_are = c.constraints_of-numbers.ensures ∙ d.constraints i c.requires.interface in
    let r = rounds_by (constraints_of (program_view p) i) vars c.in_ok-values.values c.in-Some.own c.in-Some.is
    (c.in_ok-values.ensures (constraints_of (program_view p) i) (lowers_tied p q i h c.found_laws.ensures.fits c.fits_law.ensures vars ns vars_are ns_are x c.requires.index c.index_law.ensures)) in
    values_tagged p q i h c.found_laws.ensures.fits c.fits_law.ensures vars ns vars_are ns_are c.in-Some.own r

pub find_under-requires-clause-numbers : goal.find_under-requires-clause-numbers
find_under-requires-clause-numbers c j l =
    subst (λ cs. get_or c.constraints_of-numbers.result.now j 0 < length cs) (sym c.as_slice-constraints.ensures)
    (numbers_within c.args.problem.now c.args.index.now c.args.interface c.requires.index c.requires.interface c.constraints_of-numbers.result.now c.constraints_of-numbers.ensures j l)

pub find_under-requires-clause-lefts : goal.find_under-requires-clause-lefts
find_under-requires-clause-lefts c j l =
    let q = c.args.problem.now in
    let x = c.args.index.now in
    let i = c.args.interface in
    let p = c.requires.program.0 in
    let h = c.requires.program.1 in
    let vars = c.variables_of-variables.result.now in
    let ns = c.constraints_of-numbers.result.now in
    let d = c.index_law.ensures p q x h.problem c.requires.index in
    let vars_are = c.variables_of-variables.ensures ∙ d.variables i c.requires.interface in
    let ns_are = c.constraints_of-numbers.ensures ∙ d.constraints i c.requires.interface in
    let r = rounds_by (constraints_of (program_view p) i) vars c.in_ok-values.values c.in-Some.own c.in-Some.is
    (c.in_ok-values.ensures (constraints_of (program_view p) i) (lowers_tied p q i h c.found_laws.ensures.fits c.fits_law.ensures vars ns vars_are ns_are x c.requires.index c.index_law.ensures)) in
    subst (λ cs. IsTrue (tags_below most_tags (left_under (value_in (paired vars (measured_list c.in-Some.own))) cs (get_or ns j 0)))) (sym c.as_slice-constraints.ensures)
    (lefts_tagged p q i h c.found_laws.ensures.fits c.fits_law.ensures vars ns vars_are ns_are c.in-Some.own r j l)

-- Lefts and rights have a goal each, whose `c` is of another type; what both cite stands in `rounds_by`.
pub find_under-requires-clause-rights : goal.find_under-requires-clause-rights
find_under-requires-clause-rights c j l =
    let q = c.args.problem.now in
    let x = c.args.index.now in
    let i = c.args.interface in
    let p = c.requires.program.0 in
    let h = c.requires.program.1 in
    let vars = c.variables_of-variables.result.now in
    let ns = c.constraints_of-numbers.result.now in
    let d = c.index_law.ensures p q x h.problem c.requires.index in
    let vars_are = c.variables_of-variables.ensures ∙ d.variables i c.requires.interface in
    let ns_are = c.constraints_of-numbers.ensures ∙ d.constraints i c.requires.interface in
    let r = rounds_by (constraints_of (program_view p) i) vars c.in_ok-values.values c.in-Some.own c.in-Some.is
    (c.in_ok-values.ensures (constraints_of (program_view p) i) (lowers_tied p q i h c.found_laws.ensures.fits c.fits_law.ensures vars ns vars_are ns_are x c.requires.index c.index_law.ensures)) in
    subst (λ cs. IsTrue (tags_below most_tags (right_under (value_in (paired vars (measured_list c.in-Some.own))) cs (get_or ns j 0)))) (sym c.as_slice-constraints.ensures)
    (rights_tagged p q i h c.found_laws.ensures.fits c.fits_law.ensures vars ns vars_are ns_are c.in-Some.own r j l)

pub returns-in-Some : goal.returns-in-Some
returns-in-Some c p h =
    let q = c.args.problem.now in
    let x = c.args.index.now in
    let i = c.args.interface in
    let vars = c.variables_of-variables.result.now in
    let ns = c.constraints_of-numbers.result.now in
    let d = c.index_law.ensures p q x h.problem c.requires.index in
    let vars_are = c.variables_of-variables.ensures ∙ d.variables i c.requires.interface in
    let ns_are = c.constraints_of-numbers.ensures ∙ d.constraints i c.requires.interface in
    let r = c.in_ok-values.ensures (constraints_of (program_view p) i) (lowers_tied p q i h c.found_laws.ensures.fits c.fits_law.ensures vars ns vars_are ns_are x c.requires.index c.index_law.ensures) in
    all_answered p q i h c.found_laws.ensures.fits c.fits_law.ensures vars ns vars_are ns_are c.in-Some.own
    (rounds_by (constraints_of (program_view p) i) vars c.in_ok-values.values c.in-Some.own c.in-Some.is r)
    c.as_slice-constraints.result.now c.as_slice-constraints.ensures c.find_under.result c.find_under.ensures

pub returns-in-None : goal.returns-in-None
returns-in-None c p h =
    let q = c.args.problem.now in
    let x = c.args.index.now in
    let i = c.args.interface in
    let vars = c.variables_of-variables.result.now in
    let ns = c.constraints_of-numbers.result.now in
    let d = c.index_law.ensures p q x h.problem c.requires.index in
    let vars_are = c.variables_of-variables.ensures ∙ d.variables i c.requires.interface in
    let ns_are = c.constraints_of-numbers.ensures ∙ d.constraints i c.requires.interface in
    let r = c.in_ok-values.ensures (constraints_of (program_view p) i) (lowers_tied p q i h c.found_laws.ensures.fits c.fits_law.ensures vars ns vars_are ns_are x c.requires.index c.index_law.ensures) in
    none_answered p q i h c.found_laws.ensures.fits c.fits_law.ensures vars ns vars_are ns_are
    (rounds_none (constraints_of (program_view p) i) vars c.in_ok-values.values c.in-None.is r)
