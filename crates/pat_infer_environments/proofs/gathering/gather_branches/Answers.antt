use Rattle.std.proofs.Common.{◌≡◌, ℕ, suc, arith, List, Option, ◌+◌, ◌∷◌, length, map, drop, get_or, ap, ◌∙◌, subst}
use Rattle.std.proofs.Math.Seq.{drop-cons}
use Rattle.pat_type_schemes_spec.specs.NodeTypes.{Needs}
use Rattle.pat_infer_spec.specs.Branches.{branches}
use Rattle.pat_infer_spec.specs.Needs.{Combined}
use Rattle.pat_types.specs.Views.{needs_view}
use Rattle.pat_infer_environments.specs.Combining.{IsCombined, column_view}
use Rattle.pat_infer_environments.specs.Gathering.{column_at}
use Rattle.pat_infer_environments.proofs.Gathered.{Gathering, one_more}
use Rattle.pat_infer_environments.proofs.gathering.gather_branches.Goals as goal

pub loop-name-preserved : goal.loop-name-preserved
loop-name-preserved c =
    let p = c.args.program.now in
    let n = c.args.node in
    let all : List Needs = map needs_view c.args.branches.now in
    let f : ℕ → ℕ → Option Combined = λ j z. branches n j z (column_at z all) in
    let items = c.as_slice-name-items.result.now in
    let i = c.loop-name.name-index in
    let x = get_or items i 0 in
    let now = c.loop-name.problem in
    let next = c.join_branches.new.problem in
    let need = c.in_ok-need.need in
    let k = 1 + length now.vars in
    let next_place : suc i ≡ i + 1 = omega arith in
    record {
      gathered =
          one_more p f c.args.problem.now now next c.loop-name.needs c.push_need.new.needs need items (drop (i + 1) items) x
          (subst (λ xs. Gathering p f c.args.problem.now now c.loop-name.needs items xs k) (drop-cons items i 0 c.loop-name-test.true ∙ ap (λ j. x ∷ drop j items) next_place) c.loop-name.invariant.gathered)
          (subst (λ os. IsCombined p now next need (branches n k x os)) (ap column_view c.as_slice.ensures.value ∙ c.in_ok-column.ensures.column) c.in_ok-need.ensures)
          c.in_ok-push_need.ensures;
      at = c.in_ok-column.ensures.at;
    }
