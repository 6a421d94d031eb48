use Rattle.std.proofs.Common.{◌≡◌, ℕ, suc, arith, Option, ◌+◌, ◌∷◌, length, drop, get_or, ap, ◌∙◌, subst}
use Rattle.std.proofs.Math.Seq.{drop-cons}
use Rattle.pat_type_schemes_spec.specs.NodeTypes.{Needs, need_of}
use Rattle.pat_infer_spec.specs.BothParts.{both_parts}
use Rattle.pat_infer_spec.specs.Needs.{Combined}
use Rattle.pat_types.specs.Views.{needs_view}
use Rattle.pat_infer_environments.specs.Combining.{IsCombined, need_ref}
use Rattle.pat_infer_environments.proofs.Gathered.{Gathering, one_more}
use Rattle.pat_infer_environments.proofs.gathering.gather_parts.Goals as goal

pub loop-name-preserved : goal.loop-name-preserved
loop-name-preserved c =
    let p = c.args.program.now in
    let n = c.args.node in
    let bound : Needs = needs_view c.args.bound.now in
    let body : Needs = needs_view c.args.body.now in
    let f : ℕ → ℕ → Option Combined = λ j z. both_parts n j z (need_of bound z) (need_of body z) in
    let items = c.as_slice-name-items.result.now in
    let i = c.loop-name.name-index in
    let x = get_or items i 0 in
    let now = c.loop-name.problem in
    let next = c.join_parts.new.problem in
    let need = c.in_ok-need.need in
    let k = 1 + length now.vars in
    let next_place : suc i ≡ i + 1 = omega arith in
    record {
      gathered =
          one_more p f c.args.problem.now now next c.loop-name.needs c.push_need.new.needs need items (drop (i + 1) items) x
          (subst (λ xs. Gathering p f c.args.problem.now now c.loop-name.needs items xs k) (drop-cons items i 0 c.loop-name-test.true ∙ ap (λ j. x ∷ drop j items) next_place) c.loop-name.invariant.gathered)
          (subst (λ o. IsCombined p now next need (both_parts n k x (need_of bound x) o)) c.find_next-in-loop-name.ensures.found
          (subst (λ o. IsCombined p now next need (both_parts n k x o (need_ref c.find_next-in-loop-name.result))) c.find_next.ensures.found c.in_ok-need.ensures))
          c.in_ok-push_need.ensures;
      bound = c.find_next.ensures.at;
      body = c.find_next-in-loop-name.ensures.at;
    }
