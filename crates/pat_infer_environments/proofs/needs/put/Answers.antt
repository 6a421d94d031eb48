use Rattle.std.proofs.Common.{◌≡◌, ◌<◌, true, false, take, drop, sym, ap, ◌∙◌, subst}
use Rattle.std.specs.List.{AllByRecursion, insert}
use Rattle.pat_types.specs.Views.{needs_view}
use Rattle.pat_infer_environments.specs.Stopping.{StopsAt, first_is}
use Rattle.pat_infer_environments.proofs.Putting.{put_found, put_new}
use Rattle.pat_infer_environments.proofs.needs.put.Goals as goal

pub returns-then-is_at : goal.returns-then-is_at
returns-then-is_at c =
    let n = c.place_for-place.result in
    ap needs_view c.replace.ensures.after
    ∙ put_found c.args.variable c.args.of c.args.needs.now n
    (subst (λ es. AllByRecursion (λ e. e.0 < c.args.variable) (take n es)) c.as_slice.ensures c.place_for-place.ensures.front)
    (subst (λ es. first_is c.args.variable (drop n es) ≡ true) c.as_slice-2.ensures (sym c.is_at.ensures ∙ c.if-is_at.true))

pub returns : goal.returns
returns c =
    let n = c.place_for-place.result in
    ap needs_view (c.in_ok-insert.ensures.items ∙ ap (λ es. insert es n (c.args.variable, c.args.of)) c.needs.view_is)
    ∙ put_new c.args.variable c.args.of c.args.needs.now n
    (subst (λ es. AllByRecursion (λ e. e.0 < c.args.variable) (take n es)) c.as_slice.ensures c.place_for-place.ensures.front)
    (subst (λ es. StopsAt c.args.variable (drop n es)) c.as_slice.ensures c.place_for-place.ensures.behind)
    (subst (λ es. first_is c.args.variable (drop n es) ≡ false) c.as_slice-2.ensures (sym c.is_at.ensures ∙ c.if-is_at.false))
