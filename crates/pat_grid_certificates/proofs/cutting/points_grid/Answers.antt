use Rattle.std.proofs.Common.{arith}
use Rattle.pat_grid_certificates.proofs.Points.{value_tags, fits_points}
use Rattle.pat_grid_certificates.proofs.Meaning.{lower_grid, same_grid, higher_grid, own_points, if_both}
use Rattle.pat_grid_certificates.proofs.cutting.points_grid.Goals as goal

pub marked-requires-clause-tags : goal.marked-requires-clause-tags
marked-requires-clause-tags c = value_tags c.args.tags c.args.bound c.args.points.now c.requires.value

pub from_points-requires : goal.from_points-requires
from_points-requires c = fits_points c.args.tags c.args.bound c.args.points.now c.requires.value

pub returns-then-bound-k : goal.returns-then-bound-k
returns-then-bound-k c =
    let a = c.args in
    if_both _ _ _ c.marked.result c.marked.ensures.like c.marked.ensures.points
    (λ g like has. lower_grid a.k a.tags a.bound a.points.now g c.requires.value (omega arith) like has)

pub returns-then-bound-k-2 : goal.returns-then-bound-k-2
returns-then-bound-k-2 c =
    let a = c.args in
    same_grid a.k a.tags a.bound a.points.now c.in_ok-own.own c.requires.value c.if-bound-k-2.true c.in_ok-own.ensures.like c.in_ok-own.ensures.points

pub returns : goal.returns
returns c =
    let a = c.args in
    let own = c.in_ok-own.own in
    let above = c.if-bound-k.false in
    if_both _ _ _ c.spread.result c.spread.ensures.like c.spread.ensures.points
    (λ g like has. higher_grid a.k a.tags a.bound a.points.now own g c.requires.value (omega arith) c.in_ok-own.ensures.like (own_points a.tags a.bound a.points.now own c.requires.value c.in_ok-own.ensures.points) like has)
