use Rattle.std.proofs.Common.{◌≡◌, ◌-◌, ◌++◌, suc, get_or, sym, ap, ◌∙◌, append_assoc, arith}
use Rattle.pat_grid_points.specs.Chains.{chain, from_on}
use Rattle.pat_grid_points.proofs.Linked.{walked}
use Rattle.pat_grid_points.proofs.chains.walk.Goals as goal

pub loop-link-preserved : goal.loop-link-preserved
loop-link-preserved c =
    let links = c.args.links.now in
    let link = c.loop-link.link in
    let p = link - 1 in
    let next = (get_or links p (0, 0)).1 in
    let down = c.requires.down p in
    let i = c.loop-link.invariant in
    let within = i.0 in
    let some = c.loop-link-test.true in
    let one : link ≡ suc p = omega arith in
    let rest = from_on c.args.from (chain next links next) in (
      omega arith,
      ap (λ xs. xs ++ rest) c.in_ok-push_if.ensures
          ∙ append_assoc c.loop-link.numbers _ rest
          ∙ ap (λ xs. c.loop-link.numbers ++ xs) (sym (walked links c.requires.down c.args.from link p one))
          ∙ i.1,
    )
