use Rattle.std.proofs.Common.{ap, ap₂, ◌∙◌}
use Rattle.pat_grid_points.specs.Chains.{chains, noted}
use Rattle.pat_grid_points.proofs.Linked.{put_listed}
use Rattle.pat_grid_points.proofs.chains.Chains.note.Goals as goal

pub returns-in_ok-put_first : goal.returns-in_ok-put_first
returns-in_ok-put_first c =
    let s = c.self.inside in
    let put = c.in_ok-put_first.ensures in
    ap₂ chains put.links put.firsts
    ∙ put_listed s.links s.firsts c.args.place c.args.number c.self.invariant
    ∙ ap (λ lists. noted lists c.args.place c.args.number) c.self.view_is
