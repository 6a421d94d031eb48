use Rattle.std.proofs.Common.{ap, reverse}
use Rattle.pat_sequences.proofs.Tops.{covered}
use Rattle.pat_sequences.proofs.base.Base.cover.Goals as goal

-- src/base.rt:46:5
pub returns : goal.returns
returns g c =
    let all = covered c.self.inside.items.items c.top.inside.items.items c.args.gone in
    let length_is = c.len.ensures in
    let kept = c.saturating_sub.ensures in
    let cut = c.truncate.ensures.items in
    let put = ap reverse c.append.ensures in
    let own = ap (λ v. v.0) c.self.view_is in
    let top = c.top.view_is in
    cc
