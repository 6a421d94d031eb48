use Rattle.std.proofs.Common.{rules, ◌≡◌, get_or, set, ap, ◌∙◌}
use Rattle.pat_derivations.specs.Views.{lines_view}
use Rattle.pat_solve_derivation.proofs.Filling.{put_line}
use Rattle.pat_solve_derivation.proofs.lines.put_at.Goals as goal

pub returns : goal.returns
returns c = λ l h.
    let lines = c.args.lines.now in
    let k = c.args.place in
    let x = c.index-lines-place.result in
    let own : c.replace.new.dest ≡ c.args.certs = search rules in
    ap (λ certs. lines_view (set lines k (record { of = (get_or lines k x).of; certs = certs }))) own ∙ put_line lines k x c.args.certs l h
