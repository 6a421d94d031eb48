use Rattle.std.proofs.Common.{◌≡◌, length, sym, ◌∙◌, arith}
use Rattle.std.proofs.lemmas.List.{length-map}
use Rattle.pat_solve_bounded.specs.Views.{measured_view, measured_list}
use Rattle.pat_solve_elimination.proofs.Turning.{begun_from, ended}
use Rattle.pat_solve_elimination.proofs.turns.in_turn_rebuilt.Goals as goal

pub returns-then-has_none : goal.returns-then-has_none
returns-then-has_none c =
    let ks = c.args.variables.now in
    let vs = measured_list c.args.values.now in
    let f = measured_view c.args.f.now in
    let as_many : length ks ≡ length vs = c.requires.as_many ∙ sym (length-map c.args.values.now measured_view) in
    let none = c.has_none.ensures c.if-has_none.true in
    let stays = begun_from ks vs as_many f (length ks) (omega arith) c.args.f.now.sizes.small (λ _. c.requires.own) none in
    let e = ended ks vs as_many f (length ks) f stays (omega arith) in
    (c.in_ok-copy.ensures ∙ e.0, e.1)
