use Rattle.std.proofs.Common.{◌/◌, ◌<◌, length, get_or, ap, sym, subst, ◌∙◌, arith}
use Rattle.std.proofs.lemmas.List.{length-replicate}
use Rattle.pat_grid_points.specs.declared.grid.Grid.{Grid}
use Rattle.pat_grid_sums.proofs.Splitting.{some_places}
use Rattle.pat_grid_sums.proofs.Stepping.{none_given, all_given, found_at, given_room}
use Rattle.pat_grid_sums.proofs.steps.given_of.Goals as goal

pub put_held-requires-clause-some : goal.put_held-requires-clause-some
put_held-requires-clause-some c = some_places c.args.system.now.k c.args.system.now.tags c.args.shape c.requires.shape

pub put_held-requires-clause-room : goal.put_held-requires-clause-room
put_held-requires-clause-room c = c.requires.shape.room

pub put_held-requires-clause-held : goal.put_held-requires-clause-held
put_held-requires-clause-held c = λ number l.
    let y = c.args.system.now in
    let r = c.index-system-variable.result in
    let is = c.index-system-variable.is in
    let found = found_at y.given.now c.args.variable r (let m = c.if-variable-system.false in omega arith) is in
    let many = ap (λ (x : Grid). length x.held) (sym is) ∙ r.counted in
    subst (λ m. number / c.args.shape.width < m) (sym (ap length c.in_ok-words.ensures ∙ length-replicate c.args.shape.words 0))
    (given_room y c.args.shape c.requires.system c.requires.shape c.args.variable r found number (subst (λ m. number < m) many l))

pub returns-then-variable-system : goal.returns-then-variable-system
returns-then-variable-system c =
    none_given c.args.shape.width c.args.shape.words c.args.variable c.args.system.now.given.now c.in_ok-words.words c.if-variable-system.true c.in_ok-words.ensures

pub returns : goal.returns
returns c =
    let y = c.args.system.now in
    let r = c.index-system-variable.result in
    let is = c.index-system-variable.is in
    let found = found_at y.given.now c.args.variable r (let m = c.if-variable-system.false in omega arith) is in
    all_given c.args.shape.width c.args.shape.words c.args.variable y.given.now r (get_or y.given.now c.args.variable r).held c.in_ok-words.words c.put_held.new.words found (ap (λ (x : Grid). x.held) (sym is)) c.in_ok-words.ensures c.put_held.ensures
