use Rattle.std.proofs.Common.{◌≡◌, subst, arith}
use Rattle.std.specs.Prelude.{IfSome}
use Rattle.pat_grid_sums.specs.Systems.{setting_in, AreReached}
use Rattle.pat_grid.proofs.Settled.{system_in, system_is, reached_all, reached_done}
use Rattle.pat_grid.proofs.tables.passes.least_sizes.Goals as goal

pub reached_entries-requires : goal.reached_entries-requires
reached_entries-requires c = system_is c.args.board.now c.requires

pub returns-in-Some-clause-all : goal.returns-in-Some-clause-all
returns-in-Some-clause-all c =
    let b = c.args.board.now in
    let none : b.limit ≡ 0 = (let l = c.if-board-gt0.false in omega arith) in
    reached_all b c.in-Some.entries none (subst (λ o. IfSome o (AreReached (setting_in (system_in b)))) c.in-Some.is c.in_ok-entries.ensures)

pub returns-in-Some-clause-done : goal.returns-in-Some-clause-done
returns-in-Some-clause-done c =
    let b = c.args.board.now in
    let none : b.limit ≡ 0 = (let l = c.if-board-gt0.false in omega arith) in
    reached_done b c.in-Some.entries c.requires none (subst (λ o. IfSome o (AreReached (setting_in (system_in b)))) c.in-Some.is c.in_ok-entries.ensures)
