use Rattle.std.proofs.Common.{◌≡◌, ◌<◌, min, None, Some, map, arith, refl, subst, sym}
use Rattle.pat_core.specs.Views.{program_view}
use Rattle.pat_reduce.specs.Views.{entry_view}
use Rattle.pat_machine_laws.proofs.Tables.{allowances_set, set_here}
use Rattle.pat_machine_laws.proofs.Takings.{take_stands, thread_within, entry_within}
use Rattle.pat_machine_laws.proofs.Ready.{ready_there}
use Rattle.pat_machine.proofs.parts.Parts.lend.Goals as goal

pub index_mut-requires : goal.index_mut-requires
index_mut-requires c =
    let m = c.args.self.now in
    let p = program_view m.code.program in
    let s = ready_there p m.state.config m.limit m.out.items c.args.thread c.requires.ready in
    let ok = m.out.ok in
    let within = thread_within p m.budget m.limit m.state.config (map entry_view m.history.items) m.left m.out.items c.requires.kept.stands c.args.thread s.0 s.1 in
    subst (λ n. c.args.thread < n) (sym ok.0) within

pub returns-clause-kept : goal.returns-clause-kept
returns-clause-kept c =
    let m = c.args.self.now in
    let p = program_view m.code.program in
    let es = map entry_view m.history.items in
    let s = ready_there p m.state.config m.limit m.out.items c.args.thread c.requires.ready in
    let within = thread_within p m.budget m.limit m.state.config es m.left m.out.items c.requires.kept.stands c.args.thread s.0 s.1 in
    let n = c.min-allowance.result in
    let is : n ≡ min m.left 256 = c.min-allowance.ensures in
    let some : 0 < m.left = c.requires.some in
    let sum = allowances_set m.out.items c.args.thread None (Some n) (entry_within m.out.items c.args.thread within c.requires.ready.0) in
    let all = c.requires.kept.lent in
    record {
      stands = take_stands p m.budget m.limit m.state.config es m.left m.out.items c.requires.kept.stands c.args.thread n s.0 s.1 c.requires.ready.0 (omega arith) (omega arith);
      places = c.requires.kept.places;
      counted = c.requires.kept.counted;
      noted = c.requires.kept.noted;
      lent = omega arith;
    }

pub returns-clause-lent : goal.returns-clause-lent
returns-clause-lent c =
    let m = c.args.self.now in
    let p = program_view m.code.program in
    let s = ready_there p m.state.config m.limit m.out.items c.args.thread c.requires.ready in
    let within = thread_within p m.budget m.limit m.state.config (map entry_view m.history.items) m.left m.out.items c.requires.kept.stands c.args.thread s.0 s.1 in
    record {
      ready = c.requires.ready;
      some = c.requires.some;
      allowance = c.min-allowance.ensures;
      changes = refl;
      out = set_here m.out.items c.args.thread (Some c.min-allowance.result) within;
    }
