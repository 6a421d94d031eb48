use Rattle.std.proofs.Common.{◌≡◌, ◌+◌, ℕ, map, ap, sym, ◌∙◌, subst, arith, length}
use Rattle.pat_core.specs.Views.{program_view}
use Rattle.pat_reduce.specs.Views.{entry_view}
use Rattle.pat_machine_spec.specs.Lendings.{Out, allowances}
use Rattle.pat_machine_spec.specs.Machines.{MachineInvariant}
use Rattle.pat_machine_laws.proofs.Takings.{give_all_stands, all_in_already, nothing_lent}
use Rattle.pat_machine.specs.Shown.{Shown}
use Rattle.pat_machine.proofs.parts.Parts.give_back_all.Goals as goal

pub returns-then-self-eq0-clause-back : goal.returns-then-self-eq0-clause-back
returns-then-self-eq0-clause-back c =
    let m = c.args.self.now in
    let none : allowances m.out.items ≡ 0 = sym c.requires.lent ∙ c.if-self-eq0.true in
    let by : ℕ → Out → Shown = λ k o. record { named = record { program = m.code.program; budget = m.budget; limit = m.limit }; config = m.state.config; history = m.history.items; left = k; out = o; last = m.last } in
    let same : m.left ≡ m.left + allowances m.out.items = omega arith in
    ap (λ k. by k m.out.items) same ∙ ap (by (m.left + allowances m.out.items)) (all_in_already m.out.items none c.requires.stands.table.some)

pub returns-clause-kept : goal.returns-clause-kept
returns-clause-kept c =
    let m = c.args.self.now in
    let p = program_view m.code.program in
    let es = map entry_view m.history.items in
    record {
      stands =
          subst (λ k. MachineInvariant p m.budget m.limit m.state.config es (m.left + k) c.clear.new.out.items) (sym c.requires.lent)
          (subst (λ (o : Out). MachineInvariant p m.budget m.limit m.state.config es (m.left + allowances m.out.items) o) (sym c.clear.ensures)
          (give_all_stands p m.budget m.limit m.state.config es m.left m.out.items c.requires.stands));
      places = c.requires.places;
      counted = c.requires.counted;
      noted = c.requires.noted;
      lent = sym (nothing_lent (length m.out.items)) ∙ ap allowances (sym c.clear.ensures);
    }
