use Rattle.std.proofs.Common.{◌≡◌, List, [], map, ap, sym, ◌∙◌, subst}
use Rattle.pat_semantics_spec.specs.Configs.{Config, start}
use Rattle.pat_semantics_spec.specs.Runs.{Entry}
use Rattle.pat_core.specs.Views.{program_view}
use Rattle.pat_reduce.specs.Views.{entry_view}
use Rattle.pat_machine_spec.specs.Lendings.{Out, all_in, allowances}
use Rattle.pat_machine_spec.specs.Machines.{MachineInvariant}
use Rattle.pat_machine_laws.proofs.Takings.{start_stands, nothing_lent}
use Rattle.pat_machine_indexes.specs.ready_sets.Noted.{AreNoted}
use Rattle.pat_machine_indexes.proofs.Noting.{start_noted}
use Rattle.pat_machine_steps.specs.wakeups.Counting.{AreCounted}
use Rattle.pat_machine_steps.specs.shared_steps.Boxes.{Indexed}
use Rattle.pat_machine.proofs.Naming.{none_counted}
use Rattle.pat_machine.proofs.parts.Parts.new.Goals as goal

pub returns-clause-kept : goal.returns-clause-kept
returns-clause-kept c =
    let q = c.args.program in
    let p = program_view q in
    let same : c.in_ok-code.code.program ≡ q = c.in_ok-code.ensures in
    let is : c.in_ok-state.state.config ≡ start p = ap (λ (x : Indexed). x.config) c.in_ok-state.ensures ∙ ap (λ x. start (program_view x)) same in
    let outs : c.in_ok-out.out.items ≡ all_in (start p).next_thread = c.in_ok-out.ensures ∙ ap all_in c.threads_made.ensures ∙ ap (λ (d : Config). all_in d.next_thread) is in
    record {
      stands =
          subst (λ x. MachineInvariant (program_view x) c.args.steps c.args.messages c.in_ok-state.state.config (map entry_view c.new-3.result.items) c.args.steps c.in_ok-out.out.items) (sym same)
          (subst (λ d. MachineInvariant p c.args.steps c.args.messages d (map entry_view c.new-3.result.items) c.args.steps c.in_ok-out.out.items) (sym is)
          (subst (λ (es : List Entry). MachineInvariant p c.args.steps c.args.messages (start p) es c.args.steps c.in_ok-out.out.items) (sym (ap (map entry_view) c.new-3.ensures.items))
          (subst (λ (o : Out). MachineInvariant p c.args.steps c.args.messages (start p) [] c.args.steps o) (sym outs)
          (start_stands p c.args.steps c.args.messages c.requires.well c.requires.typable c.requires.steps c.requires.messages))));
      noted =
          subst (λ x. AreNoted (program_view x) c.in_ok-state.state.config c.in_ok-waits.waits.awake.numbers.items c.in_ok-waits.waits.senders.numbers.items c.in_ok-waits.waits.sleepers.items) (sym same)
          (subst (λ d. AreNoted p d c.in_ok-waits.waits.awake.numbers.items c.in_ok-waits.waits.senders.numbers.items c.in_ok-waits.waits.sleepers.items) (sym is) (start_noted p c.in_ok-waits.waits c.in_ok-waits.ensures.0 c.in_ok-waits.ensures.1));
      places = ap (λ (x : Indexed). x.places) c.in_ok-state.ensures ∙ c.places_for.ensures;
      counted = subst (AreCounted c.new-2.result.times.items) (sym is) (none_counted p c.new-2.result.times.items c.new-2.ensures);
      lent = sym (nothing_lent (start p).next_thread) ∙ ap allowances (sym outs);
    }
