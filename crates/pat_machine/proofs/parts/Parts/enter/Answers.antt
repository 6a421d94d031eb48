use Rattle.std.proofs.Common.{◌≡◌, ◌+◌, ◌-◌, ◌≤◌, ℕ, true, List, map, refl, ap, sym, ◌∙◌, subst, arith, length}
use Rattle.std.specs.Prelude.{option_map}
use Rattle.pat_semantics_spec.specs.Programs.{is_among}
use Rattle.pat_semantics_spec.specs.Runs.{Entry, entry_steps}
use Rattle.pat_core.specs.Views.{program_view}
use Rattle.pat_reduce.specs.declared.history.Entry.{Entry as CodeEntry}
use Rattle.pat_reduce.specs.Views.{act_view, entry_view}
use Rattle.pat_machine_spec.specs.Commits.{IsCommit, noted}
use Rattle.pat_machine_spec.specs.Lendings.{Out, allowances, committed_out}
use Rattle.pat_machine_spec.specs.Machines.{MachineInvariant}
use Rattle.pat_machine_laws.proofs.Runs.{commit_stands, commit_within}
use Rattle.pat_machine_laws.proofs.Tables.{allowance_within, allowances_committed}
use Rattle.pat_machine_steps.proofs.Freed.{counts_tell}
use Rattle.pat_machine_steps.specs.shared_steps.Taking.{taken_act}
use Rattle.pat_machine.specs.Shown.{Shown, steps_in, noted_in, place_of}
use Rattle.pat_machine.proofs.Lending.{part_lent}
use Rattle.pat_machine.proofs.Finishing.{entry_of, noted_view, idle_so, commit_run}
use Rattle.pat_machine.proofs.parts.Parts.enter.Goals as goal

pub note_threads-requires-clause-told : goal.note_threads-requires-clause-told
note_threads-requires-clause-told c =
    let m = c.args.self.now in
    let p = program_view m.code.program in
    let es = map entry_view m.history.items in
    let t = c.args.job.thread in
    let n = c.args.job.allowance in
    let w = c.requires.went.1 in
    let st = commit_stands p m.budget m.limit n c.requires.went.0 m.state.config es m.left m.out.items (entry_of c.args.worker c.args.job c.args.steps (taken_act c.args.taken.now)) w.stands w.out w.commit in
    counts_tell p m.state.config m.names.times.items st.well st.facts.typed.typed.numbers.ordered st.facts.typed w.counted

pub note_threads-requires-clause-were : goal.note_threads-requires-clause-were
note_threads-requires-clause-were c =
    let m = c.args.self.now in
    let p = program_view m.code.program in
    let es = map entry_view m.history.items in
    let t = c.args.job.thread in
    let n = c.args.job.allowance in
    let w = c.requires.went.1 in
    let e = entry_of c.args.worker c.args.job c.args.steps (taken_act c.args.taken.now) in
    record {
      went = record {
        before = c.requires.went.0;
        kept = w.commit.kept;
        middle = w.commit.middle;
        steps = c.args.steps;
        ordered = w.stands.facts.typed.typed.numbers.ordered;
        there = w.commit.there;
        local = w.commit.local.taken;
        run = commit_run p n m.limit c.requires.went.0 m.state.config e w.commit;
        next = w.next;
      };
      noted = w.noted;
      listed = λ b had gone. subst (λ l. is_among b l ≡ true) (sym c.as_slice.ensures.value) (w.listed b had gone);
      brought = w.brought;
    }

pub take_back-requires-clause-there : goal.take_back-requires-clause-there
take_back-requires-clause-there c = allowance_within c.args.self.now.out.items c.args.job.thread c.args.job.allowance c.requires.went.1.out

pub overflow_sub-self : goal.overflow_sub-self
overflow_sub-self c =
    let m = c.args.self.now in
    let p = program_view m.code.program in
    let es = map entry_view m.history.items in
    let t = c.args.job.thread in
    let n = c.args.job.allowance in
    let w = c.requires.went.1 in
    let e : CodeEntry = record { worker = c.args.worker; thread = t; local = c.args.steps; shared = c.act_of-shared.result } in
    let j = subst (λ o. IsCommit p n m.limit c.requires.went.0 (entry_of c.args.worker c.args.job c.args.steps o) m.state.config) (sym c.act_of-shared.ensures) w.commit in
    subst (λ k. k ≤ n) (sym c.steps_of.ensures) (commit_within p n m.limit c.requires.went.0 m.state.config (entry_view e) j)

pub overflow_sub-self-2 : goal.overflow_sub-self-2
overflow_sub-self-2 c = part_lent c.args.self.now.out.items c.args.self.now.lent c.args.job.thread c.args.job.allowance c.requires.went.1.lent c.requires.went.1.out

pub returns-clause-kept : goal.returns-clause-kept
returns-clause-kept c =
    let m = c.args.self.now in
    let p = program_view m.code.program in
    let es = map entry_view m.history.items in
    let t = c.args.job.thread in
    let n = c.args.job.allowance in
    let w = c.requires.went.1 in
    let e : CodeEntry = record { worker = c.args.worker; thread = t; local = c.args.steps; shared = c.act_of-shared.result } in
    let j = subst (λ o. IsCommit p n m.limit c.requires.went.0 (entry_of c.args.worker c.args.job c.args.steps o) m.state.config) (sym c.act_of-shared.ensures) w.commit in
    let a = option_map act_view c.act_of-shared.result in
    let d = m.state.config in
    let st = commit_stands p m.budget m.limit n c.requires.went.0 d es m.left m.out.items (entry_view e) w.stands w.out j in
    let grown : map entry_view c.note-index.new.history.items ≡ noted es (entry_view e) = ap (map entry_view) c.note-index.ensures.history ∙ noted_view m.history.items e in
    let outs : c.take_back.new.out.items ≡ committed_out m.out.items t a = c.take_back.ensures in
    let left = allowances_committed m.out.items t n a w.out in
    let all = w.lent in
    let lent : m.lent - n ≡ allowances (committed_out m.out.items t a) = omega arith in
    record {
      stands =
          subst (λ (h : List Entry). MachineInvariant p m.budget m.limit d h (m.left + (n - c.steps_of.result)) c.take_back.new.out.items) (sym grown)
          (subst (λ k. MachineInvariant p m.budget m.limit d (noted es (entry_view e)) (m.left + (n - k)) c.take_back.new.out.items) (sym c.steps_of.ensures)
          (subst (λ (o : Out). MachineInvariant p m.budget m.limit d (noted es (entry_view e)) (m.left + (n - length (entry_steps (entry_view e)))) o) (sym outs) st));
      places = w.places;
      counted = w.counted;
      noted = c.note_threads.ensures;
      lent = lent ∙ ap allowances (sym outs);
    }

pub returns-clause-committed : goal.returns-clause-committed
returns-clause-committed c = λ before w.
    let m = c.args.self.now in
    let p = program_view m.code.program in
    let t = c.args.job.thread in
    let n = c.args.job.allowance in
    let e : CodeEntry = record { worker = c.args.worker; thread = t; local = c.args.steps; shared = c.act_of-shared.result } in
    let j = subst (λ o. IsCommit p n m.limit before (entry_of c.args.worker c.args.job c.args.steps o) m.state.config) (sym c.act_of-shared.ensures) w.commit in
    let a = option_map act_view c.act_of-shared.result in
    let d = m.state.config in
    let grown : c.note-index.new.history.items ≡ noted_in m.history.items e = c.note-index.ensures.history in
    let outs : c.take_back.new.out.items ≡ committed_out m.out.items t a = c.take_back.ensures in
    let place : c.note-index.result ≡ place_of m.history.items e = c.note-index.ensures.place in
    let by : List CodeEntry → ℕ → Out → Shown = λ h k o. record { named = record { program = m.code.program; budget = m.budget; limit = m.limit }; config = d; history = h; left = m.left + (n - k); out = o; last = m.last } in
    record {
      worker_is = refl;
      thread_is = refl;
      commit = j;
      index = place;
      idle = idle_so p n m.limit before d m.history.items e c.note-index.result t j (w.stands.table.some t n w.out) place refl;
      changes =
          ap (λ h. by h c.steps_of.result c.take_back.new.out.items) grown
          ∙ ap (λ k. by (noted_in m.history.items e) k c.take_back.new.out.items) c.steps_of.ensures
          ∙ ap (λ (o : Out). by (noted_in m.history.items e) (steps_in e) o) outs;
    }
