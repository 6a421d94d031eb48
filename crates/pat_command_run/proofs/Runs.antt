-- What a finished run shows of its program.
use Rattle.std.proofs.Common.{◌≡◌, ℕ, ◌<◌, ◌≤◌, List, [], ◌∷◌, length, map, Option, Some, None, sym, ap, ◌∙◌, subst, arith}
use Rattle.std.specs.Prelude.{option_and_then}
use Rattle.std.proofs.lemmas.List.{length-map}
use Rattle.pat_semantics_spec.specs.Programs.{Program}
use Rattle.pat_semantics_spec.specs.Configs.{Config, start}
use Rattle.pat_semantics_spec.specs.Steps.{Step}
use Rattle.pat_semantics_spec.specs.Runs.{Entry, IsHistory, entry_steps, entry_from, replay_from, replay, step_count}
use Rattle.pat_core.specs.declared.program.Program.{Program as CodeProgram}
use Rattle.pat_core.specs.Views.{program_view}
use Rattle.pat_reduce.specs.declared.history.Entry.{Entry as CodeEntry}
use Rattle.pat_reduce.specs.Views.{entry_view}
use Rattle.pat_machine_spec.specs.Machines.{StaysWithin}
use Rattle.pat_machine.specs.declared.job.Named.{Named}
use Rattle.pat_run.specs.single.Shown.{Shown, IsMachine, program_of, entries_of}
use Rattle.pat_run.specs.single.Gives.{outcome_view}
use Rattle.pat_run.specs.declared.options.options.RunOptions.{RunOptions}
use Rattle.pat_run.specs.declared.single.running.Finished.{Finished}
use Rattle.pat_run.specs.single.Runners.{RunGives}
use Rattle.pat_front.specs.declared.exit_answers.status.Status.{Status}
use Rattle.pat_command_run.specs.declared.command.Detail.{Detail}
use Rattle.pat_command_run.specs.Allowed.{EndsWith, RunShows, told}
use Rattle.pat_limits.specs.Limits.{most_steps, number_count}

-- each entry of a history that replays has a step
some_step : (p : Program) (c d : Config) (es : List Entry) (ks : List Step) → option_and_then (λ m. replay_from p m es) (entry_from p c ks) ≡ Some d → 0 < length ks
some_step p c d es [] h = let clash : None ≡ Some d = h in cc
some_step p c d es (k ∷ ks) h = omega arith

record Goes (p : Program) (es : List Entry) (d : Config) : Type 0 where
  from : Config
  is : replay_from p from es ≡ Some d

goes : (p : Program) (d : Config) (es : List Entry) (o : Option Config) → option_and_then (λ m. replay_from p m es) o ≡ Some d → Goes p es d
goes p d es None h = let clash : None ≡ Some d = h in absurd cc
goes p d es (Some m) h = record { from = m; is = h }

entries_few : (p : Program) (c d : Config) (es : List Entry) → replay_from p c es ≡ Some d → length es ≤ step_count es
entries_few p c d [] h = omega arith
entries_few p c d (e ∷ es) h =
    let more = goes p d es (entry_from p c (entry_steps e)) h in
    let some = some_step p c d es (entry_steps e) h in
    let others = entries_few p more.from d es more.is in
    omega (arith, some, others)

-- a machine's history is short
pub few_entries : (m : Shown) (h : List CodeEntry) (named : Named) → IsMachine m → h ≡ m.history → m.named ≡ named → named.budget ≤ most_steps → length h < number_count
few_entries m h named facts same is small =
    let budget : m.named.budget ≡ named.budget = ap (λ (n : Named). n.budget) is in
    let long : length (entries_of m) ≡ length h = length-map m.history entry_view ∙ ap length (sym same) in
    let few = entries_few (program_of m) (start (program_of m)) m.config (entries_of m) facts.replayed in
    let counted = facts.counted in
    omega (arith, budget, long, few, counted, small)

pub shown_history : (m : Shown) (h : List CodeEntry) → IsMachine m → h ≡ m.history → IsHistory (map entry_view h)
shown_history m h facts same = subst (λ l. IsHistory (map entry_view l)) (sym same) facts.history

-- a finished run shows its text and its status
pub run_shows : (d : Detail) (program : CodeProgram) (o : RunOptions) (f : Finished) (h : List CodeEntry) (text : List ℕ) (s : Status) → RunGives program o f → IsMachine f.machine → h ≡ f.machine.history → text ≡ told d (map entry_view h) f.machine.config (outcome_view f.outcome) → EndsWith (outcome_view f.outcome) s → RunShows (program_view program) d o text s
run_shows d program o f h text s gives facts same shown ends =
    let own = outcome_view f.outcome in
    let es = entries_of f.machine in
    let budget : f.machine.named.budget ≡ o.steps = ap (λ (n : Named). n.budget) gives.named in
    let counted = facts.counted in (
      own,
      ends,
      record {
        entries = es;
        config = f.machine.config;
        replayed = subst (λ (n : Named). replay (program_view n.program) es ≡ Some f.machine.config) gives.named facts.replayed;
        history = facts.history;
        limited = subst (λ (n : Named). StaysWithin (program_view n.program) n.limit es) gives.named facts.limited;
        within = omega (arith, budget, counted);
        run = gives.run;
        shown = shown ∙ ap (λ l. told d (map entry_view l) f.machine.config own) same;
      },
    )
