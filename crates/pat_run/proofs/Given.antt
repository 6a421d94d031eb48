-- What a run by worker 0, and one by workers, give with options.
use Rattle.std.proofs.Common.{◌≡◌, ℕ, ◌<◌, List, [], ◌∷◌, map, arith}
use Rattle.std.specs.List.{All, AllByRecursion}
use Rattle.std.proofs.lemmas.List.Elements.{All-map, All-from_recursion}
use Rattle.pat_semantics_spec.specs.Runs.{Entry}
use Rattle.pat_core.specs.declared.program.Program.{Program as CodeProgram}
use Rattle.pat_reduce.specs.Views.{entry_view}
use Rattle.pat_run.specs.single.Shown.{entries_of}
use Rattle.pat_run.specs.declared.options.options.RunOptions.{RunOptions}
use Rattle.pat_run.specs.declared.single.running.Finished.{Finished}
use Rattle.pat_run.specs.single.Runs as one
use Rattle.pat_workers.specs.declared.finishing.Finished.{Finished as FinishedByWorkers}
use Rattle.pat_workers.specs.Runs as many
use Rattle.pat_run.specs.single.Runners.{RunGives}

-- worker 0 is one of them, however many there are
below : (n : ℕ) → 0 < n → (es : List Entry) → AllByRecursion (λ (e : Entry). e.worker ≡ 0) es → AllByRecursion (λ (e : Entry). e.worker < n) es
below n some [] h = tt
below n some (e ∷ es) h = (let is = h.0 in omega (arith, some, is), below n some es h.1)

pub alone_gives : (program : CodeProgram) (o : RunOptions) (f : Finished) → 0 < o.workers → one.RunGives program o.steps o.messages f → RunGives program o f
alone_gives program o f some gives = record {
  named = gives.named;
  over = gives.over;
  run = record {
    workers = All-from_recursion (λ (e : Entry). e.worker < o.workers) (entries_of f.machine) (below o.workers some (entries_of f.machine) gives.run.workers);
    ends = gives.run.ends;
    alone = λ _. gives.run;
  };
}

pub several_give : (program : CodeProgram) (o : RunOptions) (f : FinishedByWorkers) → (o.workers ≡ 1 → ⊥) → many.RunGives program o.workers o.steps o.messages f → RunGives program o (record { machine = f.machine; outcome = f.outcome })
several_give program o f several gives = record {
  named = gives.named;
  over = gives.over;
  run = record {
    workers = All-map (λ (e : Entry). e.worker < o.workers) entry_view f.machine.history gives.workers_are;
    ends = gives.ends;
    alone = λ is. absurd (several is);
  };
}
