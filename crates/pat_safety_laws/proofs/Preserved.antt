-- Each step keeps a configuration typed, and so does a run.
use Rattle.std.proofs.Common.{◌≡◌, ℕ, List, [], ◌∷◌, Some, sym, subst}
use Rattle.pat_semantics_spec.specs.Programs.{Program}
use Rattle.pat_semantics_spec.specs.WellFormed.{WellFormed}
use Rattle.pat_semantics_spec.specs.Configs.{Config, start}
use Rattle.pat_semantics_spec.specs.Steps.{Act, ActLocal, ActNew, ActSend, ActSpawn, ActPrint, ActEnd, ActFree, ActReceive, Step, step}
use Rattle.pat_semantics_spec.specs.Runs.{run_from, run, Entry, replay_from}
use Rattle.pat_semantics_laws.specs.Laws.{history_steps}
use Rattle.pat_semantics_laws.proofs.Replays.{first_of, replay_runs}
use Rattle.pat_type_system_spec.specs.Typings.{Typing, IsTyping}
use Rattle.pat_type_system_spec.specs.Typed.{IsTyped}
use Rattle.pat_type_system_spec.specs.Interfaces.{interfaces_after, interfaces_along}
use Rattle.pat_safety_laws.proofs.Interfaces.{along_step}
use Rattle.pat_safety_laws.proofs.StartTyped.{start_typed}
use Rattle.pat_safety_laws.proofs.PrintKeeps.{print_keeps}
use Rattle.pat_safety_laws.proofs.NewKeeps.{new_keeps}
use Rattle.pat_safety_laws.proofs.ReceiveKeeps.{receive_keeps}
use Rattle.pat_safety_laws.proofs.SendKeeps.{send_keeps}
use Rattle.pat_safety_laws.proofs.SpawnKeeps.{spawn_keeps}
use Rattle.pat_safety_laws.proofs.EndKeeps.{end_keeps}
use Rattle.pat_safety_laws.proofs.FreeKeeps.{free_keeps}
use Rattle.pat_safety_laws.proofs.LocalKeeps.{local_keeps}

act_keeps : (p : Program) (y : Typing) (interfaces : ℕ → ℕ) (c d : Config) (t : ℕ) (a : Act) → WellFormed p → IsTyped p y interfaces c → step p c (record { thread = t; act = a }) ≡ Some d → IsTyped p y (interfaces_after p c (record { thread = t; act = a }) interfaces) d
act_keeps p y interfaces c d t ActLocal w typed h = local_keeps p y interfaces c d t w typed h
act_keeps p y interfaces c d t ActNew w typed h = new_keeps p y interfaces c d t w typed h
act_keeps p y interfaces c d t ActSend w typed h = send_keeps p y interfaces c d t w typed h
act_keeps p y interfaces c d t ActSpawn w typed h = spawn_keeps p y interfaces c d t w typed h
act_keeps p y interfaces c d t ActPrint w typed h = print_keeps p y interfaces c d t w typed h
act_keeps p y interfaces c d t ActEnd w typed h = end_keeps p y interfaces c d t w typed h
act_keeps p y interfaces c d t ActFree w typed h = free_keeps p y interfaces c d t w typed h
act_keeps p y interfaces c d t (ActReceive k) w typed h = receive_keeps p y interfaces c d t k w typed h

pub step_keeps : (p : Program) (y : Typing) (interfaces : ℕ → ℕ) (c d : Config) (k : Step) → WellFormed p → IsTyped p y interfaces c → step p c k ≡ Some d → IsTyped p y (interfaces_after p c k interfaces) d
step_keeps p y interfaces c d k w typed h = act_keeps p y interfaces c d k.thread k.act w typed h

-- a run from a typed configuration
pub run_keeps : (p : Program) (y : Typing) (interfaces : ℕ → ℕ) (ks : List Step) (c d : Config) → WellFormed p → IsTyped p y interfaces c → run_from p c ks ≡ Some d → IsTyped p y (interfaces_along p c ks interfaces) d
run_keeps p y interfaces [] c d w typed h = let same : c ≡ d = cc in subst (IsTyped p y interfaces) same typed
run_keeps p y interfaces (k ∷ ks) c d w typed h =
    let q = first_of (λ e. run_from p e ks) d (step p c k) h in
    subst (λ f. IsTyped p y f d) (sym (along_step p c q.0 k ks interfaces q.1))
    (run_keeps p y (interfaces_after p c k interfaces) ks q.0 d w (step_keeps p y interfaces c q.0 k w typed q.1) q.2)

-- a replay from a typed configuration
pub replay_keeps : (p : Program) (y : Typing) (interfaces : ℕ → ℕ) (es : List Entry) (c d : Config) → WellFormed p → IsTyped p y interfaces c → replay_from p c es ≡ Some d → IsTyped p y (interfaces_along p c (history_steps es) interfaces) d
replay_keeps p y interfaces es c d w typed h = run_keeps p y interfaces (history_steps es) c d w typed (replay_runs p c d es h).1

-- a run from the start
pub run_typed : (p : Program) (y : Typing) (interfaces : ℕ → ℕ) (ks : List Step) (d : Config) → WellFormed p → IsTyping p y → run p ks ≡ Some d → IsTyped p y (interfaces_along p (start p) ks interfaces) d
run_typed p y interfaces ks d w i h = run_keeps p y interfaces ks (start p) d w (start_typed p y interfaces w i) h
