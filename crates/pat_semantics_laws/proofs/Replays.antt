-- Runs and replays, joined and divided.
use Rattle.std.proofs.Common.{◌≡◌, List, [], ◌∷◌, ◌++◌, Option, Some, None, refl, sym, ap, ◌∙◌}
use Rattle.std.specs.Prelude.{option_and_then}
use Rattle.std.specs.List.{AllByRecursion}
use Rattle.pat_semantics_spec.specs.Programs.{Program}
use Rattle.pat_semantics_spec.specs.Configs.{Config}
use Rattle.pat_semantics_spec.specs.Steps.{Step, step}
use Rattle.pat_semantics_spec.specs.Runs.{run_from, Entry, entry_steps, entry_from, replay_from}
use Rattle.pat_semantics_laws.specs.Laws.{history_steps}

-- what follows what follows a configuration, if there is one
then_then : {A B C : Type 0} (f : A → Option B) (g : B → Option C) (o : Option A) → option_and_then (λ a. option_and_then g (f a)) o ≡ option_and_then g (option_and_then f o)
then_then f g None = refl
then_then f g (Some a) = refl

-- the same follows each configuration
then_same : {A B : Type 0} (f g : A → Option B) (o : Option A) → ((a : A) → f a ≡ g a) → option_and_then f o ≡ option_and_then g o
then_same f g None h = refl
then_same f g (Some a) h = h a

pub runs_join : (p : Program) (c : Config) (ks ls : List Step) → run_from p c (ks ++ ls) ≡ option_and_then (λ d. run_from p d ls) (run_from p c ks)
runs_join p c [] ls = refl
runs_join p c (k ∷ ks) ls =
    then_same (λ d. run_from p d (ks ++ ls)) (λ d. option_and_then (λ e. run_from p e ls) (run_from p d ks)) (step p c k) (λ d. runs_join p d ks ls)
    ∙ then_then (λ d. run_from p d ks) (λ d. run_from p d ls) (step p c k)

pub replays_join : (p : Program) (c : Config) (es fs : List Entry) → replay_from p c (es ++ fs) ≡ option_and_then (λ d. replay_from p d fs) (replay_from p c es)
replays_join p c [] fs = refl
replays_join p c (e ∷ es) fs =
    then_same (λ d. replay_from p d (es ++ fs)) (λ d. option_and_then (λ f. replay_from p f fs) (replay_from p d es)) (entry_from p c (entry_steps e)) (λ d. replays_join p d es fs)
    ∙ then_then (λ d. replay_from p d es) (λ d. replay_from p d fs) (entry_from p c (entry_steps e))

-- an entry has a step, and is a run of its steps
entry_is : (p : Program) (c d : Config) (ks : List Step) → entry_from p c ks ≡ Some d → (ks ≡ [] → ⊥) × (run_from p c ks ≡ Some d)
entry_is p c d [] h = cc
entry_is p c d (k ∷ ks) h = ((λ e. cc), h)

is_entry : (p : Program) (c : Config) (ks : List Step) → (ks ≡ [] → ⊥) → entry_from p c ks ≡ run_from p c ks
is_entry p c [] h = absurd (h refl)
is_entry p c (k ∷ ks) h = refl

-- what comes of something comes of a first result
pub first_of : {A B : Type 0} (f : A → Option B) (b : B) (o : Option A) → option_and_then f o ≡ Some b → (a : A) × (o ≡ Some a) × (f a ≡ Some b)
first_of f b None h = cc
first_of f b (Some a) h = (a, refl, h)

pub replay_runs : (p : Program) (c d : Config) (es : List Entry) → replay_from p c es ≡ Some d → AllByRecursion (λ e. entry_steps e ≡ [] → ⊥) es × (run_from p c (history_steps es) ≡ Some d)
replay_runs p c d [] h = (tt, h)
replay_runs p c d (e ∷ es) h =
    let q = first_of (λ f. replay_from p f es) d (entry_from p c (entry_steps e)) h in
    let one = entry_is p c q.0 (entry_steps e) q.1 in
    let rest = replay_runs p q.0 d es q.2 in
    ((one.0, rest.0), runs_join p c (entry_steps e) (history_steps es) ∙ ap (option_and_then (λ f. run_from p f (history_steps es))) one.1 ∙ rest.1)

pub runs_replay : (p : Program) (c d : Config) (es : List Entry) → AllByRecursion (λ e. entry_steps e ≡ [] → ⊥) es → run_from p c (history_steps es) ≡ Some d → replay_from p c es ≡ Some d
runs_replay p c d [] a h = h
runs_replay p c d (e ∷ es) a h =
    let q = first_of (λ f. run_from p f (history_steps es)) d (run_from p c (entry_steps e)) (sym (runs_join p c (entry_steps e) (history_steps es)) ∙ h) in
    ap (option_and_then (λ f. replay_from p f es)) (is_entry p c (entry_steps e) a.0 ∙ q.1) ∙ runs_replay p q.0 d es a.1 q.2
