-- What a walk over all places holds.
use Rattle.std.proofs.Common.{◌≡◌, ℕ, suc, ◌+◌, ◌<◌, ◌≤◌, arith, List, [], ◌∷◌, ◌++◌, length, map, reverse, Option, Some, None, refl, sym, ap, ap₂, ◌∙◌, append_assoc, slice_get, get_or, drop}
use Rattle.std.specs.Prelude.{option_map}
use Rattle.std.proofs.lemmas.List.{append-nil, map-append, reverse-append}
use Rattle.std.proofs.lemmas.Option.{slice_get-map, slice_get-get_or, slice_get_past}
use Rattle.std.proofs.Math.Seq.{drop-cons}
use Rattle.pat_semantics_spec.specs.Values.{Value, Const, Mailbox, Env}
use Rattle.pat_semantics_spec.specs.Programs.{Program}
use Rattle.pat_semantics_spec.specs.Configs.{Frame}
use Rattle.pat_type_system_spec.specs.Types.{TypeEnv, no_types}
use Rattle.pat_type_system_spec.specs.Typings.{Typing}
use Rattle.pat_type_schemes_spec.specs.NodeTypes.{Needs, need_of, env_open}
use Rattle.pat_derivation_spec.specs.Derivations.{Line, Derivation, written_typing}
use Rattle.pat_semantics_spec.specs.Programs.{TagDecl}
use Rattle.pat_type_system_spec.specs.Holdings.{declared_types}
use Rattle.pat_types.specs.Views.{needs_view}
use Rattle.pat_derivations.specs.declared.environments.lookups.LookUps.{LookUps}
use Rattle.pat_reduce_values.specs.declared.values.Value.{Value as CodeValue}
use Rattle.pat_reduce_values.specs.ValueViews.{value_view}
use Rattle.pat_reduce.specs.declared.threads.state.ThreadState.{ThreadState}
use Rattle.pat_reduce.specs.declared.threads.state.Frame.{Frame as CodeFrame}
use Rattle.pat_reduce.specs.Views.{threads_view}
use Rattle.pat_reduce.specs.threads.ThreadViews.{frame_view, thread_view}
use Rattle.pat_checkpoint_spec.specs.HoldingsInOrder.{Held, held_as, env_holds, frames_hold, threads_hold, payload_holds}
use Rattle.pat_checkpoint_balances.specs.Tables.{needs_of, env_with, env_at, AreTables, frames_hold_in_turn, thread_holds}
use Rattle.pat_checkpoint_balances.specs.declared.walk.Tables.{Tables}

-- ---- where there are no types

pub held_none : (v : Value) → held_as v None ≡ []
held_none (Const c) = refl
held_none (Mailbox a) = refl

pub env_none : (env : Env) → env_holds no_types env ≡ []
env_none [] = refl
env_none (e ∷ env) = ap₂ (λ l m. l ++ m) (held_none e.1) (env_none env)

pub payload_none : (k : ℕ) (vs : List Value) → payload_holds no_types k vs ≡ []
payload_none k [] = refl
payload_none k (v ∷ vs) = ap₂ (λ l m. l ++ m) (held_none v) (payload_none (suc k) vs)

-- ---- turns of loops

pub drop_next : {A : Type 0} (xs : List A) (k : ℕ) (x : A) → k < length xs → x ≡ get_or xs k x → drop k xs ≡ x ∷ drop (k + 1) xs
drop_next xs k x less at =
    drop-cons xs k x less ∙ ap (λ z. z ∷ drop (suc k) xs) (sym at) ∙ ap (λ n. x ∷ drop n xs) (let next : suc k ≡ k + 1 = omega arith in next)

pub payload_turn : (g : TypeEnv) (old new all : List Held) (vs : List CodeValue) (k : ℕ) (v : CodeValue) → k < length vs → v ≡ get_or vs k v → new ≡ old ++ held_as (value_view v) (g k) → old ++ payload_holds g k (map value_view (drop k vs)) ≡ all → new ++ payload_holds g (k + 1) (map value_view (drop (k + 1) vs)) ≡ all
payload_turn g old new all vs k v less at is h =
    let next : suc k ≡ k + 1 = omega arith in
    ap (λ l. l ++ payload_holds g (k + 1) (map value_view (drop (k + 1) vs))) is
    ∙ append_assoc old (held_as (value_view v) (g k)) (payload_holds g (k + 1) (map value_view (drop (k + 1) vs)))
    ∙ ap (λ n. old ++ (held_as (value_view v) (g k) ++ payload_holds g n (map value_view (drop (k + 1) vs)))) (sym next)
    ∙ ap (λ l. old ++ payload_holds g k (map value_view l)) (sym (drop_next vs k v less at))
    ∙ h

pub threads_turn : (p : Program) (y : Typing) (old new all : List Held) (ts : List (ℕ × ThreadState)) (k : ℕ) (e : ℕ × ThreadState) → k < length ts → e ≡ get_or ts k e → new ≡ old ++ thread_holds p y (thread_view e.1) → old ++ threads_hold p y (threads_view (drop k ts)) ≡ all → new ++ threads_hold p y (threads_view (drop (k + 1) ts)) ≡ all
threads_turn p y old new all ts k e less at is h =
    ap (λ l. l ++ threads_hold p y (threads_view (drop (k + 1) ts))) is
    ∙ append_assoc old (thread_holds p y (thread_view e.1)) (threads_hold p y (threads_view (drop (k + 1) ts)))
    ∙ ap (λ l. old ++ threads_hold p y (threads_view l)) (sym (drop_next ts k e less at))
    ∙ h

pub nothing_declared : (old : List Held) (o : Option TagDecl) (vs : List Value) → None ≡ o → old ≡ old ++ payload_holds (declared_types o) 0 vs
nothing_declared old o vs h =
    sym (ap (λ q. old ++ payload_holds (declared_types q) 0 vs) (sym h) ∙ ap (λ l. old ++ l) (payload_none 0 vs) ∙ append-nil old)

pub env_there : (envs : List LookUps) (n : ℕ) (t : LookUps) → n < length envs → t ≡ get_or envs n t → env_at (needs_of envs) n ≡ need_of (needs_view t.env.now)
env_there envs n t less at =
    ap env_with (slice_get-map (λ (l : LookUps). needs_view l.env.now) envs n ∙ ap (option_map (λ (l : LookUps). needs_view l.env.now)) (slice_get-get_or envs n t less ∙ ap Some (sym at)))

pub no_env : (old : List Held) (envs : List LookUps) (n : ℕ) (env : Env) → length envs ≤ n → old ≡ old ++ env_holds (env_at (needs_of envs) n) env
no_env old envs n env past =
    sym (ap (λ g. old ++ env_holds g env) (ap env_with (slice_get-map (λ (l : LookUps). needs_view l.env.now) envs n ∙ ap (option_map (λ (l : LookUps). needs_view l.env.now)) (slice_get_past envs n past)))
    ∙ ap (λ l. old ++ l) (env_none env) ∙ append-nil old)

-- ---- environments of nodes

types_there : (o : Option Line) → env_with (option_map (λ (l : Line). l.of.needs) o) ≡ env_open (option_map (λ (l : Line). l.of) o)
types_there None = refl
types_there (Some l) = refl

pub env_is : (p : Program) (d : Derivation) (t : Tables) (n : ℕ) → AreTables p d t → env_at (needs_of t.envs) n ≡ (written_typing p d).envs n
env_is p d t n a =
    ap (λ l. env_with (slice_get l n)) a.envs
    ∙ ap env_with (slice_get-map (λ (l : Line). l.of.needs) d.lines n)
    ∙ types_there (slice_get d.lines n)

-- ---- frames

module _ (y : Typing) (envs : List Needs) (same : (n : ℕ) → env_at envs n ≡ y.envs n) where
  bottom_first : (fs : List Frame) (f : Frame) → frames_hold y (fs ++ f ∷ []) ≡ env_holds (y.envs f.body) f.env ++ frames_hold y fs
  bottom_first [] f = sym (append-nil (env_holds (y.envs f.body) f.env))
  bottom_first (g ∷ gs) f =
      ap (λ l. l ++ env_holds (y.envs g.body) g.env) (bottom_first gs f)
      ∙ append_assoc (env_holds (y.envs f.body) f.env) (frames_hold y gs) (env_holds (y.envs g.body) g.env)

  in_turn : (fs : List CodeFrame) → frames_hold_in_turn envs (map frame_view fs) ≡ frames_hold y (map frame_view (reverse fs))
  in_turn [] = refl
  in_turn (f ∷ fs) =
      ap₂ (λ l m. l ++ m) (ap (λ g. env_holds g (frame_view f).env) (same f.body)) (in_turn fs)
      ∙ sym (ap (λ l. frames_hold y (map frame_view l)) (reverse-append (f ∷ []) fs) ∙ ap (frames_hold y) (map-append frame_view (reverse fs) (f ∷ [])) ∙ bottom_first (map frame_view (reverse fs)) (frame_view f))

pub frames_in_turn : (p : Program) (d : Derivation) (t : Tables) (fs gs : List CodeFrame) → AreTables p d t → reverse fs ≡ gs → frames_hold_in_turn (needs_of t.envs) (map frame_view fs) ≡ frames_hold (written_typing p d) (map frame_view gs)
frames_in_turn p d t fs gs a back =
    in_turn (written_typing p d) (needs_of t.envs) (λ n. env_is p d t n a) fs
    ∙ ap (λ l. frames_hold (written_typing p d) (map frame_view l)) back
