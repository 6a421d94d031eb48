-- What a walk over all places looks up, and what it adds of a thread.
use Rattle.std.specs.Prelude.{◌≡◌, ℕ, ◌<◌, List, [], ◌∷◌, ◌++◌, length, map, Option, Some, None, unwrap_or, slice_get}
use Rattle.pat_semantics_spec.specs.Programs.{Core, Program}
use Rattle.pat_semantics_spec.specs.Configs.{Frame, Thread}
use Rattle.pat_type_system_spec.specs.Types.{TypeEnv, no_types}
use Rattle.pat_type_system_spec.specs.Typings.{Typing}
use Rattle.pat_type_system_spec.specs.Holdings.{let_bound, first_of_two, bound_of}
use Rattle.pat_type_schemes_spec.specs.NodeTypes.{Needs, need_of}
use Rattle.pat_derivation_spec.specs.Derivations.{Derivation}
use Rattle.pat_types.specs.Views.{needs_view}
use Rattle.pat_derivations.specs.declared.environments.lookups.LookUps.{LookUps}
use Rattle.pat_checkpoint_spec.specs.HoldingsInOrder.{Held, env_holds, control_holds, frames_hold}
use Rattle.pat_checkpoint_balances.specs.declared.walk.Tables.{Tables}

-- ---- bound parts of lets

-- what the table has at a body
abbrev pub bound_in : List (Option ℕ) → ℕ → Option ℕ
bound_in bounds b = unwrap_or (slice_get bounds b) None

-- the second table is the first with the bound part of the term, if it is a let
pub record Notes (core : Core) (old new : List (Option ℕ)) : Type 0 where
  pub counts : length new ≡ length old
  pub notes : (b : ℕ) → b < length old → bound_in new b ≡ first_of_two (let_bound b core) (bound_in old b)

-- ---- environments of nodes

-- what each of the look-ups is for
abbrev pub needs_of : List LookUps → List Needs
needs_of envs = map (λ l. needs_view l.env.now) envs

-- the types of the variables that stand at a place, if there are any
abbrev pub env_with : Option Needs → TypeEnv
env_with None = no_types
env_with (Some needs) = need_of needs

abbrev pub env_at : List Needs → ℕ → TypeEnv
env_at envs n = env_with (slice_get envs n)

-- the tables are those of the program and the derivation
pub record AreTables (p : Program) (d : Derivation) (t : Tables) : Type 0 where
  pub envs : needs_of t.envs ≡ map (λ l. l.of.needs) d.lines
  pub bounds : (b : ℕ) → bound_in t.bounds b ≡ bound_of p.nodes b

-- ---- parts of threads

-- what frames hold one after another, in the order in which they are given
abbrev pub frames_hold_in_turn : List Needs → List Frame → List Held
frames_hold_in_turn envs [] = []
frames_hold_in_turn envs (f ∷ fs) = env_holds (env_at envs f.body) f.env ++ frames_hold_in_turn envs fs

-- what a thread holds
abbrev pub thread_holds : Program → Typing → Thread → List Held
thread_holds p y s = control_holds p y s.control s.frames ++ frames_hold y s.frames
