-- A thread at a guard has no local step.
use Rattle.std.proofs.Common.{◌≡◌, true, List, Option, Some, None, refl, sym}
use Rattle.std.specs.Prelude.{option_map, is_some}
use Rattle.pat_semantics_spec.specs.Programs.{Program, Guard}
use Rattle.pat_semantics_spec.specs.Configs.{Frame, Thread}
use Rattle.pat_semantics_spec.specs.Steps.{Redex, At, redex, local_at, local_step}
use Rattle.pat_reduce.specs.threads.ThreadActs.{Guarding, guard_at}

still_at : (p : Program) (r : Redex) (frames : List Frame) (g : Guarding) → guard_at r ≡ Some g → local_at p r frames ≡ None
still_at p (At (Guard x e free cs) env) frames g at = refl
still_at p _ frames g at = absurd (cc)

pub guard_still : {A : Type 0} (view : A → Guarding) (p : Program) (s : Thread) (o : Option A) → is_some o ≡ true → option_map view o ≡ guard_at (redex p s.control) → local_step p s ≡ None
guard_still view p s None some at = cc
guard_still view p s (Some g) some at = still_at p (redex p s.control) s.frames (view g) (sym at)
