-- Local steps that aren't there.
use Rattle.std.proofs.Common.{◌≡◌, ℕ, List, [], ◌∷◌, Option, Some, None, Err, refl, ap, ◌∙◌}
use Rattle.std.specs.Prelude.{option_map}
use Rattle.pat_semantics_spec.specs.Values.{Value, Expr, Env, eval, eval_all}
use Rattle.pat_semantics_spec.specs.Programs.{Program, Function, Val, Call, function_at}
use Rattle.pat_semantics_spec.specs.Configs.{Frame, Thread}
use Rattle.pat_semantics_spec.specs.Steps.{At, redex, numbered, resume, enter, local_at, local_step}
use Rattle.pat_reduce_values.specs.declared.error.StepError.{StepError}
use Rattle.pat_reduce_values.specs.declared.error.StepError.TheVariants.{Disabled, NoMemory}
use Rattle.pat_reduce_values.specs.Results.{Gives, StepGives}
use Rattle.pat_reduce.specs.threads.ThreadActs.{entered}

-- where nothing is computed nothing changes, and there is no step where there is nothing to be computed
pub refused : {A B C D : Type 0} (view : A → B) (o : Option B) (see : C → D) (after : Option D) (old new : C) (e : StepError) → (o ≡ None → after ≡ None) → new ≡ old → Gives view o (Err e) → StepGives see after old new (Err e)
refused view o see after old new Disabled none same gives = (none gives, same)
refused view o see after old new NoMemory none same gives = same

module _ (p : Program) where
  no_value : (frames : List Frame) (e : Expr) (env : Env) → eval env e ≡ None → local_at p (At (Val e) env) frames ≡ None
  no_value [] e env none = refl
  no_value (f ∷ frames) e env none = ap (option_map (resume p f frames)) none

  no_entry : (f : Option Function) (vs : Option (List Value)) (frames : List Frame) → entered p f (option_map (numbered 0) vs) ≡ None → enter p f vs frames ≡ None
  no_entry None vs frames none = refl
  no_entry (Some f) None frames none = refl
  no_entry (Some f) (Some vs) frames none = absurd cc

  module _ (t : Thread) where
    -- an expression without a value,
    pub value_refused : (e : Expr) (env : Env) → redex p t.control ≡ At (Val e) env → eval env e ≡ None → local_step p t ≡ None
    value_refused e env at none = ap (λ r. local_at p r t.frames) at ∙ no_value t.frames e env none

    -- or a call of no function, or of one without values
    pub call_refused : (f : ℕ) (args : List Expr) (env : Env) → redex p t.control ≡ At (Call f args) env → entered p (function_at p f) (option_map (numbered 0) (eval_all env args)) ≡ None → local_step p t ≡ None
    call_refused f args env at none = ap (λ r. local_at p r t.frames) at ∙ no_entry (function_at p f) (eval_all env args) t.frames none
