-- The shared step of a turn, and the mailbox that it makes.
use Rattle.std.proofs.Common.{◌≡◌, ℕ, List, [], ◌∷◌, ◌++◌, length, get_or, Some, None, refl, sym, ap, ◌∙◌, subst, append-nil, IsFalse}
use Rattle.std.specs.Prelude.{option_map, unwrap_or}
use Rattle.pat_semantics_spec.specs.Programs.{Program, option_list}
use Rattle.pat_semantics_spec.specs.Configs.{Config, thread_at}
use Rattle.pat_semantics_spec.specs.Steps.{Act, Step, step}
use Rattle.pat_semantics_spec.specs.Runs.{can_step_thread}
use Rattle.pat_type_system_spec.specs.Interfaces.{made_by}
use Rattle.std.proofs.lemmas.Option.{slice_get_read}
use Rattle.pat_reduce.specs.declared.threads.state.ThreadState.{ThreadState}
use Rattle.pat_reduce.specs.declared.config.Config.{Config as CodeConfig}
use Rattle.pat_reduce.specs.threads.ThreadViews.{thread_view}
use Rattle.pat_reduce.specs.Views.{config_view}
use Rattle.pat_reduce.specs.Places.{IsPlace}
use Rattle.pat_reduce.specs.Acts.{IsFirst}
use Rattle.pat_checkpoint_spec.specs.Resumed.{made_along}
use Rattle.pat_checkpoint_laws.specs.resuming.Laws.{ActIsFirst}
use Rattle.pat_checkpoint_run.specs.Courses.{Shares}

-- no step of the thread is enabled
pub none_shared : (p : Program) (c : Config) (t : ℕ) (before : List ℕ) → ActIsFirst → IsFalse (can_step_thread p c t) → Shares p t c before None c before
none_shared p c t before acts none = record {
  act = sym ((acts p c t).1 none);
  config = refl;
  made_is = sym (append-nil before);
}

-- the thread at its place
pub thread_there : (k config : CodeConfig) (t i : ℕ) (e : ℕ × ThreadState) → k ≡ config → IsPlace config.threads t i → e ≡ get_or k.threads i e → thread_at (config_view config) t ≡ Some (thread_view e.1)
thread_there k config t i e same at is =
    let own = subst (λ (d : CodeConfig). IsPlace d.threads t i) (sym same) at in
    ap (λ (d : CodeConfig). thread_at (config_view d) t) (sym same) ∙ (own.state e (slice_get_read k.threads (length k.threads) i e refl own.within is)).1

-- what one enabled step makes
one_makes : (p : Program) (c d : Config) (k : Step) → step p c k ≡ Some d → made_along p c (k ∷ []) ≡ option_list (made_by p k.act (thread_at c k.thread))
one_makes p c d k h =
    ap (λ o. option_list (made_by p k.act (thread_at c k.thread)) ++ unwrap_or (option_map (λ x. made_along p x []) o) []) h
    ∙ append-nil (option_list (made_by p k.act (thread_at c k.thread)))

-- the act is enabled, and is taken
pub act_shared : (p : Program) (c d : Config) (t : ℕ) (before made : List ℕ) (a : Act) → ActIsFirst → IsFirst p c t (Some a) → step p c (record { thread = t; act = a }) ≡ Some d
    → made ≡ before ++ option_list (made_by p a (thread_at c t)) → Shares p t c before (Some a) d made
act_shared p c d t before made a acts first taken is = record {
  act = sym ((acts p c t).0 a (d, taken) (λ k same. subst (λ x. IsFirst p c t (Some x)) same first));
  config = sym (ap (λ o. unwrap_or o c) taken);
  made_is = is ∙ ap (λ l. before ++ l) (sym (one_makes p c d (record { thread = t; act = a }) taken));
}
