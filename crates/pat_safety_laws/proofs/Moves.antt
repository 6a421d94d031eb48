-- A control gives way to another, to which each holding passes, and the configuration stays typed.
use Rattle.std.proofs.Common.{◌≡◌, ℕ, true, ◌++◌, Some, sym, subst, map, ⊎_elim, Bool, ◌&&◌, not, [], refl, ap, ◌∙◌}
use Rattle.std.specs.List.{list_any}
use Rattle.std.proofs.lemmas.Bool.{or_cases, or_left, or_right, and_from, and_parts}
use Rattle.pat_semantics_spec.specs.Programs.{Program, is_among, Core, core_at, parts, is_free, keep}
use Rattle.pat_semantics_spec.specs.Configs.{Control, Thread, Config, thread_at, with_thread, env_refers, control_refers, thread_refers, pending, Running}
use Rattle.pat_semantics_spec.specs.Steps.{thread_of, at_node}
use Rattle.pat_type_system_spec.specs.Types.{PassesTo, TypeFits, EnvPasses}
use Rattle.pat_type_system_spec.specs.Typings.{Typing, IsTyping}
use Rattle.pat_type_system_spec.specs.Holdings.{control_held, frame_held, message_held, holdings, Balanced, held, wanted}
use Rattle.pat_type_system_spec.specs.Typed.{IsTyped, ThreadFits, ControlFits, PartFits}
use Rattle.pat_safety_laws.proofs.Balance.{passes_refine}
use Rattle.pat_semantics_laws.proofs.Threads.{lookup_all}
use Rattle.pat_safety_laws.proofs.ThreadHoldings.{split_thread, replace_one}
use Rattle.pat_safety_laws.proofs.Replace.{replace_keeps}
use Rattle.pat_safety_laws.proofs.Narrow.{keeps_passes, Narrowed, keep_narrows, narrow_part, narrow_refers, narrow_passes}
use Rattle.pat_semantics_spec.specs.Values.{Env}
use Rattle.pat_semantics_spec.specs.WellFormed.{WellFormed}
use Rattle.pat_type_system_laws.proofs.Nodes.{part_core}
use Rattle.pat_type_system_laws.proofs.Named.{part_kind}
use Rattle.pat_type_system_laws.proofs.Unused.{unused_drops}

-- the new control has what the old one had, and no more
pub record Move (p : Program) (y : Typing) (interfaces : ℕ → ℕ) (s : Thread) (k : Control) : Type 0 where
  pub fits : ControlFits p y interfaces k s.frames
  pub passes : (b : ℕ) → PassesTo (control_held p y b s.control s.frames) (control_held p y b k s.frames)
  pub refers : (a : ℕ) → control_refers a k ≡ true → control_refers a s.control ≡ true

pub move_thread : (p : Program) (y : Typing) (interfaces : ℕ → ℕ) (s : Thread) (k : Control) → ThreadFits p y interfaces s → Move p y interfaces s k → ThreadFits p y interfaces (thread_of k s.frames)
move_thread p y f s k fits m = record {
  control = m.fits;
  frames = fits.frames;
  control_keeps = keeps_passes (λ b. control_held p y b s.control s.frames) (λ b. control_held p y b k s.frames) s.frames m.passes fits.control_keeps;
  frames_keep = fits.frames_keep;
}

pub move_refers : (p : Program) (y : Typing) (interfaces : ℕ → ℕ) (s : Thread) (k : Control) → Move p y interfaces s k → (a : ℕ) → thread_refers a (thread_of k s.frames) ≡ true → thread_refers a s ≡ true
move_refers p y f s k m a h =
    ⊎_elim
    (λ l. or_left (control_refers a s.control) (list_any (λ x. env_refers a x.env) s.frames) (m.refers a l))
    (λ r. or_right (control_refers a s.control) (list_any (λ x. env_refers a x.env) s.frames) r)
    (or_cases (control_refers a k) (list_any (λ x. env_refers a x.env) s.frames) h)

pub move_balanced : (p : Program) (y : Typing) (interfaces : ℕ → ℕ) (c : Config) (t : ℕ) (s : Thread) (k : Control) → thread_at c t ≡ Some s → (a : ℕ) → PassesTo (control_held p y a s.control s.frames) (control_held p y a k s.frames) → Balanced (holdings p y interfaces c a) (pending c a) → Balanced (holdings p y interfaces (with_thread c t (thread_of k s.frames)) a) (pending c a)
move_balanced p y interfaces c t s k there a passes b =
    let ms = map (message_held p interfaces a) c.messages in
    let r = thread_of k s.frames in
    let split = split_thread p y a t s c.threads there in
    let fs = map (frame_held y a) s.frames in
    let h = control_held p y a s.control s.frames in
    let h' = control_held p y a k s.frames in
    let old = subst (λ l. Balanced (l ++ ms) (pending c a)) split.now_is b in
    let new = replace_one split.before fs split.after ms h h' (pending c a) (pending c a) (passes_refine h h' (pending c a) passes) old in
    subst (λ l. Balanced (l ++ ms) (pending c a)) (sym (split.changed_is r)) new

pub move_keeps : (p : Program) (y : Typing) (interfaces : ℕ → ℕ) (c : Config) (t : ℕ) (s : Thread) (k : Control) (typed : IsTyped p y interfaces c) → thread_at c t ≡ Some s → Move p y interfaces s k → IsTyped p y interfaces (with_thread c t (thread_of k s.frames))
move_keeps p y interfaces c t s k typed there m =
    replace_keeps p y interfaces c t s (thread_of k s.frames) typed there
    (move_thread p y interfaces s k (lookup_all (λ s. ThreadFits p y interfaces s) c.threads t s typed.threads there) m)
    (move_refers p y interfaces s k m)
    (λ a b. move_balanced p y interfaces c t s k there a (m.passes a) b)

-- ---- a part of the node goes on

-- no variable is left out
pub all_but : (f : ℕ → Bool) (env env' : Env) → Narrowed f env env' → Narrowed (λ z. f z && not (is_among z [])) env env'
all_but f env env' w = record {
  keys = w.keys;
  inside = λ z v at. let q = w.inside z v at in (and_from (f z) true q.0 refl, q.1);
  still = λ z v at h. w.still z v at (and_parts (f z) true h).0;
}

-- the part of the thread that goes on with part m of its node
pub goes_on : (p : Program) (interfaces : ℕ → ℕ) (n m : ℕ) (core : Core) (env : Env) → WellFormed p → core_at p n ≡ Some core → is_among m (parts core) ≡ true → ((z : ℕ) → is_free p z m ≡ true → is_free p z n ≡ true) → PartFits p interfaces n [] env → PartFits p interfaces m [] (keep p m env)
goes_on p f n m core env wf at part sub fits =
    let body = part_core p n core wf at m part in
    narrow_part p f n m [] env (keep p m env) fits (all_but (λ z. is_free p z m) env (keep p m env) (keep_narrows p m env fits.keys)) (λ z free out. sub z free) (λ z k h. part_kind p n z k core wf at m part h) body.0 body.1

-- a move to a part of the node
pub part_move : (p : Program) (y : Typing) (interfaces : ℕ → ℕ) (s : Thread) (n m : ℕ) (core : Core) (env : Env) → WellFormed p → IsTyping p y → ThreadFits p y interfaces s → s.control ≡ Running n env → core_at p n ≡ Some core → is_among m (parts core) ≡ true → ((z : ℕ) → is_free p z m ≡ true → is_free p z n ≡ true) → EnvPasses (y.envs n) (y.envs m) → y.results m ≡ y.results n → Move p y interfaces s (at_node p m env)
part_move p y f s n m core env wf typing fits at there part sub passes result =
    let control = subst (λ k. ControlFits p y f k s.frames) at fits.control in
    let narrowed = keep_narrows p m env control.0.keys in
    let body = part_core p n core wf there m part in
    record {
      fits = (goes_on p f n m core env wf there part sub control.0, subst (λ w. TypeFits w (wanted p y s.frames)) (sym result) control.1);
      passes = λ b. subst (λ k. PassesTo (control_held p y b k s.frames) (held (y.envs m) b (keep p m env))) (sym at)
          (narrow_passes (λ z. is_free p z m) (y.envs n) (y.envs m) env (keep p m env) b control.0.keys control.0.different narrowed (λ z h. passes z) (λ z off. unused_drops p y wf typing z m body.0 body.1 off));
      refers = λ a h. ap (control_refers a) at ∙ narrow_refers (λ z. is_free p z m) env (keep p m env) a narrowed h;
    }
