-- What a run on the top of a thread makes of the thread.
use Rattle.std.proofs.Common.{◌≡◌, ℕ, zero, suc, ◌+◌, ◌-◌, ◌<◌, ◌≤◌, List, [], ◌∷◌, length, map, take, drop, get_or, ◌++◌, Some, sym, ap, ◌∙◌, subst, arith, ◌⊎◌}
use Rattle.std.specs.Prelude.{option_and_then}
use Rattle.std.proofs.Math.Seq.{take-add}
use Rattle.pat_semantics_spec.specs.Steps.{thread_of}
use Rattle.pat_semantics_spec.specs.Programs.{Program}
use Rattle.pat_semantics_spec.specs.Configs.{Thread}
use Rattle.pat_reduce.specs.declared.threads.state.Frame.{Frame as CodeFrame}
use Rattle.pat_reduce.specs.declared.threads.state.ThreadState.{ThreadState as CodeThread}
use Rattle.pat_reduce.specs.threads.ThreadViews.{control_view, frame_view, thread_view}
use Rattle.pat_machine_spec.specs.Commits.{IsLocalRun, locally}
use Rattle.pat_machine_spec.specs.Tops.{top_of, below, over}
use Rattle.pat_machine_laws.proofs.Locals.{first_local}
use Rattle.pat_machine_laws.proofs.CommitsTops.{top_runs, any_top_runs, top_keeps_frame, locally_lifts}
use Rattle.pat_machine_threads.specs.declared.settling.Settled.{Settled}
use Rattle.pat_machine_threads.specs.Settling.{IsRunOnTop, IsBegun, IsRunOn, RunsOn, Uncovers}

-- local steps, and further ones from there
pub locals_on : (p : Program) (j k : ℕ) (s b r : Thread) → locally p j s ≡ Some b → locally p k b ≡ Some r → locally p (j + k) s ≡ Some r
locals_on p zero k s b r h g =
    let same : s ≡ b = cc in
    let all : 0 + k ≡ k = omega arith in
    ap (λ n. locally p n s) all ∙ ap (locally p k) same ∙ g
locals_on p (suc j) k s b r h g =
    let f = first_local p j s b h in
    let all : suc j + k ≡ suc (j + k) = omega arith in
    ap (λ n. locally p n s) all ∙ ap (option_and_then (locally p (j + k))) f.1 ∙ locals_on p j k f.0 b r f.2 g

-- first steps, and all that there are from there within what is left
pub runs_on : (p : Program) (a j k : ℕ) (s b r : Thread) → locally p j s ≡ Some b → j ≤ a → IsLocalRun p (a - j) b k r → IsLocalRun p a s (j + k) r
runs_on p a j k s b r begun within h =
    let left = h.within in
    record {
      taken = locals_on p j k s b r begun h.taken;
      within = omega arith;
      whole = λ less. h.whole (omega arith);
    }

-- the first frame below so many, by itself
pub one_below : (fs : List CodeFrame) (n : ℕ) (f : CodeFrame) → n < length fs → f ≡ get_or fs n f → take 1 (drop n (map frame_view fs)) ≡ frame_view f ∷ []
one_below [] n f within is = absurd (omega arith)
one_below (g ∷ fs) zero f within is = ap (λ q. frame_view q ∷ []) (sym is)
one_below (g ∷ fs) (suc n) f within is = one_below fs n f (omega arith) is

-- what steps make of some frames on top is what they make of one frame more, which stays below
one_more_frame : (p : Program) (k n : ℕ) (x e : Thread) → locally p k (top_of n x) ≡ Some e → locally p k (top_of (n + 1) x) ≡ Some (over e (take 1 (below n x)))
one_more_frame p k n x e h =
    let split : over (top_of n x) (take 1 (below n x)) ≡ top_of (n + 1) x = ap (thread_of x.control) (sym (take-add n 1 x.frames)) in
    subst (λ t. locally p k t ≡ Some (over e (take 1 (below n x)))) split (locally_lifts p (take 1 (below n x)) k (top_of n x) e h)

-- a copy of the first frame below those that were copied comes below none
pub uncovers : (x : CodeThread) (s t : Settled) (f g : CodeFrame) → s.end.frames ≡ [] → s.gone < length x.frames → f ≡ get_or x.frames s.gone f → frame_view g ≡ frame_view f
    → t.gone ≡ s.gone + 1 → t.steps ≡ s.steps → t.end.control ≡ s.end.control → t.end.frames ≡ g ∷ s.end.frames → Uncovers (thread_view x) s t
uncovers x s t f g bare there is copy gone steps control frames = record {
  gone = gone;
  steps = steps;
  below =
      ap (λ k. thread_of (control_view k) (map frame_view t.end.frames)) control
      ∙ ap (thread_of (control_view s.end.control))
      (ap (map frame_view) (frames ∙ ap (λ l. g ∷ l) bare) ∙ ap (λ q. q ∷ []) copy ∙ sym (one_below x.frames s.gone f there is)
      ∙ ap (λ l. map frame_view l ++ take 1 (drop s.gone (map frame_view x.frames))) (sym bare));
}

module _ (p : Program) (a : ℕ) (x : Thread) where
  -- what has begun runs on
  pub begun_runs : (old new : Settled) → IsBegun p a x old → RunsOn p a old new → IsRunOn p a x new
  begun_runs old new b r =
      let (k, steps, h) = r.more in
      let run = runs_on p a old.steps k (top_of old.gone x) (thread_view old.end) (thread_view new.end) b.taken b.within h in
      subst (λ m. IsLocalRun p a (top_of m x) new.steps (thread_view new.end)) (sym r.gone)
      (subst (λ m. IsLocalRun p a (top_of old.gone x) m (thread_view new.end)) (sym steps) run)

  -- and with a frame more it has begun again
  pub uncovered_begins : (old new : Settled) → IsRunOn p a x old → Uncovers x old new → IsBegun p a x new
  uncovered_begins old new h u = record {
    within = subst (λ m. m ≤ a) (sym u.steps) h.within;
    taken =
        subst (λ m. locally p new.steps (top_of m x) ≡ Some (thread_view new.end)) (sym u.gone)
        (subst (λ m. locally p m (top_of (old.gone + 1) x) ≡ Some (thread_view new.end)) (sym u.steps)
        (one_more_frame p old.steps old.gone x (thread_view old.end) h.taken ∙ ap Some (sym u.below)));
  }

  -- where it leaves one of them, or they are all, it is a run of the thread
  pub run_on_those : (s : Settled) → IsRunOn p a x s → (0 < length (thread_view s.end).frames) ⊎ (below s.gone x ≡ []) → IsRunOnTop p a x s
  run_on_those s h left = record {
    local = any_top_runs p a s.gone x s.steps (thread_view s.end) h left;
    frame = λ less. left;
  }

  -- it stays one where the end takes less room
  pub run_with_less_room : (s t : Settled) → t.gone ≡ s.gone → t.steps ≡ s.steps → thread_view t.end ≡ thread_view s.end → IsRunOnTop p a x s → IsRunOnTop p a x t
  run_with_less_room s t gone steps end h = record {
    local =
        subst (λ n. IsLocalRun p a x t.steps (over (thread_view t.end) (below n x))) (sym gone)
        (subst (λ n. IsLocalRun p a x n (over (thread_view t.end) (below s.gone x))) (sym steps)
        (subst (λ v. IsLocalRun p a x s.steps (over v (below s.gone x))) (sym end) h.local));
    frame = λ less.
        subst (λ n. (0 < length (thread_view t.end).frames) ⊎ (below n x ≡ [])) (sym gone)
        (subst (λ v. (0 < length v.frames) ⊎ (below s.gone x ≡ [])) (sym end)
        (h.frame (subst (λ n. n < a) steps less)));
  }

-- a run on a frame for each step
pub run_on_enough : (p : Program) (a : ℕ) (x : Thread) (s : Settled) → s.gone ≡ a → IsLocalRun p a (top_of a x) s.steps (thread_view s.end) → IsRunOnTop p a x s
run_on_enough p a x s gone h = record {
  local = subst (λ m. IsLocalRun p a x s.steps (over (thread_view s.end) (below m x))) (sym gone) (top_runs p a x s.steps (thread_view s.end) h);
  frame = λ less. subst (λ m. (0 < length (thread_view s.end).frames) ⊎ (below m x ≡ [])) (sym gone) (top_keeps_frame p a x s.steps (thread_view s.end) h less);
}
