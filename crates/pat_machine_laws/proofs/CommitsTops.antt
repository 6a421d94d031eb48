-- Local steps of a thread with further frames below its own: each looks at the frame on top alone.
use Rattle.std.proofs.Common.{◌≡◌, ℕ, zero, suc, ◌+◌, ◌<◌, ◌≤◌, List, [], ◌∷◌, ◌++◌, length, Option, Some, None, refl, sym, ap, ◌∙◌, subst, arith, ◌⊎◌, inl, inr, ⊎_elim}
use Rattle.std.specs.Prelude.{option_map, option_and_then}
use Rattle.std.proofs.lemmas.Bool.{cases_lt}
use Rattle.std.proofs.lemmas.List.{take-append-drop, take_all, drop_all, length-take-le, append-nil}
use Rattle.pat_semantics_spec.specs.Values.{Value, Const, Mailbox, BoolConst, Env, eval, eval_all}
use Rattle.pat_semantics_spec.specs.Programs.{Program, Function, Val, Let, Call, If, function_at}
use Rattle.pat_semantics_spec.specs.Configs.{Frame, Thread}
use Rattle.pat_semantics_spec.specs.Steps.{Redex, At, Done, Nowhere, redex, thread_of, at_node, frame_of, resume, enter, choose, local_at, local_step}
use Rattle.pat_machine_spec.specs.Commits.{locally, IsLocalRun}
use Rattle.pat_machine_spec.specs.Tops.{top_of, below, over}
use Rattle.pat_machine_laws.proofs.Locals.{first_local}

module _ (p : Program) (rest : List Frame) where
  abbrev lower : Thread → Thread
  lower s = over s rest

  resumed : (f : Frame) (fs : List Frame) (o : Option Value) → option_map (resume p f (fs ++ rest)) o ≡ option_map lower (option_map (resume p f fs) o)
  resumed f fs None = refl
  resumed f fs (Some v) = refl

  entered : (o : Option Function) (vs : Option (List Value)) (fs : List Frame) → enter p o vs (fs ++ rest) ≡ option_map lower (enter p o vs fs)
  entered None vs fs = refl
  entered (Some f) None fs = refl
  entered (Some f) (Some vs) fs = refl

  chosen : (o : Option Value) (m n : ℕ) (env : Env) (fs : List Frame) → choose p o m n env (fs ++ rest) ≡ option_map lower (choose p o m n env fs)
  chosen None m n env fs = refl
  chosen (Some (Mailbox a)) m n env fs = refl
  chosen (Some (Const (BoolConst b))) m n env fs = refl
  chosen (Some (Const _)) m n env fs = refl

  at_top : (r : Redex) (f : Frame) (fs : List Frame) → local_at p r (f ∷ fs ++ rest) ≡ option_map lower (local_at p r (f ∷ fs))
  at_top (At (Let y m n) env) f fs = refl
  at_top (At (Val e) env) f fs = resumed f fs (eval env e)
  at_top (At (Call g args) env) f fs = entered (function_at p g) (eval_all env args) (f ∷ fs)
  at_top (At (If e m n) env) f fs = chosen (eval env e) m n env (f ∷ fs)
  at_top (At _ env) f fs = refl
  at_top (Done v) f fs = refl
  at_top Nowhere f fs = refl

  at_some : (r : Redex) (fs : List Frame) → 0 < length fs → local_at p r (fs ++ rest) ≡ option_map lower (local_at p r fs)
  at_some r [] some = absurd (omega arith)
  at_some r (f ∷ fs) some = at_top r f fs

  -- where there is a frame, those below it don't matter
  pub step_over : (s : Thread) → 0 < length s.frames → local_step p (over s rest) ≡ option_map lower (local_step p s)
  step_over s some = at_some (redex p s.control) s.frames some

-- a local step takes at most one frame off
module _ (p : Program) (q : Thread) where
  resumed_less : (f : Frame) (fs : List Frame) (o : Option Value) → option_map (resume p f fs) o ≡ Some q → length (f ∷ fs) ≤ suc (length q.frames)
  resumed_less f fs None h = cc
  resumed_less f fs (Some v) h = let same : resume p f fs v ≡ q = cc in subst (λ (x : Thread). length (f ∷ fs) ≤ suc (length x.frames)) same (omega arith)

  entered_less : (o : Option Function) (vs : Option (List Value)) (fs : List Frame) → enter p o vs fs ≡ Some q → length fs ≤ suc (length q.frames)
  entered_less None vs fs h = cc
  entered_less (Some f) None fs h = cc
  entered_less (Some f) (Some vs) fs h = let same : fs ≡ q.frames = cc in subst (λ (x : List Frame). length fs ≤ suc (length x)) same (omega arith)

  chosen_less : (o : Option Value) (m n : ℕ) (env : Env) (fs : List Frame) → choose p o m n env fs ≡ Some q → length fs ≤ suc (length q.frames)
  chosen_less None m n env fs h = cc
  chosen_less (Some (Mailbox a)) m n env fs h = cc
  chosen_less (Some (Const (BoolConst b))) m n env fs h = let same : fs ≡ q.frames = cc in subst (λ (x : List Frame). length fs ≤ suc (length x)) same (omega arith)
  chosen_less (Some (Const _)) m n env fs h = cc

  at_less : (r : Redex) (fs : List Frame) → local_at p r fs ≡ Some q → length fs ≤ suc (length q.frames)
  at_less (At (Let y m n) env) fs h =
      let same : thread_of (at_node p m env) (frame_of p y n env ∷ fs) ≡ q = cc in
      subst (λ (x : Thread). length fs ≤ suc (length x.frames)) same (omega arith)
  at_less (At (Val e) env) [] h = omega arith
  at_less (At (Val e) env) (f ∷ fs) h = resumed_less f fs (eval env e) h
  at_less (At (Call g args) env) fs h = entered_less (function_at p g) (eval_all env args) fs h
  at_less (At (If e m n) env) fs h = chosen_less (eval env e) m n env fs h
  at_less (At _ env) fs h = cc
  at_less (Done v) [] h = omega arith
  at_less (Done v) (f ∷ fs) h = let same : resume p f fs v ≡ q = cc in subst (λ (x : Thread). length (f ∷ fs) ≤ suc (length x.frames)) same (omega arith)
  at_less Nowhere fs h = cc

-- as many steps as there are frames, over further frames
locally_over : (p : Program) (rest : List Frame) (k : ℕ) (s r : Thread) → k ≤ length s.frames → locally p k s ≡ Some r → (locally p k (over s rest) ≡ Some (over r rest)) × (length s.frames ≤ k + length r.frames)
locally_over p rest zero s r enough h =
    let same : s ≡ r = cc in
    (ap (λ (x : Thread). Some (over x rest)) same, subst (λ (x : Thread). length s.frames ≤ 0 + length x.frames) same (omega arith))
locally_over p rest (suc k) s r enough h =
    let f = first_local p k s r h in
    let less = at_less p f.0 (redex p s.control) s.frames f.1 in
    let q = locally_over p rest k f.0 r (omega arith) f.2 in
    let kept = q.1 in (
      ap (option_and_then (locally p k)) (step_over p rest s (omega arith) ∙ ap (option_map (λ x. over x rest)) f.1) ∙ q.0,
      omega arith,
    )

-- a run from a thread that has a frame for each step of the allowance is one over further frames
run_over : (p : Program) (rest : List Frame) (a : ℕ) (s : Thread) (k : ℕ) (r : Thread) → a ≤ length s.frames → IsLocalRun p a s k r → IsLocalRun p a (over s rest) k (over r rest)
run_over p rest a s k r enough h =
    let within = h.within in
    let q = locally_over p rest k s r (omega arith) h.taken in
    let kept = q.1 in
    record {
      taken = q.0;
      within = h.within;
      whole = λ less. step_over p rest r (omega arith) ∙ ap (option_map (λ x. over x rest)) (h.whole less);
    }

-- what a run from the top of a thread makes of it is what it makes of the thread
pub top_runs : (p : Program) (a : ℕ) (s : Thread) (k : ℕ) (r : Thread) → IsLocalRun p a (top_of a s) k r → IsLocalRun p a s k (over r (below a s))
top_runs p a s k r h =
    ⊎_elim
    (λ (few : length s.frames < a).
    let all : top_of a s ≡ s = ap (thread_of s.control) (take_all a s.frames (omega arith)) in
    let none : over r (below a s) ≡ r = ap (λ l. thread_of r.control (r.frames ++ l)) (drop_all a s.frames (omega arith)) ∙ ap (thread_of r.control) (append-nil r.frames) in
    subst (λ x. IsLocalRun p a s k x) (sym none) (subst (λ x. IsLocalRun p a x k r) all h))
    (λ many.
    let enough = length-take-le a s.frames many in
    subst (λ x. IsLocalRun p a x k (over r (below a s))) (ap (thread_of s.control) (take-append-drop a s.frames))
    (run_over p (below a s) a (top_of a s) k r (omega arith) h))
    (cases_lt (length s.frames) a)

-- with steps of the allowance left, a frame is left of the top, or it was all
pub top_keeps_frame : (p : Program) (a : ℕ) (s : Thread) (k : ℕ) (r : Thread) → IsLocalRun p a (top_of a s) k r → k < a → (0 < length r.frames) ⊎ (below a s ≡ [])
top_keeps_frame p a s k r h less =
    ⊎_elim
    (λ (few : length s.frames < a). inr (drop_all a s.frames (omega arith)))
    (λ many.
    let all = length-take-le a s.frames many in
    let q = (locally_over p [] k (top_of a s) r (omega arith) h.taken).1 in
    inl (omega arith))
    (cases_lt (length s.frames) a)

-- ---- any frames on top, where the run leaves one of them

module _ (p : Program) (rest : List Frame) (r : Thread) where
  -- without a frame, whatever goes on alone goes on over others
  bare_lifts : (x : Redex) → local_at p x [] ≡ Some r → local_at p x rest ≡ Some (over r rest)
  bare_lifts (At (Let y m n) env) h = let same : thread_of (at_node p m env) (frame_of p y n env ∷ []) ≡ r = cc in ap (λ (q : Thread). Some (over q rest)) same
  bare_lifts (At (Val e) env) h = cc
  bare_lifts (At (Call g args) env) h = entered p rest (function_at p g) (eval_all env args) [] ∙ ap (option_map (λ q. over q rest)) h
  bare_lifts (At (If e m n) env) h = chosen p rest (eval env e) m n env [] ∙ ap (option_map (λ q. over q rest)) h
  bare_lifts (At _ env) h = cc
  bare_lifts (Done v) h = cc
  bare_lifts Nowhere h = cc

  lifts_at : (x : Redex) (fs : List Frame) → local_at p x fs ≡ Some r → local_at p x (fs ++ rest) ≡ Some (over r rest)
  lifts_at x [] h = bare_lifts x h
  lifts_at x (f ∷ fs) h = at_top p rest x f fs ∙ ap (option_map (λ q. over q rest)) h

-- a local step is one over further frames
step_lifts : (p : Program) (rest : List Frame) (s r : Thread) → local_step p s ≡ Some r → local_step p (over s rest) ≡ Some (over r rest)
step_lifts p rest s r h = lifts_at p rest r (redex p s.control) s.frames h

pub locally_lifts : (p : Program) (rest : List Frame) (k : ℕ) (s r : Thread) → locally p k s ≡ Some r → locally p k (over s rest) ≡ Some (over r rest)
locally_lifts p rest zero s r h = let same : s ≡ r = cc in ap (λ (x : Thread). Some (over x rest)) same
locally_lifts p rest (suc k) s r h =
    let f = first_local p k s r h in
    ap (option_and_then (locally p k)) (step_lifts p rest s f.0 f.1) ∙ locally_lifts p rest k f.0 r f.2

-- a run is one over further frames, where it leaves a frame or there are none
run_lifts : (p : Program) (rest : List Frame) (a : ℕ) (s : Thread) (k : ℕ) (r : Thread) → (0 < length r.frames) ⊎ (rest ≡ []) → IsLocalRun p a s k r → IsLocalRun p a (over s rest) k (over r rest)
run_lifts p rest a s k r left h = record {
  taken = locally_lifts p rest k s r h.taken;
  within = h.within;
  whole = λ less.
      ⊎_elim
      (λ some. step_over p rest r some ∙ ap (option_map (λ x. over x rest)) (h.whole less))
      (λ none. subst (λ l. local_step p (over r l) ≡ None) (sym none) (subst (λ x. local_step p x ≡ None) (sym (ap (thread_of r.control) (append-nil r.frames))) (h.whole less)))
      left;
}

-- what a run from any frames on top makes of them is what it makes of the thread, where it leaves one of them or they are all
pub any_top_runs : (p : Program) (a n : ℕ) (s : Thread) (k : ℕ) (r : Thread) → IsLocalRun p a (top_of n s) k r → (0 < length r.frames) ⊎ (below n s ≡ []) → IsLocalRun p a s k (over r (below n s))
any_top_runs p a n s k r h left =
    subst (λ x. IsLocalRun p a x k (over r (below n s))) (ap (thread_of s.control) (take-append-drop n s.frames)) (run_lifts p (below n s) a (top_of n s) k r left h)
