-- What a thread names after a shared step: its frames stay, so a name that it let go was above them.
use Rattle.std.proofs.Common.{◌≡◌, ℕ, true, false, List, [], Option, Some, None, refl, sym, ap, ◌∙◌, ◌⊎◌, inl, inr, ⊎_elim, take, drop}
use Rattle.std.specs.Prelude.{option_and_then}
use Rattle.std.specs.List.{list_any}
use Rattle.std.proofs.lemmas.Bool.{or_cases, or_left, or_right}
use Rattle.std.proofs.lemmas.List.{take-append-drop}
use Rattle.pat_semantics_spec.specs.Programs.{Program}
use Rattle.pat_semantics_spec.specs.Configs.{Control, Frame, Thread, Config, thread_at, with_thread, control_refers, env_refers, thread_refers}
use Rattle.pat_semantics_spec.specs.Steps.{redex, Act, ActLocal, ActNew, ActSend, ActSpawn, ActPrint, ActEnd, ActFree, ActReceive, step, thread_step, thread_of}
use Rattle.pat_semantics_spec.specs.Runs.{IsShared, IsSharedOrNone, run_from, shared_step}
use Rattle.pat_semantics_laws.proofs.Lists.{clash, any-append, any_last}
use Rattle.pat_semantics_laws.proofs.Inversion.{step_of, print_step, new_step, receive_step, send_step, spawn_step, end_step, EndStep, end_value, end_return, free_step}
use Rattle.pat_machine_spec.specs.Tops.{top_of, below, over}
use Rattle.pat_machine_laws.proofs.CommitsLookUps.{lookup_longer}
use Rattle.pat_machine_laws.proofs.Locals.{there_after}
use Rattle.pat_machine_laws.specs.wakeups.Wakings.{is_named_by}

-- whether a frame refers to the mailbox
abbrev frames_refer : ℕ → List Frame → Rattle.std.specs.Prelude.Bool
frames_refer a fs = list_any (λ f. env_refers a f.env) fs

module _ (p : Program) (c : Config) (t : ℕ) (s : Thread) (there : thread_at c t ≡ Some s) (a : ℕ) (named : frames_refer a s.frames ≡ true) where
  -- where the thread has its frames still
  by_frames : (e : Config) (control : Control) → thread_at e t ≡ Some (thread_of control s.frames) → is_named_by a (thread_at e t) ≡ true
  by_frames e control at = ap (is_named_by a) at ∙ or_right (control_refers a control) (frames_refer a s.frames) named

  -- exchanged in the configuration
  exchanged : (control : Control) → thread_at (with_thread c t (thread_of control s.frames)) t ≡ Some (thread_of control s.frames)
  exchanged control = there_after c t s (thread_of control s.frames) there

  act_names : (b : Act) (d : Config) → IsShared b → thread_step p c t s b ≡ Some d → is_named_by a (thread_at d t) ≡ true
  act_names ActLocal d shared h = absurd shared
  act_names ActNew d shared h =
      let q = new_step p c t s d (redex p s.control) refl h in
      by_frames d _ (ap (λ e. thread_at e t) q.result ∙ exchanged _)
  act_names ActSend d shared h =
      let q = send_step p c t s d (redex p s.control) refl h in
      by_frames d _ (ap (λ e. thread_at e t) q.result ∙ exchanged _)
  act_names ActSpawn d shared h =
      let q = spawn_step p c t s d (redex p s.control) refl h in
      by_frames d _ (ap (λ e. thread_at e t) q.result ∙ lookup_longer _ _ t _ (exchanged _))
  act_names ActPrint d shared h =
      let q = print_step p c t s d (redex p s.control) refl h in
      by_frames d _ (ap (λ e. thread_at e t) q.result ∙ exchanged _)
  act_names ActEnd d shared h = ended (end_step p c t s d s.frames (redex p s.control) refl refl h)
    where
      ended : EndStep p c t s d → is_named_by a (thread_at d t) ≡ true
      ended (end_value e env at none is) = absurd (clash named (ap (frames_refer a) none))
      ended (end_return v at none is) = absurd (clash named (ap (frames_refer a) none))
  act_names ActFree d shared h =
      let q = free_step p c t s d (redex p s.control) refl h in
      by_frames d _ (ap (λ e. thread_at e t) q.result ∙ exchanged _)
  act_names (ActReceive k) d shared h =
      let q = receive_step p c t k s d (redex p s.control) refl h in
      by_frames d _ (ap (λ e. thread_at e t) q.result ∙ there_after c t s _ there)

  -- and where there is no shared act
  frames_named : (act : Option Act) (d : Config) → IsSharedOrNone act → run_from p c (shared_step t act) ≡ Some d → is_named_by a (thread_at d t) ≡ true
  frames_named None d shared h =
      let same : c ≡ d = cc in
      ap (λ e. is_named_by a (thread_at e t)) (sym same) ∙ by_frames c s.control there
  frames_named (Some b) d shared h = go (step p c (record { thread = t; act = b })) refl h
    where
      go : (o : Option Config) → step p c (record { thread = t; act = b }) ≡ o → option_and_then (λ e. run_from p e []) o ≡ Some d → is_named_by a (thread_at d t) ≡ true
      go None is k = cc
      go (Some e) is k =
          let same : e ≡ d = cc in
          let o = step_of p c (record { thread = t; act = b }) e is in
          let both : Some o.thread ≡ Some s = sym o.there ∙ there in
          let now : o.thread ≡ s = cc in
          ap (λ x. is_named_by a (thread_at x t)) (sym same) ∙ act_names b e shared (ap (λ w. thread_step p c t w b) (sym now) ∙ o.gives)

-- what a thread names is named in its top, or below
top_or_below : (a n : ℕ) (s : Thread) → thread_refers a s ≡ true → (thread_refers a (top_of n s) ≡ true) ⊎ (frames_refer a (below n s) ≡ true)
top_or_below a n s h = ⊎_elim
    (λ own. inl (or_left (control_refers a s.control) (frames_refer a (take n s.frames)) own))
    (λ rest. ⊎_elim
    (λ high. inl (or_right (control_refers a s.control) (frames_refer a (take n s.frames)) high))
    (λ low. inr low)
    (any-append (λ f. env_refers a f.env) (take n s.frames) (drop n s.frames) (ap (frames_refer a) (take-append-drop n s.frames) ∙ rest)))
    (or_cases (control_refers a s.control) (frames_refer a s.frames) h)

pub top_lets_go : (p : Program) (c d : Config) (t n : ℕ) (kept end : Thread) (act : Option Act) (a : ℕ) → thread_at c t ≡ Some kept → IsSharedOrNone act
    → run_from p (with_thread c t (over end (below n kept))) (shared_step t act) ≡ Some d
    → thread_refers a kept ≡ true → is_named_by a (thread_at d t) ≡ false → thread_refers a (top_of n kept) ≡ true
top_lets_go p c d t n kept end act a there shared run names gone = ⊎_elim
    (λ top. top)
    (λ low.
    let s = over end (below n kept) in
    absurd (clash (frames_named p (with_thread c t s) t s (there_after c t kept s there) a (any_last (λ f. env_refers a f.env) end.frames (below n kept) low) act d shared run) gone))
    (top_or_below a n kept names)
