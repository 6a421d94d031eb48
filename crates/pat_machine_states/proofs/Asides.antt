-- A thread's state that is set aside, and what stands in its place.
use Rattle.std.proofs.Common.{◌≡◌, ℕ, suc, ◌≤◌, Bool, true, List, [], ◌∷◌, length, Some, refl, sym, ap, ◌∙◌, subst, arith}
use Rattle.std.specs.Prelude.{◌==◌}
use Rattle.std.proofs.lemmas.Bool.{eqb-true}
use Rattle.std.proofs.lemmas.List.{length-map, append-nil}
use Rattle.pat_semantics_spec.specs.Configs.{Frame, Thread, Config, thread_at, with_thread}
use Rattle.pat_machine_spec.specs.Tops.{below, over}
use Rattle.pat_reduce.specs.declared.threads.state.ThreadState.{ThreadState}
use Rattle.pat_reduce.specs.threads.ThreadViews.{frame_view, thread_view}
use Rattle.pat_machine_laws.proofs.Locals.{there_after, with_twice, with_same}
use Rattle.pat_machine_threads.specs.declared.asides.Aside.{Aside}
use Rattle.pat_machine_threads.specs.Aside.{aside_view}
use Rattle.pat_machine_states.specs.Asides.{IsAside}

module _ (old new : Config) (t : ℕ) (top : ThreadState) (kept : Aside) (a : IsAside old t top kept new) where
  -- the top stands there
  pub top_there : thread_at new t ≡ Some (thread_view top)
  top_there = ap (λ (d : Config). thread_at d t) a.put ∙ there_after old t (aside_view kept) (thread_view top) a.there

  -- there is room for a frame more than it has
  pub room_there : suc (length (thread_view top).frames) ≤ kept.frames.1
  room_there =
      let enough = a.room in
      let len = length-map top.frames frame_view in
      omega arith

  pub room_for : (s : Thread) → thread_at new t ≡ Some s → length s.frames ≤ kept.frames.1
  room_for s at =
      let both : Some (thread_view top) ≡ Some s = sym top_there ∙ at in
      let same : thread_view top ≡ s = cc in
      let enough = room_there in
      subst (λ (x : Thread). length x.frames ≤ kept.frames.1) same (omega arith)

  -- what was set aside, put back
  pub back_there : with_thread new t (aside_view kept) ≡ old
  back_there =
      ap (λ (d : Config). with_thread d t (aside_view kept)) a.put
      ∙ with_twice old t (thread_view top) (aside_view kept)
      ∙ with_same old t (aside_view kept) a.there

none_if_no_length : (fs : List Frame) → (length fs == 0) ≡ true → fs ≡ []
none_if_no_length [] none = refl
none_if_no_length (f ∷ fs) none = let some = eqb-true (length (f ∷ fs)) 0 none in absurd (omega arith)

over_none : (x : Thread) (fs : List Frame) → (length fs == 0) ≡ true → over x fs ≡ x
over_none x fs none =
    ap (over x) (none_if_no_length fs none) ∙ ap (λ own. record { control = x.control; frames = own }) (append-nil x.frames)

-- a top over none of the thread's frames is the whole thread
pub over_whole : (d c : Config) (t gone : ℕ) (x s : Thread) (b : Bool) → d ≡ c → ((s : Thread) → thread_at d t ≡ Some s → b ≡ (length (below gone s) == 0)) → b ≡ true → thread_at c t ≡ Some s → over x (below gone s) ≡ x
over_whole d c t gone x s b same says holds at =
    over_none x (below gone s) (sym (says s (subst (λ (e : Config). thread_at e t ≡ Some s) (sym same) at)) ∙ holds)
