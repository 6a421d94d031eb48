-- The shared steps of the thread at a place, as the code takes them.
use Rattle.std.proofs.Common.{◌≡◌, ℕ, zero, suc, ◌+◌, ◌<◌, Bool, true, false, not, nat_eq, List, [], ◌∷◌, ◌++◌, map, length, Some, None, slice_get, slice_set, get_or, Err, refl, sym, ap, ◌∙◌, arith}
use Rattle.std.specs.Prelude.{option_map, filter, ◌||◌}
use Rattle.std.specs.List.{list_any}
use Rattle.std.specs.Map.{set_value}
use Rattle.std.proofs.lemmas.Bool.{cond-true}
use Rattle.std.proofs.lemmas.List.{map-append, set-append_left, length-append}
use Rattle.std.proofs.lemmas.Option.{slice_get_read}
use Rattle.pat_semantics_spec.specs.Programs.{Program}
use Rattle.pat_semantics_spec.specs.Configs.{thread_at, control_refers, env_refers}
use Rattle.pat_semantics_spec.specs.Steps.{ActNew, ActSend, ActSpawn, ActPrint, ActFree, ActReceive, redex, thread_of, step}
use Rattle.pat_reduce_values.specs.declared.values.Value.TheVariants as value
use Rattle.pat_reduce.specs.declared.threads.state.Control.{Control as CodeControl}
use Rattle.pat_reduce.specs.declared.threads.state.Control.TheVariants as control
use Rattle.pat_reduce.specs.declared.threads.state.Frame.{Frame as CodeFrame}
use Rattle.pat_reduce.specs.declared.threads.state.ThreadState.{ThreadState}
use Rattle.pat_reduce.specs.declared.threads.state.Message.{Message as CodeMessage}
use Rattle.pat_reduce.specs.declared.config.Config.{Config as CodeConfig}
use Rattle.pat_reduce_values.specs.declared.error.StepError.{StepError}
use Rattle.pat_reduce_values.specs.Results.{Gives, StepGives}
use Rattle.pat_reduce.specs.threads.ThreadViews.{control_view, frame_view, message_view, thread_view}
use Rattle.pat_reduce.specs.Views.{freed_view, threads_view, config_view}
use Rattle.pat_reduce.specs.Places.{IsPlace}
use Rattle.pat_reduce.specs.threads.ThreadActs.{is_new, redex_message, redex_line, spawned, redex_received}
use Rattle.pat_reduce.specs.Acts.{redex_freed}
use Rattle.pat_reduce.proofs.Shared.{made, sent, begun, said, freed, taken, new_step, send_step, spawn_step, print_step, free_step, receive_step, refused}
use Rattle.pat_reduce_values.proofs.Finds.{any_reversed}

abbrev pub Threads : Type 0
Threads = List (ℕ × ThreadState)

abbrev pub with_control : ThreadState → CodeControl → ThreadState
with_control st k = record { control = k; frames = st.frames }

-- what is read at a place is the thread there
pub stands : (threads : Threads) (t i : ℕ) (e : ℕ × ThreadState) → IsPlace threads t i → e ≡ get_or threads i e → slice_get threads i ≡ Some (t, (get_or threads i e).1)
stands threads t i e at is =
    let got = slice_get_read threads (length threads) i e refl at.within is in
    got ∙ ap (λ (n : ℕ). Some (n, e.1)) (at.state e got).0 ∙ ap (λ (q : ℕ × ThreadState). Some (t, q.1)) is

-- what is at a place of a longer list
longer : {A : Type 0} (xs : List A) (y : A) (i : ℕ) (x : A) → slice_get xs i ≡ Some x → slice_get (xs ++ y ∷ []) i ≡ Some x
longer [] y i x h = cc
longer (z ∷ xs) y zero x h = h
longer (z ∷ xs) y (suc i) x h = longer xs y i x h

module _ (p : Program) (c : CodeConfig) (threads : Threads) (t i : ℕ) (st : ThreadState) (same : threads ≡ c.threads) (at : IsPlace c.threads t i) (got : slice_get threads i ≡ Some (t, st)) where
  own : slice_get c.threads i ≡ Some (t, st)
  own = ap (λ l. slice_get l i) (sym same) ∙ got

  pub there : thread_at (config_view c) t ≡ Some (thread_view st)
  there = (at.state (t, st) own).1

  pub free_refused : (e : StepError) → Gives freed_view (redex_freed p (config_view c) t (redex p (control_view st.control))) (Err e)
      → StepGives config_view (step p (config_view c) (record { thread = t; act = ActFree })) c c (Err e)
  free_refused e gives = refused freed_view (freed (config_view c) t (map frame_view st.frames)) config_view _ _ c e (free_step p (config_view c) t (thread_view st) there) gives

  pub receive_refused : (n : ℕ) (pending : List CodeMessage) → pending ≡ c.messages → (e : StepError) → Gives control_view (redex_received p (map message_view pending) n (redex p (control_view st.control))) (Err e)
      → StepGives config_view (step p (config_view c) (record { thread = t; act = ActReceive n })) c c (Err e)
  receive_refused n pending read e gives =
      refused control_view (taken (config_view c) t (map frame_view st.frames) n) config_view _ _ c e
      (receive_step p (config_view c) t (thread_view st) there n ∙ ap (λ l. option_map (taken (config_view c) t (map frame_view st.frames) n) (redex_received p (map message_view l) n (redex p (control_view st.control)))) (sym read)) gives

  -- the thread goes on with a control
  moved : (k : CodeControl) (new : Threads) → new ≡ slice_set c.threads i (t, with_control st k) → set_value (nat_eq t) (threads_view c.threads) (thread_of (control_view k) (map frame_view st.frames)) ≡ threads_view new
  moved k new h = at.changed (with_control st k) ∙ ap threads_view (sym h)

  module _ (k : CodeControl) (new : Threads) (set : (e : ℕ × ThreadState) → slice_get c.threads i ≡ Some e → new ≡ slice_set c.threads i (e.0, record { control = k; frames = e.1.frames })) where
    put : set_value (nat_eq t) (threads_view c.threads) (thread_of (control_view k) (map frame_view st.frames)) ≡ threads_view new
    put = moved k new (set (t, st) own)

    pub free_done : (a : ℕ) → redex_freed p (config_view c) t (redex p (control_view st.control)) ≡ Some (a, control_view k) → (live : List ℕ) → live ≡ filter (λ b. not (nat_eq b a)) c.live
        → step p (config_view c) (record { thread = t; act = ActFree }) ≡ Some (config_view (record c { threads = new; live = live }))
    free_done a given live left =
        free_step p (config_view c) t (thread_view st) there
        ∙ ap (option_map (freed (config_view c) t (map frame_view st.frames))) given
        ∙ ap (λ l. Some (record (config_view c) { threads = l; live = filter (λ b. not (nat_eq b a)) c.live })) put
        ∙ ap (λ l. Some (record (config_view c) { threads = threads_view new; live = l })) (sym left)

    pub receive_done : (n : ℕ) → (own : List CodeMessage) → own ≡ c.messages → redex_received p (map message_view own) n (redex p (control_view st.control)) ≡ Some (control_view k) → (messages : List CodeMessage)
        → map message_view messages ≡ filter (λ m. not (nat_eq m.number n)) (map message_view c.messages)
        → step p (config_view c) (record { thread = t; act = ActReceive n }) ≡ Some (config_view (record c { threads = new; messages = messages }))
    receive_done n pending read given messages left =
        receive_step p (config_view c) t (thread_view st) there n
        ∙ ap (option_map (taken (config_view c) t (map frame_view st.frames) n)) (ap (λ l. redex_received p (map message_view l) n (redex p (control_view st.control))) (sym read) ∙ given)
        ∙ ap (λ l. Some (record (config_view c) { threads = l; messages = filter (λ m. not (nat_eq m.number n)) (map message_view c.messages) })) put
        ∙ ap (λ l. Some (record (config_view c) { threads = threads_view new; messages = l })) (sym left)

  module _ (new : Threads) (set : (e : ℕ × ThreadState) → slice_get c.threads i ≡ Some e → new ≡ slice_set c.threads i (e.0, record { control = control.Returned (value.Mailbox c.next_mailbox); frames = e.1.frames })) where
    pub new_done : (b : Bool) → b ≡ is_new (redex p (control_view st.control)) → b ≡ true → (live : List ℕ) → live ≡ c.live ++ c.next_mailbox ∷ []
        → step p (config_view c) (record { thread = t; act = ActNew }) ≡ Some (config_view (record c { threads = new; live = live; next_mailbox = c.next_mailbox + 1 }))
    new_done b is holds live more =
        new_step p (config_view c) t (thread_view st) there
        ∙ cond-true (is_new (redex p (control_view st.control))) (Some (made (config_view c) t (map frame_view st.frames))) None (sym is ∙ holds)
        ∙ ap (λ l. Some (record (config_view c) { threads = l; live = c.live ++ c.next_mailbox ∷ []; next_mailbox = c.next_mailbox + 1 })) (put (control.Returned (value.Mailbox c.next_mailbox)) new set)
        ∙ ap (λ l. Some (record (config_view c) { threads = threads_view new; live = l; next_mailbox = c.next_mailbox + 1 })) (sym more)

  abbrev done : CodeControl
  done = control.Returned value.Unit

  module _ (new : Threads) (set : (e : ℕ × ThreadState) → slice_get c.threads i ≡ Some e → new ≡ slice_set c.threads i (e.0, record { control = control.Returned value.Unit; frames = e.1.frames })) where
    pub send_done : (m : CodeMessage) → redex_message c.next_message (redex p (control_view st.control)) ≡ Some (message_view m) → (messages : List CodeMessage) → messages ≡ c.messages ++ m ∷ []
        → step p (config_view c) (record { thread = t; act = ActSend }) ≡ Some (config_view (record c { threads = new; messages = messages; next_message = c.next_message + 1 }))
    send_done m given messages more =
        send_step p (config_view c) t (thread_view st) there
        ∙ ap (option_map (sent (config_view c) t (map frame_view st.frames))) given
        ∙ ap (λ l. Some (record (config_view c) { threads = l; messages = map message_view c.messages ++ message_view m ∷ []; next_message = c.next_message + 1 })) (put done new set)
        ∙ ap (λ l. Some (record (config_view c) { threads = threads_view new; messages = l; next_message = c.next_message + 1 })) (sym (ap (map message_view) more ∙ map-append message_view c.messages (m ∷ [])))

    pub print_done : (line : List ℕ) → redex_line (redex p (control_view st.control)) ≡ Some line → (printed : List (List ℕ)) → printed ≡ c.printed ++ line ∷ []
        → step p (config_view c) (record { thread = t; act = ActPrint }) ≡ Some (config_view (record c { threads = new; printed = printed }))
    print_done line given printed more =
        print_step p (config_view c) t (thread_view st) there
        ∙ ap (option_map (said (config_view c) t (map frame_view st.frames))) given
        ∙ ap (λ l. Some (record (config_view c) { threads = l; printed = c.printed ++ line ∷ [] })) (put done new set)
        ∙ ap (λ l. Some (record (config_view c) { threads = threads_view new; printed = l })) (sym more)

  module _ (k : CodeControl) (pushed new : Threads) (more : pushed ≡ c.threads ++ (c.next_thread, record { control = k; frames = [] }) ∷ [])
      (set : (e : ℕ × ThreadState) → slice_get pushed i ≡ Some e → new ≡ slice_set pushed i (e.0, record { control = control.Returned value.Unit; frames = e.1.frames })) where
    abbrev begun_state : ThreadState
    begun_state = record { control = k; frames = [] }

    grown : new ≡ slice_set c.threads i (t, with_control st done) ++ (c.next_thread, begun_state) ∷ []
    grown =
        set (t, st) (ap (λ l. slice_get l i) more ∙ longer c.threads (c.next_thread, begun_state) i (t, st) own)
        ∙ ap (λ l. slice_set l i (t, with_control st done)) more
        ∙ set-append_left c.threads ((c.next_thread, begun_state) ∷ []) i (t, with_control st done) at.within

    pub spawn_done : spawned p (redex p (control_view st.control)) ≡ Some (control_view k) → step p (config_view c) (record { thread = t; act = ActSpawn }) ≡ Some (config_view (record c { threads = new; next_thread = c.next_thread + 1 }))
    spawn_done given =
        spawn_step p (config_view c) t (thread_view st) there
        ∙ ap (option_map (begun (config_view c) t (map frame_view st.frames))) given
        ∙ ap (λ l. Some (record (config_view c) { threads = l ++ (c.next_thread, thread_of (control_view k) []) ∷ []; next_thread = c.next_thread + 1 })) (moved done (slice_set c.threads i (t, with_control st done)) refl)
        ∙ ap (λ l. Some (record (config_view c) { threads = l; next_thread = c.next_thread + 1 })) (sym (ap threads_view grown ∙ map-append _ (slice_set c.threads i (t, with_control st done)) ((c.next_thread, begun_state) ∷ [])))

  -- the place is within the longer list too
  pub still_within : (pushed : Threads) (x : ℕ × ThreadState) → pushed ≡ c.threads ++ x ∷ [] → i < length pushed
  still_within pushed x more = let n = ap length more in let l = length-append c.threads (x ∷ []) in let w = at.within in omega arith
