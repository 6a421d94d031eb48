-- What a step of a thread alone leaves of it, and who came.
use Rattle.std.proofs.Common.{◌≡◌, ℕ, ◌+◌, Bool, true, false, nat_eq, List, [], ◌∷◌, ◌++◌, Option, Some, None, refl, sym, ◌∙◌, subst}
use Rattle.std.specs.Prelude.{option_map, option_and_then, if◌then◌else◌}
use Rattle.std.specs.Map.{set_value}
use Rattle.pat_semantics_spec.specs.Values.{Value, Const, Mailbox, Env, value_at, eval, eval_all, line_of}
use Rattle.pat_semantics_spec.specs.Programs.{Program, Clause, Val, Let, Call, If, Print, New, Send, Spawn, Guard}
use Rattle.pat_semantics_spec.specs.Configs.{Returned, Frame, Thread, Config, with_thread}
use Rattle.pat_semantics_spec.specs.Steps.{Act, ActLocal, ActNew, ActSend, ActSpawn, ActPrint, ActEnd, ActFree, ActReceive, Redex, At, Done, Nowhere, redex, thread_of, at_node, returned_unit, local_step, new_at, send_to, send_at, spawn_at, print_line, print_at, end_at, free_mailbox, free_at, receive_from, receive_at, thread_step, step}
use Rattle.pat_machine_laws.specs.wakeups.Wakings.{may_free}
use Rattle.pat_machine_laws.specs.thread_frames.Alone.{alone, AreLeft}
use Rattle.pat_machine_laws.proofs.Backs.{own_set, own_removed}
use Rattle.pat_machine_laws.proofs.Steps.{After, step_alone}

module _ (p : Program) (c : Config) (t : ℕ) (s : Thread) (live : List ℕ) where
  abbrev single : Config
  single = alone c t s live

  abbrev Left : Config → Type 0
  Left d = AreLeft t c.next_thread d.threads d.next_thread

  one_left : (r : Thread) → AreLeft t c.next_thread (set_value (nat_eq t) ((t, s) ∷ []) r) c.next_thread
  one_left r = subst (λ l. AreLeft t c.next_thread l c.next_thread) (sym (own_set t s r)) (refl, refl)

  two_left : (r q : Thread) → AreLeft t c.next_thread (set_value (nat_eq t) ((t, s) ∷ []) r ++ (c.next_thread, q) ∷ []) (c.next_thread + 1)
  two_left r q = subst (λ (l : List (ℕ × Thread)). AreLeft t c.next_thread (l ++ (c.next_thread, q) ∷ []) (c.next_thread + 1)) (sym (own_set t s r)) (refl, refl, refl)

  local_left : (o : Option Thread) → After Left (option_map (with_thread single t) o)
  local_left None = tt
  local_left (Some r) = one_left r

  new_left : (r : Redex) → After Left (new_at single t s.frames r)
  new_left (At (New i) env) = one_left (thread_of (Returned (Mailbox c.next_mailbox)) s.frames)
  new_left (At _ env) = tt
  new_left (Done v) = tt
  new_left Nowhere = tt

  sent_left : (m : ℕ) (v : Option Value) (vs : Option (List Value)) → After Left (send_to single t s.frames m v vs)
  sent_left m None vs = tt
  sent_left m (Some (Const k)) vs = tt
  sent_left m (Some (Mailbox a)) None = tt
  sent_left m (Some (Mailbox a)) (Some vs) = one_left (returned_unit s.frames)

  send_left : (r : Redex) → After Left (send_at single t s.frames r)
  send_left (At (Send x m args) env) = sent_left m (value_at env x) (eval_all env args)
  send_left (At _ env) = tt
  send_left (Done v) = tt
  send_left Nowhere = tt

  spawn_left : (r : Redex) → After Left (spawn_at p single t s.frames r)
  spawn_left (At (Spawn m) env) = two_left (returned_unit s.frames) (thread_of (at_node p m env) [])
  spawn_left (At _ env) = tt
  spawn_left (Done v) = tt
  spawn_left Nowhere = tt

  said_left : (o : Option (List ℕ)) → After Left (print_line single t s.frames o)
  said_left None = tt
  said_left (Some line) = one_left (returned_unit s.frames)

  print_left : (r : Redex) → After Left (print_at single t s.frames r)
  print_left (At (Print e) env) = said_left (option_and_then line_of (eval env e))
  print_left (At _ env) = tt
  print_left (Done v) = tt
  print_left Nowhere = tt

  end_left : (frames : List Frame) (r : Redex) → After Left (end_at single t frames r)
  end_left [] (At (Val e) env) = subst (λ l. AreLeft t c.next_thread l c.next_thread) (sym (own_removed t s)) refl
  end_left [] (Done v) = subst (λ l. AreLeft t c.next_thread l c.next_thread) (sym (own_removed t s)) refl
  end_left [] (At (Let y m n) env) = tt
  end_left [] (At (Call f args) env) = tt
  end_left [] (At (If e m n) env) = tt
  end_left [] (At (Print e) env) = tt
  end_left [] (At (New i) env) = tt
  end_left [] (At (Send x m args) env) = tt
  end_left [] (At (Spawn m) env) = tt
  end_left [] (At (Guard x e free cs) env) = tt
  end_left [] Nowhere = tt
  end_left (f ∷ frames) r = tt

  left_if : (b : Bool) (d : Config) → Left d → After Left (if b then Some d else None)
  left_if true d h = h
  left_if false d h = tt

  freed_left : (free : Option ℕ) (env : Env) (v : Option Value) → After Left (free_mailbox p single t s.frames free env v)
  freed_left None env v = tt
  freed_left (Some n) env None = tt
  freed_left (Some n) env (Some (Const k)) = tt
  freed_left (Some n) env (Some (Mailbox a)) = left_if (may_free single a t) _ (one_left (thread_of (at_node p n env) s.frames))

  free_left : (r : Redex) → After Left (free_at p single t s.frames r)
  free_left (At (Guard x e free cs) env) = freed_left free env (value_at env x)
  free_left (At _ env) = tt
  free_left (Done v) = tt
  free_left Nowhere = tt

  -- no message is there that it could receive
  received_left : (cs : List Clause) (env : Env) (v : Option Value) → After Left (receive_from p single t s.frames cs env v None)
  received_left cs env None = tt
  received_left cs env (Some (Const k)) = tt
  received_left cs env (Some (Mailbox a)) = tt

  receive_left : (k : ℕ) (r : Redex) → After Left (receive_at p single t s.frames k r)
  receive_left k (At (Guard x e free cs) env) = received_left cs env (value_at env x)
  receive_left k (At _ env) = tt
  receive_left k (Done v) = tt
  receive_left k Nowhere = tt

  step_left : (a : Act) → After Left (thread_step p single t s a)
  step_left ActLocal = local_left (local_step p s)
  step_left ActNew = new_left (redex p s.control)
  step_left ActSend = send_left (redex p s.control)
  step_left ActSpawn = spawn_left (redex p s.control)
  step_left ActPrint = print_left (redex p s.control)
  step_left ActEnd = end_left s.frames (redex p s.control)
  step_left ActFree = free_left (redex p s.control)
  step_left (ActReceive k) = receive_left k (redex p s.control)

pub threads_are_left : (p : Program) (c d : Config) (t : ℕ) (s : Thread) (live : List ℕ) (a : Act) → step p (alone c t s live) (record { thread = t; act = a }) ≡ Some d → AreLeft t c.next_thread d.threads d.next_thread
threads_are_left p c d t s live a is = subst (After (λ x. AreLeft t c.next_thread x.threads x.next_thread)) (sym (step_alone p c t s live a) ∙ is) (step_left p c t s live a)
