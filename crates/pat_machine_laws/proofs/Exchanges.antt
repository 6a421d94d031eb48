-- The top of a thread exchanged in a configuration, and put back over the frames below.
use Rattle.std.proofs.Common.{◌≡◌, ℕ, suc, ◌<◌, ◌≤◌, true, false, cond, nat_eq, List, [], ◌∷◌, ◌++◌, length, Option, Some, None, refl, sym, ap, ◌∙◌, subst, arith, ◌⊎◌}
use Rattle.std.specs.Prelude.{option_and_then}
use Rattle.std.specs.List.{AllByRecursion}
use Rattle.std.specs.Map.{lookup, set_value, remove_entry, keys_of}
use Rattle.std.proofs.lemmas.Bool.{cond-false, eqb-true, ne_eqb}
use Rattle.pat_semantics_spec.specs.Programs.{Program}
use Rattle.pat_semantics_spec.specs.Configs.{Frame, Thread, Config, thread_at, with_thread}
use Rattle.pat_semantics_spec.specs.Orders.{AscendsFrom, ThreadIsOrdered, IsOrdered}
use Rattle.pat_semantics_spec.specs.Steps.{Act, ActLocal, ActNew, ActSend, ActSpawn, ActPrint, ActEnd, ActFree, ActReceive, redex, thread_step, step}
use Rattle.pat_semantics_spec.specs.Runs.{run_from, shared_step}
use Rattle.pat_semantics_laws.proofs.Ascending.{keys_of-set}
use Rattle.pat_semantics_laws.proofs.Inversion.{step_of, print_step, new_step, receive_step, local_step_of, LocalStep, by_let, by_value, by_call, by_if, by_return, send_step, spawn_step, end_step, free_step}
use Rattle.pat_machine_spec.specs.Commits.{Shares}
use Rattle.pat_machine_spec.specs.Tops.{below, over, set_over, with_below}
use Rattle.pat_machine_laws.proofs.CommitsLookUps.{lookup_set, lookup_longer}
use Rattle.pat_machine_laws.proofs.Locals.{there_after, with_twice}
use Rattle.pat_machine_laws.proofs.Moves.{ended}
use Rattle.pat_machine_laws.proofs.Belows.{shares_on_top}

-- ---- how many frames a step leaves

one_thread : (o : Option Thread) (r q : Thread) → o ≡ Some r → o ≡ Some q → r ≡ q
one_thread None r q is at = cc
one_thread (Some x) r q is at = cc

-- no thread has a number below all
absent_below : (n : ℕ) (ts : List (ℕ × Thread)) (t : ℕ) → t < n → AscendsFrom n (keys_of ts) → lookup (nat_eq t) ts ≡ None
absent_below n [] t less a = refl
absent_below n (e ∷ es) t less a =
    let first = a.0 in
    cond-false (nat_eq t e.0) (Some e.1) (lookup (nat_eq t) es) (ne_eqb t e.0 (λ q. omega arith))
    ∙ absent_below (suc e.0) es t (omega arith) a.1

-- in order, a thread that was taken out isn't there
removed_gone : (n : ℕ) (ts : List (ℕ × Thread)) (t : ℕ) → AscendsFrom n (keys_of ts) → lookup (nat_eq t) (remove_entry (nat_eq t) ts) ≡ None
removed_gone n [] t a = refl
removed_gone n (e ∷ es) t a =
    (elim (nat_eq t e.0) as (λ v. nat_eq t e.0 ≡ v → lookup (nat_eq t) (cond v es (e ∷ remove_entry (nat_eq t) es)) ≡ None) [
      | true ↦ λ q. let same : t ≡ e.0 = eqb-true t e.0 q in absent_below (suc e.0) es t (omega arith) a.1
      | false ↦ λ q. cond-false (nat_eq t e.0) (Some e.1) (lookup (nat_eq t) (remove_entry (nat_eq t) es)) q ∙ removed_gone (suc e.0) es t a.1
    ]) refl

-- a local step leaves at most one frame more
local_grows : (p : Program) (s q : Thread) → LocalStep p s q → length q.frames ≤ suc (length s.frames)
local_grows p s q (by_let x m n env at is) = let len = ap (λ (w : Thread). length w.frames) is in omega arith
local_grows p s q (by_value e env f fs v at frames value is) = let len = ap (λ (w : Thread). length w.frames) is in let all = ap length frames in omega arith
local_grows p s q (by_call g args env h vs at there values is) = let len = ap (λ (w : Thread). length w.frames) is in omega arith
local_grows p s q (by_if e m n env b at is) = let len = ap (λ (w : Thread). length w.frames) is in omega arith
local_grows p s q (by_return v f fs at frames is) = let len = ap (λ (w : Thread). length w.frames) is in let all = ap length frames in omega arith

module _ (p : Program) (c : Config) (t : ℕ) (s r : Thread) (ordered : IsOrdered c) (there : thread_at c t ≡ Some s) where
  -- the thread went on as q, with as many frames
  as_many : (d : Config) (q : Thread) (us : List (ℕ × Thread)) → d.threads ≡ set_value (nat_eq t) c.threads q ++ us → length q.frames ≤ suc (length s.frames) → thread_at d t ≡ Some r → length r.frames ≤ suc (length s.frames)
  as_many d q us is few at =
      let now : thread_at d t ≡ Some q = ap (lookup (nat_eq t)) is ∙ lookup_longer (set_value (nat_eq t) c.threads q) us t q (lookup_set c.threads t s q there) in
      subst (λ (w : Thread). length w.frames ≤ suc (length s.frames)) (one_thread (thread_at d t) q r now at) few

  as_many_alone : (d : Config) (q : Thread) → d.threads ≡ set_value (nat_eq t) c.threads q → length q.frames ≤ suc (length s.frames) → thread_at d t ≡ Some r → length r.frames ≤ suc (length s.frames)
  as_many_alone d q is few at =
      let now : thread_at d t ≡ Some q = ap (lookup (nat_eq t)) is ∙ lookup_set c.threads t s q there in
      subst (λ (w : Thread). length w.frames ≤ suc (length s.frames)) (one_thread (thread_at d t) q r now at) few

  act_grows : (a : Act) (d : Config) → thread_step p c t s a ≡ Some d → thread_at d t ≡ Some r → length r.frames ≤ suc (length s.frames)
  act_grows ActLocal d h at =
      let q = local_step_of p c t s d h in
      as_many_alone d q.0 (ap (λ (x : Config). x.threads) q.2) (local_grows p s q.0 q.1) at
  act_grows ActNew d h at =
      let q = new_step p c t s d (redex p s.control) refl h in
      as_many_alone d _ (ap (λ (x : Config). x.threads) q.result) (omega arith) at
  act_grows ActSend d h at =
      let q = send_step p c t s d (redex p s.control) refl h in
      as_many_alone d _ (ap (λ (x : Config). x.threads) q.result) (omega arith) at
  act_grows ActSpawn d h at =
      let q = spawn_step p c t s d (redex p s.control) refl h in
      as_many d _ _ (ap (λ (x : Config). x.threads) q.result) (omega arith) at
  act_grows ActPrint d h at =
      let q = print_step p c t s d (redex p s.control) refl h in
      as_many_alone d _ (ap (λ (x : Config). x.threads) q.result) (omega arith) at
  act_grows ActEnd d h at =
      let is = ended p c t s d (end_step p c t s d s.frames (redex p s.control) refl refl h) in
      let gone : thread_at d t ≡ None = ap (λ (x : Config). thread_at x t) is ∙ removed_gone 0 c.threads t ordered.threads in
      cc
  act_grows ActFree d h at =
      let q = free_step p c t s d (redex p s.control) refl h in
      as_many_alone d _ (ap (λ (x : Config). x.threads) q.result) (omega arith) at
  act_grows (ActReceive k) d h at =
      let q = receive_step p c t k s d (redex p s.control) refl h in
      as_many_alone d _ (ap (λ (x : Config). x.threads) q.result) (omega arith) at

  -- after at most one step, the thread has at most one frame more, if it is there
  pub frames_after : (a : Option Act) (d : Config) → run_from p c (shared_step t a) ≡ Some d → thread_at d t ≡ Some r → length r.frames ≤ suc (length s.frames)
  frames_after None d h at =
      let same : c ≡ d = cc in
      let own : s ≡ r = one_thread (thread_at c t) s r there (ap (λ (x : Config). thread_at x t) same ∙ at) in
      subst (λ (w : Thread). length w.frames ≤ suc (length s.frames)) own (omega arith)
  frames_after (Some a) d h at = go (step p c (record { thread = t; act = a })) refl h
    where
      go : (o : Option Config) → step p c (record { thread = t; act = a }) ≡ o → option_and_then (λ x. run_from p x []) o ≡ Some d → length r.frames ≤ suc (length s.frames)
      go None is k = cc
      go (Some e) is k =
          let same : e ≡ d = cc in
          let o = step_of p c (record { thread = t; act = a }) e is in
          let own : o.thread ≡ s = one_thread (thread_at c t) o.thread s o.there there in
          act_grows a e (ap (λ w. thread_step p c t w a) (sym own) ∙ o.gives) (ap (λ (x : Config). thread_at x t) same ∙ at)

-- ---- the order of the top alone

front_all : {X : Type 0} (P : X → Type 0) (xs ys : List X) → AllByRecursion P (xs ++ ys) → AllByRecursion P xs
front_all P [] ys h = tt
front_all P (x ∷ xs) ys h = (h.0, front_all P xs ys h.1)

-- what holds with one thread there holds with another
set_again : (P : ℕ × Thread → Type 0) (ts : List (ℕ × Thread)) (t : ℕ) (x y : Thread) → ((k : ℕ) → P (k, x) → P (k, y)) → AllByRecursion P (set_value (nat_eq t) ts x) → AllByRecursion P (set_value (nat_eq t) ts y)
set_again P [] t x y give h = tt
set_again P (e ∷ es) t x y give h =
    (elim (nat_eq t e.0) as (λ v. AllByRecursion P (cond v ((e.0, x) ∷ es) (e ∷ set_value (nat_eq t) es x)) → AllByRecursion P (cond v ((e.0, y) ∷ es) (e ∷ set_value (nat_eq t) es y))) [
      | true ↦ λ k. (give e.0 k.0, k.1)
      | false ↦ λ k. (k.0, set_again P es t x y give k.1)
    ]) h

-- with the top alone there, the configuration is in order as well
pub ordered_on_top : (c : Config) (t : ℕ) (s : Thread) (rest : List Frame) → IsOrdered (with_thread c t (over s rest)) → IsOrdered (with_thread c t s)
ordered_on_top c t s rest h = record {
  threads = subst (AscendsFrom 0) (keys_of-set c.threads t (over s rest) ∙ sym (keys_of-set c.threads t s)) h.threads;
  messages = h.messages;
  live = h.live;
  threads_below = set_again (λ e. e.0 < c.next_thread) c.threads t (over s rest) s (λ k l. l) h.threads_below;
  messages_below = h.messages_below;
  live_below = h.live_below;
  environments = set_again (λ e. ThreadIsOrdered e.1) c.threads t (over s rest) s (λ k l. (l.0, front_all (λ (f : Frame). AscendsFrom 0 (keys_of f.env)) s.frames rest l.1)) h.environments;
}

-- ---- the top exchanged

-- the top was put in the place of the whole thread, and the frames below it then below the top
pub put_over : (c middle d : Config) (t gone : ℕ) (kept top : Thread) → thread_at c t ≡ Some kept → middle ≡ with_thread c t top → d ≡ with_below middle t (below gone kept)
    → (s : Thread) → thread_at c t ≡ Some s → d ≡ with_thread c t (over top (below gone s))
put_over c middle d t gone kept top there put covered s at =
    let rest = below gone kept in
    let now : thread_at middle t ≡ Some top = ap (λ (x : Config). thread_at x t) put ∙ there_after c t kept top there in
    covered
    ∙ ap (set_over middle t rest) now
    ∙ ap (λ x. with_thread x t (over top rest)) put
    ∙ with_twice c t top (over top rest)
    ∙ ap (λ x. with_thread c t (over top (below gone x))) (one_thread (thread_at c t) kept s there at)

-- and in between the thread took its shared step
pub share_over : (p : Program) (limit : ℕ) (c middle e d : Config) (t gone : ℕ) (kept top : Thread) (a : Option Act) → thread_at c t ≡ Some kept → middle ≡ with_thread c t top → Shares p limit middle t a e → d ≡ with_below e t (below gone kept)
    → (s : Thread) → thread_at c t ≡ Some s → (0 < length top.frames) ⊎ (below gone s ≡ []) → Shares p limit (with_thread c t (over top (below gone s))) t a d
share_over p limit c middle e d t gone kept top a there put shares covered s at frame =
    let own : kept ≡ s = one_thread (thread_at c t) kept s there at in
    let now : thread_at middle t ≡ Some top = ap (λ (x : Config). thread_at x t) put ∙ there_after c t kept top there in
    let whole : with_thread middle t (over top (below gone s)) ≡ with_thread c t (over top (below gone s)) =
    ap (λ x. with_thread x t (over top (below gone s))) put ∙ with_twice c t top (over top (below gone s))
    in
    let after : with_below e t (below gone s) ≡ d = sym (covered ∙ ap (λ x. with_below e t (below gone x)) own) in
    subst (λ x. Shares p limit x t a d) whole
    (subst (λ x. Shares p limit (with_thread middle t (over top (below gone s))) t a x) after
    (shares_on_top p limit middle e t top (below gone s) a now frame shares))
